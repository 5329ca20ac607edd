-- Storing and loading are inverse, and a block is accepted exactly if a run of bytes leads to it.
use Prim.Native.Nat.{ℕ}
use native.Mathlib.Omega.{arith}
use mathlib.Core.Path.{◌≡◌, sym, ap, ap₂, subst, ◌∙◌}
use mathlib.Core.Bool.{Bool, true, ◌&&◌}
use mathlib.Core.List.{List, ◌++◌}
use lib.Dec.{eqb, ltb, lit<}
use lib.ListN.{length, take, drop, take-append-drop, length-drop}
use lib.Seq.{take_at, drop_at, length-take-le}
use borrow.Author.Tests.{eqb-true, eq-eqb, ltb-true, leb-true}
use Rattle.octets.specs.Digits.{digits, from_digits}
use Rattle.octets.proofs.Bases.{length_digits, from_digits_whole, digits_from}
use Rattle.octets.proofs.Tests.{and_first, and_second}
use Rattle.types.specs.Address.{head_length}
use Rattle.types.proofs.Addresses.{head_length_le}
use Rattle.line.specs.machine.Step.{opening_in}
use Rattle.line.specs.Pieces.{Bytes}
use Rattle.line.proofs.Bytes.{bytes_left, bytes_right}
use Rattle.line.specs.machine.Room.{decoder_room}
use Rattle.line.specs.machine.Reachable.{counts_possible}
use Rattle.line.specs.machine.Feed.{Held, holding, fresh, reachable}
use Rattle.line.specs.machine.Demand.{hears, SmallState, Value, Reached}
use Rattle.line.specs.declared.state.State.{State}
use Rattle.line.specs.declared.state.State.TheVariants.{
  Hunting,
  Preamble,
  Address,
  Command,
  ByteCount,
  Data,
  Checksum,
}
use Rattle.line.proofs.machine.Claims.{whole, possible}
use Rattle.line.proofs.machine.Exact.{reached_reachable, reachable_reached}
use Rattle.line.proofs.machine.Small.{reached_value}
use Rattle.host.specs.Header.{header_of, state_at}
use Rattle.host.proofs.Headers.{Fitting, state_back, header_small, without_fits, with_fits, state_small}
use Rattle.host.specs.Block.{header_size, block_size, block_of, header_in, state_in, held_in, accepted}
use Rattle.host.specs.Demand.{Brought}

-- the numbers of a state that passes the test fit their fields
fits_field : (s : State) → SmallState s → counts_possible s ≡ true → Fitting s
fits_field Hunting z p = without_fits 0 0 (omega arith) (omega arith)
fits_field (Preamble n) z p = without_fits 1 n (omega arith) (leb-true n _ (and_second (ltb 0 n) _ p))
fits_field (Address h k) z p = with_fits 2 h k 0 0 0 (omega arith) z.0 (omega (arith, ltb-true k (head_length (opening_in h)) p, head_length_le (opening_in h))) (omega arith) (omega arith) (omega arith)
fits_field (Command h) z p = with_fits 3 h (head_length (opening_in h)) 0 0 0 (omega arith) z (head_length_le (opening_in h)) (omega arith) (omega arith) (omega arith)
fits_field (ByteCount h c) z p = with_fits 4 h (head_length (opening_in h)) 0 0 c (omega arith) z.0 (head_length_le (opening_in h)) (omega arith) (omega arith) z.1
fits_field (Data h c e n) z p = with_fits 5 h (head_length (opening_in h)) e n c (omega arith) z.0 (head_length_le (opening_in h)) z.2 z.3 z.1
fits_field (Checksum h c e) z p = with_fits 6 h (head_length (opening_in h)) e e c (omega arith) z.0 (head_length_le (opening_in h)) z.2 z.2 z.1

fitting : (d : Held) → Value d → reachable d ≡ true → Fitting d.state
fitting d v r = fits_field d.state v.state (possible d.state d.bytes r)

-- what is stored is loaded again
module _ (d : Held) (f : Fitting d.state) where
  header_back : header_in (block_of d) ≡ header_of d.state
  header_back =
      ap (from_digits 256) (take_at (digits 256 header_size (header_of d.state)) d.bytes header_size (length_digits 256 header_size (header_of d.state)))
      ∙ from_digits_whole 256 header_size (header_of d.state) (lit< tt) (header_small d.state f)

  state_loaded : state_in (block_of d) ≡ d.state
  state_loaded = ap state_at header_back ∙ state_back d.state f

  bytes_loaded : drop header_size (block_of d) ≡ d.bytes
  bytes_loaded = drop_at (digits 256 header_size (header_of d.state)) d.bytes header_size (length_digits 256 header_size (header_of d.state))

  held_loaded : held_in (block_of d) ≡ d
  held_loaded = ap₂ holding state_loaded bytes_loaded

pub value_back : (d : Held) → Value d → reachable d ≡ true → held_in (block_of d) ≡ d
value_back d v r = held_loaded d (fitting d v r)

pub held_back : (d : Held) → Reached hears fresh d → held_in (block_of d) ≡ d
held_back d r = value_back d (reached_value d r) (reached_reachable d r)

accepted_reachable : (block : List ℕ) → accepted block ≡ true → reachable (held_in block) ≡ true
unfolding accepted
accepted_reachable block a = and_second (eqb (header_of (state_in block)) (header_in block)) (reachable (held_in block)) a

pub accepted_size : (block : List ℕ) → accepted block ≡ true → length block ≡ block_size
accepted_size block a =
    let e : length (drop header_size block) ≡ decoder_room = whole (state_in block) (drop header_size block) (accepted_reachable block a) in
    omega (arith, length-drop header_size block)

-- what is loaded from an accepted block is stored as it was
pub block_back : (block : List ℕ) → Bytes block → accepted block ≡ true → block_of (held_in block) ≡ block
unfolding accepted
block_back block k a =
    let h = header_of (state_in block) in
    let same : h ≡ header_in block = eqb-true h (header_in block) (and_first (eqb h (header_in block)) (reachable (held_in block)) a) in
    let size : length (take header_size block) ≡ header_size = length-take-le header_size block (omega (arith, accepted_size block a)) in
    let front : digits 256 header_size h ≡ take header_size block =
    ap (digits 256 header_size) same ∙ ap (λ (n : ℕ). digits 256 n (header_in block)) (sym size) ∙ digits_from 256 (take header_size block) (bytes_left (take header_size block) (drop header_size block) (subst Bytes (sym (take-append-drop header_size block)) k)) in
    ap (λ (q : List ℕ). q ++ drop header_size block) front ∙ take-append-drop header_size block

-- a block is accepted if some run leads to it, and only then
pub stored_accepted : (d : Held) → Value d → reachable d ≡ true → accepted (block_of d) ≡ true
unfolding accepted
stored_accepted d v t =
    let f : Fitting d.state = fitting d v t in
    let same : header_of (state_in (block_of d)) ≡ header_in (block_of d) = ap header_of (state_loaded d f) ∙ sym (header_back d f) in
    ap₂ (λ (x y : Bool). x && y) (eq-eqb (header_of (state_in (block_of d))) (header_in (block_of d)) same) (ap reachable (held_loaded d f) ∙ t)

pub brought_accepted : (block : List ℕ) → Brought block → accepted block ≡ true
brought_accepted block b =
    let d = b.decoder in
    ap accepted (sym b.is) ∙ stored_accepted d (reached_value d b.reached) (reached_reachable d b.reached)

pub accepted_brought : (block : List ℕ) → Bytes block → accepted block ≡ true → Brought block
accepted_brought block k a =
    let v : Value (held_in block) = record {
      state = state_small (header_in block);
      bytes = bytes_right (take header_size block) (drop header_size block) (subst Bytes (sym (take-append-drop header_size block)) k);
      whole = length-drop header_size block ∙ omega (arith, accepted_size block a);
    } in
    record { decoder = held_in block; reached = reachable_reached (held_in block) v (accepted_reachable block a); is = block_back block k a }
