-- Laws on blocks: what each call comes to, case by case, and what a block holds.
use Prim.Native.Nat.{ℕ, ◌≤◌, ◌<◌}
use native.Mathlib.Omega.{arith}
use mathlib.Core.Path.{◌≡◌, refl, sym, ap, ap₂, ◌∙◌}
use mathlib.Core.Logic.{◌≢◌}
use mathlib.Core.Bool.{true, false, and-false}
use mathlib.Core.List.{List, [], ◌++◌, append-nil, append_assoc}
use lib.Dec.{eqb}
use Rattle.std.proofs.lemmas.List.{drop-append-le, length-take}
use lib.ListN.{length, take, drop, take-append-drop, replicate, length-drop, drop_of_length-le}
use lib.Seq.{drop_at, length-take-le, take_all}
use borrow.Author.Tests.{eq-eqb, ne_eqb, lt-leb, le-leb}
use borrow.Rule.Slice.PartMut.{mid_of, put_mid}
use Rattle.octets.specs.Digits.{digits}
use Rattle.octets.specs.Put.{put}
use Rattle.octets.proofs.Bases.{length_digits}
use Rattle.octets.proofs.Put.{put_front}
use Rattle.line.specs.machine.Room.{decoder_room}
use Rattle.line.specs.machine.Step.{moved_at, stored_at}
use Rattle.line.specs.Events.{Event}
use Rattle.line.specs.machine.Feed.{Held, blank, fresh, event_of, settled_by, settled, stepped}
use Rattle.line.specs.machine.Reachable.{reachable_at}
use Rattle.line.specs.declared.state.State.{State}
use Rattle.line.specs.declared.moved.Moved.{Moved}
use Rattle.line.specs.machine.Step.{Ended}
use Rattle.line.proofs.machine.Settled.{settled_event}
use Rattle.host.specs.Header.{header_of}
use Rattle.host.specs.Record.{record_of, record_room}
use Rattle.host.specs.Block.{header_size, block_size, block_of, header_in, state_in, held_in, accepted, tells, refusing, recorded, fed_block, clears, cleared_block}

module _ (block lent : List ℕ) (b : ℕ) where
  pub fed_refused : accepted block ≡ false → fed_block block lent b ≡ refusing 8 block lent
  unfolding fed_block
  fed_refused e = rw e

  pub fed_small : accepted block ≡ true → length lent < record_room → fed_block block lent b ≡ refusing 2 block lent
  unfolding fed_block
  fed_small e h = rw (e, lt-leb record_room (length lent) h)

  pub fed_taken : accepted block ≡ true → record_room ≤ length lent → fed_block block lent b ≡ recorded (stepped (held_in block) b) lent
  unfolding fed_block
  fed_taken e h = rw (e, le-leb record_room (length lent) h)

-- a block of another length is never accepted
pub wrong_size : (block : List ℕ) → length block ≢ block_size → accepted block ≡ false
unfolding accepted reachable_at
wrong_size block h = rw (ne_eqb (length (drop header_size block)) decoder_room (λ e. h (omega (arith, length-drop header_size block)))) (and-false (eqb (header_of (state_in block)) (header_in block)))

pub block_fresh : block_of fresh ≡ replicate block_size 0
unfolding header_of blank
block_fresh = refl

-- a header over what stands at the front of a block
pub put_header : (n : ℕ) (block : List ℕ) → put block 0 (digits 256 header_size n) ≡ digits 256 header_size n ++ drop header_size block
put_header n block = put_front block (digits 256 header_size n) ∙ ap (λ (k : ℕ). digits 256 header_size n ++ drop k block) (length_digits 256 header_size n)

-- what was written of a byte, where the block is then as it must be
pub record_told : (x : Ended) (s : State) (bs lent : List ℕ) {n : ℕ} {after room : List ℕ} → (n ≡ length (record_of (event_of x bs))) × (room ≡ put lent 0 (record_of (event_of x bs)))
    → after ≡ block_of (settled_by x s bs).0 → tells n after room ≡ recorded (settled_by x s bs) lent
record_told x s bs lent (en, er) ea = rw (en, er, ea, settled_event x s bs)

-- a record at the front of the first bytes of a room, and behind them the rest of it
put_first : (l bs : List ℕ) (n : ℕ) → length bs ≤ n → n ≤ length l → put (take n l) 0 bs ++ drop n l ≡ put l 0 bs
put_first l bs n h k =
    let b = length bs in
    let whole : take n l ++ drop n l ≡ l = take-append-drop n l in
    ap (λ (q : List ℕ). q ++ drop n l) (put_front (take n l) bs)
    ∙ append_assoc bs (drop b (take n l)) (drop n l)
    ∙ ap (λ (q : List ℕ). bs ++ q) (sym (drop-append-le b (take n l) (drop n l) (omega (arith, length-take n l))) ∙ ap (drop b) whole)
    ∙ sym (put_front l bs)

-- what was told of the front of a room is so of the room
pub told_first : (x : Held × Event) (l : List ℕ) (n : ℕ) → length (record_of x.1) ≤ n → n ≤ length l → {r : ℕ} {block front : List ℕ}
    → tells r block front ≡ recorded x (take n l) → tells r block (front ++ drop n l) ≡ recorded x l
told_first x l n h k {r} {block} {front} e =
    let er : r ≡ length (record_of x.1) = cc in
    let eb : block ≡ block_of x.0 = cc in
    let ef : front ≡ put (take n l) 0 (record_of x.1) = cc in
    rw (er, eb, ef, put_first l (record_of x.1) n h k)

module _ (block : List ℕ) where
  pub clear_whole : length block ≡ block_size → cleared_block block ≡ clears 0 (replicate block_size 0)
  unfolding cleared_block
  clear_whole h = rw (eq-eqb (length block) block_size h)

-- a byte that was stepped into the bytes behind the header, in place
pub stepped_block : (l : List ℕ) (b : ℕ) {s : State} {m : Moved} {part : List ℕ} → length l ≡ block_size → s ≡ state_in l → m ≡ moved_at s b → part ≡ stored_at s (mid_of header_size decoder_room l) b
    → settled m (drop header_size (put_mid header_size decoder_room l part)) ≡ stepped (held_in l) b
unfolding stepped
stepped_block l b {s} {m} {part} h es em ep =
    let behind = drop header_size l in
    let mid : mid_of header_size decoder_room l ≡ behind = take_all decoder_room behind (omega (arith, length-drop header_size l)) in
    let none : drop decoder_room behind ≡ [] = drop_of_length-le behind {i = decoder_room} (omega (arith, length-drop header_size l)) in
    let stored : drop header_size (put_mid header_size decoder_room l part) ≡ stored_at (state_in l) behind b =
    drop_at (take header_size l) (part ++ drop decoder_room behind) header_size (length-take-le header_size l (omega arith))
    ∙ ap (λ (q : List ℕ). part ++ q) none
    ∙ append-nil part
    ∙ ep
    ∙ ap₂ (λ (t : State) (q : List ℕ). stored_at t q b) es mid in
    ap₂ settled (em ∙ ap (λ (t : State). moved_at t b) es) stored
