-- Passing the test of reachability and being led to by a run of bytes are the same, and 8 is the answer where neither holds.
use Prim.Native.Nat.{ℕ, ◌≤◌, ◌<◌, min}
use native.Mathlib.Omega.{arith}
use mathlib.Core.Path.{◌≡◌, refl, sym, ap, ap₂, subst, ◌∙◌}
use mathlib.Core.Bool.{Bool, true, false}
use Rattle.std.specs.Prelude.{Option, None, Some}
use mathlib.Core.List.{List, [], ◌∷◌, ◌++◌}
use lib.Dec.{ltb, leb}
use lib.ListN.{length, take, drop, length-drop, take-append-drop}
use lib.Seq.{length-take-le, take-take}
use borrow.Author.Tests.{eqb-true, ltb-true, leb-true}
use Rattle.octets.specs.Check.{check, check_from}
use Rattle.octets.proofs.Check.{check_first}
use Rattle.octets.proofs.Tests.{and_first, and_second}
use Rattle.types.specs.declared.delimiter.Opening.{Opening}
use Rattle.types.specs.Delimiter.{delimiter}
use Rattle.types.specs.Address.{head_length, head_room}
use Rattle.types.proofs.Delimiters.{delimiter_small}
use Rattle.types.proofs.Addresses.{head_length_le}
use Rattle.line.specs.Pieces.{Bytes, Piece, noise, short_run, bad_delimiter, frame, bad_check, enough}
use Rattle.line.specs.Events.{Event, refusal}
use Rattle.line.specs.Runs.{ends_in}
use Rattle.line.proofs.Exists.{fine_ends, held_ends, held_bytes}
use Rattle.line.proofs.Bytes.{bytes-append, bytes_left, bytes_right}
use Rattle.line.proofs.Scan.{addressing, commanding, counting, loading, checking, Scan, hunt, pre, within, wire, scan, told, held, Fine}
use Rattle.line.specs.machine.Room.{data_room, decoder_room}
use Rattle.line.specs.machine.Frames.{padded, heard_of}
use Rattle.line.specs.machine.Step.{head_of, preamble_cap, opening_in}
use Rattle.line.specs.machine.Reachable.{claim_of, all_zero, reachable_at}
use Rattle.line.specs.machine.Feed.{Held, holding, fresh, reachable, feeding}
use Rattle.line.specs.machine.Demand.{hears, SmallState, Value, Reached}
use Rattle.line.specs.declared.state.Head.{Head}
use Rattle.line.specs.declared.state.State.{State}
use Rattle.line.specs.declared.state.State.TheVariants.{
  Hunting,
  Preamble,
  Address,
  Command,
  ByteCount,
  Data,
  Checksum,
}
use Rattle.line.proofs.machine.Claims.{whole, possible, clear, right, possible_address}
use Rattle.line.proofs.machine.Padded.{padded_back}
use Rattle.line.proofs.machine.Demand.{ends_scanned}
use Rattle.line.proofs.machine.Image.{array, blank_array, real, zeros_read, zero_read, reachable_real, follows}

-- a decoder that passes the test is the image of a fine scanner
record Scanned (d : Held) : Type 0 where
  scanner : Scan
  fine : Fine scanner
  is : real scanner ≡ d

bytes_take : (k : ℕ) (bs : List ℕ) → Bytes bs → Bytes (take k bs)
bytes_take k bs h = bytes_left (take k bs) (drop k bs) (subst Bytes (sym (take-append-drop k bs)) h)

bytes_drop : (k : ℕ) (bs : List ℕ) → Bytes bs → Bytes (drop k bs)
bytes_drop k bs h = bytes_right (take k bs) (drop k bs) (subst Bytes (sym (take-append-drop k bs)) h)

module _ (s : State) (bs : List ℕ) (r : reachable_at s bs ≡ true) where
  summed_right : (claim_of s).check ≡ check_from (claim_of s).start (take (claim_of s).address bs ++ ((claim_of s).command ∷ (claim_of s).count ∷ take (claim_of s).loaded (drop head_room bs)))
  summed_right = eqb-true (claim_of s).check _ (right s bs r)

  -- the bytes are what was read, and zeros
  arrayed : (claim_of s).loaded ≤ data_room → array (take (claim_of s).address bs) (take (claim_of s).loaded (drop head_room bs)) ≡ bs
  arrayed h =
      let k : ℕ = (claim_of s).address in
      let n : ℕ = (claim_of s).loaded in
      let size : length bs ≡ decoder_room = whole s bs r in
      let short : k ≤ head_room = possible_address s (possible s bs r) in
      let address : padded head_room (take k (take head_room bs)) ≡ take head_room bs = padded_back head_room k (take head_room bs) (length-take-le head_room bs (omega arith)) short (and_first (all_zero (drop k (take head_room bs))) (all_zero (drop n (drop head_room bs))) (clear s bs r)) in
      let loaded : padded data_room (take n (drop head_room bs)) ≡ drop head_room bs = padded_back data_room n (drop head_room bs) (length-drop head_room bs ∙ omega arith) h (and_second (all_zero (drop k (take head_room bs))) (all_zero (drop n (drop head_room bs))) (clear s bs r)) in
      ap₂ (λ (xs ys : List ℕ). xs ++ ys) (rw (take-take k head_room bs short) at address) loaded ∙ take-append-drop head_room bs

  -- the check is that of the bytes from the delimiter on
  summed : (h : Head) → (claim_of s).check ≡ h.check → (claim_of s).start ≡ delimiter (opening_in h) → (xs : List ℕ)
      → check_from (delimiter (opening_in h)) (take (claim_of s).address bs ++ ((claim_of s).command ∷ (claim_of s).count ∷ take (claim_of s).loaded (drop head_room bs))) ≡ check_from (delimiter (opening_in h)) xs
      → head_of (opening_in h) (check (delimiter (opening_in h) ∷ xs)) ≡ h
  summed h c d xs e =
      ap (head_of (opening_in h)) (check_first (delimiter (opening_in h)) xs ∙ sym (sym c ∙ summed_right ∙ rw d e))

delimiter_byte : (h : Head) → delimiter (opening_in h) < 256
delimiter_byte h = omega (arith, delimiter_small (opening_in h))

heading_whole : (o : Opening) (bs : List ℕ) → length bs ≡ decoder_room → length (take (head_length o) bs) ≡ head_length o
heading_whole o bs n = length-take-le (head_length o) bs (omega (arith, head_length_le o))

data_whole : (m : ℕ) (bs : List ℕ) → length bs ≡ decoder_room → m ≤ data_room → length (take m (drop head_room bs)) ≡ m
data_whole m bs n h = length-take-le m (drop head_room bs) (omega (arith, length-drop head_room bs))

scanned_back : (d : Held) → Value d → reachable d ≡ true → Scanned d
scanned_back d v r = by d.state d.bytes v.state v.bytes v.whole r
  where
    by : (s : State) (bs : List ℕ) → SmallState s → Bytes bs → length bs ≡ decoder_room → reachable_at s bs ≡ true → Scanned (holding s bs)
    by Hunting bs z k n q = record { scanner = hunt; fine = tt; is = ap (holding Hunting) (blank_array ∙ arrayed Hunting bs q (omega arith)) }
    by (Preamble m) bs z k n q =
        let p = possible (Preamble m) bs q in
        let counted : 0 < m = ltb-true 0 m (and_first (ltb 0 m) (leb m preamble_cap) p) in
        let few : m ≤ preamble_cap = leb-true m preamble_cap (and_second (ltb 0 m) (leb m preamble_cap) p) in
        let same : min m preamble_cap ≡ m = omega arith in
        record { scanner = pre m; fine = counted; is = ap₂ (λ (i : ℕ) (xs : List ℕ). holding (Preamble i) xs) same (blank_array ∙ arrayed (Preamble m) bs q (omega arith)) }
    by (Address h k) bs z small n q =
        let s : State = Address h k in
        let hs : List ℕ = take k bs in
        let d : ℕ = delimiter (opening_in h) in
        let read : k < head_length (opening_in h) = ltb-true k (head_length (opening_in h)) (possible s bs q) in
        let count : length hs ≡ k = length-take-le k bs (omega (arith, head_length_le (opening_in h))) in
        record {
          scanner = within enough (addressing (opening_in h) hs);
          fine = (omega arith, omega (arith, read, count), (delimiter_byte h, bytes_take k bs small));
          is = ap₂ (λ (g : Head) (i : ℕ). holding (Address g i) (array hs [])) (summed s bs q h refl refl hs (sym (zeros_read d hs))) count
              ∙ ap (holding s) (arrayed s bs q (omega arith));
        }
    by (Command h) bs z small n q =
        let s : State = Command h in
        let hs : List ℕ = take (head_length (opening_in h)) bs in
        let d : ℕ = delimiter (opening_in h) in
        record {
          scanner = within enough (commanding (opening_in h) hs);
          fine = (omega arith, heading_whole (opening_in h) bs n, (delimiter_byte h, bytes_take (head_length (opening_in h)) bs small));
          is = ap (λ (g : Head). holding (Command g) (array hs [])) (summed s bs q h refl refl hs (sym (zeros_read d hs)))
              ∙ ap (holding s) (arrayed s bs q (omega arith));
        }
    by (ByteCount h c) bs z small n q =
        let s : State = ByteCount h c in
        let hs : List ℕ = take (head_length (opening_in h)) bs in
        let d : ℕ = delimiter (opening_in h) in
        record {
          scanner = within enough (counting (opening_in h) hs c);
          fine = (omega arith, heading_whole (opening_in h) bs n, (delimiter_byte h, bytes-append hs (c ∷ []) (bytes_take (head_length (opening_in h)) bs small) (z.1, tt)));
          is = ap (λ (g : Head). holding (ByteCount g c) (array hs [])) (summed s bs q h refl refl (hs ++ (c ∷ [])) (sym (zero_read d c hs)))
              ∙ ap (holding s) (arrayed s bs q (omega arith));
        }
    by (Data h c e m) bs z small n q =
        let s : State = Data h c e m in
        let hs : List ℕ = take (head_length (opening_in h)) bs in
        let ds : List ℕ = take m (drop head_room bs) in
        let read : m < e = ltb-true m e (possible s bs q) in
        let count : length ds ≡ m = data_whole m bs n (omega (arith, z.2)) in
        record {
          scanner = within enough (loading (opening_in h) hs c e ds);
          fine = (omega arith, (heading_whole (opening_in h) bs n, omega (arith, read, count)), (delimiter_byte h, bytes-append hs (c ∷ e ∷ ds) (bytes_take (head_length (opening_in h)) bs small) (z.1, (z.2, bytes_take m (drop head_room bs) (bytes_drop head_room bs small)))));
          is = ap₂ (λ (g : Head) (i : ℕ). holding (Data g c e i) (array hs ds)) (summed s bs q h refl refl (hs ++ (c ∷ e ∷ ds)) refl) count
              ∙ ap (holding s) (arrayed s bs q (omega (arith, z.2)));
        }
    by (Checksum h c e) bs z small n q =
        let s : State = Checksum h c e in
        let hs : List ℕ = take (head_length (opening_in h)) bs in
        let ds : List ℕ = take e (drop head_room bs) in
        let d : ℕ = delimiter (opening_in h) in
        let count : length ds ≡ e = data_whole e bs n (omega (arith, z.2)) in
        record {
          scanner = within enough (checking (wire (opening_in h) hs c ds));
          fine = (
            omega arith,
            record { heading_fits = heading_whole (opening_in h) bs n; count_fits = omega (arith, count, z.2) },
            (delimiter_byte h, bytes-append hs (c ∷ length ds ∷ ds) (bytes_take (head_length (opening_in h)) bs small) (z.1, (omega (arith, count, z.2), bytes_take e (drop head_room bs) (bytes_drop head_room bs small)))),
          );
          is = ap₂ (λ (g : Head) (i : ℕ). holding (Checksum g c i) (array hs ds)) (summed s bs q h refl refl (hs ++ (c ∷ length ds ∷ ds)) (ap (λ (i : ℕ). check_from d (hs ++ (c ∷ i ∷ ds))) (sym count))) count
              ∙ ap (holding s) (arrayed s bs q (omega (arith, z.2)));
        }

-- each value that a run leads to passes the test
pub reached_reachable : (d : Held) → Reached hears fresh d → reachable d ≡ true
reached_reachable d r =
    let e : ends_in hears fresh r.run ≡ real (ends_in scan hunt r.run) = ends_scanned r.run r.small in
    ap reachable (sym r.leads ∙ e) ∙ reachable_real (ends_in scan hunt r.run) (fine_ends hunt r.run tt r.small)

-- and each value of the type that passes it has a run: the bytes that the decoder holds
pub reachable_reached : (d : Held) → Value d → reachable d ≡ true → Reached hears fresh d
reachable_reached d v t =
    let w = scanned_back d v t in
    let s : Scan = w.scanner in
    record {
      run = held s;
      small = held_bytes s w.fine;
      leads = ends_scanned (held s) (held_bytes s w.fine) ∙ ap real (held_ends s w.fine) ∙ w.is;
    }

-- 8 for what no run leads to, with the decoder as it was
pub unreached_eight : (d : Held) (b : ℕ) → Value d → (Reached hears fresh d → ⊥) → feeding d b ≡ (d, refusal 8 [])
unfolding feeding
unreached_eight d b v never = by (reachable d) refl
  where
    by : (t : Bool) → reachable d ≡ t → feeding d b ≡ (d, refusal 8 [])
    by true e = absurd (never (reachable_reached d v e))
    by false e = rw e

told_not_eight : (o : Option Piece) → heard_of (told o) ≡ heard_of (refusal 8 []) → ⊥
told_not_eight None e = let z : ◌≡◌ {A = ℕ} 0 1 = cc in omega arith
told_not_eight (Some (noise b)) e = let z : ◌≡◌ {A = ℕ} 0 1 = cc in omega arith
told_not_eight (Some (short_run n b)) e = let z : ◌≡◌ {A = ℕ} 0 1 = cc in omega arith
told_not_eight (Some (bad_delimiter n b)) e = let z : ◌≡◌ {A = ℕ} 0 1 = cc in omega arith
told_not_eight (Some (frame n w)) e = let z : ◌≡◌ {A = ℕ} 0 1 = cc in omega arith
told_not_eight (Some (bad_check n w c)) e = let z : ◌≡◌ {A = ℕ} 0 1 = cc in omega arith

-- and never for what a run leads to
pub reached_no_eight : (d : Held) (b : ℕ) → b < 256 → Reached hears fresh d → (hears d b).1 ≡ heard_of (refusal 8 []) → ⊥
reached_no_eight d b h r e =
    let s : Scan = ends_in scan hunt r.run in
    let is : real s ≡ d = sym (ends_scanned r.run r.small) ∙ r.leads in
    let said : (feeding d b).1 ≡ told (scan s b).1 = ap (λ (c : Held). (feeding c b).1) (sym is) ∙ ap (λ (x : Held × Event). x.1) (follows s b (fine_ends hunt r.run tt r.small) h) in
    told_not_eight (scan s b).1 (ap heard_of (sym said) ∙ e)
