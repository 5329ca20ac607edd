-- encode.rs never stops, and does what document 01 says of the encoder: on every call its lines (specs/Source.antt) come to the outcome that
-- line's specs/Encode.antt gives. An address written alone stops the Rust exactly where ours is refused.
use Prim.Native.Nat.{ℕ, zero, suc, ◌+◌, ◌*◌, ◌/◌, ◌%◌, ◌^◌, ◌≤◌, ◌<◌}
use native.Mathlib.Nat.{mod-eq_of_lt}
use native.Mathlib.Omega.{arith}
use mathlib.Core.Path.{◌≡◌, refl, sym, ap, ◌∙◌}
use mathlib.Core.Bool.{Bool, true, false, cond}
use mathlib.Core.List.{List, [], ◌∷◌, ◌++◌, append_assoc, append-nil}
use lib.Bits.{bit_and, bit_or, bit_xor, and_mask, or_block, or_shifted_r}
use lib.Dec.{ltb, lit<}
use lib.ListN.{length, take, drop, set, length-append, length-drop, length-set}
use lib.Seq.{append_snoc, get_or_at}
use borrow.Author.Tests.{ltb-true, ltb-false, lt-ltb, le-leb}
use Rattle.refusal.specs.Outcome.{Outcome, ends, done, wrote, refuses}
use Rattle.octets.specs.Check.{check_from}
use Rattle.octets.specs.Put.{put}
use Rattle.octets.specs.Source.{Run, stops, comes, shift_right, as_u8}
use Rattle.octets.proofs.Check.{check_first, check-append}
use Rattle.octets.proofs.Put.{put-nil, put_front, put_behind, length-put, put-put, put-snoc, put-wrote}
use Rattle.types.specs.declared.delimiter.FrameType.{FrameType}
use Rattle.types.specs.declared.delimiter.FrameType.TheVariants.{Request, Response, Burst}
use Rattle.types.specs.declared.first.MasterRole.{MasterRole}
use Rattle.types.specs.declared.first.MasterRole.TheVariants.{Primary, Secondary}
use Rattle.types.specs.declared.address.Address.{Address}
use Rattle.types.specs.declared.address.Address.TheVariants.{Short, Long}
use Rattle.types.specs.Delimiter.{delimiter}
use Rattle.types.specs.Address.{address_length, is_long, first_byte, address_bytes, address_written}
use Rattle.types.proofs.Addresses.{address_fits, length-address}
use Rattle.line.specs.Layout.{preambles, check_of}
use Rattle.line.specs.Encode.{opening_of, wire_of, layout, total, encoded}
use Rattle.line.specs.machine.Room.{data_room}
use Rattle.framing.specs.Source.{marked, source_address_into, source_address_written, compute_delimiter, preamble_loop, lent_from, sum_loop, data_loop, source_tail, source_body, source_frame}
use Rattle.line.proofs.Layouts.{length-preambles}

-- Stores in a row are the data loop, wherever they stand: what they write follows what stands at the front.
data_loop_lem : (ds bs l : List ℕ) (at to sum : ℕ) (rest : ℕ → ℕ → List ℕ → Run Outcome) → length bs ≡ at → at + length ds ≡ to → to ≤ length l
    → data_loop ds at sum (put l 0 bs) rest ≡ rest to (check_from sum ds) (put l 0 (bs ++ ds))
data_loop_lem [] bs l at to sum rest e f h = let g : at ≡ to = omega arith in rw (append-nil bs, g)
data_loop_lem (d ∷ ds) bs l at to sum rest e f h =
    let same : length (put l 0 bs) ≡ length l = length-put l 0 bs (omega arith) in
    rw (lt-ltb at (length (put l 0 bs)) (omega arith), put-snoc l 0 bs d at (omega arith) (omega arith))
    (data_loop_lem ds (bs ++ (d ∷ [])) l (at + 1) to (bit_xor sum d) rest (omega (arith, length-append bs (d ∷ []))) (omega arith) h
    ∙ ap (λ (r : List ℕ). rest to (check_from (bit_xor sum d) ds) (put l 0 r)) (append_snoc bs d ds))

-- and without room for all of them one stops
data_loop_stops : (ds l : List ℕ) (at sum : ℕ) (rest : ℕ → ℕ → List ℕ → Run Outcome) → at ≤ length l → length l < at + length ds → data_loop ds at sum l rest ≡ stops
data_loop_stops [] l at sum rest h k = absurd (omega arith)
data_loop_stops (d ∷ ds) l at sum rest h k = by (data_loop_stops ds (set l at d) (at + 1) (bit_xor sum d) rest) (ltb at (length l)) refl
  where
    by : (at + 1 ≤ length (set l at d) → length (set l at d) < at + 1 + length ds → data_loop ds (at + 1) (bit_xor sum d) (set l at d) rest ≡ stops)
        → (t : Bool) → ltb at (length l) ≡ t → cond t (data_loop ds (at + 1) (bit_xor sum d) (set l at d) rest) stops ≡ stops
    by more true t = more (omega (arith, ltb-true at (length l) t, length-set l at d)) (omega (arith, length-set l at d))
    by more false t = refl

-- the preamble is data whose sum nobody takes
preamble_loop_lem : (n at sum : ℕ) (l : List ℕ) (rest : ℕ → List ℕ → Run Outcome) → preamble_loop n at l rest ≡ data_loop (preambles n) at sum l (λ to s b. rest to b)
preamble_loop_lem zero at sum l rest = refl
preamble_loop_lem (suc n) at sum l rest = ap (λ (r : Run Outcome). cond (ltb at (length l)) r stops) (preamble_loop_lem n (at + 1) (bit_xor sum 0xFF) (set l at 0xFF) rest)

-- a bit set above a field is a bit added to it
marked_first : (m : MasterRole) (b : Bool) (low : ℕ) → low < 64 → marked low m b ≡ first_byte m b low
marked_first Secondary false low h = omega arith
marked_first Secondary true low h = or_shifted_r 1 6 low h
marked_first Primary false low h = or_shifted_r 1 7 low (omega arith)
marked_first Primary true low h =
    let e : bit_or low 0x80 ≡ 1 * 128 + low = or_shifted_r 1 7 low (omega arith) in
    ap (λ (x : ℕ). bit_or x 0x40) e ∙ or_block 7 1 0 low 64 (omega arith) (lit< tt) ∙ ap (λ (x : ℕ). 128 + x) (or_shifted_r 1 6 low h) ∙ omega arith

low_byte : (x : ℕ) → as_u8 (bit_and x 0xFF) ≡ x % 256
low_byte x = ap as_u8 (and_mask x 8) ∙ omega arith

-- an address too, from the buffer's first place
address_loop : (a : Address) (l : List ℕ) (rest : ℕ → List ℕ → Run Outcome) → source_address_into a l rest ≡ data_loop (address_bytes a) 0 0 l (λ to s b. rest to b)
unfolding address_bytes
address_loop (Short m b p) l rest = rw (and_mask p 4, marked_first m b (p % 16) (omega arith))
address_loop (Long m b f t n) l rest =
    let high : as_u8 (bit_and (shift_right n 16) 0xFF) ≡ n / 256 / 256 % 256 = low_byte (n / 2 ^ 16) ∙ omega arith in
    rw (and_mask f 6, marked_first m b (f % 64) (omega arith), high, low_byte (n / 2 ^ 8), low_byte n)

-- both from the first place of a buffer with room for them
loop_from_start : (ds l : List ℕ) (to : ℕ) (rest : ℕ → List ℕ → Run Outcome) → length ds ≡ to → to ≤ length l → data_loop ds 0 0 l (λ to s b. rest to b) ≡ rest to (put l 0 ds)
loop_from_start ds l to rest e h =
    ap (λ (b : List ℕ). data_loop ds 0 0 b (λ to s b. rest to b)) (sym (put-nil l 0)) ∙ data_loop_lem ds [] l 0 to 0 (λ to s b. rest to b) refl (omega arith) h

address_run : (a : Address) (l : List ℕ) (rest : ℕ → List ℕ → Run Outcome) → address_length (is_long a) ≤ length l → source_address_into a l rest ≡ rest (length (address_bytes a)) (put l 0 (address_bytes a))
address_run a l rest h = address_loop a l rest ∙ loop_from_start (address_bytes a) l (length (address_bytes a)) rest refl (omega (arith, length-address a))

module _ (a : Address) (buffer : List ℕ) where
  pub address_is_source : address_length (is_long a) ≤ length buffer → source_address_written a buffer ≡ comes (address_written a buffer)
  address_is_source h =
      address_run a buffer (λ written b. comes (ends (done (written ∷ [])) b)) h
      ∙ ap comes (put-wrote buffer (address_bytes a) refl refl ∙ sym (address_fits a buffer h))

  pub address_source_stops : length buffer < address_length (is_long a) → source_address_written a buffer ≡ stops
  address_source_stops h =
      let rest : ℕ → List ℕ → Run Outcome = λ written b. comes (ends (done (written ∷ [])) b) in
      address_loop a buffer rest ∙ data_loop_stops (address_bytes a) buffer 0 0 (λ to s b. rest to b) (omega arith) (omega (arith, length-address a))

-- an address into a part of the buffer, behind what stands at its front
address_lent_run : (a : Address) (bs l : List ℕ) (at : ℕ) (rest : ℕ → List ℕ → Run Outcome) → length bs ≡ at → at + address_length (is_long a) ≤ length l
    → lent_from (put l 0 bs) at (λ part back. source_address_into a part (λ written part₁. rest written (back part₁))) ≡ rest (length (address_bytes a)) (put l 0 (bs ++ address_bytes a))
address_lent_run a bs l at rest e h =
    let b = put l 0 bs in
    let ad = address_bytes a in
    let same : length b ≡ length l = length-put l 0 bs (omega arith) in
    rw (le-leb at (length b) (omega arith))
    (address_run a (drop at b) (λ written part. rest written (take at b ++ part)) (omega (arith, length-drop at b))
    ∙ ap (rest (length ad)) (put_behind b at ad ∙ put-put l 0 bs ad at (omega arith) (omega arith)))

-- the bytes that the address left, read back into the sum
sum_loop_lem : (bs xs ys : List ℕ) (i at sum : ℕ) (rest : ℕ → Run Outcome) → length xs ≡ at + i → sum_loop (length bs) i at sum (xs ++ (bs ++ ys)) rest ≡ rest (check_from sum bs)
sum_loop_lem [] xs ys i at sum rest e = refl
sum_loop_lem (b ∷ bs) xs ys i at sum rest e =
    let room : at + i < length (xs ++ (b ∷ (bs ++ ys))) = omega (arith, length-append xs (b ∷ (bs ++ ys))) in
    rw (lt-ltb (at + i) (length (xs ++ (b ∷ (bs ++ ys)))) room, get_or_at xs b (bs ++ ys) 0 (at + i) e)
    (ap (λ (l : List ℕ). sum_loop (length bs) (i + 1) at (bit_xor sum b) l rest) (sym (append_snoc xs b (bs ++ ys)))
    ∙ sum_loop_lem bs (xs ++ (b ∷ [])) ys (i + 1) at (bit_xor sum b) rest (omega (arith, length-append xs (b ∷ []))))

delimiter_same : (t : FrameType) (a : Address) → compute_delimiter t (is_long a) ≡ delimiter (opening_of t a)
delimiter_same Request (Short m b p) = refl
delimiter_same Request (Long m b f d n) = refl
delimiter_same Response (Short m b p) = refl
delimiter_same Response (Long m b f d n) = refl
delimiter_same Burst (Short m b p) = refl
delimiter_same Burst (Long m b f d n) = refl

total_same : (long : Bool) (n k : ℕ) → n + 1 + cond long 5 1 + 1 + 1 + k + 1 ≡ total n long k
total_same false n k = omega arith
total_same true n k = omega arith

module _ (c : ℕ) (ds buffer : List ℕ) where
  -- command, count and data are one run of stores, and the check is what the sum has come to
  tail_run : (bs : List ℕ) (at sum : ℕ) → length bs ≡ at → length ds ≤ data_room → at + 3 + length ds ≤ length buffer
      → source_tail c ds at sum (put buffer 0 bs) ≡ comes (wrote ((bs ++ (c ∷ length ds ∷ ds)) ++ (check_from sum (c ∷ length ds ∷ ds) ∷ [])) buffer)
  tail_run bs at sum e few room =
      let xs = c ∷ length ds ∷ ds in
      let to = at + 2 + length ds in
      let long : length (bs ++ xs) ≡ to = omega (arith, length-append bs xs) in
      let last : ℕ → ℕ → List ℕ → Run Outcome = λ at₁ sum₁ b. data_loop (sum₁ ∷ []) at₁ 0 b (λ to₁ s b₁. comes (ends (done (to₁ ∷ [])) b₁)) in
      let small : as_u8 (length ds) ≡ length ds = mod-eq_of_lt (omega arith) in
      rw small
      (data_loop_lem xs bs buffer at to sum last e (omega arith) (omega arith)
      ∙ data_loop_lem (check_from sum xs ∷ []) (bs ++ xs) buffer to (to + 1) 0 (λ to₁ s b₁. comes (ends (done (to₁ ∷ [])) b₁)) long refl (omega arith)
      ∙ ap comes (put-wrote buffer ((bs ++ xs) ++ (check_from sum xs ∷ [])) refl (omega (arith, length-append (bs ++ xs) (check_from sum xs ∷ [])))))

module _ (t : FrameType) (a : Address) (c : ℕ) (ds : List ℕ) (n : ℕ) (buffer : List ℕ) where
  -- the sum goes from the delimiter over the address into the tail, so that it is the check of the whole body
  frame_run : length ds ≤ data_room → total n (is_long a) (length ds) ≤ length buffer → preamble_loop n 0 buffer (source_body t a c ds) ≡ comes (wrote (layout n (wire_of t a c ds)) buffer)
  frame_run few room =
      let d = delimiter (opening_of t a) in
      let ad = address_bytes a in
      let xs = c ∷ length ds ∷ ds in
      let pre = preambles n in
      let front = pre ++ (d ∷ []) in
      let held = put buffer 0 (front ++ ad) in
      let behind = drop (length (front ++ ad)) buffer in
      let lp : length pre ≡ n = length-preambles n in
      let lf : length front ≡ n + 1 = omega (arith, length-append pre (d ∷ [])) in
      let la : length ad ≡ address_length (is_long a) = length-address a in
      let summed : ℕ → List ℕ → Run Outcome = λ written b. sum_loop written 0 (n + 1) d b (λ sum. source_tail c ds (n + 1 + written) sum b) in
      let tail : ℕ → Run Outcome = λ sum. source_tail c ds (n + 1 + length ad) sum held in
      let joined : (front ++ ad) ++ xs ≡ pre ++ (d ∷ (ad ++ xs)) = simp append_assoc in
      let sum : check_from (check_from d ad) xs ≡ check_of (wire_of t a c ds) = sym (check_first d (ad ++ xs) ∙ check-append d ad xs) in
      preamble_loop_lem n 0 0 buffer (source_body t a c ds)
      ∙ loop_from_start pre buffer n (source_body t a c ds) lp (omega arith)
      ∙ rw (delimiter_same t a)
      (data_loop_lem (d ∷ []) pre buffer n (n + 1) 0 (λ at s b. lent_from b at (λ part back. source_address_into a part (λ written part₁. summed written (back part₁)))) lp refl (omega arith)
      ∙ address_lent_run a front buffer (n + 1) summed lf (omega arith)
      ∙ ap (λ (b : List ℕ). sum_loop (length ad) 0 (n + 1) d b tail) (put_front buffer (front ++ ad) ∙ append_assoc front ad behind)
      ∙ sum_loop_lem ad front behind 0 (n + 1) d tail (omega arith)
      ∙ tail_run c ds buffer (front ++ ad) (n + 1 + length ad) (check_from d ad) (omega (arith, length-append front ad)) few (omega arith)
      ∙ rw (joined, sum))

  pub frame_is_source : source_frame t a c ds n buffer ≡ comes (encoded t a c ds n buffer)
  unfolding encoded
  frame_is_source = rw (total_same (is_long a) n (length ds)) (by (ltb data_room (length ds)) (ltb (length buffer) (total n (is_long a) (length ds))) refl refl)
    where
      by : (long small : Bool) → ltb data_room (length ds) ≡ long → ltb (length buffer) (total n (is_long a) (length ds)) ≡ small
          → cond long (comes (refuses 1 [] buffer)) (cond small (comes (refuses 2 [] buffer)) (preamble_loop n 0 buffer (source_body t a c ds)))
          ≡ comes (cond long (refuses 1 [] buffer) (cond small (refuses 2 [] buffer) (wrote (layout n (wire_of t a c ds)) buffer)))
      by true small e f = refl
      by false true e f = refl
      by false false e f = frame_run (ltb-false data_room (length ds) e) (ltb-false (length buffer) (total n (is_long a) (length ds)) f)
