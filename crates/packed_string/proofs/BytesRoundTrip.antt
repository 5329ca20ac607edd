-- Bytes that were unpacked in standard mode, packed again: the same bytes, whatever they are.
use Prim.Native.Nat.{ℕ, zero, suc, ◌+◌, ◌*◌, ◌/◌, ◌≤◌, ◌<◌}
use native.Mathlib.Nat.{add-zero}
use native.Mathlib.Omega.{arith}
use mathlib.Core.Path.{◌≡◌, refl, sym, ap, ap₂, ◌∙◌}
use mathlib.Core.Bool.{Bool, true, false}
use mathlib.Core.List.{List, [], ◌∷◌, ◌++◌, map}
use lib.Dec.{ltb, lit<}
use lib.ListN.{length, get_or, take, drop, get_or-append}
use lib.Seq.{take-add, take_all, get_or-append-add}
use borrow.Author.Tests.{ltb-true, ltb-false}
use Rattle.octets.specs.Digits.{Below, from_digits, digits}
use Rattle.octets.specs.Put.{first_parts}
use Rattle.octets.proofs.Bases.{below_at, digits_below, from_below, from_digits_whole, digits_from}
use Rattle.octets.proofs.Parts.{parts_zero, parts_suc, length_parts}
use Rattle.octets.proofs.Places.{taken}
use Rattle.packed_string.specs.declared.text_group.Mode.TheVariants.{Standard}
use Rattle.packed_string.specs.Group.{pack_group, unpack_group, code_of, char_of}
use Rattle.packed_string.specs.Groups.{chars_at, bytes_at, packed_group, unpacked_group, packed, unpacked, groups}
use Rattle.packed_string.specs.Modes.{packed_text, unpacked_text}
use Rattle.packed_string.proofs.Groups.{unpacked_sized, length-unpacked}

-- a code from its character
code_back : (k : ℕ) → k < 64 → code_of Standard (char_of Standard k) ≡ k
code_back k h = by (ltb k 32) refl
  where
    by : (letter : Bool) → ltb k 32 ≡ letter → code_of Standard (char_of Standard k) ≡ k
    by true e = rw e (omega arith)
    by false e = rw e (omega arith)

codes_back : (ks : List ℕ) → Below 64 ks → map (code_of Standard) (map (char_of Standard) ks) ≡ ks
codes_back [] b = refl
codes_back (k ∷ ks) b = ap₂ ◌∷◌ (code_back k b.0) (codes_back ks b.1)

-- three bytes from their codes
bytes_back : (x y z : ℕ) → x < 256 → y < 256 → z < 256 → pack_group (map (code_of Standard) (map (char_of Standard) (unpack_group (x ∷ y ∷ z ∷ [])))) ≡ x ∷ y ∷ z ∷ []
unfolding pack_group unpack_group
bytes_back x y z hx hy hz =
    let bs : List ℕ = x ∷ y ∷ z ∷ [] in
    let below : Below 256 bs = (hx, (hy, (hz, tt))) in
    let n : ℕ = from_digits 256 bs in
    ap (λ (ks : List ℕ). digits 256 3 (from_digits 64 ks)) (codes_back (digits 64 4 n) (digits_below 64 4 n (lit< tt)))
    ∙ ap (digits 256 3) (from_digits_whole 64 4 n (lit< tt) (from_below 256 bs below))
    ∙ digits_from 256 bs below

-- what stands in a part of four, where all parts stand one behind another
module _ (part : ℕ → List ℕ) (four : (g : ℕ) → length (part g) ≡ 4) where
  in_part : (n g j : ℕ) → g < n → j < 4 → get_or (first_parts part n) (g * 4 + j) 0x20 ≡ get_or (part g) j 0x20
  in_part zero g j h k = absurd (omega arith)
  in_part (suc n) g j h k = ap (λ (l : List ℕ). get_or l (g * 4 + j) 0x20) (parts_suc part n) ∙ by (λ lt. in_part n g j lt k) (ltb g n) refl
    where
      size : length (first_parts part n) ≡ n * 4
      size = length_parts part 4 four n

      by : (g < n → get_or (first_parts part n) (g * 4 + j) 0x20 ≡ get_or (part g) j 0x20) → (before : Bool) → ltb g n ≡ before → get_or (first_parts part n ++ part n) (g * 4 + j) 0x20 ≡ get_or (part g) j 0x20
      by earlier true e = let lt = ltb-true g n e in get_or-append (first_parts part n) (part n) 0x20 (g * 4 + j) (omega (arith, size)) ∙ earlier lt
      by earlier false e =
          let same : g ≡ n = omega (arith, ltb-false g n e) in
          let place : g * 4 + j ≡ length (first_parts part n) + j = omega (arith, size) in
          ap (λ (i : ℕ). get_or (first_parts part n ++ part n) i 0x20) place ∙ get_or-append-add (first_parts part n) (part n) j 0x20 ∙ ap (λ (i : ℕ). get_or (part i) j 0x20) (sym same)

module _ (bs : List ℕ) (bytes : Below 256 bs) where
  chars_back : (n g : ℕ) → g < n → chars_at (unpacked Standard bs n) g ≡ unpacked_group Standard bs g
  unfolding unpack_group
  chars_back n g h =
      let at : (j : ℕ) → j < 4 → get_or (unpacked Standard bs n) (g * 4 + j) 0x20 ≡ get_or (unpacked_group Standard bs g) j 0x20 = λ j k. in_part (unpacked_group Standard bs) (unpacked_sized Standard bs) n g j h k in
      let first : get_or (unpacked Standard bs n) (g * 4) 0x20 ≡ get_or (unpacked_group Standard bs g) 0 0x20 = ap (λ (i : ℕ). get_or (unpacked Standard bs n) i 0x20) (sym (add-zero (g * 4))) ∙ at 0 (lit< tt) in
      λ i. first i ∷ at 1 (lit< tt) i ∷ at 2 (lit< tt) i ∷ at 3 (lit< tt) i ∷ []

  group_back : (n g : ℕ) → g < n → packed_group Standard (unpacked Standard bs n) g ≡ bytes_at bs g
  group_back n g h =
      let at : (i : ℕ) → get_or bs i 0 < 256 = below_at 256 bs bytes (lit< tt) in
      ap (λ (l : List ℕ). pack_group (map (code_of Standard) l)) (chars_back n g h) ∙ bytes_back (get_or bs (g * 3) 0) (get_or bs (g * 3 + 1) 0) (get_or bs (g * 3 + 2) 0) (at (g * 3)) (at (g * 3 + 1)) (at (g * 3 + 2))

  -- the first groups of all n
  groups_back : (n m : ℕ) → m ≤ n → m * 3 ≤ length bs → packed Standard (unpacked Standard bs n) m ≡ take (m * 3) bs
  groups_back n zero h k = parts_zero (packed_group Standard (unpacked Standard bs n))
  groups_back n (suc m) h k =
      let here : bytes_at bs m ≡ take 3 (drop (m * 3) bs) = sym (ap (λ (i : ℕ). take 3 (drop i bs)) (sym (add-zero (m * 3))) ∙ taken bs (m * 3) 0 3 (omega arith) ∙ ap (λ (i : ℕ). get_or bs i 0 ∷ get_or bs (m * 3 + 1) 0 ∷ get_or bs (m * 3 + 2) 0 ∷ []) (add-zero (m * 3))) in
      let more : suc m * 3 ≡ m * 3 + 3 = omega arith in
      parts_suc (packed_group Standard (unpacked Standard bs n)) m ∙ ap₂ ◌++◌ (groups_back n m (omega arith) (omega arith)) (group_back n m (omega arith) ∙ here) ∙ sym (ap (λ (i : ℕ). take i bs) more ∙ take-add (m * 3) 3 bs)

  -- whole groups
  pub bytes_text_back : (n : ℕ) → length bs ≡ n * 3 → packed_text Standard (unpacked_text Standard bs) ≡ bs
  bytes_text_back n e =
      let whole : length bs / 3 ≡ n = omega arith in
      let count : groups (length (unpacked Standard bs (length bs / 3))) ≡ n = omega (arith, length-unpacked Standard bs (length bs / 3)) in
      ap (packed Standard (unpacked Standard bs (length bs / 3))) count
      ∙ ap (λ (k : ℕ). packed Standard (unpacked Standard bs k) n) whole
      ∙ groups_back n n (omega arith) (omega arith)
      ∙ take_all (n * 3) bs (omega arith)
