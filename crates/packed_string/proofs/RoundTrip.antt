-- What was written reads back: each character as `read_back` says, the last group filled with spaces; and a character of 0x20 to 0x5F as
-- itself, in both modes.
use Prim.Native.Nat.{ℕ, zero, suc, ◌+◌, ◌*◌, ◌-◌, ◌/◌, ◌%◌, ◌≤◌, ◌<◌, min}
use native.Mathlib.Nat.{add-zero, min-eq_left}
use native.Mathlib.Omega.{arith}
use mathlib.Core.Path.{◌≡◌, refl, sym, ap, ap₂, ◌∙◌}
use mathlib.Core.Bool.{Bool, true, false}
use mathlib.Core.List.{List, [], ◌∷◌, ◌++◌, map, append_assoc, append-nil, map-append}
use lib.ListN.{length, take, drop, get_or, replicate, length-append, length-replicate}
use lib.Seq.{drop-cons, take-add, take_all, get_or-append-add}
use lib.Dec.{ltb, lit≤}
use borrow.Author.Tests.{ltb-true, ltb-false}
use Rattle.refusal.specs.Outcome.{wrote}
use Rattle.octets.specs.Put.{first_parts}
use Rattle.octets.proofs.Parts.{parts_zero, parts_suc}
use Rattle.packed_string.specs.declared.text_group.Mode.{Mode}
use Rattle.packed_string.specs.declared.text_group.Mode.TheVariants.{Crate, Standard}
use Rattle.packed_string.specs.Group.{code_of, char_of, pack_group, unpack_group}
use Rattle.packed_string.proofs.Group.{code_below, group_back}
use Rattle.packed_string.specs.Groups.{chars_at, bytes_at, packed_group, unpacked_group, packed, unpacked, groups}
use Rattle.packed_string.proofs.Groups.{length-packed}
use Rattle.packed_string.specs.Plain.{Coded, Plain}
use Rattle.packed_string.proofs.BadPlace.{plain_place}
use Rattle.packed_string.specs.Standard.{standard_packed, standard_unpacked}
use Rattle.packed_string.proofs.StandardCalls.{standard_packs, standard_unpacks}
use Rattle.packed_string.specs.Text.{crate_packed, crate_unpacked, read_back, filled}
use Rattle.packed_string.proofs.Calls.{crate_packs, crate_unpacks}

-- the bytes of a group, where g groups stand before them
bytes_behind : (p : List ℕ) (g : ℕ) (x y z : ℕ) (rest : List ℕ) → length p ≡ g * 3 → bytes_at (p ++ (x ∷ y ∷ z ∷ rest)) g ≡ x ∷ y ∷ z ∷ []
bytes_behind p g x y z rest e =
    let l = p ++ (x ∷ y ∷ z ∷ rest) in
    let at : (j : ℕ) → get_or l (g * 3 + j) 0 ≡ get_or (x ∷ y ∷ z ∷ rest) j 0 = λ j. ap (λ (i : ℕ). get_or l (i + j) 0) (sym e) ∙ get_or-append-add p (x ∷ y ∷ z ∷ rest) j 0 in
    let first : get_or l (g * 3) 0 ≡ x = ap (λ (i : ℕ). get_or l i 0) (sym (add-zero (g * 3))) ∙ at 0 in
    rw (first, at 1, at 2)

-- the characters of the first groups, the last one filled
abbrev characters : List ℕ → ℕ → List ℕ
characters text g = first_parts (chars_at text) g

module _ (m : Mode) (text : List ℕ) where
  group_read : (p rest : List ℕ) (g : ℕ) → length p ≡ g * 3 → unpacked_group m (p ++ (packed_group m text g ++ rest)) g ≡ map (read_back m) (chars_at text g)
  unfolding pack_group
  group_read p rest g e =
      let code : ℕ → ℕ = λ i. code_of m (get_or text i 0x20) in
      ap (λ (l : List ℕ). map (char_of m) (unpack_group l)) (bytes_behind p g _ _ _ rest e)
      ∙ ap (map (char_of m)) (group_back (code (g * 4)) (code (g * 4 + 1)) (code (g * 4 + 2)) (code (g * 4 + 3)) (code_below m _) (code_below m _) (code_below m _) (code_below m _))

  -- whatever stands behind them, the first groups read back
  pub groups_back : (g : ℕ) (rest : List ℕ) → unpacked m (packed m text g ++ rest) g ≡ map (read_back m) (characters text g)
  groups_back zero rest = parts_zero (unpacked_group m (packed m text 0 ++ rest)) ∙ ap (map (read_back m)) (sym (parts_zero (chars_at text)))
  groups_back (suc g) rest =
      let p = packed m text g in
      let q = packed_group m text g in
      ap (λ (l : List ℕ). unpacked m l (suc g)) (ap (λ (l : List ℕ). l ++ rest) (parts_suc (packed_group m text) g) ∙ append_assoc p q rest)
      ∙ parts_suc (unpacked_group m (p ++ (q ++ rest))) g
      ∙ ap₂ ◌++◌ (groups_back g (q ++ rest)) (group_read p rest g (length-packed m text g))
      ∙ sym (ap (map (read_back m)) (parts_suc (chars_at text) g) ∙ map-append (read_back m) (characters text g) (chars_at text g))

-- past the end of a text stands a space, whether or not spaces were put there
get_d_spaces : (k i : ℕ) → get_or {A = ℕ} (replicate k 0x20) i 0x20 ≡ 0x20
get_d_spaces zero i = refl
get_d_spaces (suc k) zero = refl
get_d_spaces (suc k) (suc i) = get_d_spaces k i

get_d_filled : (text : List ℕ) (k i : ℕ) → get_or (text ++ replicate k 0x20) i 0x20 ≡ get_or text i 0x20
get_d_filled [] k i = get_d_spaces k i
get_d_filled (c ∷ text) k zero = refl
get_d_filled (c ∷ text) k (suc i) = get_d_filled text k i

four_of : (l : List ℕ) (n : ℕ) → n + 4 ≤ length l → take 4 (drop n l) ≡ get_or l n 0x20 ∷ get_or l (n + 1) 0x20 ∷ get_or l (n + 2) 0x20 ∷ get_or l (n + 3) 0x20 ∷ []
four_of l n h =
    let e1 : n + 1 ≡ suc n = omega arith in
    let e2 : n + 2 ≡ suc (suc n) = omega arith in
    let e3 : n + 3 ≡ suc (suc (suc n)) = omega arith in
    rw (e1, e2, e3, drop-cons l n 0x20 (omega arith), drop-cons l (suc n) 0x20 (omega arith), drop-cons l (suc (suc n)) 0x20 (omega arith), drop-cons l (suc (suc (suc n))) 0x20 (omega arith))

characters_take : (text : List ℕ) (k g : ℕ) → g * 4 ≤ length (text ++ replicate k 0x20) → characters text g ≡ take (g * 4) (text ++ replicate k 0x20)
characters_take text k zero h = parts_zero (chars_at text)
characters_take text k (suc g) h =
    let l = text ++ replicate k 0x20 in
    let e : suc g * 4 ≡ g * 4 + 4 = omega arith in
    let chars : chars_at text g ≡ take 4 (drop (g * 4) l) = sym (four_of l (g * 4) (omega arith) ∙ rw (get_d_filled text k (g * 4), get_d_filled text k (g * 4 + 1), get_d_filled text k (g * 4 + 2), get_d_filled text k (g * 4 + 3))) in
    parts_suc (chars_at text) g ∙ ap₂ ◌++◌ (characters_take text k g (omega arith)) chars ∙ sym (ap (λ (i : ℕ). take i l) e ∙ take-add (g * 4) 4 l)

pub length-filled : (text : List ℕ) → length (filled text) ≡ groups (length text) * 4
length-filled text =
    let k = groups (length text) * 4 - length text in
    omega (arith, length-append text (replicate k 0x20), length-replicate {A = ℕ} k 0x20)

characters_filled : (text : List ℕ) → characters text (groups (length text)) ≡ filled text
characters_filled text =
    let n = groups (length text) * 4 in
    let e : length (filled text) ≡ n = length-filled text in
    characters_take text (n - length text) (groups (length text)) (omega arith) ∙ take_all n (filled text) (omega arith)

-- a whole text, written and read
pub text_back : (m : Mode) (text : List ℕ) → let g = groups (length text) in unpacked m (packed m text g) g ≡ map (read_back m) (filled text)
text_back m text =
    let g = groups (length text) in
    ap (λ (l : List ℕ). unpacked m l g) (sym (append-nil (packed m text g))) ∙ groups_back m text g [] ∙ ap (map (read_back m)) (characters_filled text)

-- the two ways in which standard mode reads a code
standard_case : (k : ℕ) {X : Type 0} → (k < 32 → char_of Standard k ≡ k + 64 → X) → (32 ≤ k → char_of Standard k ≡ k → X) → X
standard_case k {X} letter other = by (ltb k 32) refl
  where
    by : (t : Bool) → ltb k 32 ≡ t → X
    by true e = letter (ltb-true k 32 e) (rw e)
    by false e = other (ltb-false k 32 e) (rw e)

-- a character of 0x20 to 0x5F reads back as itself
pub character_back : (m : Mode) (c : ℕ) → Coded c → read_back m c ≡ c
character_back Crate c k = omega arith
character_back Standard c k = standard_case (c % 64) (λ l e. e ∙ omega arith) (λ l e. e ∙ omega arith)

-- and whatever was written reads as such a character: any other comes back as another
pub back_coded : (m : Mode) (c : ℕ) → Coded (read_back m c)
back_coded Crate c = omega arith
back_coded Standard c = standard_case (c % 64) (λ l e. rw e (omega arith)) (λ l e. rw e (omega arith))

pub plain_back : (m : Mode) (text : List ℕ) → Plain text → map (read_back m) text ≡ text
plain_back m [] p = refl
plain_back m (c ∷ text) p = ap₂ ◌∷◌ (character_back m c p.0) (plain_back m text p.1)

pub plain_filled : (text : List ℕ) (k : ℕ) → Plain text → Plain (text ++ replicate k 0x20)
plain_filled [] zero p = tt
plain_filled [] (suc k) p = ((lit≤ tt, lit≤ tt), plain_filled [] k tt)
plain_filled (c ∷ text) k p = (p.0, plain_filled text k p.1)

-- Of the calls: where there is room, what one writes the other reads.
module _ (text buffer out : List ℕ) (room : groups (length text) ≤ length buffer / 3) (room' : groups (length text) ≤ length out / 4) where
  groups_packed : (m : Mode) → length (packed m text (groups (length text))) / 3 ≡ groups (length text)
  groups_packed m = omega (arith, length-packed m text (groups (length text)))

  pub crate_round_trip : let bytes = packed Crate text (groups (length text)) in (crate_packed text buffer ≡ wrote bytes buffer) × (crate_unpacked bytes out ≡ wrote (map (read_back Crate) (filled text)) out)
  crate_round_trip =
      let bytes = packed Crate text (groups (length text)) in (
        crate_packs text buffer (min-eq_left room),
        crate_unpacks bytes out (ap (λ (k : ℕ). min k (length out / 4)) (groups_packed Crate) ∙ min-eq_left room') ∙ ap (λ (l : List ℕ). wrote l out) (text_back Crate text),
      )

  pub standard_round_trip : Plain text → let bytes = packed Standard text (groups (length text)) in (standard_packed text buffer ≡ wrote bytes buffer) × (standard_unpacked bytes out ≡ wrote (filled text) out)
  standard_round_trip plain =
      let n = groups (length text) in
      let bytes = packed Standard text n in
      let whole : length bytes % 3 ≡ 0 = omega (arith, length-packed Standard text n) in
      let same : map (read_back Standard) (filled text) ≡ filled text = plain_back Standard (filled text) (plain_filled text (n * 4 - length text) plain) in (
        standard_packs text buffer room (omega (arith, plain_place text plain)),
        standard_unpacks bytes out whole (omega (arith, groups_packed Standard))
            ∙ ap (λ (k : ℕ). wrote (unpacked Standard bytes k) out) (groups_packed Standard)
            ∙ ap (λ (l : List ℕ). wrote l out) (text_back Standard text ∙ same),
      )
