-- Text in either mode, for the commands: how long it is, where its first bad character stands, and what packing, unpacking and a
-- layout with text in it come to.
use Prim.Native.Nat.{ℕ, ◌+◌, ◌*◌, ◌/◌, ◌%◌, ◌≤◌, ◌<◌}
use native.Mathlib.Nat.{min-eq_left}
use native.Mathlib.Omega.{arith}
use mathlib.Core.Path.{◌≡◌, refl, sym, ap, ◌∙◌}
use mathlib.Core.Bool.{Bool, true, false, cond}
use mathlib.Core.List.{List, [], ◌∷◌, ◌++◌, append-nil}
use lib.ListN.{length, drop, length-append, length-take, length-drop, drop_of_length-le}
use lib.Dec.{ltb}
use borrow.Author.Tests.{lt-ltb, le-ltb, ltb-true, ltb-false}
use borrow.Rule.Slice.PartMut.{mid_of, put_mid}
use Rattle.refusal.specs.Outcome.{Reply, done, Outcome, ends, wrote, refuses}
use Rattle.octets.specs.Put.{put}
use Rattle.octets.proofs.Put.{lent_part}
use Rattle.packed_string.specs.declared.text_group.Mode.{Mode}
use Rattle.packed_string.specs.declared.text_group.Mode.TheVariants.{Crate, Standard}
use Rattle.packed_string.specs.Groups.{groups}
use Rattle.packed_string.proofs.Groups.{length-packed, length-unpacked}
use Rattle.packed_string.specs.Plain.{bad_place}
use Rattle.packed_string.proofs.BadPlace.{place_within, bad_append_first, bad_append_second, place_plain}
use Rattle.packed_string.specs.Standard.{standard_packed}
use Rattle.packed_string.proofs.StandardCalls.{standard_packs_bad, standard_packs, standard_unpacks}
use Rattle.packed_string.proofs.Calls.{crate_packs, crate_unpacks}
use Rattle.packed_string.specs.Modes.{packed_text, unpacked_text, packed_size, packed_in, unpacked_in, bad_in, fields_written}

pub length-packed_text : (mode : Mode) (text : List ℕ) → length (packed_text mode text) ≡ packed_size (length text)
length-packed_text mode text = length-packed mode text (groups (length text))

-- by its count of characters
pub packed_text_size : (mode : Mode) (text : List ℕ) {n : ℕ} → length text ≡ n → length (packed_text mode text) ≡ packed_size n
packed_text_size mode text e = length-packed_text mode text ∙ ap packed_size e

length-unpacked_text : (mode : Mode) (bytes : List ℕ) → length (unpacked_text mode bytes) ≡ length bytes / 3 * 4
length-unpacked_text mode bytes = length-unpacked mode bytes (length bytes / 3)

-- crate mode has a code for each character
pub crate_good : (text : List ℕ) → length text ≤ bad_in Crate text
unfolding bad_in
crate_good text = omega arith

pub bad_in_within : (mode : Mode) (text : List ℕ) → bad_in mode text ≤ length text
unfolding bad_in
bad_in_within Crate text = omega arith
bad_in_within Standard text = place_within text

-- of two texts, one behind the other: the first's bad place, or past it the second's
pub bad_in_first : (mode : Mode) (s t : List ℕ) → bad_in mode s < length s → bad_in mode (s ++ t) ≡ bad_in mode s
unfolding bad_in
bad_in_first Crate s t h = absurd (omega arith)
bad_in_first Standard s t h = bad_append_first s t h

pub bad_in_second : (mode : Mode) (s t : List ℕ) → length s ≤ bad_in mode s → bad_in mode (s ++ t) ≡ length s + bad_in mode t
unfolding bad_in
bad_in_second Crate s t h = length-append s t
bad_in_second Standard s t h = bad_append_second s t (place_plain s h)

-- where both together have no bad character, neither has one
module _ (mode : Mode) (s t : List ℕ) (good : length s + length t ≤ bad_in mode (s ++ t)) where
  pub good_in_first : length s ≤ bad_in mode s
  good_in_first = by (ltb (bad_in mode s) (length s)) refl
    where
      by : (bad : Bool) → ltb (bad_in mode s) (length s) ≡ bad → length s ≤ bad_in mode s
      by true e = let h = ltb-true (bad_in mode s) (length s) e in absurd (omega (arith, bad_in_first mode s t h))
      by false e = ltb-false (bad_in mode s) (length s) e

  pub good_in_second : length t ≤ bad_in mode t
  good_in_second = omega (arith, bad_in_second mode s t good_in_first)

-- what 7 and the writing come to, once there is room
abbrev pub with_room : Mode → List ℕ → List ℕ → List ℕ → Outcome
with_room mode text bytes buffer = cond (ltb (bad_in mode text) (length text)) (refuses 7 (bad_in mode text ∷ []) buffer) (wrote bytes buffer)

pub packs_in : (mode : Mode) (text part : List ℕ) → groups (length text) ≤ length part / 3 → packed_in mode text part ≡ with_room mode text (packed_text mode text) part
unfolding packed_in bad_in
packs_in Crate text part h = rw (le-ltb (length text) (length text) (omega arith)) (crate_packs text part (min-eq_left h))
packs_in Standard text part h = by (ltb (bad_place text) (length text)) refl
  where
    by : (bad : Bool) → ltb (bad_place text) (length text) ≡ bad → standard_packed text part ≡ cond bad (refuses 7 (bad_place text ∷ []) part) (wrote (packed_text Standard text) part)
    by true e = standard_packs_bad text part h (ltb-true (bad_place text) (length text) e)
    by false e = standard_packs text part h (ltb-false (bad_place text) (length text) e)

packs_good : (mode : Mode) (text part : List ℕ) → groups (length text) ≤ length part / 3 → length text ≤ bad_in mode text → packed_in mode text part ≡ wrote (packed_text mode text) part
packs_good mode text part h k = packs_in mode text part h ∙ rw (le-ltb (bad_in mode text) (length text) k)

-- what a call left in its buffer
abbrev pub left_by : Outcome → List ℕ
left_by (ends reply buffer) = buffer

-- a part of n bytes at place `at`, lent to a call that packed a text of just that size: it stands in the buffer at that place
pub lent_text : (mode : Mode) (text l : List ℕ) (at n : ℕ) {r : Reply} {part : List ℕ} → at + n ≤ length l → packed_size (length text) ≡ n → length text ≤ bad_in mode text
    → ends r part ≡ packed_in mode text (mid_of at n l) → put_mid at n l part ≡ put l at (packed_text mode text)
lent_text mode text l at n h e k f =
    let size : length (packed_text mode text) ≡ n = length-packed_text mode text ∙ e in
    let room : groups (length text) ≤ length (mid_of at n l) / 3 = omega (arith, length-take n (drop at l), length-drop at l) in
    lent_part l at n (packed_text mode text) (omega arith) (omega arith) (ap left_by (f ∙ packs_good mode text (mid_of at n l) room k))

unpacks_in : (mode : Mode) (bytes buffer : List ℕ) → length bytes % 3 ≡ 0 → length bytes / 3 ≤ length buffer / 4 → unpacked_in mode bytes buffer ≡ wrote (unpacked_text mode bytes) buffer
unfolding unpacked_in
unpacks_in Crate bytes buffer e h = crate_unpacks bytes buffer (min-eq_left h)
unpacks_in Standard bytes buffer e h = standard_unpacks bytes buffer e h

-- into a buffer that the characters just fill
pub unpacks_full : (mode : Mode) (bytes buffer : List ℕ) → length bytes % 3 ≡ 0 → length bytes / 3 * 4 ≡ length buffer
    → unpacked_in mode bytes buffer ≡ ends (done (length (unpacked_text mode bytes) ∷ [])) (unpacked_text mode bytes)
unpacks_full mode bytes buffer e h =
    let u = unpacked_text mode bytes in
    unpacks_in mode bytes buffer e (omega arith)
    ∙ ap (λ (r : List ℕ). ends (done (length u ∷ [])) (u ++ r)) (drop_of_length-le buffer {i = length u} (omega (arith, length-unpacked_text mode bytes)))
    ∙ ap (ends (done (length u ∷ []))) (append-nil u)

-- what a layout with text in it comes to
module _ (mode : Mode) (size : ℕ) (text bytes buffer : List ℕ) where
  pub fields_small : length buffer < size → fields_written mode size text bytes buffer ≡ refuses 2 [] buffer
  unfolding fields_written
  fields_small h = rw (lt-ltb (length buffer) size h)

  pub fields_in : size ≤ length buffer → fields_written mode size text bytes buffer ≡ with_room mode text bytes buffer
  unfolding fields_written
  fields_in h = rw (le-ltb (length buffer) size h)

  pub fields_bad : size ≤ length buffer → bad_in mode text < length text → fields_written mode size text bytes buffer ≡ refuses 7 (bad_in mode text ∷ []) buffer
  fields_bad h k = fields_in h ∙ rw (lt-ltb (bad_in mode text) (length text) k)

  pub fields_fit : size ≤ length buffer → length text ≤ bad_in mode text → fields_written mode size text bytes buffer ≡ wrote bytes buffer
  fields_fit h k = fields_in h ∙ rw (le-ltb (bad_in mode text) (length text) k)

  -- a call that was done has put the layout at the front and left the rest
  pub fields_done : {values left : List ℕ} → fields_written mode size text bytes buffer ≡ ends (done values) left → left ≡ bytes ++ drop (length bytes) buffer
  unfolding fields_written
  fields_done {values} {left} = by (ltb (length buffer) size) (ltb (bad_in mode text) (length text))
    where
      by : (small bad : Bool) → cond small (refuses 2 [] buffer) (cond bad (refuses 7 (bad_in mode text ∷ []) buffer) (wrote bytes buffer)) ≡ ends (done values) left → left ≡ bytes ++ drop (length bytes) buffer
      by true bad e = cc
      by false true e = cc
      by false false e = sym (ap left_by e)
