-- What each call comes to, case by case: callers cite these laws and not the definitions' text.
use Prim.Native.Nat.{ℕ, ◌/◌, ◌%◌, ◌≤◌, ◌<◌}
use mathlib.Core.Path.{◌≡◌}
use mathlib.Core.List.{List, [], ◌∷◌}
use lib.ListN.{length}
use borrow.Author.Tests.{lt-ltb, le-ltb, eq-eqb, ne_eqb}
use Rattle.refusal.specs.Outcome.{wrote, refuses}
use Rattle.packed_string.specs.declared.text_group.Mode.TheVariants.{Standard}
use Rattle.packed_string.specs.Groups.{groups, packed, unpacked}
use Rattle.packed_string.specs.Plain.{bad_place}
use Rattle.packed_string.specs.Standard.{standard_packed, standard_unpacked}

module _ (text buffer : List ℕ) where
  pub standard_packs_no_room : length buffer / 3 < groups (length text) → standard_packed text buffer ≡ refuses 2 [] buffer
  unfolding standard_packed
  standard_packs_no_room h = rw (lt-ltb (length buffer / 3) (groups (length text)) h)

  pub standard_packs_bad : groups (length text) ≤ length buffer / 3 → bad_place text < length text → standard_packed text buffer ≡ refuses 7 (bad_place text ∷ []) buffer
  unfolding standard_packed
  standard_packs_bad h k = rw (le-ltb (length buffer / 3) (groups (length text)) h, lt-ltb (bad_place text) (length text) k)

  pub standard_packs : groups (length text) ≤ length buffer / 3 → length text ≤ bad_place text → standard_packed text buffer ≡ wrote (packed Standard text (groups (length text))) buffer
  unfolding standard_packed
  standard_packs h k = rw (le-ltb (length buffer / 3) (groups (length text)) h, le-ltb (bad_place text) (length text) k)

module _ (bytes buffer : List ℕ) where
  pub standard_unpacks_left_over : (length bytes % 3 ≡ 0 → ⊥) → standard_unpacked bytes buffer ≡ refuses 3 [] buffer
  unfolding standard_unpacked
  standard_unpacks_left_over h = rw (ne_eqb (length bytes % 3) 0 h)

  pub standard_unpacks_no_room : length bytes % 3 ≡ 0 → length buffer / 4 < length bytes / 3 → standard_unpacked bytes buffer ≡ refuses 2 [] buffer
  unfolding standard_unpacked
  standard_unpacks_no_room e h = rw (eq-eqb (length bytes % 3) 0 e, lt-ltb (length buffer / 4) (length bytes / 3) h)

  pub standard_unpacks : length bytes % 3 ≡ 0 → length bytes / 3 ≤ length buffer / 4 → standard_unpacked bytes buffer ≡ wrote (unpacked Standard bytes (length bytes / 3)) buffer
  unfolding standard_unpacked
  standard_unpacks e h = rw (eq-eqb (length bytes % 3) 0 e, le-ltb (length buffer / 4) (length bytes / 3) h)
