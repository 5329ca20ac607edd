-- Packed text in standard mode, as document 01 has it under 'Packed text' (ADDED).
use Rattle.std.specs.Prelude.{ℕ, ◌/◌, ◌%◌, cond, not, List, [], ◌∷◌, length, ltb, eqb}
use Rattle.refusal.specs.Outcome.{Outcome, wrote, refuses}
use Rattle.packed_string.specs.declared.text_group.Mode.TheVariants.{Standard}
use Rattle.packed_string.specs.Groups.{groups, packed, unpacked}
use Rattle.packed_string.specs.Plain.{bad_place}

-- Standard mode packs all or nothing: 2 for want of room comes before 7 for a character that has no code, at its place.
unfoldable pub standard_packed : List ℕ → List ℕ → Outcome
standard_packed text buffer =
    cond (ltb (length buffer / 3) (groups (length text))) (refuses 2 [] buffer)
    (cond (ltb (bad_place text) (length text)) (refuses 7 (bad_place text ∷ []) buffer)
    (wrote (packed Standard text (groups (length text))) buffer))

-- Standard mode unpacks all or nothing: 3 for a broken last group comes before 2 for want of room.
unfoldable pub standard_unpacked : List ℕ → List ℕ → Outcome
standard_unpacked bytes buffer =
    cond (not (eqb (length bytes % 3) 0)) (refuses 3 [] buffer)
    (cond (ltb (length buffer / 4) (length bytes / 3)) (refuses 2 [] buffer)
    (wrote (unpacked Standard bytes (length bytes / 3)) buffer))
