-- Document 01, 'Packed text': text in the mode that a command is called with, and how a layout that holds such text is written.
use Rattle.std.specs.Prelude.{ℕ, ◌*◌, ◌/◌, cond, List, [], ◌∷◌, length, ltb}
use Rattle.refusal.specs.Outcome.{Outcome, wrote, refuses}
use Rattle.packed_string.specs.declared.text_group.Mode.{Mode}
use Rattle.packed_string.specs.declared.text_group.Mode.TheVariants.{Crate, Standard}
use Rattle.packed_string.specs.Groups.{groups, packed, unpacked}
use Rattle.packed_string.specs.Plain.{bad_place}
use Rattle.packed_string.specs.Standard.{standard_packed, standard_unpacked}
use Rattle.packed_string.specs.Text.{crate_packed, crate_unpacked}

-- all groups of a text, packed, and all whole groups of some bytes, unpacked
abbrev pub packed_text : Mode → List ℕ → List ℕ
packed_text mode text = packed mode text (groups (length text))

abbrev pub unpacked_text : Mode → List ℕ → List ℕ
unpacked_text mode bytes = unpacked mode bytes (length bytes / 3)

-- the bytes that a text of n characters takes
abbrev pub packed_size : ℕ → ℕ
packed_size n = groups n * 3

-- what packing and unpacking come to in a mode
unfoldable pub packed_in : Mode → List ℕ → List ℕ → Outcome
packed_in Crate text buffer = crate_packed text buffer
packed_in Standard text buffer = standard_packed text buffer

unfoldable pub unpacked_in : Mode → List ℕ → List ℕ → Outcome
unpacked_in Crate bytes buffer = crate_unpacked bytes buffer
unpacked_in Standard bytes buffer = standard_unpacked bytes buffer

-- the place of the first character that a mode has no code for, or the length: crate mode has one for each
unfoldable pub bad_in : Mode → List ℕ → ℕ
bad_in Crate text = length text
bad_in Standard text = bad_place text

-- a layout of `size` bytes that holds text: a buffer without room for all of them is refused with 2, and only then a character without a
-- code with 7, at its place in the whole text
unfoldable pub fields_written : Mode → ℕ → List ℕ → List ℕ → List ℕ → Outcome
fields_written mode size text bytes buffer =
    cond (ltb (length buffer) size) (refuses 2 [] buffer)
    (cond (ltb (bad_in mode text) (length text)) (refuses 7 (bad_in mode text ∷ []) buffer)
    (wrote bytes buffer))
