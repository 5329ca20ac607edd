-- Packed text in crate mode, as document 01 has it under that heading, and what a text that was written reads back as, in either mode.
use Rattle.std.specs.Prelude.{ℕ, ◌*◌, ◌-◌, List, ◌++◌, length, replicate}
use Rattle.refusal.specs.Outcome.{Outcome, wrote}
use Rattle.packed_string.specs.declared.text_group.Mode.{Mode}
use Rattle.packed_string.specs.declared.text_group.Mode.TheVariants.{Crate}
use Rattle.packed_string.specs.Group.{code_of, char_of}
use Rattle.packed_string.specs.Groups.{groups, packed, unpacked, packed_count, unpacked_count}

-- Crate mode packs the groups that fit whole, unpacks the whole groups that are there and fit, and refuses nothing.
unfoldable pub crate_packed : List ℕ → List ℕ → Outcome
crate_packed text buffer = wrote (packed Crate text (packed_count text buffer)) buffer

unfoldable pub crate_unpacked : List ℕ → List ℕ → Outcome
crate_unpacked bytes buffer = wrote (unpacked Crate bytes (unpacked_count bytes buffer)) buffer

-- what a character reads back as once it was written
abbrev pub read_back : Mode → ℕ → ℕ
read_back mode character = char_of mode (code_of mode character)

-- a text with the spaces that fill its last group
abbrev pub filled : List ℕ → List ℕ
filled text = text ++ replicate (groups (length text) * 4 - length text) 0x20
