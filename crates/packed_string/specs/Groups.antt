-- Packed text, as document 01 has it under that heading: its groups. Texts and packed bytes are lists of numbers below 256.
use Rattle.std.specs.Prelude.{ℕ, ◌+◌, ◌*◌, ◌/◌, min, List, [], ◌∷◌, map, length, get_or}
use Rattle.octets.specs.Put.{first_parts}
use Rattle.packed_string.specs.declared.text_group.Mode.{Mode}
use Rattle.packed_string.specs.Group.{pack_group, unpack_group, code_of, char_of}

-- Group g of a text, with spaces past its end, and of packed bytes.
abbrev pub chars_at : List ℕ → ℕ → List ℕ
chars_at text g = get_or text (g * 4) 0x20 ∷ get_or text (g * 4 + 1) 0x20 ∷ get_or text (g * 4 + 2) 0x20 ∷ get_or text (g * 4 + 3) 0x20 ∷ []

abbrev pub bytes_at : List ℕ → ℕ → List ℕ
bytes_at bytes g = get_or bytes (g * 3) 0 ∷ get_or bytes (g * 3 + 1) 0 ∷ get_or bytes (g * 3 + 2) 0 ∷ []

abbrev pub packed_group : Mode → List ℕ → ℕ → List ℕ
packed_group mode text g = pack_group (map (code_of mode) (chars_at text g))

abbrev pub unpacked_group : Mode → List ℕ → ℕ → List ℕ
unpacked_group mode bytes g = map (char_of mode) (unpack_group (bytes_at bytes g))

-- the first groups of a text, packed, and of some bytes, unpacked
abbrev pub packed : Mode → List ℕ → ℕ → List ℕ
packed mode text g = first_parts (packed_group mode text) g

abbrev pub unpacked : Mode → List ℕ → ℕ → List ℕ
unpacked mode bytes g = first_parts (unpacked_group mode bytes) g

-- how many groups a text of n characters takes, the last one filled
abbrev pub groups : ℕ → ℕ
groups n = (n + 3) / 4

-- how many groups of a text a buffer takes whole, and of the whole groups of some bytes, as characters
abbrev pub packed_count : List ℕ → List ℕ → ℕ
packed_count text buffer = min (groups (length text)) (length buffer / 3)

abbrev pub unpacked_count : List ℕ → List ℕ → ℕ
unpacked_count bytes buffer = min (length bytes / 3) (length buffer / 4)
