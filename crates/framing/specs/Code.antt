-- What only the code needs, and no sentence of document 01 says: the encoder writes a frame's head, then the data, then the check.
use Rattle.std.specs.Prelude.{ℕ, ◌+◌, ◌-◌, cond, List, [], ◌∷◌, ◌++◌, ltb, take, drop}
use Rattle.octets.specs.Check.{check}
use Rattle.octets.specs.Put.{put_if_fits}
use Rattle.types.specs.declared.delimiter.FrameType.{FrameType}
use Rattle.types.specs.declared.address.Address.{Address}
use Rattle.types.specs.Delimiter.{delimiter}
use Rattle.types.specs.Address.{address_length, is_long, address_bytes}
use Rattle.line.specs.Layout.{preambles}
use Rattle.line.specs.Encode.{opening_of}

-- the bytes in front of the data: preamble, delimiter, address, command, and the count of the data
abbrev pub head : FrameType → Address → ℕ → ℕ → ℕ → List ℕ
head t a c count n = preambles n ++ (delimiter (opening_of t a) ∷ (address_bytes a ++ (c ∷ count ∷ [])))

-- where the data begin: the head's length
abbrev pub data_place : Address → ℕ → ℕ
data_place a n = n + 3 + address_length (is_long a)

-- the check of what stands from one place up to another, put behind it where there is room
unfoldable pub sealed : List ℕ → ℕ → ℕ → List ℕ
sealed buffer from to = cond (ltb to from) buffer (put_if_fits buffer to (check (take (to - from) (drop from buffer)) ∷ []))
