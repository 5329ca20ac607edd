-- Document 01, 'Wire layout': frame types, and the six delimiters.
use Rattle.std.specs.Prelude.{ℕ, ◌+◌, ◌%◌, Bool, cond, eqb, Option, Some, None}
use Rattle.octets.specs.Bit.{bit}
use Rattle.types.specs.declared.delimiter.FrameType.{FrameType}
use Rattle.types.specs.declared.delimiter.FrameType.TheVariants.{Request, Response, Burst}
use Rattle.types.specs.declared.delimiter.Opening.{Opening}

-- document 01, 'For the C host', counts the types from 0
abbrev pub type_number : FrameType → ℕ
type_number Request = 0
type_number Response = 1
type_number Burst = 2

abbrev pub opening : FrameType → Bool → Opening
opening t long = record { frame_type = t; is_long = long }

-- the delimiter of a frame with a short address; with a long one bit 7 is set: request 02 and 82, response 06 and 86, burst 01 and 81
abbrev pub short_delimiter : FrameType → ℕ
short_delimiter Request = 0x02
short_delimiter Response = 0x06
short_delimiter Burst = 0x01

abbrev pub delimiter : Opening → ℕ
delimiter o = cond o.is_long 0x80 0 + short_delimiter o.frame_type

-- what a byte says if it is a delimiter
abbrev pub delimiter_type : ℕ → FrameType
delimiter_type b = cond (eqb (b % 8) 6) Response (cond (eqb (b % 8) 1) Burst Request)

abbrev pub opening_at : ℕ → Opening
opening_at b = opening (delimiter_type b) (bit 7 b)

-- and it is one if just this byte is made of what it says
unfoldable pub delimiter_of : ℕ → Option Opening
delimiter_of b = cond (eqb (delimiter (opening_at b)) b) (Some (opening_at b)) None
