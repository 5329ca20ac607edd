-- Document 01, 'Examples': the lines of the dump, as lists of ASCII codes.
use Rattle.std.specs.Prelude.{ℕ, ◌+◌, ◌*◌, Bool, true, cond, List, [], ◌∷◌, ◌++◌, map, eqb}
use Rattle.refusal.specs.declared.Refusal.{Refusal}
use Rattle.refusal.specs.Table.{number_of, values_of}
use Rattle.octets.specs.Figures.{decimal, hex_byte, hex}
use Rattle.types.specs.declared.delimiter.FrameType.{FrameType}
use Rattle.types.specs.declared.delimiter.FrameType.TheVariants.{Request, Response, Burst}
use Rattle.types.specs.Address.{address_length, read_address, address_bytes}
use Rattle.line.specs.Layout.{Wire, address_of, most_data}
use Rattle.line.specs.Events.{Event, silence, found, rejected}

-- a line is words with a space between two, and a newline at its end
abbrev pub space : List ℕ
space = 0x20 ∷ []

abbrev pub newline : List ℕ
newline = 0x0A ∷ []

abbrev pub line : List (List ℕ) → List ℕ
line [] = newline
line (w ∷ []) = w ++ newline
line (w ∷ v ∷ ws) = (w ++ space) ++ line (v ∷ ws)

-- Q, R or B
abbrev pub letter : FrameType → ℕ
letter Request = 0x51
letter Response = 0x52
letter Burst = 0x42

-- as our writer writes the address that was read
abbrev pub address_text : Bool → List ℕ → List ℕ
address_text long bs = hex (address_bytes (read_address long bs))

abbrev pub data_text : List ℕ → List ℕ
data_text [] = 0x2D ∷ []
data_text (b ∷ bs) = hex (b ∷ bs)

-- what a frame says, behind the place where it ended
unfoldable pub frame_line : ℕ → Wire → List ℕ
frame_line place w =
    line ((0x46 ∷ [])
    ∷ decimal place
    ∷ (letter w.opening.frame_type ∷ [])
    ∷ address_text w.opening.is_long (address_of w)
    ∷ decimal w.command
    ∷ data_text w.payload
    ∷ [])

-- refusals 4 and 5 by their letters, each with the values that it carries; a line's bytes get no other refusal
unfoldable pub refusal_line : ℕ → Refusal → List ℕ
refusal_line place r =
    cond (eqb (number_of r) 4) (line ((0x44 ∷ []) ∷ decimal place ∷ map hex_byte (values_of r)))
    (cond (eqb (number_of r) 5) (line ((0x43 ∷ []) ∷ decimal place ∷ map hex_byte (values_of r))) [])

abbrev pub line_of : ℕ → Event → List ℕ
line_of place silence = []
line_of place (found w) = frame_line place w
line_of place (rejected r) = refusal_line place r

-- the totals
unfoldable pub end_line : ℕ → ℕ → ℕ → List ℕ
end_line bytes frames refusals = line ((0x65 ∷ 0x6E ∷ 0x64 ∷ []) ∷ decimal bytes ∷ decimal frames ∷ decimal refusals ∷ [])

-- no line is longer than that of a frame with a place of 20 digits, a long address, a command of 3 digits and as many data as there can
-- be: F, the place, the type, address, command and data, each with a space or the newline behind it
abbrev pub line_max : ℕ
line_max = 2 + 21 + 2 + (2 * address_length true + 1) + 4 + (2 * most_data + 1)
