-- Document 01, 'Wire layout': a frame as its bytes stand on the line.
use Rattle.std.specs.Prelude.{ℕ, ◌≤◌, ◌≡◌, List, ◌∷◌, ◌++◌, length, take, replicate}
use Rattle.octets.specs.Check.{check}
use Rattle.types.specs.declared.delimiter.Opening.{Opening}
use Rattle.types.specs.Delimiter.{delimiter}
use Rattle.types.specs.Address.{address_length, head_length}

-- what a frame carries: what its delimiter says, the bytes between delimiter and command, the command and the data
pub record Wire : Type 0 where
  pub opening : Opening
  pub heading : List ℕ
  pub command : ℕ
  pub payload : List ℕ

-- the address, still in bytes
abbrev pub address_of : Wire → List ℕ
address_of w = take (address_length w.opening.is_long) w.heading

-- the byte count is one byte
abbrev pub most_data : ℕ
most_data = 255

-- there are as many bytes between delimiter and command as the delimiter says, and the byte count can tell how many the data are
pub record Fits (w : Wire) : Type 0 where
  pub heading_fits : length w.heading ≡ head_length w.opening
  pub count_fits : length w.payload ≤ most_data

-- N preamble bytes
abbrev pub preambles : ℕ → List ℕ
preambles n = replicate n 0xFF

-- delimiter, address, command, byte count, data
abbrev pub body : Wire → List ℕ
body w = delimiter w.opening ∷ (w.heading ++ (w.command ∷ length w.payload ∷ w.payload))

-- the check is taken over all of it
abbrev pub check_of : Wire → ℕ
check_of w = check (body w)
