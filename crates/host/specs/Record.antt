-- Document 01, 'For the C host': the record that the host is given where a piece is over.
use Rattle.std.specs.Prelude.{ℕ, ◌+◌, cond, List, [], ◌∷◌, ◌++◌, eqb, length}
use Rattle.refusal.specs.declared.Refusal.{Refusal}
use Rattle.refusal.specs.Table.{number_of, values_of}
use Rattle.types.specs.declared.delimiter.Opening.{Opening}
use Rattle.types.specs.Delimiter.{type_number}
use Rattle.types.specs.Address.{head_room, read_address, address_bytes}
use Rattle.line.specs.Layout.{Wire, address_of}
use Rattle.line.specs.Events.{Event, silence, found, rejected}
use Rattle.line.specs.machine.Room.{data_room}
use Rattle.host.specs.Bits.{side_by_side}
use Rattle.host.specs.Header.{long_bit}

-- the first byte: kind, type, long, and zero bits
abbrev pub record_widths : List ℕ
record_widths = 2 ∷ 2 ∷ 1 ∷ 3 ∷ []

-- of a frame it says what the delimiter said
abbrev pub frame_first : Opening → ℕ
frame_first o = side_by_side record_widths (0 ∷ type_number o.frame_type ∷ long_bit o.is_long ∷ 0 ∷ [])

-- of a refusal type and long are zero
abbrev pub refusal_first : ℕ → ℕ
refusal_first kind = side_by_side record_widths (kind ∷ 0 ∷ 0 ∷ 0 ∷ [])

-- kind 0, a frame: its address as we write it, the command, the count and the data
abbrev pub frame_record : Wire → List ℕ
frame_record w =
    frame_first w.opening ∷ (address_bytes (read_address w.opening.is_long (address_of w)) ++ (w.command ∷ length w.payload ∷ w.payload))

-- refusals 4 and 5 are kinds 1 and 2, each with the values that it carries. No other refuses what comes from a line
abbrev pub refusal_record : Refusal → List ℕ
refusal_record r =
    cond (eqb (number_of r) 4) (refusal_first 1 ∷ values_of r)
    (cond (eqb (number_of r) 5) (refusal_first 2 ∷ values_of r)
    [])

-- silence has none
unfoldable pub record_of : Event → List ℕ
record_of silence = []
record_of (found w) = frame_record w
record_of (rejected r) = refusal_record r

-- room for the longest: first byte, address, command, count and data
abbrev pub record_room : ℕ
record_room = 1 + head_room + 2 + data_room
