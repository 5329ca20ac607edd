-- Document 01, 'For the C host': the bits in front of a state block, and which state they say.
use Rattle.std.specs.Prelude.{ℕ, Bool, true, false, cond, List, [], ◌∷◌, eqb, get_or}
use Rattle.types.specs.declared.delimiter.FrameType.{FrameType}
use Rattle.types.specs.declared.delimiter.FrameType.TheVariants.{Request, Response, Burst}
use Rattle.types.specs.Delimiter.{type_number, opening}
use Rattle.types.specs.Address.{head_length}
use Rattle.line.specs.machine.Step.{head_of, opening_in}
use Rattle.line.specs.declared.state.Head.{Head}
use Rattle.line.specs.declared.state.State.{State}
use Rattle.line.specs.declared.state.State.TheVariants.{
  Hunting,
  Preamble,
  Address,
  Command,
  ByteCount,
  Data,
  Checksum,
}
use Rattle.host.specs.Bits.{side_by_side, apart}

-- phase, type, long, preamble count, address bytes received, data expected, data received, command, running check, and zero bits
abbrev pub header_widths : List ℕ
header_widths = 3 ∷ 2 ∷ 1 ∷ 3 ∷ 3 ∷ 8 ∷ 8 ∷ 8 ∷ 8 ∷ 4 ∷ []

abbrev pub long_bit : Bool → ℕ
long_bit false = 0
long_bit true = 1

-- the numbers in these fields: before a delimiter the preamble count alone
abbrev pub without_head : ℕ → ℕ → List ℕ
without_head phase preambles = phase ∷ 0 ∷ 0 ∷ preambles ∷ 0 ∷ 0 ∷ 0 ∷ 0 ∷ 0 ∷ 0 ∷ []

-- behind it what it said and the check so far, and no preamble count any more
abbrev pub with_head : ℕ → Head → ℕ → ℕ → ℕ → ℕ → List ℕ
with_head phase h address expected received command =
    phase ∷ type_number h.frame_type ∷ long_bit h.is_long ∷ 0 ∷ address ∷ expected ∷ received ∷ command ∷ h.check ∷ 0 ∷ []

-- the phases from 0; the address stays received behind its phase, and whatever is not yet read is zero
abbrev pub header_fields : State → List ℕ
header_fields Hunting = without_head 0 0
header_fields (Preamble n) = without_head 1 n
header_fields (Address h k) = with_head 2 h k 0 0 0
header_fields (Command h) = with_head 3 h (head_length (opening_in h)) 0 0 0
header_fields (ByteCount h c) = with_head 4 h (head_length (opening_in h)) 0 0 c
header_fields (Data h c e n) = with_head 5 h (head_length (opening_in h)) e n c
header_fields (Checksum h c e) = with_head 6 h (head_length (opening_in h)) e e c

unfoldable pub header_of : State → ℕ
header_of s = side_by_side header_widths (header_fields s)

-- read again, whatever the numbers are: that nothing else stands in the bits is for `header_of` to tell
abbrev pub type_numbered : ℕ → FrameType
type_numbered n = cond (eqb n 1) Response (cond (eqb n 2) Burst Request)

abbrev pub head_said : ℕ → ℕ → ℕ → Head
head_said type long check = head_of (opening (type_numbered type) (eqb long 1)) check

-- a phase of seven, which no header has, is read as hunting
abbrev pub state_said : ℕ → ℕ → ℕ → ℕ → ℕ → ℕ → ℕ → ℕ → ℕ → State
state_said phase type long preambles address expected received command check =
    let h = head_said type long check in
    cond (eqb phase 1) (Preamble preambles)
    (cond (eqb phase 2) (Address h address)
    (cond (eqb phase 3) (Command h)
    (cond (eqb phase 4) (ByteCount h command)
    (cond (eqb phase 5) (Data h command expected received)
    (cond (eqb phase 6) (Checksum h command expected)
    Hunting)))))

-- the fields in their order, but for the zero bits
abbrev pub state_by : List ℕ → State
state_by ns = let at : ℕ → ℕ = λ i. get_or ns i 0 in state_said (at 0) (at 1) (at 2) (at 3) (at 4) (at 5) (at 6) (at 7) (at 8)

unfoldable pub state_at : ℕ → State
state_at n = state_by (apart header_widths n)
