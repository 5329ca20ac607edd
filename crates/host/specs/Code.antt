-- What only the code needs, and no sentence of document 01 says: how it makes a header from fewer fields than the header has, and its
-- answers before they are numbers.
use Rattle.std.specs.Prelude.{ℕ, ◌+◌, ◌^◌, cond, List, [], ◌∷◌, Option, Some, None, Result, Ok, Err}
use Rattle.refusal.specs.declared.Refusal.{Refusal}
use Rattle.refusal.specs.Table.{number_of}
use Rattle.line.specs.declared.state.State.{State}
use Rattle.host.specs.declared.block_header.Fields.{Fields}
use Rattle.host.specs.Bits.{width_of, side_by_side}
use Rattle.host.specs.Header.{header_widths}
use Rattle.host.specs.Block.{state_in, accepted}

-- a header is a number below this one
abbrev pub header_end : ℕ
header_end = 2 ^ width_of header_widths

-- what the code's fields come to: those that most phases have, and the counts, which stand at their places already
abbrev pub summed : Fields → ℕ
summed f = side_by_side header_widths (f.phase ∷ f.frame_type ∷ f.long ∷ 0 ∷ f.address ∷ 0 ∷ 0 ∷ 0 ∷ f.check ∷ 0 ∷ []) + f.counts

-- the state of a block that is accepted
abbrev pub state_accepted : List ℕ → Option State
state_accepted block = cond (accepted block) (Some (state_in block)) None

-- the number that C is given: of a call that is refused 1000 and that of the refusal
abbrev pub told_number : Result ℕ Refusal → ℕ
told_number (Ok n) = n
told_number (Err r) = 1000 + number_of r
