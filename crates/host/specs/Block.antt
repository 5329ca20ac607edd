-- Document 01, 'For the C host': the state block, which blocks are accepted, and what the two calls come to.
use Rattle.std.specs.Prelude.{ℕ, ◌+◌, ◌/◌, Bool, cond, ◌&&◌, List, ◌++◌, eqb, leb, length, take, drop, replicate}
use Rattle.octets.specs.Digits.{digits, from_digits}
use Rattle.octets.specs.Put.{put}
use Rattle.line.specs.Events.{Event}
use Rattle.line.specs.machine.Room.{decoder_room}
use Rattle.line.specs.machine.Feed.{Held, holding, reachable, stepped}
use Rattle.line.specs.declared.state.State.{State}
use Rattle.host.specs.Bits.{width_of}
use Rattle.host.specs.Header.{header_widths, header_of, state_at}
use Rattle.host.specs.Record.{record_of, record_room}

-- the header's bytes stand in front of those that a decoder holds
abbrev pub header_size : ℕ
header_size = width_of header_widths / 8

abbrev pub block_size : ℕ
block_size = header_size + decoder_room

-- what a decoder holds, as a block
abbrev pub block_of : Held → List ℕ
block_of d = digits 256 header_size (header_of d.state) ++ d.bytes

-- what a block holds
abbrev pub header_in : List ℕ → ℕ
header_in block = from_digits 256 (take header_size block)

abbrev pub state_in : List ℕ → State
state_in block = state_at (header_in block)

abbrev pub held_in : List ℕ → Held
held_in block = holding (state_in block) (drop header_size block)

-- the header says a state and nothing else, and some run leads a new decoder to what the block holds: see Demand
unfoldable pub accepted : List ℕ → Bool
accepted block = eqb (header_of (state_in block)) (header_in block) && reachable (held_in block)

-- what a call comes to: the number given back, the block, and the room
pub data Told : Type 0 where
  tells : ℕ → List ℕ → List ℕ → Told

-- a refusal of the call has 1000 and its number, and leaves block and room as they were
abbrev pub refusing : ℕ → List ℕ → List ℕ → Told
refusing number block lent = tells (1000 + number) block lent

-- the record at the front of the room, and its length: none for silence
abbrev pub recorded : Held × Event → List ℕ → Told
recorded x lent = tells (length (record_of x.1)) (block_of x.0) (put lent 0 (record_of x.1))

-- a call with a byte is refused for its block first, and then for its room, even where the byte will bring no record
unfoldable pub fed_block : List ℕ → List ℕ → ℕ → Told
fed_block block lent b =
    cond (accepted block)
    (cond (leb record_room (length lent)) (recorded (stepped (held_in block) b) lent) (refusing 2 block lent))
    (refusing 8 block lent)

-- a block is cleared whatever stands in it; another length gets 8
pub data Cleared : Type 0 where
  clears : ℕ → List ℕ → Cleared

unfoldable pub cleared_block : List ℕ → Cleared
cleared_block block = cond (eqb (length block) block_size) (clears 0 (replicate block_size 0)) (clears (1000 + 8) block)
