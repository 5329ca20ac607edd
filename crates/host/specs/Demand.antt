-- Document 01, 'For the C host': which blocks are accepted; and the third demand, of the calls that a host makes.
use Rattle.std.specs.Prelude.{ℕ, ◌+◌, ◌≤◌, ◌≡◌, List, [], ◌∷◌, map, length, take, drop, replicate}
use Rattle.line.specs.Pieces.{Piece, Cut}
use Rattle.line.specs.Events.{Event, verdict, dictated, gather}
use Rattle.line.specs.machine.Feed.{Held, fresh}
use Rattle.line.specs.machine.Demand.{hears, Reached}
use Rattle.host.specs.Record.{record_of, record_room}
use Rattle.host.specs.Block.{block_size, block_of, Told, tells, fed_block, Cleared, clears, cleared_block}

-- a run of bytes leads a new decoder to just this block
pub record Brought (block : List ℕ) : Type 0 where
  pub decoder : Held
  pub reached : Reached hears fresh decoder
  pub is : block_of decoder ≡ block

-- a byte, and the room that the host lends with it
pub record Lending : Type 0 where
  pub byte : ℕ
  pub room : List ℕ

-- what a host does with its block: a call with a byte, or a clear
pub data HostCall : Type 0 where
  with_byte : Lending → HostCall
  to_clear : HostCall

-- what a call gives: a number, so many bytes at the front of the room, and the bytes of the room behind them. A clear is lent no room
pub record CallResult : Type 0 where
  pub number : ℕ
  pub bytes : List ℕ
  pub behind : List ℕ

abbrev pub given_by : ℕ → List ℕ → CallResult
given_by n room = record { number = n; bytes = take n room; behind = drop n room }

abbrev pub fed_result : Told → List ℕ × CallResult
fed_result (tells n block room) = (block, given_by n room)

abbrev pub cleared_result : Cleared → List ℕ × CallResult
cleared_result (clears n block) = (block, given_by n [])

-- one call: the block for the next, and what it gives
abbrev pub calling : List ℕ → HostCall → List ℕ × CallResult
calling block (with_byte x) = fed_result (fed_block block x.room x.byte)
calling block to_clear = cleared_result (cleared_block block)

-- any calls, one behind another on one block: what each gives, and the block that they leave
abbrev pub given_along : List ℕ → List HostCall → List CallResult
given_along block [] = []
given_along block (c ∷ cs) = (calling block c).1 ∷ given_along (calling block c).0 cs

abbrev pub block_after : List ℕ → List HostCall → List ℕ
block_after block [] = block
block_after block (c ∷ cs) = block_after (calling block c).0 cs

abbrev pub clear : List ℕ
clear = replicate block_size 0

-- the run of the bytes, and room for the longest record with each
abbrev pub run_of : List Lending → List ℕ
run_of xs = map (λ (x : Lending). x.byte) xs

abbrev pub Roomy : List Lending → Type 0
Roomy [] = Unit {0}
Roomy (x ∷ xs) = (record_room ≤ length x.room) × Roomy xs

-- how long a room is that a call left
abbrev pub length_left : CallResult → ℕ
length_left g = length g.bytes + length g.behind

-- what an event must give: its record at the front of the room that was lent, its length, and behind it the room as it was
abbrev pub given_at : Event → List ℕ → CallResult
given_at e room = let bytes = record_of e in record { number = length bytes; bytes = bytes; behind = drop (length bytes) room }

abbrev pub given_all : List Event → List Lending → List CallResult
given_all [] xs = []
given_all (e ∷ es) [] = []
given_all (e ∷ es) (x ∷ xs) = given_at e x.room ∷ given_all es xs

-- a run has one cut; from a cleared block, and each with a room of its own, the calls give at each byte what the cut dictates, 0 and no byte
-- for silence, and every room is as long as it was; their records joined are those of the pieces; and after whole pieces the block is clear again
pub record Called (xs : List Lending) : Type 0 where
  pub pieces : List Piece
  pub rest : List ℕ
  pub cut : Cut (run_of xs) pieces rest
  pub only : (qs : List Piece) (u : List ℕ) → Cut (run_of xs) qs u → (pieces ≡ qs) × (rest ≡ u)
  pub answers : given_along clear (map with_byte xs) ≡ given_all (dictated pieces rest) xs
  pub kept : map length_left (given_along clear (map with_byte xs)) ≡ map (λ (x : Lending). length x.room) xs
  pub records : gather (λ (g : CallResult). g.bytes) (given_along clear (map with_byte xs)) ≡ gather record_of (map verdict pieces)
  pub again : rest ≡ [] → block_after clear (map with_byte xs) ≡ clear
