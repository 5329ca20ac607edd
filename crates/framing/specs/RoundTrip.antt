-- Document 01, 'Wire layout' and 'Examples': what a decoder makes of a frame that the encoder wrote.
use Rattle.std.specs.Prelude.{ℕ, ◌-◌, ◌<◌, ◌≡◌, ◌≢◌, List, [], ◌∷◌, ◌++◌, map, length, take, replicate, Some, Ok}
use Rattle.refusal.specs.Outcome.{ends, done}
use Rattle.types.specs.declared.delimiter.FrameType.{FrameType}
use Rattle.types.specs.declared.address.Address.{Address}
use Rattle.types.specs.Address.{Ranged}
use Rattle.line.specs.Layout.{Wire}
use Rattle.line.specs.Pieces.{Piece, Bytes, joined}
use Rattle.line.specs.Events.{silence, said_by}
use Rattle.line.specs.Runs.{says}
use Rattle.line.specs.Encode.{wire_of, encoded}
use Rattle.line.specs.machine.Room.{data_room}
use Rattle.line.specs.machine.Frames.{padded, frame_of, Heard, heard_of}
use Rattle.framing.specs.Feed.{fresh_decoder}
use Rattle.line.specs.machine.Demand.{frames_heard}
use Rattle.framing.specs.Demand.{decoder_hears}
use Rattle.line.specs.declared.frame.Frame.{Frame}

-- what a caller hands to the encoder, each number that reaches the line in the range of its type
pub record Handed : Type 0 where
  pub frame_type : FrameType
  pub address : Address
  pub command : ℕ
  pub payload : List ℕ
  pub preamble_count : ℕ
  pub address_ranged : Ranged address
  pub command_small : command < 256
  pub payload_small : Bytes payload

-- as it stands on the line
abbrev pub written : Handed → Wire
written h = wire_of h.frame_type h.address h.command h.payload

-- the call wrote so many bytes, and left these in the buffer
abbrev pub IsDone : Handed → List ℕ → ℕ → List ℕ → Type 0
IsDone h before count after = encoded h.frame_type h.address h.command h.payload h.preamble_count before ≡ ends (done (count ∷ [])) after

-- the frame as it was handed over, and told to whoever reads it
abbrev pub frame_back : Handed → Frame
frame_back h = record {
  frame_type = h.frame_type;
  address = h.address;
  command = h.command;
  «data» = padded data_room h.payload;
  length = length h.payload;
}

abbrev pub heard_back : Handed → Heard
heard_back h = Ok (Some (frame_back h))

-- behind whole pieces, a new decoder hears what those say, then silence up to the last byte that was written, and there the frame
abbrev pub HeardBehind : Handed → List Piece → ℕ → List ℕ → Type 0
HeardBehind h ps count after =
    says decoder_hears fresh_decoder (joined ps ++ take count after) ≡ map heard_of (said_by ps) ++ (replicate (count - 1) (heard_of silence) ++ (heard_back h ∷ []))

-- a frame is none of some frames
abbrev pub Lacks : Frame → List Frame → Type 0
Lacks f [] = Unit {0}
Lacks f (g ∷ gs) = (f ≢ g) × Lacks f gs

-- a new decoder, fed what was written and no more, finds other frames at most: data can hold the bytes of one
abbrev pub NotFound : Handed → ℕ → List ℕ → Type 0
NotFound h count after = Lacks (frame_of (written h)) (frames_heard (says decoder_hears fresh_decoder (take count after)))
