-- What the device says along a run of bytes that it hears.
use Rattle.std.specs.Prelude.{ℕ, ◌≡◌, true, List, [], ◌∷◌, map, length, Some, None, Ok, Err}
use Rattle.types.specs.declared.delimiter.FrameType.TheVariants.{Response}
use Rattle.line.specs.Pieces.{Piece, enough, Cut}
use Rattle.line.specs.Events.{verdict, gather, frames_in}
use Rattle.line.specs.Runs.{says, ends_in}
use Rattle.line.specs.Encode.{wire_of, layout, total}
use Rattle.line.specs.machine.Room.{data_room}
use Rattle.line.specs.machine.Frames.{padded, frame_of, Heard}
use Rattle.line.specs.machine.Demand.{frames_heard, refusals_heard}
use Rattle.line.specs.declared.frame.Frame.{Frame}
use Rattle.framing.specs.Feed.{fresh_decoder}
use Rattle.framing.specs.Demand.{decoder_hears}
use Rattle.framing.specs.declared.decode.Decoder.{Decoder}
use Rattle.response.specs.Sizes.{groups_end}
use Rattle.device.specs.Device.{Spoken, keeps_silent, speaks, answer_to}

-- no answer is longer than that of command 9 with eight variables, to a long address
abbrev pub answer_room : ℕ
answer_room = total enough true groups_end

-- the bytes that it sends after a frame, if any
abbrev pub sent_back : Frame → Spoken → List ℕ
sent_back f keeps_silent = []
sent_back f (speaks ds) = layout enough (wire_of Response f.address f.command ds)

unfoldable pub answer_bytes : Frame → List ℕ
answer_bytes f = sent_back f (answer_to f)

-- to what is heard at a byte it says something where that is a frame
abbrev pub answer_heard : Heard → List ℕ
answer_heard (Ok None) = []
answer_heard (Ok (Some f)) = answer_bytes f
answer_heard (Err r) = []

-- along a run: its decoder behind it, and all that it says
abbrev pub listening : Decoder → List ℕ → Decoder
listening d run = ends_in decoder_hears d run

abbrev pub answers_along : Decoder → List ℕ → List ℕ
answers_along d run = gather answer_heard (says decoder_hears d run)

-- the answer to a frame, if any, as a host is handed it
abbrev pub spoken_frames : Frame → Spoken → List Frame
spoken_frames f keeps_silent = []
spoken_frames f (speaks ds) = record {
  frame_type = Response;
  address = f.address;
  command = f.command;
  «data» = padded data_room ds;
  length = length ds;
} ∷ []

unfoldable pub answer_frames : Frame → List Frame
answer_frames f = spoken_frames f (answer_to f)

-- the run has one cut, and from a new decoder on the device says its answers to the frames of that cut, in their order
pub record Conversed (run : List ℕ) : Type 0 where
  pub pieces : List Piece
  pub rest : List ℕ
  pub cut : Cut run pieces rest
  pub only : (qs : List Piece) (u : List ℕ) → Cut run qs u → (pieces ≡ qs) × (rest ≡ u)
  pub answers : answers_along fresh_decoder run ≡ gather answer_bytes (map frame_of (gather frames_in (map verdict pieces)))

-- a host whose new decoder is fed all that the device says along the run hears its answers to the frames of the run, in their order,
-- and no other frame; and nothing is refused
pub record Overheard (run : List ℕ) : Type 0 where
  pub frames : frames_heard (says decoder_hears fresh_decoder (answers_along fresh_decoder run)) ≡ gather answer_frames (frames_heard (says decoder_hears fresh_decoder run))
  pub refusals : refusals_heard (says decoder_hears fresh_decoder (answers_along fresh_decoder run)) ≡ []
