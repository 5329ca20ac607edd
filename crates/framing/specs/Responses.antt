-- Document 01, 'Commands': from the bytes of a line to what a command's typed reading gives; and document 02, 1/12: to a device's reading.
use Rattle.std.specs.Prelude.{ℕ, ◌≤◌, ◌≡◌, ◌≢◌, List, ◌++◌, length, get_or, drop, Some, Ok}
use Rattle.types.specs.declared.delimiter.FrameType.TheVariants.{Request}
use Rattle.line.specs.Layout.{Wire, preambles, body, check_of}
use Rattle.line.specs.Pieces.{Piece, joined}
use Rattle.line.specs.Runs.{ends_in}
use Rattle.line.specs.machine.Frames.{frame_of, Heard}
use Rattle.framing.specs.Feed.{fresh_decoder}
use Rattle.framing.specs.Demand.{decoder_hears}
use Rattle.framing.specs.Payload.{Reader, typed_in, typed_of}
use Rattle.framing.specs.Requests.{asked_in, asked_of}

-- a frame stands behind whole pieces: what a new decoder, fed all in front of the frame's check, hears at the check
abbrev pub heard_at_check : List Piece → ℕ → Wire → Heard
heard_at_check ps n w = (decoder_hears (ends_in decoder_hears fresh_decoder (joined ps ++ (preambles n ++ body w))) (check_of w)).1

-- a device's answer to a command: no request, both status bytes, and no error in the first
pub record Responds (wanted : ℕ) (w : Wire) : Type 0 where
  pub sent : w.opening.frame_type ≢ Request
  pub asked : w.command ≡ wanted
  pub statuses : 2 ≤ length w.payload
  pub clean : get_or w.payload 0 0 ≡ 0

-- a frame is found there, and a command's typed reading of it gives what its definition says of the payload as it stands on the line;
-- of an answer to that command, all behind the two status bytes is read
pub record HeardRead {A : Type 0} (k : Reader A) (ps : List Piece) (n : ℕ) (w : Wire) : Type 0 where
  pub answer : heard_at_check ps n w ≡ Ok (Some (frame_of w))
  pub reading : typed_of k (frame_of w) ≡ typed_in k w.opening.frame_type w.command w.payload
  pub response : Responds k.number w → typed_of k (frame_of w) ≡ k.read (drop 2 w.payload)

-- and document 02, 1/12: a device's reading of it gives what its definition says of the data as they stand on the line
pub record HeardAsked {A : Type 0} (k : Reader A) (ps : List Piece) (n : ℕ) (w : Wire) : Type 0 where
  pub answer : heard_at_check ps n w ≡ Ok (Some (frame_of w))
  pub asking : asked_of k (frame_of w) ≡ asked_in k w.opening.frame_type w.command w.payload
