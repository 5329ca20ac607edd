-- What the device says along a run is what the run's cut has it say.
use Prim.Native.Nat.{ℕ}
use mathlib.Core.Path.{◌≡◌, refl, ap, ◌∙◌}
use mathlib.Core.List.{List, [], ◌∷◌, ◌++◌}
use Rattle.line.specs.Pieces.{Bytes}
use Rattle.line.specs.Events.{gather}
use Rattle.line.specs.Runs.{says}
use Rattle.std.specs.Prelude.{Some, None, Ok, Err}
use Rattle.line.specs.machine.Frames.{Heard}
use Rattle.line.specs.machine.Demand.{frame_heard, frames_heard}
use Rattle.line.specs.declared.frame.Frame.{Frame}
use Rattle.framing.specs.Feed.{fresh_decoder}
use Rattle.framing.specs.Demand.{decoder_hears}
use Rattle.framing.proofs.Demand.{answered}
use Rattle.device.specs.Conversation.{answer_bytes, answer_heard, Conversed}

-- only frames are answered
frame_answered : (h : Heard) (bs : List ℕ) (fs : List Frame) → bs ≡ gather answer_bytes fs → answer_heard h ++ bs ≡ gather answer_bytes (frame_heard h ++ fs)
frame_answered (Ok None) bs fs e = e
frame_answered (Ok (Some f)) bs fs e = ap (λ (cs : List ℕ). answer_bytes f ++ cs) e
frame_answered (Err r) bs fs e = e

pub frames_answered : (hs : List Heard) → gather answer_heard hs ≡ gather answer_bytes (frames_heard hs)
frames_answered [] = refl
frames_answered (h ∷ hs) = frame_answered h (gather answer_heard hs) (frames_heard hs) (frames_answered hs)

pub answers_cut : (run : List ℕ) → Bytes run → Conversed run
answers_cut run k =
    let a = answered run k in
    record {
      pieces = a.pieces;
      rest = a.rest;
      cut = a.cut;
      only = a.only;
      answers = frames_answered (says decoder_hears fresh_decoder run) ∙ ap (gather answer_bytes) a.frames;
    }
