-- What the device says along a run goes on from run to run.
use Prim.Native.Nat.{ℕ}
use mathlib.Core.Path.{◌≡◌, refl, sym, ap, ◌∙◌}
use mathlib.Core.List.{List, [], ◌∷◌, ◌++◌, append_assoc}
use Rattle.line.specs.Events.{gather}
use Rattle.line.specs.Runs.{says}
use Rattle.line.specs.machine.Frames.{Heard}
use Rattle.line.proofs.Machines.{says-append}
use Rattle.framing.specs.Demand.{decoder_hears}
use Rattle.framing.specs.declared.decode.Decoder.{Decoder}
use Rattle.device.specs.Conversation.{answer_heard, listening, answers_along}

heard-append : (hs js : List Heard) → gather answer_heard (hs ++ js) ≡ gather answer_heard hs ++ gather answer_heard js
heard-append [] js = refl
heard-append (h ∷ hs) js = ap (λ (bs : List ℕ). answer_heard h ++ bs) (heard-append hs js) ∙ sym (append_assoc (answer_heard h) (gather answer_heard hs) (gather answer_heard js))

pub answers-append : (d : Decoder) (bs cs : List ℕ) → answers_along d (bs ++ cs) ≡ answers_along d bs ++ answers_along (listening d bs) cs
answers-append d bs cs =
    ap (gather answer_heard) (says-append decoder_hears d bs cs) ∙ heard-append (says decoder_hears d bs) (says decoder_hears (listening d bs) cs)
