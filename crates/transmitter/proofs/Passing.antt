-- What the library wrote has room, and is just the answer.
use Prim.Native.Nat.{ℕ, ◌≤◌}
use native.Mathlib.Omega.{arith}
use mathlib.Core.Path.{◌≡◌, sym, ap₂, ◌∙◌}
use mathlib.Core.List.{List, [], ◌∷◌, ◌++◌}
use lib.ListN.{length, take, drop}
use lib.Seq.{take-append_seam}
use Rattle.std.specs.Prelude.{Result, Ok, Err}
use Rattle.std.specs.Result.{result_unwrap_or}
use Rattle.refusal.specs.declared.Refusal.{Refusal}
use Rattle.refusal.specs.Outcome.{done, ends, wrote, reply_of}
use Rattle.line.specs.declared.frame.Frame.{Frame}
use Rattle.device.specs.Device.{answering}
use Rattle.device.specs.Conversation.{answer_room, answer_bytes}
use Rattle.device.proofs.Room.{answer_short, answer_fits, never_too_long}

module _ (f : Frame) (before : List ℕ) {last : List ℕ} (room : answer_room ≤ length before) where
  module _ {n : ℕ} (e : ends (done (n ∷ [])) last ≡ answering f before) where
    written : ends (done (n ∷ [])) last ≡ wrote (answer_bytes f) before
    written = e ∙ answer_fits f before room

    size : n ≡ length (answer_bytes f)
    size = let k = written in cc

    front : take n last ≡ answer_bytes f
    front =
        let k = written in
        let l : last ≡ answer_bytes f ++ drop (length (answer_bytes f)) before = cc in
        ap₂ take size l ∙ take-append_seam (answer_bytes f) (drop (length (answer_bytes f)) before)

  -- it is never refused
  pub answer_within : (r : Result ℕ Refusal) → ends (reply_of r) last ≡ answering f before → length last ≡ length before → result_unwrap_or r 0 ≤ length last
  answer_within (Ok n) e same = omega (arith, size e, answer_short f)
  answer_within (Err r) e same = absurd (never_too_long f before room _ _ last (sym e))

  pub answer_front : (r : Result ℕ Refusal) → ends (reply_of r) last ≡ answering f before → take (result_unwrap_or r 0) last ≡ answer_bytes f
  answer_front (Ok n) e = front e
  answer_front (Err r) e = absurd (never_too_long f before room _ _ last (sym e))
