-- What a device's reading of a request comes to, of any command: callers cite these and not the text of the definitions.
use Prim.Native.Nat.{ℕ}
use mathlib.Core.Path.{◌≡◌, refl, sym, ap, ◌∙◌}
use mathlib.Core.Logic.{◌≢◌}
use mathlib.Core.Bool.{Bool, true, false, cond}
use mathlib.Core.List.{List, []}
use lib.ListN.{take}
use lib.Dec.{eqb}
use borrow.Author.Tests.{eq-eqb, ne_eqb}
use Rattle.types.specs.declared.delimiter.FrameType.{FrameType}
use Rattle.types.specs.declared.delimiter.FrameType.TheVariants.{Request, Response, Burst}
use Rattle.line.specs.Layout.{Wire}
use Rattle.line.specs.machine.Frames.{frame_of}
use Rattle.line.specs.declared.frame.Frame.{Frame}
use Rattle.framing.specs.Payload.{Judgement, carries, withheld, Reader}
use Rattle.framing.specs.Requests.{read_on, request_judgement, asked, asked_in, asked_of, no_data}
use Rattle.framing.proofs.Payloads.{frame_data}

module _ (wanted : ℕ) (t : FrameType) (command : ℕ) where
  pub asked_same : command ≡ wanted → asked wanted t command ≡ request_judgement t
  unfolding asked
  asked_same e = rw (eq-eqb command wanted e)

  pub asked_other : command ≢ wanted → asked wanted t command ≡ withheld 6 []
  unfolding asked
  asked_other n = rw (ne_eqb command wanted n)

module _ {A : Type 0} (k : Reader A) where
  module _ (t : FrameType) (command : ℕ) (ds : List ℕ) where
    judged_as : {j : Judgement} → asked k.number t command ≡ j → asked_in k t command ds ≡ read_on k j ds
    unfolding asked_in
    judged_as e = ap (λ (j : Judgement). read_on k j ds) e

    pub asked_carried : command ≡ k.number → t ≡ Request → asked_in k t command ds ≡ k.read ds
    asked_carried same e = judged_as (asked_same k.number t command same ∙ ap request_judgement e)

    -- 6 comes before whatever the data would get
    pub asked_of_other : command ≢ k.number → asked_in k t command ds ≡ k.refuse 6 []
    unfolding asked_in
    asked_of_other n = ap (λ (j : Judgement). read_on k j ds) (asked_other k.number t command n)

    pub asked_of_no_request : t ≢ Request → asked_in k t command ds ≡ k.refuse 6 []
    unfolding asked_in asked
    asked_of_no_request = by t (eqb command k.number)
      where
        by : (u : FrameType) (same : Bool) → u ≢ Request → read_on k (cond same (request_judgement u) (withheld 6 [])) ds ≡ k.refuse 6 []
        by Request same other = absurd (other refl)
        by Response true other = refl
        by Response false other = refl
        by Burst true other = refl
        by Burst false other = refl

  -- of a frame as it was heard: the reading of what stood on the line
  pub asks_wire : (w : Wire) → asked_of k (frame_of w) ≡ asked_in k w.opening.frame_type w.command w.payload
  unfolding asked_of
  asks_wire w = ap (asked_in k w.opening.frame_type w.command) (frame_data w)

-- where there are no data to read the judgement is all
pub asked_alone : (wanted : ℕ) (t : FrameType) (command : ℕ) (ds : List ℕ) → asked_in (no_data wanted) t command ds ≡ asked wanted t command
unfolding asked_in
asked_alone wanted t command ds = by (asked wanted t command)
  where
    by : (j : Judgement) → read_on (no_data wanted) j ds ≡ j
    by carries = refl
    by (withheld number values) = refl

pub asks_alone : (wanted : ℕ) (f : Frame) {j : Judgement} → j ≡ asked wanted f.frame_type f.command → j ≡ asked_of (no_data wanted) f
unfolding asked_of
asks_alone wanted f e = e ∙ sym (asked_alone wanted f.frame_type f.command (take f.length f.«data»))
