-- What a typed reading comes to, of any command: callers cite these and not the text of the definitions.
use Prim.Native.Nat.{ℕ}
use mathlib.Core.Path.{◌≡◌, refl, ap, ◌∙◌}
use mathlib.Core.Logic.{◌≢◌}
use mathlib.Core.Bool.{Bool, true, false, cond}
use mathlib.Core.List.{List, []}
use lib.ListN.{drop}
use lib.Dec.{eqb}
use Rattle.types.specs.declared.delimiter.FrameType.{FrameType}
use Rattle.types.specs.declared.delimiter.FrameType.TheVariants.{Request}
use Rattle.line.specs.Layout.{Wire}
use Rattle.line.specs.machine.Frames.{frame_of}
use Rattle.framing.specs.Payload.{Judgement, carries, withheld, payload_judgement, typed, Reader, passed_on, typed_in, typed_of}
use Rattle.framing.proofs.Payloads.{typed_same, typed_other, frame_data}

module _ {A : Type 0} (k : Reader A) where
  -- by what the data are judged for
  module _ (t : FrameType) (command : ℕ) (ds : List ℕ) where
    judged_as : {j : Judgement} → typed k.number t command ds ≡ j → typed_in k t command ds ≡ passed_on k j ds
    unfolding typed_in
    judged_as e = ap (λ (j : Judgement). passed_on k j ds) e

    pub typed_of_other : command ≢ k.number → typed_in k t command ds ≡ k.refuse 6 []
    typed_of_other n = judged_as (typed_other k.number t command ds n)

    module _ (same : command ≡ k.number) where
      pub typed_carried : payload_judgement t ds ≡ carries → typed_in k t command ds ≡ k.read (drop 2 ds)
      typed_carried e = judged_as (typed_same k.number t command ds same ∙ e)

      pub typed_withheld : {number : ℕ} {values : List ℕ} → payload_judgement t ds ≡ withheld number values → typed_in k t command ds ≡ k.refuse number values
      typed_withheld e = judged_as (typed_same k.number t command ds same ∙ e)

  pub typed_of_request : (command : ℕ) (ds : List ℕ) → typed_in k Request command ds ≡ k.refuse 6 []
  unfolding typed_in typed payload_judgement
  typed_of_request command ds = by (eqb command k.number)
    where
      by : (same : Bool) → passed_on k (cond same (withheld 6 []) (withheld 6 [])) ds ≡ k.refuse 6 []
      by true = refl
      by false = refl

  -- of a frame as it was heard: the reading of what stood on the line
  pub reads_wire : (w : Wire) → typed_of k (frame_of w) ≡ typed_in k w.opening.frame_type w.command w.payload
  unfolding typed_of
  reads_wire w = ap (typed_in k w.opening.frame_type w.command) (frame_data w)
