-- What is answered, by the command and by what is said.
use Prim.Native.Nat.{ℕ, min}
use mathlib.Core.Path.{◌≡◌, sym, ap, ◌∙◌}
use mathlib.Core.Logic.{◌≢◌}
use mathlib.Core.List.{List, [], ◌∷◌}
use lib.ListN.{length, take}
use Rattle.std.proofs.lemmas.List.{take_min}
use borrow.Author.Tests.{ne_eqb}
use Rattle.refusal.specs.Outcome.{done, ends}
use Rattle.types.specs.declared.delimiter.FrameType.TheVariants.{Response}
use Rattle.line.specs.Pieces.{enough}
use Rattle.line.specs.Encode.{encoded}
use Rattle.line.specs.declared.frame.Frame.{Frame}
use Rattle.std.specs.Prelude.{Option, Some, None}
use Rattle.device.specs.Device.{Spoken, status_alone, told_to, answer_to, spoken_to, answering}
use Rattle.device.specs.Code.{spoken_by}

pub told_other : (command : ℕ) (ds : List ℕ) → command ≢ 0 → command ≢ 9 → command ≢ 11 → command ≢ 13 → command ≢ 18 → told_to command ds ≡ status_alone 64
unfolding told_to
told_other command ds h0 h9 h11 h13 h18 = rw (ne_eqb command 0 h0, ne_eqb command 9 h9, ne_eqb command 11 h11, ne_eqb command 13 h13, ne_eqb command 18 h18)

module _ (f : Frame) (out payload : List ℕ) {said : Option ℕ} where
  answered_by : {s : Option ℕ} → said ≡ s → spoken_by said payload ≡ answer_to f → spoken_to f (spoken_by s payload) out ≡ answering f out
  unfolding answering
  answered_by e told = ap (λ (x : Spoken). spoken_to f x out) (ap (λ (x : Option ℕ). spoken_by x payload) (sym e) ∙ told)

  pub answers_nothing : said ≡ None → spoken_by said payload ≡ answer_to f → ends (done (0 ∷ [])) out ≡ answering f out
  answers_nothing e told = answered_by e told

  -- its first bytes, or all of them
  pub answers_first : {n count : ℕ} → said ≡ Some n → count ≡ min n (length payload) → spoken_by said payload ≡ answer_to f → encoded Response f.address f.command (take count payload) enough out ≡ answering f out
  answers_first {n} e least told =
      ap (λ (ds : List ℕ). encoded Response f.address f.command ds enough out) (ap (λ (k : ℕ). take k payload) least ∙ take_min n payload) ∙ answered_by e told
