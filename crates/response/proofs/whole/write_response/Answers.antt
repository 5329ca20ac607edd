-- Each refusal by its test, and the rest by what the writer put: of the fields in the slice, which weigh what those of the list do.
use native.Mathlib.Omega.{arith}
use Prim.Native.Nat.{ℕ}
use mathlib.Core.Path.{◌≡◌, sym, ap, ◌∙◌}
use mathlib.Core.Bool.{Bool, true, false, cond}
use mathlib.Core.List.{[], ◌∷◌}
use lib.ListN.{length}
use Rattle.std.specs.Prelude.{Ok, Err}
use Rattle.std.proofs.lemmas.Result.{err_from_is_err_and}
use Rattle.refusal.specs.declared.Refusal.{Refusal}
use Rattle.refusal.specs.declared.Refusal.TheVariants.{DataTooLong}
use Rattle.refusal.specs.Outcome.{ends, done, refuses}
use Rattle.response.specs.Writer.{nth_field, field_at}
use Rattle.response.specs.Whole.{Weight, weighed, size_or_late}
use Rattle.response.proofs.Fields.{some_below, none_below}
use Rattle.response.proofs.Weights.{responded_many, responded_late, responded_small, responded_bad, responded_fits, responded_slice}
use Rattle.response.proofs.whole.write_response.Goals as goal

-- a size that fields came to is theirs, and none of them ends too late; where one does, that is the refusal
timely : (w : Weight) {size : ℕ} → Ok size ≡ size_or_late w → (size ≡ w.size) × (w.late ≡ false)
timely w {size} e = by w.late e
  where
    by : (b : Bool) → Ok size ≡ cond b (Err DataTooLong) (Ok w.size) → (size ≡ w.size) × (b ≡ false)
    by true e = cc
    by false e = (cc, cc)

late : (w : Weight) {refusal : Refusal} → Err refusal ≡ size_or_late w → (refusal ≡ DataTooLong) × (w.late ≡ true)
late w {refusal} e = by w.late e
  where
    by : (b : Bool) → Err refusal ≡ cond b (Err DataTooLong) (Ok w.size) → (refusal ≡ DataTooLong) × (b ≡ true)
    by true e = (cc, cc)
    by false e = cc

pub returns-in_default : goal.returns-in_default
returns-in_default c = let a = c.args in sym (responded_many (field_at a.fields) a.fields.count a.payload.now c.in_default.ensures)

pub returns-in_err-size : goal.returns-in_err-size
returns-in_err-size c =
    let a = c.args in
    let fs = c.in-Some.fields.now in
    let h = c.in-Some.ensures in
    let l = a.payload.now in
    let t = late (weighed (nth_field fs) (length fs)) c.in_err-size.ensures in
    let p = err_from_is_err_and c.from_residual.result c.from_residual.ensures.1 in
    rw (p.1, p.2, t.0)
    (sym (responded_slice a.fields.list fs a.fields.count h.1 h.2 l ∙ responded_late (nth_field fs) (length fs) l (omega arith) t.1))

pub returns-then-payload-size : goal.returns-then-payload-size
returns-then-payload-size c =
    let a = c.args in
    let fs = c.in-Some.fields.now in
    let h = c.in-Some.ensures in
    let l = a.payload.now in
    let t = timely (weighed (nth_field fs) (length fs)) c.in_ok-size.ensures in
    sym (responded_slice a.fields.list fs a.fields.count h.1 h.2 l ∙ responded_small (nth_field fs) (length fs) l (omega arith) t.1 (omega arith))

pub returns-in-Some-bad_place : goal.returns-in-Some-bad_place
returns-in-Some-bad_place c =
    let a = c.args in
    let fs = c.in-Some.fields.now in
    let h = c.in-Some.ensures in
    let l = a.payload.now in
    let w = weighed (nth_field fs) (length fs) in
    let t = timely w c.in_ok-size.ensures in
    let b = some_below w.bad w.characters c.in-Some-bad_place.ensures in
    ap (λ (n : ℕ). refuses 7 (n ∷ []) l) b.0
    ∙ sym (responded_slice a.fields.list fs a.fields.count h.1 h.2 l ∙ responded_bad (nth_field fs) (length fs) l (omega arith) t.1 (omega arith) b.1)

pub returns : goal.returns
returns c =
    let a = c.args in
    let fs = c.in-Some.fields.now in
    let h = c.in-Some.ensures in
    let l = a.payload.now in
    let w = weighed (nth_field fs) (length fs) in
    let t = timely w c.in_ok-size.ensures in
    let good = none_below w.bad w.characters c.in_default-bad_place.ensures in
    ap (λ (n : ℕ). ends (done (n ∷ [])) c.write_fields.new.payload) t.0
    ∙ responded_fits (nth_field fs) (length fs) l (omega arith) t.1 (omega arith) good c.write_fields.ensures
    ∙ sym (responded_slice a.fields.list fs a.fields.count h.1 h.2 l)
