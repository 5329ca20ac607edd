-- A character without a code is the first, whatever comes behind it.
use Rattle.std.proofs.Common.{◌+◌, ap, ◌∙◌, length, Some, ℕ}
use Rattle.response.specs.Writer.{nth_field}
use Rattle.response.proofs.Weights.{first_bad_here}
use Rattle.response.proofs.whole.bad_place.Goals as goal

pub returns-in-Some : goal.returns-in-Some
returns-in-Some c =
    let fs = c.args.fields.now in
    ap (λ (n : ℕ). Some (n + c.in-Some.place)) c.loop-field.invariant.counted
    ∙ first_bad_here (nth_field fs) c.loop-field.field-index (length fs) c.in-Some.place c.loop-field-test.true c.loop-field.invariant.good c.in-Some.ensures.value
