-- A field that ends too late does so whatever comes behind it.
use Rattle.std.proofs.Common.{suc, ◌≡◌, arith, sym, ap, length, Bool, true, cond, Ok, Err}
use Rattle.refusal.specs.declared.Refusal.TheVariants.{DataTooLong}
use Rattle.response.specs.Writer.{nth_field}
use Rattle.response.specs.Whole.{weighed}
use Rattle.response.proofs.Weights.{late_with, late_on}
use Rattle.response.proofs.whole.size_of.Goals as goal

pub returns-then-latest-size : goal.returns-then-latest-size
returns-then-latest-size c =
    let fs = c.args.fields.now in
    let field = nth_field fs in
    let i = c.loop-field.field-index in
    let w = weighed field (length fs) in
    let late : w.late ≡ true = late_on field (suc i) (length fs) (omega arith) (late_with field i (omega arith)) in
    sym (ap (λ (b : Bool). cond b (Err DataTooLong) (Ok w.size)) late)
