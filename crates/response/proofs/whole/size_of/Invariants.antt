-- The loop's invariant: what the fields so far weigh, and that none of them ends too late.
use Rattle.std.proofs.Common.{◌≡◌, ◌≤◌, false}
use Rattle.line.specs.Layout.{most_data}
use Rattle.response.specs.Writer.{nth_field}
use Rattle.response.specs.Whole.{weighed}
use Rattle.response.proofs.whole.size_of.Given as goal

abbrev pub invariant-loop-field : goal.invariant-loop-field
invariant-loop-field l =
    let w = weighed (nth_field l.fields) l.field-index in
    record { weighs : l.size ≡ w.size; timely : w.late ≡ false; small : l.size ≤ most_data }
