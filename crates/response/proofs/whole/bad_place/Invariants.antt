-- The loop's invariant: the characters so far, each of which has a code.
use Rattle.std.proofs.Common.{◌≡◌, ◌≤◌, ◌*◌}
use Rattle.response.specs.Sizes.{field_room}
use Rattle.response.specs.Writer.{nth_field}
use Rattle.response.specs.Whole.{weighed}
use Rattle.response.proofs.whole.bad_place.Given as goal

abbrev pub invariant-loop-field : goal.invariant-loop-field
invariant-loop-field l =
    let w = weighed (nth_field l.fields) l.field-index in
    record { counted : l.characters ≡ w.characters; good : w.characters ≤ w.bad; few : l.characters ≤ l.field-index * field_room }
