-- The loop's invariant: the writer holds the payload that it was lent, with so many fields in it, and stands behind them.
use Rattle.std.proofs.Common.{◌≡◌, ℕ, List}
use denote.Ref.{at_last}
use Rattle.response.specs.declared.writer.ResponseWriter.{ResponseWriter}
use Rattle.response.specs.Writer.{nth_field, in_turn}
use Rattle.response.proofs.writer.write_fields.Given as goal

abbrev pub standing : ResponseWriter → List ℕ × ℕ → ResponseWriter
standing w x = record { payload = at_last w.payload x.0; at = x.1 }

abbrev pub invariant-loop-field : goal.invariant-loop-field
invariant-loop-field l =
    let w = l.initial.writer in
    l.writer ≡ standing w (in_turn (nth_field l.fields) l.field-index (w.payload.now, w.at))
