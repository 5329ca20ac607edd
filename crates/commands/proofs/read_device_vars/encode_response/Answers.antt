-- 1 by the test, and the rest by what the fields come to.
use native.Mathlib.Omega.{arith}
use mathlib.Core.Path.{sym, ap, ◌∙◌}
use lib.ListN.{take}
use lib.Seq.{length-take-le}
use Rattle.response.specs.Writer.{field_at}
use Rattle.response.specs.Whole.{responded}
use Rattle.response.specs.declared.writer.ResponseFields.{ResponseFields}
use Rattle.commands.specs.Code.{variables_fields}
use Rattle.commands.proofs.Responding.{fields_taken, variables_responded_lem, variables_too_many}
use Rattle.commands.proofs.read_device_vars.encode_response.Goals as goal

pub returns-then-n-gt-MAX_DEVICE_VARS : goal.returns-then-n-gt-MAX_DEVICE_VARS
returns-then-n-gt-MAX_DEVICE_VARS c = let a = c.args in sym (variables_too_many a.first a.second a.extended a.variables a.count (omega arith) a.payload.now)

pub returns : goal.returns
returns c =
    let a = c.args in
    c.write_response.ensures
    ∙ ap (λ (f : ResponseFields). responded (field_at f) f.count a.payload.now)
    (c.fields_of-fields.ensures
    ∙ ap (variables_fields a.first a.second a.extended (take a.count a.variables)) (length-take-le a.count a.variables (omega arith))
    ∙ fields_taken a.first a.second a.extended a.variables a.count a.count (omega arith))
    ∙ variables_responded_lem a.first a.second a.extended a.variables a.count (omega arith) a.payload.now
