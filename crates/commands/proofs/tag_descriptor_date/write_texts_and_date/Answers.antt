-- By what the fields come to.
use native.Mathlib.Omega.{arith}
use mathlib.Core.Path.{ap, ◌∙◌}
use Rattle.response.specs.Writer.{field_at}
use Rattle.response.specs.Whole.{responded}
use Rattle.response.specs.declared.writer.ResponseFields.{ResponseFields}
use Rattle.commands.proofs.Responding.{texts_responded}
use Rattle.commands.proofs.tag_descriptor_date.write_texts_and_date.Goals as goal

pub returns : goal.returns
returns c =
    let a = c.args in
    let t = a.texts in
    c.write_response.ensures
    ∙ ap (λ (f : ResponseFields). responded (field_at f) f.count a.payload.now) c.fields_of-fields.ensures
    ∙ texts_responded a.first a.second a.mode t.tag t.descriptor t.day t.month t.year (omega arith) (omega arith) a.payload.now
