use native.Mathlib.Numerals.{add-one}
use mathlib.Core.Path.{sym, ap, ap₂, ◌∙◌}
use Rattle.std.proofs.lemmas.List.{get_or_default}
use Rattle.response.specs.Writer.{with_field}
use Rattle.response.specs.Field.{field_of}
use Rattle.response.specs.declared.field.Kind.TheVariants.{Group}
use Rattle.commands.specs.Variables.{group_bytes, no_variable}
use Rattle.commands.specs.Code.{variables_fields}
use Rattle.commands.proofs.read_device_vars.fields_of.Goals as goal

pub loop-variable-preserved : goal.loop-variable-preserved
loop-variable-preserved c =
    let l = c.loop-variable in
    let a = c.args in
    c.with-fields-in-loop-variable.ensures
    ∙ ap₂ with_field l.invariant (c.group.ensures ∙ ap (field_of Group) (c.encode.ensures ∙ ap group_bytes (get_or_default a.variables.now l.variable-index _ no_variable c.loop-variable-test.true)))
    ∙ sym (ap (variables_fields a.first a.second a.extended a.variables.now) (add-one l.variable-index))
