-- The two fields, as the calls made them.
use mathlib.Core.Path.{◌≡◌, ap, ap₂, ◌∙◌}
use Rattle.response.specs.Field.{field_of}
use Rattle.response.specs.Writer.{with_field, field_at}
use Rattle.response.specs.Whole.{responded}
use Rattle.response.specs.declared.field.Kind.TheVariants.{Bytes}
use Rattle.response.specs.declared.writer.ResponseFields.{ResponseFields}
use Rattle.commands.specs.Code.{identity_fields}
use Rattle.commands.proofs.Responding.{identity_responded_lem}
use Rattle.commands.proofs.identity.write_identity.Goals as goal

pub returns : goal.returns
returns c =
    let a = c.args in
    let fields : c.with-fields.result ≡ identity_fields a.first a.second a.identity =
    c.with-fields.ensures
    ∙ ap₂ with_field (c.with.ensures ∙ ap₂ with_field c.new.ensures c.status-status.ensures) (c.identity-bytes.ensures ∙ ap (field_of Bytes) c.encode.ensures) in
    c.write_response.ensures
    ∙ ap (λ (f : ResponseFields). responded (field_at f) f.count a.payload.now) fields
    ∙ identity_responded_lem a.first a.second a.identity a.payload.now
