-- What only the code needs: the fields of the responses, added in turn, and the place of a bad character as a call gives it.
use Rattle.std.specs.Prelude.{ℕ, zero, suc, cond, List, [], ◌∷◌, length, get_or, ltb, Option, Some, None}
use Rattle.packed_string.specs.declared.text_group.Mode.{Mode}
use Rattle.packed_string.specs.Modes.{bad_in}
use Rattle.response.specs.Field.{field_of}
use Rattle.response.specs.Writer.{no_fields, with_field}
use Rattle.response.specs.declared.field.Kind.TheVariants.{Bytes, Group, Text}
use Rattle.response.specs.declared.writer.ResponseFields.{ResponseFields}
use Rattle.commands.specs.declared.identity.DeviceIdentity.{DeviceIdentity}
use Rattle.commands.specs.declared.read_device_vars.DeviceVariable.{DeviceVariable}
use Rattle.commands.specs.Identity.{lowered_bytes}
use Rattle.commands.specs.Variables.{group_bytes, no_variable}

abbrev pub status_field : ℕ → ℕ → ResponseFields
status_field first second = with_field no_fields (field_of Bytes (first ∷ second ∷ []))

abbrev pub identity_fields : ℕ → ℕ → DeviceIdentity → ResponseFields
identity_fields first second i = with_field (status_field first second) (field_of Bytes (lowered_bytes i))

abbrev pub variables_fields : ℕ → ℕ → ℕ → List DeviceVariable → ℕ → ResponseFields
variables_fields first second extended vs zero = with_field (status_field first second) (field_of Bytes (extended ∷ []))
variables_fields first second extended vs (suc n) = with_field (variables_fields first second extended vs n) (field_of Group (group_bytes (get_or vs n no_variable)))

abbrev pub texts_fields : Mode → ℕ → ℕ → List ℕ → List ℕ → ℕ → ℕ → ℕ → ResponseFields
texts_fields mode first second tag descriptor day month year =
    with_field (with_field (with_field (status_field first second) (field_of (Text mode) tag)) (field_of (Text mode) descriptor)) (field_of Bytes (day ∷ month ∷ year ∷ []))

-- the first character that a mode has no code for, if there is one
abbrev pub bad_place_in_text : Mode → List ℕ → Option ℕ
bad_place_in_text mode text = cond (ltb (bad_in mode text) (length text)) (Some (bad_in mode text)) None
