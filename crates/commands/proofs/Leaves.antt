-- What a request or a response that was written has left in the lent buffer.
use Prim.Native.Nat.{ℕ, ◌+◌}
use mathlib.Core.List.{List, [], ◌∷◌, ◌++◌}
use lib.Dec.{ltb}
use lib.ListN.{length}
use Rattle.refusal.specs.Outcome.{Leaves}
use Rattle.refusal.proofs.Leaves.{leaves_refuses, leaves_wrote, leaves_either}
use Rattle.packed_string.specs.declared.text_group.Mode.{Mode}
use Rattle.packed_string.specs.Modes.{packed_text, bad_in, fields_written}
use Rattle.response.specs.Sizes.{tag_size, status_size, most_variables}
use Rattle.commands.specs.declared.identity.DeviceIdentity.{DeviceIdentity}
use Rattle.commands.specs.declared.read_device_vars.DeviceVariable.{DeviceVariable}
use Rattle.commands.specs.Identity.{lowered_bytes}
use Rattle.commands.specs.Responses.{response_data, response_written, identity_responded, groups_bytes, variables_responded, tag_descriptor_date_responded}
use Rattle.commands.specs.Tag.{tag_requested}
use Rattle.commands.specs.TagDescriptorDate.{layout_size, tag_descriptor_date_layout, tag_descriptor_date_requested}
use Rattle.commands.specs.Variables.{codes_requested}

-- a layout with text in it
fields_leaves : (mode : Mode) (size : ℕ) (text bytes : List ℕ) → Leaves bytes (fields_written mode size text bytes)
unfolding fields_written
fields_leaves mode size text bytes =
    leaves_either (λ buffer. ltb (length buffer) size) (leaves_refuses bytes 2 [])
    (leaves_either (λ buffer. ltb (bad_in mode text) (length text)) (leaves_refuses bytes 7 (bad_in mode text ∷ []))
    (leaves_wrote bytes))

pub codes_leaves : (codes : List ℕ) → Leaves codes (codes_requested codes)
unfolding codes_requested
codes_leaves codes =
    leaves_either (λ buffer. ltb most_variables (length codes)) (leaves_refuses codes 1 [])
    (leaves_either (λ buffer. ltb (length buffer) (length codes)) (leaves_refuses codes 2 [])
    (leaves_wrote codes))

pub tag_leaves : (mode : Mode) (tag : List ℕ) → Leaves (packed_text mode tag) (tag_requested mode tag)
unfolding tag_requested
tag_leaves mode tag = fields_leaves mode tag_size tag (packed_text mode tag)

-- a response of no text
data_leaves : (first second : ℕ) (bytes : List ℕ) → Leaves (response_data first second bytes) (response_written first second bytes)
unfolding response_written
data_leaves first second bytes =
    let ds = response_data first second bytes in
    leaves_either (λ buffer. ltb (length buffer) (length ds)) (leaves_refuses ds 2 []) (leaves_wrote ds)

module _ (first second : ℕ) where
  pub identity_leaves : (i : DeviceIdentity) → Leaves (response_data first second (lowered_bytes i)) (identity_responded first second i)
  identity_leaves i = data_leaves first second (lowered_bytes i)

  pub variables_leaves : (extended : ℕ) (vs : List DeviceVariable) (n : ℕ) → Leaves (response_data first second (extended ∷ groups_bytes vs n)) (variables_responded first second extended vs n)
  unfolding variables_responded
  variables_leaves extended vs n =
      let bytes : List ℕ = extended ∷ groups_bytes vs n in
      leaves_either (λ buffer. ltb most_variables n) (leaves_refuses (response_data first second bytes) 1 []) (data_leaves first second bytes)

module _ (mode : Mode) (tag descriptor : List ℕ) (day month year : ℕ) where
  abbrev layout : List ℕ
  layout = tag_descriptor_date_layout mode tag descriptor day month year

  pub date_leaves : Leaves layout (tag_descriptor_date_requested mode tag descriptor day month year)
  unfolding tag_descriptor_date_requested
  date_leaves = fields_leaves mode layout_size (tag ++ descriptor) layout

  pub texts_leaves : (first second : ℕ) → Leaves (response_data first second layout) (tag_descriptor_date_responded mode first second tag descriptor day month year)
  unfolding tag_descriptor_date_responded
  texts_leaves first second = fields_leaves mode (status_size + layout_size) (tag ++ descriptor) (response_data first second layout)
