-- Document 01, 'What comes back': a refused call writes nothing, here of the requests and the responses, those with text in both modes.
use Prim.Native.Nat.{ℕ, ◌+◌}
use mathlib.Core.List.{List, [], ◌∷◌, ◌++◌}
use lib.Dec.{ltb}
use lib.ListN.{length}
use Rattle.refusal.specs.Outcome.{Untouched}
use Rattle.refusal.proofs.Untouched.{untouched_refuses, untouched_wrote, untouched_either}
use Rattle.packed_string.specs.declared.text_group.Mode.{Mode}
use Rattle.packed_string.specs.Modes.{packed_text, bad_in, fields_written}
use Rattle.response.specs.Sizes.{tag_size, status_size, most_variables}
use Rattle.commands.specs.declared.identity.DeviceIdentity.{DeviceIdentity}
use Rattle.commands.specs.declared.read_device_vars.DeviceVariable.{DeviceVariable}
use Rattle.commands.specs.Identity.{lowered_bytes}
use Rattle.commands.specs.Responses.{response_data, response_written, identity_responded, groups_bytes, variables_responded, tag_descriptor_date_responded}
use Rattle.commands.specs.Tag.{tag_requested}
use Rattle.commands.specs.TagDescriptorDate.{layout_size, tag_descriptor_date_layout, tag_descriptor_date_requested}
use Rattle.commands.specs.Variables.{codes_requested}

pub command_9_untouched : (codes : List ℕ) → Untouched (codes_requested codes)
unfolding codes_requested
command_9_untouched codes =
    untouched_either (λ buffer. ltb most_variables (length codes)) (untouched_refuses 1 [])
    (untouched_either (λ buffer. ltb (length buffer) (length codes)) (untouched_refuses 2 [])
    (untouched_wrote codes))

pub command_11_untouched : (mode : Mode) (tag : List ℕ) → Untouched (tag_requested mode tag)
unfolding tag_requested fields_written
command_11_untouched mode tag =
    untouched_either (λ buffer. ltb (length buffer) tag_size) (untouched_refuses 2 [])
    (untouched_either (λ buffer. ltb (bad_in mode tag) (length tag)) (untouched_refuses 7 (bad_in mode tag ∷ []))
    (untouched_wrote (packed_text mode tag)))

pub command_18_untouched : (mode : Mode) (tag descriptor : List ℕ) (day month year : ℕ) → Untouched (tag_descriptor_date_requested mode tag descriptor day month year)
unfolding tag_descriptor_date_requested fields_written
command_18_untouched mode tag descriptor day month year =
    let text = tag ++ descriptor in
    untouched_either (λ buffer. ltb (length buffer) layout_size) (untouched_refuses 2 [])
    (untouched_either (λ buffer. ltb (bad_in mode text) (length text)) (untouched_refuses 7 (bad_in mode text ∷ []))
    (untouched_wrote (tag_descriptor_date_layout mode tag descriptor day month year)))

data_untouched : (first second : ℕ) (bytes : List ℕ) → Untouched (response_written first second bytes)
unfolding response_written
data_untouched first second bytes =
    let ds = response_data first second bytes in
    untouched_either (λ buffer. ltb (length buffer) (length ds)) (untouched_refuses 2 []) (untouched_wrote ds)

pub identity_untouched : (first second : ℕ) (i : DeviceIdentity) → Untouched (identity_responded first second i)
identity_untouched first second i = data_untouched first second (lowered_bytes i)

pub variables_untouched : (first second extended : ℕ) (vs : List DeviceVariable) (n : ℕ) → Untouched (variables_responded first second extended vs n)
unfolding variables_responded
variables_untouched first second extended vs n =
    untouched_either (λ buffer. ltb most_variables n) (untouched_refuses 1 []) (data_untouched first second (extended ∷ groups_bytes vs n))

pub texts_untouched : (mode : Mode) (first second : ℕ) (tag descriptor : List ℕ) (day month year : ℕ) → Untouched (tag_descriptor_date_responded mode first second tag descriptor day month year)
unfolding tag_descriptor_date_responded fields_written
texts_untouched mode first second tag descriptor day month year =
    let text = tag ++ descriptor in
    untouched_either (λ buffer. ltb (length buffer) (status_size + layout_size)) (untouched_refuses 2 [])
    (untouched_either (λ buffer. ltb (bad_in mode text) (length text)) (untouched_refuses 7 (bad_in mode text ∷ []))
    (untouched_wrote (response_data first second (tag_descriptor_date_layout mode tag descriptor day month year))))
