-- Document 02, 1/12: the responses that a device writes.
use Rattle.std.specs.Prelude.{ℕ, zero, suc, ◌+◌, ◌^◌, ◌<◌, ◌≡◌, cond, List, [], ◌∷◌, ◌++◌, length, get_or, ltb}
use Rattle.refusal.specs.Outcome.{Outcome, wrote, refuses}
use Rattle.octets.specs.Put.{first_parts}
use Rattle.packed_string.specs.declared.text_group.Mode.{Mode}
use Rattle.packed_string.specs.Modes.{fields_written}
use Rattle.response.specs.Sizes.{status_size, most_variables}
use Rattle.commands.specs.declared.identity.DeviceIdentity.{DeviceIdentity}
use Rattle.commands.specs.declared.read_device_vars.DeviceVariable.{DeviceVariable}
use Rattle.commands.specs.Worth.{float_of}
use Rattle.commands.specs.Identity.{lowered_bytes}
use Rattle.commands.specs.TagDescriptorDate.{layout_size, tag_descriptor_date_layout}
use Rattle.commands.specs.Variables.{group_bytes, no_variable}

-- two status bytes, then the payload
abbrev pub response_data : ℕ → ℕ → List ℕ → List ℕ
response_data first second payload = first ∷ second ∷ payload

-- 2 without room for all of it
unfoldable pub response_written : ℕ → ℕ → List ℕ → List ℕ → Outcome
response_written first second payload buffer =
    let ds = response_data first second payload in
    cond (ltb (length buffer) (length ds)) (refuses 2 [] buffer) (wrote ds buffer)

-- commands 0 and 11: the identity
abbrev pub identity_responded : ℕ → ℕ → DeviceIdentity → List ℕ → Outcome
identity_responded first second i buffer = response_written first second (lowered_bytes i) buffer

-- command 9, in the standard layout: the extended status byte, then the groups of the first n variables; 1 for more than eight
abbrev pub groups_bytes : List DeviceVariable → ℕ → List ℕ
groups_bytes vs n = first_parts (λ (k : ℕ). group_bytes (get_or vs k no_variable)) n

unfoldable pub variables_responded : ℕ → ℕ → ℕ → List DeviceVariable → ℕ → List ℕ → Outcome
variables_responded first second extended vs n buffer =
    cond (ltb most_variables n) (refuses 1 [] buffer) (response_written first second (extended ∷ groups_bytes vs n) buffer)

-- commands 13 and 18: tag, descriptor and date; 2 without room for all, then 7, whose place runs through the tag and the descriptor
unfoldable pub tag_descriptor_date_responded : Mode → ℕ → ℕ → List ℕ → List ℕ → ℕ → ℕ → ℕ → List ℕ → Outcome
tag_descriptor_date_responded mode first second tag descriptor day month year buffer =
    fields_written mode (status_size + layout_size) (tag ++ descriptor) (response_data first second (tag_descriptor_date_layout mode tag descriptor day month year)) buffer

-- the first n variables have bits that the line has room for, and the float of those bits
abbrev pub AllLined : List DeviceVariable → ℕ → Type 0
AllLined vs zero = Unit {0}
AllLined vs (suc n) = let v = get_or vs n no_variable in AllLined vs n × (v.bits < 2 ^ 32) × (v.value ≡ float_of v.bits)
