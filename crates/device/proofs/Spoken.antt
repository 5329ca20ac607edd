-- What a writer's call left in the payload is what is said; and what each command's fields come to, where they have room.
use Prim.Native.Nat.{ℕ, ◌+◌, ◌*◌, ◌≤◌}
use native.Mathlib.Omega.{arith}
use mathlib.Core.Path.{◌≡◌, refl, sym, ap, ◌∙◌}
use mathlib.Core.List.{List, [], ◌∷◌, ◌++◌}
use lib.ListN.{length, get_or, take, set}
use borrow.Author.Tests.{le-ltb}
use Rattle.std.specs.Prelude.{Option, Result, Ok, Err}
use Rattle.std.specs.Result.{result_ok}
use Rattle.refusal.specs.declared.Refusal.{Refusal}
use Rattle.refusal.specs.Outcome.{Outcome, ends, reply_of, wrote}
use Rattle.refusal.proofs.Leaves.{leaves_wrote}
use Rattle.octets.proofs.Parts.{length_parts}
use Rattle.packed_string.specs.declared.text_group.Mode.TheVariants.{Standard}
use Rattle.packed_string.specs.Modes.{bad_in}
use Rattle.packed_string.proofs.Texts.{fields_fit}
use Rattle.response.specs.Sizes.{group_size, most_variables, status_size, groups_end}
use Rattle.commands.specs.declared.identity.DeviceIdentity.{DeviceIdentity}
use Rattle.commands.specs.declared.read_device_vars.DeviceVariable.{DeviceVariable}
use Rattle.commands.specs.Identity.{lowered_bytes}
use Rattle.commands.specs.TagDescriptorDate.{layout_size, tag_descriptor_date_layout}
use Rattle.commands.specs.Variables.{group_bytes, no_variable}
use Rattle.commands.specs.Responses.{response_data, response_written, identity_responded, groups_bytes, variables_responded, tag_descriptor_date_responded}
use Rattle.device.specs.Device.{speaks}
use Rattle.device.specs.Code.{spoken_by}

pub spoken_wrote : (r : Result ℕ Refusal) {said : Option ℕ} {payload : List ℕ} (ds before : List ℕ) {outcome : Outcome} → said ≡ result_ok r → ends (reply_of r) payload ≡ outcome → outcome ≡ wrote ds before → spoken_by said payload ≡ speaks ds
spoken_wrote r {payload = payload} ds before s e f = ap (λ (x : Option ℕ). spoken_by x payload) s ∙ by r (e ∙ f)
  where
    by : (w : Result ℕ Refusal) → ends (reply_of w) payload ≡ wrote ds before → spoken_by (result_ok w) payload ≡ speaks ds
    by (Ok n) g = ap speaks (leaves_wrote ds before n payload (sym g))
    by (Err x) g = cc

-- two status bytes, stored one by one
pub status_stored : (payload : List ℕ) (first second : ℕ) → 2 ≤ length payload → take 2 (set (set payload 0 first) 1 second) ≡ first ∷ second ∷ []
status_stored [] first second h = absurd (omega arith)
status_stored (x ∷ []) first second h = absurd (omega arith)
status_stored (x ∷ y ∷ payload) first second h = refl

module _ (before : List ℕ) (room : groups_end ≤ length before) where
  data_written : (first second : ℕ) (bytes : List ℕ) → length (response_data first second bytes) ≤ groups_end → response_written first second bytes before ≡ wrote (response_data first second bytes) before
  unfolding response_written
  data_written first second bytes h = rw (le-ltb (length before) (length (response_data first second bytes)) (omega arith))

  pub identity_written : (i : DeviceIdentity) → identity_responded 0 0 i before ≡ wrote (response_data 0 0 (lowered_bytes i)) before
  identity_written i = data_written 0 0 (lowered_bytes i) (omega arith)

  pub variables_written : (vs : List DeviceVariable) (n : ℕ) → n ≤ most_variables → variables_responded 0 0 0 vs n before ≡ wrote (response_data 0 0 (0 ∷ groups_bytes vs n)) before
  unfolding variables_responded
  variables_written vs n h =
      let size : length (groups_bytes vs n) ≡ n * group_size = length_parts (λ (k : ℕ). group_bytes (get_or vs k no_variable)) group_size (λ k. refl) n in
      rw (le-ltb most_variables n h) (data_written 0 0 (0 ∷ groups_bytes vs n) (omega arith))

  pub texts_written : (tag descriptor : List ℕ) (day month year : ℕ) → length (tag ++ descriptor) ≤ bad_in Standard (tag ++ descriptor)
      → tag_descriptor_date_responded Standard 0 0 tag descriptor day month year before ≡ wrote (response_data 0 0 (tag_descriptor_date_layout Standard tag descriptor day month year)) before
  unfolding tag_descriptor_date_responded
  texts_written tag descriptor day month year good = fields_fit Standard (status_size + layout_size) (tag ++ descriptor) (response_data 0 0 (tag_descriptor_date_layout Standard tag descriptor day month year)) before (omega arith) good
