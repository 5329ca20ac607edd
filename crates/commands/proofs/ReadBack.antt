-- Written, then read by the other side: the same fields, of text in 0x20 to 0x5F in both modes, of numbers within their bits, of one code
-- or more. An identity whose numbers are beyond their bits comes back lowered. The extended status byte is passed over.
use Prim.Native.Nat.{ℕ, zero, suc, ◌+◌, ◌*◌, ◌-◌, ◌/◌, ◌^◌, min, ◌≤◌, ◌<◌}
use native.Mathlib.Nat.{add-zero, min-eq_left, min-eq_right}
use native.Mathlib.Omega.{arith}
use mathlib.Core.Path.{◌≡◌, refl, sym, ap, ap₂, ◌∙◌}
use mathlib.Core.List.{List, [], ◌∷◌, ◌++◌, append_assoc, append-nil}
use lib.ListN.{length, get_or, take, replicate}
use lib.Ieee.{Float}
use lib.Seq.{take_all, take-suc, get_or-append-add}
use Rattle.octets.specs.Digits.{from_digits}
use Rattle.octets.proofs.Parts.{parts_suc, length_parts}
use Rattle.packed_string.specs.declared.text_group.Mode.{Mode}
use Rattle.packed_string.specs.declared.text_group.Mode.TheVariants.{Standard}
use Rattle.packed_string.specs.Modes.{packed_text, unpacked_text}
use Rattle.packed_string.specs.Plain.{Plain}
use Rattle.packed_string.proofs.Texts.{packed_text_size}
use Rattle.packed_string.proofs.TextRoundTrip.{whole_plain_back}
use Rattle.line.specs.machine.Frames.{padded}
use Rattle.framing.specs.Payload.{carries}
use Rattle.response.specs.Sizes.{tag_length, tag_size, descriptor_length, group_size, most_variables}
use Rattle.commands.specs.declared.identity.DeviceIdentity.{DeviceIdentity}
use Rattle.commands.specs.declared.read_device_vars.DeviceVariable.{DeviceVariable}
use Rattle.commands.specs.Worth.{float_of}
use Rattle.commands.specs.Identity.{identity_at, lowered_bytes, IdentityLimited, lowered, identified, identity}
use Rattle.commands.specs.Tag.{reads_tag, tag_read}
use Rattle.commands.specs.TagDescriptorDate.{tag_descriptor_date_layout, reads_fields, fields_read}
use Rattle.commands.specs.Variables.{variable, variable_at, group_bytes, groups_of, first_variables, no_variable, reads_variables, variables_read, reads_codes, codes_read}
use Rattle.commands.specs.Responses.{groups_bytes, AllLined}
use Rattle.commands.proofs.Identities.{identity_whole, identity_lowered, lowered_same}
use Rattle.commands.proofs.read_device_vars.Calls.{standard_reads, codes_some}
use Rattle.commands.proofs.read_device_vars.RoundTrip.{variable_back}
use Rattle.commands.proofs.read_unique_id_by_tag.Tags.{tag_read_whole}
use Rattle.commands.proofs.write_tag_descriptor_date.RoundTrip.{plain_fields_back}

-- the codes of command 9's request
pub request_read_9 : (codes : List ℕ) → 1 ≤ length codes → length codes ≤ most_variables → codes_read codes ≡ reads_codes carries (length codes) (padded most_variables codes)
request_read_9 codes some few =
    codes_some codes some ∙ ap₂ (λ (n : ℕ) (cs : List ℕ). reads_codes carries n (padded most_variables cs)) (min-eq_right {n = length codes} {m = most_variables} few) (take_all most_variables codes few)

-- the tag of command 11's request
pub request_read_11 : (mode : Mode) (tag : List ℕ) → length tag ≡ tag_length → Plain tag → tag_read mode (packed_text mode tag) ≡ reads_tag carries tag
request_read_11 mode tag t plain =
    let size : length (packed_text mode tag) ≡ tag_size = packed_text_size mode tag t in
    tag_read_whole mode (packed_text mode tag) (omega arith)
    ∙ ap (λ (bs : List ℕ). reads_tag carries (unpacked_text mode bs)) (take_all tag_size (packed_text mode tag) (omega arith))
    ∙ ap (reads_tag carries) (whole_plain_back mode tag (omega arith) plain)

-- command 18 both ways, and command 13's response
pub texts_read : (mode : Mode) (tag descriptor : List ℕ) (day month year : ℕ) → length tag ≡ tag_length → length descriptor ≡ descriptor_length → Plain tag → Plain descriptor
    → fields_read mode (tag_descriptor_date_layout mode tag descriptor day month year) ≡ reads_fields carries tag descriptor day month year
texts_read mode tag descriptor day month year t d p q =
    ap (fields_read mode) (sym (append-nil (tag_descriptor_date_layout mode tag descriptor day month year))) ∙ plain_fields_back mode tag descriptor day month year t d [] p q

-- the identity of commands 0 and 11
module _ (i : DeviceIdentity) where
  pub identity_read_lowered : identity (lowered_bytes i) ≡ identified (lowered i)
  identity_read_lowered =
      identity_whole (lowered_bytes i) (omega arith) ∙ ap identified (ap identity_at (sym (append-nil (lowered_bytes i))) ∙ identity_lowered i [])

  pub identity_read : IdentityLimited i → identity (lowered_bytes i) ≡ identified i
  identity_read limits = identity_read_lowered ∙ ap identified (lowered_same i limits)

-- what stands behind other bytes is read as if it stood alone
behind_read : (before bytes : List ℕ) → variable_at (before ++ bytes) (length before) ≡ variable_at bytes 0
behind_read before bytes =
    let at : (j : ℕ) → get_or (before ++ bytes) (length before + j) 0 ≡ get_or bytes j 0 = λ j. get_or-append-add before bytes j 0 in
    let first : get_or (before ++ bytes) (length before) 0 ≡ get_or bytes 0 0 = ap (λ (i : ℕ). get_or (before ++ bytes) i 0) (sym (add-zero (length before))) ∙ at 0 in
    λ i. variable (first i) (at 1 i) (at 2 i) (from_digits 256 (at 3 i ∷ at 4 i ∷ at 5 i ∷ at 6 i ∷ [])) (at 7 i)

-- a variable with the float of its bits, from its group
group_read : (v : DeviceVariable) (rest : List ℕ) → v.bits < 2 ^ 32 → v.value ≡ float_of v.bits → variable_at (group_bytes v ++ rest) 0 ≡ v
group_read v rest small value =
    variable_back v.device_var_code v.classification v.unit v.bits v.status rest small
    ∙ ap (λ (x : Float). record { device_var_code = v.device_var_code; classification = v.classification; unit = v.unit; value = x; bits = v.bits; status = v.status }) (sym value)

-- the groups of command 9's response
module _ (vs : List DeviceVariable) where
  abbrev v : ℕ → DeviceVariable
  v k = get_or vs k no_variable

  groups_length : (n : ℕ) → length (groups_bytes vs n) ≡ n * group_size
  groups_length n = length_parts (λ (k : ℕ). group_bytes (v k)) group_size (λ k. refl) n

  variables_back : (n : ℕ) (rest : List ℕ) → n ≤ length vs → AllLined vs n → first_variables (groups_bytes vs n ++ rest) n ≡ take n vs
  variables_back zero rest h lined = refl
  variables_back (suc n) rest h lined =
      let before = groups_bytes vs n in
      let last = group_bytes (v n) ++ rest in
      let split : groups_bytes vs (suc n) ++ rest ≡ before ++ last = ap (λ (bs : List ℕ). bs ++ rest) (parts_suc (λ (k : ℕ). group_bytes (v k)) n) ∙ append_assoc before (group_bytes (v n)) rest in
      let there : variable_at (before ++ last) (n * group_size) ≡ v n = ap (variable_at (before ++ last)) (sym (groups_length n)) ∙ behind_read before last ∙ group_read (v n) rest lined.1 lined.2 in
      ap (λ (bs : List ℕ). first_variables bs (suc n)) split
      ∙ ap₂ (λ (us : List DeviceVariable) (u : DeviceVariable). us ++ (u ∷ [])) (variables_back n last (omega arith) lined.0) there
      ∙ sym (take-suc vs n no_variable (omega arith))

  pub response_read_9 : (extended n : ℕ) → n ≤ length vs → n ≤ most_variables → AllLined vs n
      → variables_read Standard (extended ∷ groups_bytes vs n) ≡ reads_variables carries n (take n vs ++ replicate (most_variables - n) no_variable)
  response_read_9 extended n there h lined =
      let gs = groups_bytes vs n in
      let whole : length gs / group_size ≡ n = omega (arith, groups_length n) in
      let count : groups_of (length gs) ≡ n = ap (λ (m : ℕ). min m most_variables) whole ∙ min-eq_left {n = n} {m = most_variables} h in
      standard_reads (extended ∷ gs) (omega arith)
      ∙ ap (λ (m : ℕ). reads_variables carries m (first_variables gs m ++ replicate (most_variables - m) no_variable)) count
      ∙ ap (λ (us : List DeviceVariable). reads_variables carries n (us ++ replicate (most_variables - n) no_variable))
      (ap (λ (bs : List ℕ). first_variables bs n) (sym (append-nil gs)) ∙ variables_back n [] there lined)
