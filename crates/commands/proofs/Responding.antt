-- The fields of each response, added in turn, come to what the response is said to be.
use Prim.Native.Nat.{ℕ, zero, suc, ◌+◌, ◌*◌, ◌≤◌, ◌<◌}
use native.Mathlib.Nat.{zero-add}
use native.Mathlib.Omega.{arith}
use mathlib.Core.Path.{◌≡◌, refl, sym, ap, ap₂, ◌∙◌}
use mathlib.Core.Bool.{Bool, true, false, cond}
use mathlib.Core.List.{List, [], ◌∷◌, ◌++◌}
use lib.ListN.{length, get_or, take}
use lib.Seq.{get_or-take}
use lib.Dec.{ltb}
use borrow.Author.Tests.{lt-ltb, le-ltb, ltb-true, ltb-false}
use Rattle.refusal.specs.Outcome.{refuses}
use Rattle.octets.proofs.Parts.{parts_zero, parts_suc}
use Rattle.packed_string.specs.declared.text_group.Mode.{Mode}
use Rattle.packed_string.specs.declared.text_group.Mode.TheVariants.{Crate}
use Rattle.packed_string.specs.Modes.{packed_size, bad_in, fields_written}
use Rattle.packed_string.proofs.Texts.{bad_in_within}
use Rattle.line.specs.Layout.{most_data}
use Rattle.response.specs.Sizes.{tag_length, tag_size, descriptor_length, group_size, most_variables, status_size, extended_size, groups_end, most_fields}
use Rattle.response.specs.Field.{field_of}
use Rattle.response.specs.Writer.{field_at, with_field}
use Rattle.response.specs.Whole.{bad_through, responded}
use Rattle.response.specs.declared.field.Kind.TheVariants.{Bytes, Group, Text}
use Rattle.response.specs.declared.writer.ResponseFields.{ResponseFields}
use Rattle.response.proofs.Gathered.{Gathered, gathered_none, gathered_as, gathered_with, gathered_written}
use Rattle.commands.specs.declared.identity.DeviceIdentity.{DeviceIdentity}
use Rattle.commands.specs.declared.read_device_vars.DeviceVariable.{DeviceVariable}
use Rattle.commands.specs.Identity.{lowered_bytes}
use Rattle.commands.specs.TagDescriptorDate.{texts_length, day_at, layout_size, tag_descriptor_date_layout}
use Rattle.commands.proofs.tag_descriptor_date.Layouts.{length_both, length-layout, bad_in_tag, bad_beyond}
use Rattle.commands.specs.Variables.{group_bytes, no_variable}
use Rattle.commands.specs.Responses.{response_data, response_written, identity_responded, groups_bytes, variables_responded, tag_descriptor_date_responded}
use Rattle.commands.specs.Code.{status_field, identity_fields, variables_fields, texts_fields}

-- a response of no text
no_bad : bad_in Crate [] ≡ 0
no_bad = omega (arith, bad_in_within Crate [])

textless_written : {fields : ResponseFields} {n size first second : ℕ} {bs : List ℕ} → Gathered fields n false size 0 0 (response_data first second bs) → n ≤ most_fields
    → (payload : List ℕ) → responded (field_at fields) fields.count payload ≡ response_written first second bs payload
unfolding response_written fields_written
textless_written had few payload = gathered_written had few Crate [] refl (sym no_bad) payload ∙ rw no_bad

module _ (first second : ℕ) where
  -- the status pair stands first in each
  status_gathered : Gathered (status_field first second) 1 false status_size 0 0 (first ∷ second ∷ [])
  status_gathered = gathered_with gathered_none (omega arith) Bytes (first ∷ second ∷ [])

  pub identity_responded_lem : (i : DeviceIdentity) (payload : List ℕ) → let fields = identity_fields first second i in responded (field_at fields) fields.count payload ≡ identity_responded first second i payload
  identity_responded_lem i payload = textless_written (gathered_with status_gathered (omega arith) Bytes (lowered_bytes i)) (omega arith) payload

  module _ (extended : ℕ) (vs : List DeviceVariable) where
    -- as many groups as end in time
    groups_gathered : (n : ℕ) → n ≤ most_variables
        → Gathered (variables_fields first second extended vs n) (suc (suc n)) false (status_size + extended_size + n * group_size) 0 0 (response_data first second (extended ∷ groups_bytes vs n))
    groups_gathered zero h =
        gathered_as (gathered_with status_gathered (omega arith) Bytes (extended ∷ [])) refl refl refl refl
        (ap (λ (gs : List ℕ). first ∷ second ∷ extended ∷ gs) (sym (parts_zero (λ (k : ℕ). group_bytes (get_or vs k no_variable)))))
    groups_gathered (suc n) h =
        let before : ℕ = status_size + extended_size + n * group_size in
        gathered_as (gathered_with (groups_gathered n (omega arith)) (omega arith) Group (group_bytes (get_or vs n no_variable)))
        (le-ltb groups_end (before + group_size) (omega arith)) (omega arith) refl refl
        (ap (λ (gs : List ℕ). first ∷ second ∷ extended ∷ gs) (sym (parts_suc (λ (k : ℕ). group_bytes (get_or vs k no_variable)) n)))

    -- the fields of the first variables are those of all of them
    pub fields_taken : (n m : ℕ) → m ≤ n → variables_fields first second extended (take n vs) m ≡ variables_fields first second extended vs m
    fields_taken n zero h = refl
    fields_taken n (suc m) h = ap₂ (λ (f : ResponseFields) (v : DeviceVariable). with_field f (field_of Group (group_bytes v))) (fields_taken n m (omega arith)) (get_or-take n vs m no_variable (omega arith))

    pub variables_responded_lem : (n : ℕ) → n ≤ most_variables → (payload : List ℕ)
        → let fields = variables_fields first second extended vs n in responded (field_at fields) fields.count payload ≡ variables_responded first second extended vs n payload
    unfolding variables_responded
    variables_responded_lem n h payload = textless_written (groups_gathered n h) (omega arith) payload ∙ rw (le-ltb most_variables n h)

    pub variables_too_many : (n : ℕ) → most_variables < n → (payload : List ℕ) → variables_responded first second extended vs n payload ≡ refuses 1 [] payload
    unfolding variables_responded
    variables_too_many n h payload = rw (lt-ltb most_variables n h)

  module _ (mode : Mode) (tag descriptor : List ℕ) (day month year : ℕ) (t : length tag ≡ tag_length) (d : length descriptor ≡ descriptor_length) where
    abbrev texts : List ℕ
    texts = tag ++ descriptor

    -- both texts count in the place of the first bad character, and the date, which has none, changes nothing
    texts_bad : bad_through (bad_in mode tag) tag_length (bad_in mode descriptor) ≡ bad_in mode texts
    texts_bad = by (ltb (bad_in mode tag) tag_length) refl
      where
        by : (early : Bool) → ltb (bad_in mode tag) tag_length ≡ early → cond early (bad_in mode tag) (tag_length + bad_in mode descriptor) ≡ bad_in mode texts
        by true e = sym (bad_in_tag tag descriptor t d mode (ltb-true (bad_in mode tag) tag_length e))
        by false e = sym (bad_beyond tag descriptor t d mode (ltb-false (bad_in mode tag) tag_length e))

    date_bad : bad_through (bad_in mode texts) texts_length 0 ≡ bad_in mode texts
    date_bad = by (ltb (bad_in mode texts) texts_length) refl
      where
        by : (early : Bool) → ltb (bad_in mode texts) texts_length ≡ early → cond early (bad_in mode texts) (texts_length + 0) ≡ bad_in mode texts
        by true e = refl
        by false e = omega (arith, ltb-false (bad_in mode texts) texts_length e, bad_in_within mode texts, length_both tag descriptor t d)

    abbrev bytes : List ℕ
    bytes = response_data first second (tag_descriptor_date_layout mode tag descriptor day month year)

    bytes_length : length bytes ≡ status_size + layout_size
    bytes_length = omega (arith, length-layout mode tag descriptor day month year t d)

    texts_gathered : Gathered (texts_fields mode first second tag descriptor day month year) 4 false (status_size + layout_size) texts_length (bad_in mode texts) bytes
    texts_gathered =
        let tagged = gathered_as {size' = status_size + tag_size} {characters' = tag_length} {bad' = bad_in mode tag} (gathered_with status_gathered (omega arith) (Text mode) tag)
        (le-ltb most_data (status_size + packed_size (length tag)) (omega arith)) (omega arith) (omega arith) (zero-add (bad_in mode tag)) refl in
        let described = gathered_as {size' = status_size + day_at} {characters' = texts_length} (gathered_with tagged (omega arith) (Text mode) descriptor)
        (le-ltb most_data (status_size + tag_size + packed_size (length descriptor)) (omega arith)) (omega arith) (omega arith) texts_bad refl in
        gathered_as (gathered_with described (omega arith) Bytes (day ∷ month ∷ year ∷ [])) refl refl refl date_bad refl

    pub texts_responded : (payload : List ℕ)
        → let fields = texts_fields mode first second tag descriptor day month year in responded (field_at fields) fields.count payload ≡ tag_descriptor_date_responded mode first second tag descriptor day month year payload
    unfolding tag_descriptor_date_responded
    texts_responded payload =
        gathered_written texts_gathered (omega arith) mode texts (sym (length_both tag descriptor t d)) refl payload
        ∙ ap (λ (n : ℕ). fields_written mode n texts bytes payload) bytes_length
