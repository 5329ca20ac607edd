-- A layout that was written reads back, whatever stands behind it: each character as `read_back` says, and texts of 0x20 to 0x5F as they are.
use Prim.Native.Nat.{ℕ, ◌+◌}
use native.Mathlib.Omega.{arith}
use mathlib.Core.Path.{◌≡◌, sym, ap, ap₂, ◌∙◌}
use mathlib.Core.List.{List, [], ◌∷◌, ◌++◌, map, append_assoc}
use lib.ListN.{length, get_or, take, drop, length-append}
use lib.Seq.{take_at, drop_at, get_or-append-add}
use Rattle.refusal.specs.Outcome.{done, ends}
use Rattle.packed_string.specs.declared.text_group.Mode.{Mode}
use Rattle.packed_string.specs.Plain.{Plain}
use Rattle.packed_string.specs.Text.{read_back}
use Rattle.packed_string.proofs.RoundTrip.{plain_back}
use Rattle.framing.specs.Payload.{carries}
use Rattle.packed_string.specs.Modes.{packed_text, unpacked_text}
use Rattle.response.specs.Sizes.{tag_length, tag_size, descriptor_length, descriptor_size}
use Rattle.packed_string.proofs.Texts.{packed_text_size, fields_done}
use Rattle.packed_string.proofs.TextRoundTrip.{whole_back}
use Rattle.commands.specs.TagDescriptorDate.{day_at, month_at, year_at, layout_size, tag_descriptor_date_layout, tag_descriptor_date_requested, reads_fields, fields_read}
use Rattle.commands.proofs.tag_descriptor_date.Layouts.{length_texts, length-layout, read_whole}

module _ (mode : Mode) (tag descriptor : List ℕ) (day month year : ℕ) (t : length tag ≡ tag_length) (d : length descriptor ≡ descriptor_length) (rest : List ℕ) where
  pub fields_back : fields_read mode (tag_descriptor_date_layout mode tag descriptor day month year ++ rest) ≡ reads_fields carries (map (read_back mode) tag) (map (read_back mode) descriptor) day month year
  fields_back =
      let p = packed_text mode tag in
      let q = packed_text mode descriptor in
      let date = day ∷ month ∷ year ∷ rest in
      let tag' = map (read_back mode) tag in
      let descriptor' = map (read_back mode) descriptor in
      let bs = tag_descriptor_date_layout mode tag descriptor day month year ++ rest in
      let texts : bs ≡ (p ++ q) ++ date = append_assoc (p ++ q) (day ∷ month ∷ year ∷ []) rest in
      let split : bs ≡ p ++ (q ++ date) = texts ∙ append_assoc p q date in
      let first : take tag_size bs ≡ p = ap (take tag_size) split ∙ take_at p (q ++ date) tag_size (packed_text_size mode tag t) in
      let second : take descriptor_size (drop tag_size bs) ≡ q = ap (take descriptor_size) (ap (drop tag_size) split ∙ drop_at p (q ++ date) tag_size (packed_text_size mode tag t)) ∙ take_at q date descriptor_size (packed_text_size mode descriptor d) in
      let at : (k : ℕ) → get_or bs (day_at + k) 0 ≡ get_or date k 0 = λ k. ap₂ (λ (l : List ℕ) (i : ℕ). get_or l (i + k) 0) texts (sym (length_texts tag descriptor t d mode)) ∙ get_or-append-add (p ++ q) date k 0 in
      read_whole mode bs (omega (arith, length-append (tag_descriptor_date_layout mode tag descriptor day month year) rest, length-layout mode tag descriptor day month year t d))
      ∙ ap₂ (λ (x y : List ℕ). reads_fields carries (unpacked_text mode x) (unpacked_text mode y) (get_or bs day_at 0) (get_or bs month_at 0) (get_or bs year_at 0)) first second
      ∙ ap₂ (λ (x y : List ℕ). reads_fields carries x y (get_or bs day_at 0) (get_or bs month_at 0) (get_or bs year_at 0)) (whole_back mode tag (omega arith)) (whole_back mode descriptor (omega arith))
      ∙ ap₂ (λ (x y : ℕ). reads_fields carries tag' descriptor' x y (get_or bs year_at 0)) (at 0) (at 1)
      ∙ ap (λ (x : ℕ). reads_fields carries tag' descriptor' day month x) (at 2)

  pub plain_fields_back : Plain tag → Plain descriptor → fields_read mode (tag_descriptor_date_layout mode tag descriptor day month year ++ rest) ≡ reads_fields carries tag descriptor day month year
  plain_fields_back f g = fields_back ∙ ap₂ (λ (x y : List ℕ). reads_fields carries x y day month year) (plain_back mode tag f) (plain_back mode descriptor g)

-- and so does what a request wrote
pub request_back : (mode : Mode) (tag descriptor : List ℕ) (day month year : ℕ) → length tag ≡ tag_length → length descriptor ≡ descriptor_length → (buffer : List ℕ) {values left : List ℕ}
    → tag_descriptor_date_requested mode tag descriptor day month year buffer ≡ ends (done values) left → fields_read mode left ≡ reads_fields carries (map (read_back mode) tag) (map (read_back mode) descriptor) day month year
unfolding tag_descriptor_date_requested
request_back mode tag descriptor day month year t d buffer e =
    let bytes = tag_descriptor_date_layout mode tag descriptor day month year in
    ap (fields_read mode) (fields_done mode layout_size _ bytes buffer e) ∙ fields_back mode tag descriptor day month year t d (drop (length bytes) buffer)
