-- The layout of a tag, a descriptor and a date: how long it is, how its fields come into a buffer, and what a request and a reading come
-- to.
use Prim.Native.Nat.{ℕ, ◌+◌, ◌≤◌, ◌<◌}
use native.Mathlib.Omega.{arith}
use mathlib.Core.Path.{◌≡◌, ap, ◌∙◌}
use mathlib.Core.List.{List, [], ◌∷◌, ◌++◌}
use lib.ListN.{length, set, length-append}
use borrow.Author.Tests.{lt-ltb, le-ltb}
use Rattle.refusal.specs.Outcome.{wrote, refuses}
use Rattle.packed_string.specs.declared.text_group.Mode.{Mode}
use Rattle.packed_string.specs.Modes.{packed_text, bad_in}
use Rattle.response.specs.Sizes.{tag_length, tag_size, descriptor_length}
use Rattle.packed_string.proofs.Texts.{packed_text_size, bad_in_first, bad_in_second, fields_small, fields_bad, fields_fit}
use Rattle.octets.specs.Put.{put}
use Rattle.octets.proofs.Put.{length-put, put-put, stores_put}
use Rattle.commands.specs.TagDescriptorDate.{texts_length, day_at, month_at, year_at, layout_size, tag_descriptor_date_layout, tag_descriptor_date_requested, fields_at, fields_refused, fields_read}

-- both texts' characters, one behind the other
module _ (tag descriptor : List ℕ) (t : length tag ≡ tag_length) (d : length descriptor ≡ descriptor_length) where
  pub length_both : length (tag ++ descriptor) ≡ texts_length
  length_both = omega (arith, length-append tag descriptor)

  -- the bytes of both, behind which the date stands
  pub length_texts : (mode : Mode) → length (packed_text mode tag ++ packed_text mode descriptor) ≡ day_at
  length_texts mode = omega (arith, length-append (packed_text mode tag) (packed_text mode descriptor), packed_text_size mode tag t, packed_text_size mode descriptor d)

  pub bad_in_tag : (mode : Mode) → bad_in mode tag < tag_length → bad_in mode (tag ++ descriptor) ≡ bad_in mode tag
  bad_in_tag mode h = bad_in_first mode tag descriptor (omega arith)

  pub bad_beyond : (mode : Mode) → tag_length ≤ bad_in mode tag → bad_in mode (tag ++ descriptor) ≡ tag_length + bad_in mode descriptor
  bad_beyond mode h = bad_in_second mode tag descriptor (omega arith) ∙ ap (λ (n : ℕ). n + bad_in mode descriptor) t

module _ (mode : Mode) (tag descriptor : List ℕ) (day month year : ℕ) where
  module _ (t : length tag ≡ tag_length) (d : length descriptor ≡ descriptor_length) where
    pub length-layout : length (tag_descriptor_date_layout mode tag descriptor day month year) ≡ layout_size
    length-layout = omega (arith, length-append (packed_text mode tag ++ packed_text mode descriptor) (day ∷ month ∷ year ∷ []), length_texts tag descriptor t d mode)

    -- both texts and the three bytes of the date, each put at its place
    pub fields_put : (l : List ℕ) {b₁ b₂ : List ℕ} → layout_size ≤ length l → b₁ ≡ put l 0 (packed_text mode tag) → b₂ ≡ put b₁ tag_size (packed_text mode descriptor)
        → set (set (set b₂ day_at day) month_at month) year_at year ≡ put l 0 (tag_descriptor_date_layout mode tag descriptor day month year)
    fields_put l {b₁} {b₂} h e f =
        let p = packed_text mode tag in
        let q = packed_text mode descriptor in
        let texts : b₂ ≡ put l 0 (p ++ q) = f ∙ ap (λ (b : List ℕ). put b tag_size q) e ∙ put-put l 0 p q tag_size (omega (arith, packed_text_size mode tag t)) (omega (arith, packed_text_size mode tag t)) in
        let room : length b₂ ≡ length l = ap length texts ∙ length-put l 0 (p ++ q) (omega (arith, length_texts tag descriptor t d mode)) in
        stores_put b₂ day_at day (month ∷ year ∷ []) (omega arith)
        ∙ ap (λ (b : List ℕ). put b day_at (day ∷ month ∷ year ∷ [])) texts
        ∙ put-put l 0 (p ++ q) (day ∷ month ∷ year ∷ []) day_at (omega (arith, length_texts tag descriptor t d mode)) (omega (arith, length_texts tag descriptor t d mode))

    module _ (buffer : List ℕ) (room : layout_size ≤ length buffer) where
      pub requested_bad : bad_in mode (tag ++ descriptor) < texts_length → tag_descriptor_date_requested mode tag descriptor day month year buffer ≡ refuses 7 (bad_in mode (tag ++ descriptor) ∷ []) buffer
      unfolding tag_descriptor_date_requested
      requested_bad h = fields_bad mode layout_size (tag ++ descriptor) (tag_descriptor_date_layout mode tag descriptor day month year) buffer room (omega (arith, length_both tag descriptor t d))

      pub requested_fits : texts_length ≤ bad_in mode (tag ++ descriptor) → tag_descriptor_date_requested mode tag descriptor day month year buffer ≡ wrote (tag_descriptor_date_layout mode tag descriptor day month year) buffer
      unfolding tag_descriptor_date_requested
      requested_fits h = fields_fit mode layout_size (tag ++ descriptor) (tag_descriptor_date_layout mode tag descriptor day month year) buffer room (omega (arith, length_both tag descriptor t d))

  pub requested_small : (buffer : List ℕ) → length buffer < layout_size → tag_descriptor_date_requested mode tag descriptor day month year buffer ≡ refuses 2 [] buffer
  unfolding tag_descriptor_date_requested
  requested_small buffer h = fields_small mode layout_size (tag ++ descriptor) (tag_descriptor_date_layout mode tag descriptor day month year) buffer h

module _ (mode : Mode) (bs : List ℕ) where
  pub read_short : length bs < layout_size → fields_read mode bs ≡ fields_refused 3 []
  unfolding fields_read
  read_short h = rw (lt-ltb (length bs) layout_size h)

  pub read_whole : layout_size ≤ length bs → fields_read mode bs ≡ fields_at mode bs
  unfolding fields_read
  read_whole h = rw (le-ltb (length bs) layout_size h)
