-- write_tag_descriptor_date.rs never stops, and does what document 01 says of command 18 in crate mode: its lines (specs/Source.antt) come
-- to what specs/TagDescriptorDate.antt gives.
use Prim.Native.Nat.{ℕ, ◌≤◌}
use native.Mathlib.Omega.{arith}
use mathlib.Core.Path.{◌≡◌, refl, sym, ap, ◌∙◌}
use mathlib.Core.Bool.{Bool, true, false, cond}
use mathlib.Core.List.{List, [], ◌∷◌, ◌++◌}
use lib.ListN.{length, set, take, drop, replicate, length-set, length-drop}
use lib.Seq.{length-take-le}
use lib.Dec.{ltb}
use borrow.Author.Tests.{ltb-true, ltb-false, lt-ltb, le-leb}
use Rattle.refusal.specs.Outcome.{Outcome, ends, done, refuses}
use Rattle.octets.specs.Digits.{Below}
use Rattle.octets.proofs.Bases.{below_take, below_drop}
use Rattle.octets.specs.Put.{put}
use Rattle.octets.specs.Source.{Run, comes, store_at, lent_to, read_at, slice_at, after_call}
use Rattle.octets.proofs.Put.{length-put, put-wrote}
use Rattle.packed_string.specs.declared.text_group.Mode.TheVariants.{Crate}
use Rattle.packed_string.specs.Source.{source_encoded, source_decoded}
use Rattle.framing.specs.Payload.{carries}
use Rattle.packed_string.specs.Modes.{packed_text, unpacked_text}
use Rattle.response.specs.Sizes.{tag_length, tag_size, descriptor_length, descriptor_size}
use Rattle.packed_string.proofs.Texts.{packed_text_size, crate_good}
use Rattle.packed_string.proofs.TextSource.{source_lent, source_filled}
use Rattle.commands.specs.TagDescriptorDate.{day_at, month_at, year_at, layout_size, Fields, reads_fields, tag_descriptor_date_layout, tag_descriptor_date_requested, fields_refused, fields_read}
use Rattle.commands.specs.TagDescriptorDateSource.{source_fields_requested, source_read}
use Rattle.commands.proofs.tag_descriptor_date.Layouts.{length_both, length-layout, fields_put, requested_small, requested_fits, read_short, read_whole}

pub encode_is_source : (tag descriptor : List ℕ) (day month year : ℕ) (buf : List ℕ) → length tag ≡ tag_length → length descriptor ≡ descriptor_length
    → source_fields_requested tag descriptor day month year buf ≡ comes (tag_descriptor_date_requested Crate tag descriptor day month year buf)
encode_is_source tag descriptor day month year buf t d = by (ltb (length buf) layout_size) refl
  where
    p : List ℕ
    p = packed_text Crate tag

    q : List ℕ
    q = packed_text Crate descriptor

    stored : List ℕ → Run Outcome
    stored b = store_at b day_at day (λ b₁. store_at b₁ month_at month (λ b₂. store_at b₂ year_at year (λ b₃. comes (ends (done (layout_size ∷ [])) b₃))))

    by : (small : Bool) → ltb (length buf) layout_size ≡ small
        → cond small (comes (refuses 2 [] buf)) (lent_to buf 0 tag_size (source_encoded tag) (λ b. lent_to b tag_size day_at (source_encoded descriptor) stored)) ≡ comes (tag_descriptor_date_requested Crate tag descriptor day month year buf)
    by true e = ap comes (sym (requested_small Crate tag descriptor day month year buf (ltb-true (length buf) layout_size e)))
    by false e =
        let room : layout_size ≤ length buf = ltb-false (length buf) layout_size e in
        let b₁ = put buf 0 p in
        let l₁ : length b₁ ≡ length buf = length-put buf 0 p (omega (arith, packed_text_size Crate tag t)) in
        let b₂ = put b₁ tag_size q in
        let l₂ : length b₂ ≡ length b₁ = length-put b₁ tag_size q (omega (arith, packed_text_size Crate descriptor d)) in
        let b₃ = set b₂ day_at day in
        let l₃ : length b₃ ≡ length b₂ = length-set b₂ day_at day in
        let b₄ = set b₃ month_at month in
        let l₄ : length b₄ ≡ length b₃ = length-set b₃ month_at month in
        source_lent tag buf 0 tag_size (λ b. lent_to b tag_size day_at (source_encoded descriptor) stored) (omega arith) (omega arith)
        ∙ source_lent descriptor b₁ tag_size day_at stored (omega arith) (omega arith)
        ∙ rw (lt-ltb day_at (length b₂) (omega arith), lt-ltb month_at (length b₃) (omega arith), lt-ltb year_at (length b₄) (omega arith))
        (ap comes (put-wrote buf (tag_descriptor_date_layout Crate tag descriptor day month year) (fields_put Crate tag descriptor day month year t d buf room refl refl) (sym (length-layout Crate tag descriptor day month year t d))
        ∙ sym (requested_fits Crate tag descriptor day month year t d buf room (omega (arith, crate_good (tag ++ descriptor), length_both tag descriptor t d)))))

pub decode_is_source : (bs : List ℕ) → Below 256 bs → source_read bs ≡ comes (fields_read Crate bs)
decode_is_source bs h = by (ltb (length bs) layout_size) refl
  where
    dated : List ℕ → List ℕ → Run Fields
    dated tag descriptor = read_at bs day_at (λ day. read_at bs month_at (λ month. read_at bs year_at (λ year. comes (reads_fields carries tag descriptor day month year))))

    described : List ℕ → Run Fields
    described tag = slice_at bs tag_size day_at (λ part. after_call (source_decoded part (replicate descriptor_length 0x20)) (dated tag))

    by : (short : Bool) → ltb (length bs) layout_size ≡ short → cond short (comes (fields_refused 3 [])) (slice_at bs 0 tag_size (λ part. after_call (source_decoded part (replicate tag_length 0x20)) described)) ≡ comes (fields_read Crate bs)
    by true e = ap comes (sym (read_short Crate bs (ltb-true (length bs) layout_size e)))
    by false e =
        let room : layout_size ≤ length bs = ltb-false (length bs) layout_size e in
        let first = take tag_size bs in
        let second = take descriptor_size (drop tag_size bs) in
        let l₁ : length first ≡ tag_size = length-take-le tag_size bs (omega arith) in
        let l₂ : length second ≡ descriptor_size = length-take-le descriptor_size (drop tag_size bs) (omega (arith, length-drop tag_size bs)) in
        rw (le-leb tag_size (length bs) (omega arith))
        (source_filled first (replicate tag_length 0x20) described (below_take 256 tag_size bs h) (omega arith) (omega arith)
        ∙ rw (le-leb day_at (length bs) (omega arith))
        (source_filled second (replicate descriptor_length 0x20) (dated (unpacked_text Crate first)) (below_take 256 descriptor_size (drop tag_size bs) (below_drop 256 tag_size bs h)) (omega arith) (omega arith)
        ∙ rw (lt-ltb day_at (length bs) (omega arith), lt-ltb month_at (length bs) (omega arith), lt-ltb year_at (length bs) (omega arith)) (ap comes (sym (read_whole Crate bs room)))))
