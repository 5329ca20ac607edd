-- Two parts lent for the texts, and three stores behind them.
use Prim.Native.Nat.{ℕ, ◌≤◌}
use native.Mathlib.Omega.{arith}
use mathlib.Core.Path.{◌≡◌, ap, ◌∙◌}
use mathlib.Core.List.{List, ◌++◌}
use lib.ListN.{length, set}
use borrow.Rule.Slice.PartMut.{mid_of, put_mid}
use Rattle.refusal.specs.Outcome.{Reply, ends}
use Rattle.octets.specs.Put.{put}
use Rattle.octets.proofs.Put.{length-put}
use Rattle.packed_string.specs.declared.text_group.Mode.{Mode}
use Rattle.packed_string.specs.Modes.{packed_text, packed_in, bad_in}
use Rattle.response.specs.Sizes.{tag_length, tag_size, descriptor_length, descriptor_size}
use Rattle.packed_string.proofs.Texts.{packed_text_size, good_in_first, good_in_second, lent_text}
use Rattle.commands.specs.TagDescriptorDate.{texts_length, day_at, month_at, year_at, layout_size, tag_descriptor_date_layout}
use Rattle.commands.proofs.tag_descriptor_date.Layouts.{fields_put}
use Rattle.commands.proofs.tag_descriptor_date.write_layout.Goals as goal

fields_written_lem : (mode : Mode) (tag descriptor : List ℕ) (day month year : ℕ) (l : List ℕ) {r s : Reply} {p q : List ℕ} → length tag ≡ tag_length → length descriptor ≡ descriptor_length → layout_size ≤ length l → texts_length ≤ bad_in mode (tag ++ descriptor)
    → ends r p ≡ packed_in mode tag (mid_of 0 tag_size l) → ends s q ≡ packed_in mode descriptor (mid_of tag_size descriptor_size (put_mid 0 tag_size l p))
    → set (set (set (put_mid tag_size descriptor_size (put_mid 0 tag_size l p) q) day_at day) month_at month) year_at year ≡ put l 0 (tag_descriptor_date_layout mode tag descriptor day month year)
fields_written_lem mode tag descriptor day month year l {p = p} t d room good e f =
    let b = put_mid 0 tag_size l p in
    let first : b ≡ put l 0 (packed_text mode tag) = lent_text mode tag l 0 tag_size (omega arith) (omega arith) (good_in_first mode tag descriptor (omega arith)) e in
    let same : length b ≡ length l = ap length first ∙ length-put l 0 (packed_text mode tag) (omega (arith, packed_text_size mode tag t)) in
    let second = lent_text mode descriptor b tag_size descriptor_size (omega arith) (omega arith) (good_in_second mode tag descriptor (omega arith)) f in
    fields_put mode tag descriptor day month year t d l room first second

pub returns : goal.returns
returns c =
    let a = c.args in
    let t = a.texts in
    fields_written_lem a.mode t.tag t.descriptor t.day t.month t.year a.buf.now (omega arith) (omega arith) (omega arith) (omega arith) c.encode_in.ensures c.encode_in-2.ensures
