-- Each refusal by its test, and the rest by the layout that was put.
use Prim.Native.Nat.{ℕ, ◌≤◌}
use native.Mathlib.Omega.{arith}
use mathlib.Core.Path.{◌≡◌, sym, ap, ◌∙◌}
use mathlib.Core.List.{List, [], ◌∷◌, ◌++◌}
use lib.ListN.{length}
use Rattle.std.specs.Prelude.{None}
use Rattle.refusal.specs.Outcome.{refuses}
use Rattle.octets.proofs.Put.{put-wrote}
use Rattle.packed_string.specs.declared.text_group.Mode.{Mode}
use Rattle.packed_string.specs.Modes.{bad_in}
use Rattle.response.specs.Sizes.{tag_length, descriptor_length}
use Rattle.response.proofs.Fields.{some_below, none_below}
use Rattle.commands.specs.Code.{bad_place_in_text}
use Rattle.commands.specs.TagDescriptorDate.{texts_length, tag_descriptor_date_layout}
use Rattle.commands.proofs.tag_descriptor_date.Layouts.{length_both, length-layout, requested_small, requested_bad, requested_fits}
use Rattle.commands.proofs.write_tag_descriptor_date.encode_data.Goals as goal

pub returns-then-buf-lt-LAYOUT_SIZE : goal.returns-then-buf-lt-LAYOUT_SIZE
returns-then-buf-lt-LAYOUT_SIZE c =
    let a = c.args in
    let t = a.texts in
    sym (requested_small a.mode t.tag t.descriptor t.day t.month t.year a.buf.now (omega arith))

pub returns-in-Some : goal.returns-in-Some
returns-in-Some c =
    let a = c.args in
    let t = a.texts in
    let text = t.tag ++ t.descriptor in
    let found = some_below (bad_in a.mode text) (length text) (sym c.in-Some.is ∙ c.bad_place_in_texts.ensures) in
    ap (λ (n : ℕ). refuses 7 (n ∷ []) a.buf.now) found.0
    ∙ sym (requested_bad a.mode t.tag t.descriptor t.day t.month t.year (omega arith) (omega arith) a.buf.now (omega arith) (omega (arith, found.1, length_both t.tag t.descriptor (omega arith) (omega arith))))

-- without a bad place there is none in either text
all_good : (mode : Mode) (tag descriptor : List ℕ) → length tag ≡ tag_length → length descriptor ≡ descriptor_length → None ≡ bad_place_in_text mode (tag ++ descriptor) → texts_length ≤ bad_in mode (tag ++ descriptor)
all_good mode tag descriptor t d e = omega (arith, length_both tag descriptor t d, none_below (bad_in mode (tag ++ descriptor)) (length (tag ++ descriptor)) e)

pub write_layout-requires : goal.write_layout-requires
write_layout-requires c =
    let a = c.args in
    let t = a.texts in
    (omega arith, all_good a.mode t.tag t.descriptor (omega arith) (omega arith) (sym c.in_default.is ∙ c.bad_place_in_texts.ensures))

pub returns : goal.returns
returns c =
    let a = c.args in
    let t = a.texts in
    let good = all_good a.mode t.tag t.descriptor (omega arith) (omega arith) (sym c.in_default.is ∙ c.bad_place_in_texts.ensures) in
    put-wrote a.buf.now (tag_descriptor_date_layout a.mode t.tag t.descriptor t.day t.month t.year) c.write_layout.ensures (sym (length-layout a.mode t.tag t.descriptor t.day t.month t.year (omega arith) (omega arith)))
    ∙ sym (requested_fits a.mode t.tag t.descriptor t.day t.month t.year (omega arith) (omega arith) a.buf.now (omega arith) good)
