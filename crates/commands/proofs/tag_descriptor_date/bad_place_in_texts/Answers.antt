-- A bad character of the tag, or past a good tag the descriptor's place, the tag's length further on.
use Prim.Native.Nat.{ℕ, ◌+◌}
use native.Mathlib.Omega.{arith}
use mathlib.Core.Bool.{Bool, true, false, cond}
use mathlib.Core.Path.{◌≡◌, refl, sym, ap, ap₂, ◌∙◌}
use mathlib.Core.List.{List, ◌++◌}
use lib.Dec.{ltb}
use lib.ListN.{length}
use borrow.Author.Tests.{lt-ltb}
use Rattle.std.specs.Prelude.{Some, None}
use Rattle.std.specs.Bool.{then_some}
use Rattle.packed_string.specs.declared.text_group.Mode.{Mode}
use Rattle.packed_string.specs.Modes.{bad_in}
use Rattle.packed_string.proofs.Texts.{bad_in_within}
use Rattle.response.specs.Sizes.{tag_length, descriptor_length}
use Rattle.commands.specs.Code.{bad_place_in_text}
use Rattle.commands.specs.TagDescriptorDate.{texts_length}
use Rattle.commands.proofs.tag_descriptor_date.Layouts.{length_both, bad_in_tag, bad_beyond}
use Rattle.commands.proofs.tag_descriptor_date.bad_place_in_texts.Goals as goal

-- the place in both texts, tested against their length
tested : (mode : Mode) (tag descriptor : List ℕ) {place : ℕ} → length tag ≡ tag_length → length descriptor ≡ descriptor_length → place ≡ bad_in mode (tag ++ descriptor)
    → then_some (ltb place texts_length) place ≡ bad_place_in_text mode (tag ++ descriptor)
tested mode tag descriptor {place} t d e =
    by (ltb place texts_length) ∙ ap₂ (λ (p n : ℕ). cond (ltb p n) (Some p) None) e (sym (length_both tag descriptor t d))
  where
    by : (b : Bool) → then_some b place ≡ cond b (Some place) None
    by true = refl
    by false = refl

pub returns-then-place-lt-TAG_LENGTH : goal.returns-then-place-lt-TAG_LENGTH
returns-then-place-lt-TAG_LENGTH c =
    let a = c.args in
    let t = a.texts in
    let place = c.bad_place_in-place.result in
    let same : place ≡ bad_in a.mode t.tag = c.bad_place_in-place.ensures in
    ap (λ (b : Bool). then_some b place) (sym (lt-ltb place texts_length (omega arith)))
    ∙ tested a.mode t.tag t.descriptor (omega arith) (omega arith) (same ∙ sym (bad_in_tag t.tag t.descriptor (omega arith) (omega arith) a.mode (omega arith)))

pub overflow_add-place : goal.overflow_add-place
overflow_add-place c = let a = c.args in omega (arith, c.bad_place_in-place-2.ensures, bad_in_within a.mode a.texts.descriptor)

pub returns : goal.returns
returns c =
    let a = c.args in
    let t = a.texts in
    let place : c.bad_place_in-place-2.result ≡ bad_in a.mode t.descriptor = c.bad_place_in-place-2.ensures in
    c.then_some.ensures
    ∙ tested a.mode t.tag t.descriptor (omega arith) (omega arith)
    (ap (λ (n : ℕ). tag_length + n) place ∙ sym (bad_beyond t.tag t.descriptor (omega arith) (omega arith) a.mode (omega (arith, c.bad_place_in-place.ensures))))
