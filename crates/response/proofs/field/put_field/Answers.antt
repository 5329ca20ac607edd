-- Where nothing is refused, by what was written.
use Prim.Native.Nat.{ℕ, ◌+◌, ◌-◌, ◌≤◌}
use native.Mathlib.Omega.{arith}
use mathlib.Core.Path.{◌≡◌, sym, ap, ◌∙◌}
use mathlib.Core.List.{List, [], ◌∷◌}
use lib.ListN.{length}
use Rattle.refusal.specs.Outcome.{Reply, ends, done}
use Rattle.octets.specs.Put.{put, put_if_fits}
use mathlib.Core.Logic.{◌⊎◌, inl, inr}
use Rattle.response.specs.declared.field.Kind.{Kind}
use Rattle.response.specs.declared.field.Kind.TheVariants.{Bytes, Group, Text}
use Rattle.response.specs.Field.{characters_in, latest_of, pushed_in, leads, contents, bytes_in, size_in, bad_of, field_characters}
use Rattle.packed_string.specs.declared.text_group.Mode.{Mode}
use Rattle.packed_string.specs.Modes.{packed_in}
use Rattle.packed_string.proofs.Texts.{lent_text}
use borrow.Rule.Slice.PartMut.{mid_of, put_mid}
use Rattle.octets.proofs.Put.{put_fitting}
use Rattle.response.proofs.Fields.{length-bytes, latest_small, none_below, pushed_fits}
use Rattle.response.proofs.field.put_field.Goals as goal

-- done: the place given is the one behind what was put, and the count what lies before it
placed : (kind : Kind) (cs l after : List ℕ) (at end : ℕ) → end ≡ at + size_in kind (length cs) → end ≤ latest_of kind → end ≤ length l → characters_in kind (length cs) ≤ bad_of kind cs → after ≡ put l at (bytes_in kind cs)
    → leads (ends (done ((end - at) ∷ [])) after) end ≡ pushed_in kind cs l at
placed kind cs l after at end e timely roomy good written =
    let size : end - at ≡ size_in kind (length cs) = omega arith in
    ap (λ (b : List ℕ). leads (ends (done ((end - at) ∷ [])) b) end) written
    ∙ ap (λ (n : ℕ). leads (ends (done (n ∷ [])) (put l at (bytes_in kind cs))) end) size
    ∙ ap (leads (ends (done (size_in kind (length cs) ∷ [])) (put l at (bytes_in kind cs)))) e
    ∙ sym (pushed_fits kind cs l at (omega arith) (omega arith) good)

-- bytes that stay as they are
plain : {kind : Kind} → (kind ≡ Bytes) ⊎ (kind ≡ Group) → (cs : List ℕ) → bytes_in kind cs ≡ cs
plain is cs = elim is [ inl e ↦ ap (λ (k : Kind). bytes_in k cs) e | inr e ↦ ap (λ (k : Kind). bytes_in k cs) e ]

pub returns-in-Bytes-clause-placed : goal.returns-in-Bytes-clause-placed
returns-in-Bytes-clause-placed c =
    let a = c.args in
    let f = a.field in
    let cs = contents f in
    let l = a.payload.now in
    let e = plain c.in-Bytes.is cs in
    let latest = latest_small f.kind in
    let end : c.saturating_add-end.result ≡ a.at + size_in f.kind (length cs) = omega arith in
    let good = none_below (bad_of f.kind cs) (field_characters f) c.in_default.ensures.value in
    placed f.kind cs l _ a.at _ end (omega arith) (omega arith) good
    (c.copy_into.ensures ∙ ap (put_if_fits l a.at) c.contents-contents.ensures.value ∙ put_fitting l a.at cs (omega (arith, length-bytes f.kind cs, ap length e)) ∙ sym (ap (put l a.at) e))

-- text, packed into the part that was lent
texted : {kind : Kind} {mode : Mode} → kind ≡ Text mode → (cs l : List ℕ) (at n : ℕ) {r : Reply} {part : List ℕ} → at + n ≤ length l → n ≡ size_in kind (length cs) → characters_in kind (length cs) ≤ bad_of kind cs
    → ends r part ≡ packed_in mode cs (mid_of at n l) → put_mid at n l part ≡ put l at (bytes_in kind cs)
texted {kind} {mode} e cs l at n h f k g =
    let size : n ≡ size_in (Text mode) (length cs) = rw e at f in
    rw e (lent_text mode cs l at n h (sym size) (rw e at k) g)

pub returns-in-Text-clause-placed : goal.returns-in-Text-clause-placed
returns-in-Text-clause-placed c =
    let a = c.args in
    let f = a.field in
    let cs = contents f in
    let l = a.payload.now in
    let latest = latest_small f.kind in
    let end : c.saturating_add-end.result ≡ a.at + size_in f.kind (length cs) = omega arith in
    let good = none_below (bad_of f.kind cs) (field_characters f) c.in_default.ensures.value in
    placed f.kind cs l _ a.at _ end (omega arith) (omega arith) good
    (texted c.in-Text.is cs l a.at _ (omega arith) (omega arith) good (rw c.contents-contents.ensures.value at c.encode_in.ensures))
