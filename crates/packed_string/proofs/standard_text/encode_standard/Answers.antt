-- A character without a code by its place, and the rest by what `pack` puts: where all groups fit, all of them.
use Prim.Native.Nat.{ℕ}
use native.Mathlib.Omega.{arith}
use mathlib.Core.Path.{◌≡◌, sym, ap, ◌∙◌}
use mathlib.Core.List.{[], ◌∷◌}
use lib.ListN.{length}
use Rattle.refusal.specs.Outcome.{refuses, wrote}
use Rattle.packed_string.specs.declared.text_group.Mode.TheVariants.{Standard}
use Rattle.packed_string.specs.Groups.{groups, packed, packed_count}
use Rattle.packed_string.proofs.Groups.{packed_wrote}
use Rattle.packed_string.proofs.BadPlace.{found_some, found_none}
use Rattle.packed_string.proofs.StandardCalls.{standard_packs_bad, standard_packs}
use Rattle.packed_string.proofs.standard_text.encode_standard.Goals as goal

pub returns-in-Some : goal.returns-in-Some
returns-in-Some c =
    let a = c.args in
    let found = found_some a.src.now (sym c.first_bad.ensures ∙ c.in-Some.is) in
    ap (λ (k : ℕ). refuses 7 (k ∷ []) a.dst.now) found.0 ∙ sym (standard_packs_bad a.src.now a.dst.now (omega arith) found.1)

pub returns : goal.returns
returns c =
    let a = c.args in
    let s = a.src.now in
    let d = a.dst.now in
    let p = c.pack in
    let all : packed_count s d ≡ groups (length s) = omega arith in
    packed_wrote Standard s d (packed_count s d) p.ensures.0 p.ensures.1
    ∙ ap (λ (k : ℕ). wrote (packed Standard s k) d) all
    ∙ sym (standard_packs s d (omega arith) (found_none s (sym c.first_bad.ensures ∙ c.in_default.is)))
