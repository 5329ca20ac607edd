-- How long a run of groups is, what a turn of the loop that puts them does, and what a call that counts what was put comes to.
use Prim.Native.Nat.{ℕ, ◌+◌, ◌*◌, ◌≤◌}
use native.Mathlib.Numerals.{add-one}
use native.Mathlib.Omega.{arith}
use mathlib.Core.Path.{◌≡◌, refl, sym, ap, ◌∙◌}
use mathlib.Core.List.{List, [], ◌∷◌}
use lib.ListN.{length}
use Rattle.refusal.specs.Outcome.{ends, done, wrote}
use Rattle.octets.specs.Put.{put, put_if_fits, first_parts}
use Rattle.octets.proofs.Put.{length-put, put_fitting, put-wrote}
use Rattle.octets.proofs.Parts.{length_parts, parts_turn}
use Rattle.packed_string.specs.declared.text_group.Mode.{Mode}
use Rattle.packed_string.specs.Group.{pack_group, unpack_group}
use Rattle.packed_string.specs.Groups.{packed_group, unpacked_group, packed, unpacked}

-- groups of one size, of which `d` has one more than `b`, copied to where `b` ends
pub group_turn : (group : ℕ → List ℕ) (size : ℕ) → ((g : ℕ) → length (group g) ≡ size) → (l : List ℕ) (g : ℕ) {b d p : List ℕ} → b ≡ put l 0 (first_parts group g) → p ≡ group g → d ≡ put_if_fits b (g * size) p → g * size + size ≤ length l
    → d ≡ put l 0 (first_parts group (g + 1))
group_turn group size sized l g {b} {d} {p} eb ep ed h =
    let filled : length b ≡ length l = ap length eb ∙ length-put l 0 (first_parts group g) (omega (arith, length_parts group size sized g)) in
    let one : length p ≡ size = ap length ep ∙ sized g in
    rw add-one (parts_turn group size sized l g eb (ed ∙ put_fitting b (g * size) p (omega arith) ∙ ap (put b (g * size)) ep) (omega arith))

module _ (m : Mode) (s : List ℕ) where
  pub packed_sized : (g : ℕ) → length (packed_group m s g) ≡ 3
  unfolding pack_group
  packed_sized g = refl

  pub length-packed : (g : ℕ) → length (packed m s g) ≡ g * 3
  length-packed = length_parts (packed_group m s) 3 packed_sized

  pub packed_wrote : (l : List ℕ) (g : ℕ) {b : List ℕ} {n : ℕ} → n ≡ g → b ≡ put l 0 (packed m s g) → ends (done (n * 3 ∷ [])) b ≡ wrote (packed m s g) l
  packed_wrote l g e f = put-wrote l (packed m s g) f (ap (λ (k : ℕ). k * 3) e ∙ sym (length-packed g))

  pub unpacked_sized : (g : ℕ) → length (unpacked_group m s g) ≡ 4
  unfolding unpack_group
  unpacked_sized g = refl

  pub length-unpacked : (g : ℕ) → length (unpacked m s g) ≡ g * 4
  length-unpacked = length_parts (unpacked_group m s) 4 unpacked_sized

  pub unpacked_wrote : (l : List ℕ) (g : ℕ) {b : List ℕ} {n : ℕ} → n ≡ g → b ≡ put l 0 (unpacked m s g) → ends (done (n * 4 ∷ [])) b ≡ wrote (unpacked m s g) l
  unpacked_wrote l g e f = put-wrote l (unpacked m s g) f (ap (λ (k : ℕ). k * 4) e ∙ sym (length-unpacked g))
