-- Two texts compared character by character; and texts that have a code for each character.
use Prim.Native.Nat.{ℕ, zero, suc, ◌/◌, ◌≤◌}
use native.Mathlib.Omega.{arith}
use mathlib.Core.Path.{◌≡◌, refl, ap}
use mathlib.Core.Bool.{Bool, ◌&&◌}
use mathlib.Core.List.{List, [], ◌∷◌, ◌++◌}
use lib.Dec.{eqb, lit≤}
use lib.ListN.{length}
use lib.Pointwise.{pointwise}
use Rattle.octets.specs.Digits.{from_digits}
use Rattle.octets.proofs.Parts.{parts_zero, parts_suc}
use Rattle.packed_string.specs.declared.text_group.Mode.TheVariants.{Standard}
use Rattle.packed_string.specs.Group.{unpack_group}
use Rattle.packed_string.specs.Groups.{bytes_at, unpacked_group, unpacked}
use Rattle.packed_string.specs.Plain.{bad_place, Plain}
use Rattle.packed_string.specs.Modes.{unpacked_text, bad_in}
use Rattle.packed_string.proofs.BadPlace.{plain_place}
use Rattle.packed_string.proofs.RoundTrip.{back_coded}
use Rattle.device.specs.Own.{own_tag, own_descriptor}
use Rattle.device.specs.Device.{same_text}

-- texts are compared as `==` compares arrays
pub same_pointwise : (s t : List ℕ) → pointwise eqb s t ≡ same_text s t
same_pointwise [] [] = refl
same_pointwise [] (d ∷ t) = refl
same_pointwise (c ∷ s) [] = refl
same_pointwise (c ∷ s) (d ∷ t) = ap (λ (rest : Bool). eqb c d && rest) (same_pointwise s t)

-- whatever bytes are unpacked, each character has a code
plain_append : (s t : List ℕ) → Plain s → Plain t → Plain (s ++ t)
plain_append [] t p q = q
plain_append (c ∷ s) t p q = (p.0, plain_append s t p.1 q)

plain_group : (bs : List ℕ) (g : ℕ) → Plain (unpacked_group Standard bs g)
unfolding unpack_group
plain_group bs g =
    let n = from_digits 256 (bytes_at bs g) in
    (back_coded Standard (n / 64 / 64 / 64), (back_coded Standard (n / 64 / 64), (back_coded Standard (n / 64), (back_coded Standard n, tt))))

plain_unpacked : (bs : List ℕ) (g : ℕ) → Plain (unpacked Standard bs g)
plain_unpacked bs zero = rw (parts_zero (unpacked_group Standard bs)) tt
plain_unpacked bs (suc g) = rw (parts_suc (unpacked_group Standard bs) g) (plain_append (unpacked Standard bs g) (unpacked_group Standard bs g) (plain_unpacked bs g) (plain_group bs g))

pub texts_good : (bs cs : List ℕ) → let text = unpacked_text Standard bs ++ unpacked_text Standard cs in length text ≤ bad_in Standard text
unfolding bad_in
texts_good bs cs =
    let s = unpacked_text Standard bs in
    let t = unpacked_text Standard cs in
    omega (arith, plain_place (s ++ t) (plain_append s t (plain_unpacked bs (length bs / 3)) (plain_unpacked cs (length cs / 3))))

-- and so has each of the device's own
pub own_good : length (own_tag ++ own_descriptor) ≤ bad_in Standard (own_tag ++ own_descriptor)
unfolding own_tag own_descriptor bad_in bad_place
own_good = lit≤ tt
