-- Numbers side by side come apart again, whatever the number of their fields and the widths, if each number fits its own; and side by side
-- they are a number of as many bits.
use Prim.Native.Nat.{ℕ, ◌+◌, ◌*◌, ◌/◌, ◌%◌, ◌^◌, ◌<◌}
use native.Mathlib.Nat.{add-mul, add_assoc, mul_assoc, pow-zero}
use native.Mathlib.Omega.{arith}
use mathlib.Core.Path.{◌≡◌, refl, sym, ap, ap₂, ◌∙◌}
use mathlib.Core.List.{List, [], ◌∷◌}
use lib.Arith.{digits_lt, digits_div, digits_mod}
use lib.Dec.{lit<}
use lib.Pow.{pow-add}
use Rattle.host.specs.Bits.{width_of, side_by_side, apart}

-- a number for each field, and none too large for its own
abbrev pub Fit : List ℕ → List ℕ → Type 0
Fit [] [] = Unit {0}
Fit [] (n ∷ ns) = ⊥
Fit (w ∷ ws) [] = ⊥
Fit (w ∷ ws) (n ∷ ns) = (n < 2 ^ w) × Fit ws ns

pub packed_small : (ws ns : List ℕ) → Fit ws ns → side_by_side ws ns < 2 ^ width_of ws
packed_small [] [] f = rw pow-zero (lit< tt)
packed_small [] (n ∷ ns) f = elim f [ ]
packed_small (w ∷ ws) [] f = elim f [ ]
packed_small (w ∷ ws) (n ∷ ns) f = rw (pow-add 2 w (width_of ws)) (digits_lt f.0 (packed_small ws ns f.1))

-- also where something stands in front of the fields
packed_behind : (front : ℕ) (ws ns : List ℕ) → Fit ws ns → apart ws (front * 2 ^ width_of ws + side_by_side ws ns) ≡ ns
packed_behind front [] [] f = refl
packed_behind front [] (n ∷ ns) f = elim f [ ]
packed_behind front (w ∷ ws) [] f = elim f [ ]
packed_behind front (w ∷ ws) (n ∷ ns) f =
    let end = 2 ^ width_of ws in
    let rest = side_by_side ws ns in
    let first : (front * 2 ^ (w + width_of ws) + (n * end + rest)) % 2 ^ (w + width_of ws) / end ≡ n =
    ap (λ (k : ℕ). k / end) (digits_mod front (packed_small (w ∷ ws) (n ∷ ns) f)) ∙ digits_div n (packed_small ws ns f.1) in
    let moved : front * 2 ^ (w + width_of ws) + (n * end + rest) ≡ (front * 2 ^ w + n) * end + rest =
    ap (λ (k : ℕ). k + (n * end + rest)) (ap (λ (k : ℕ). front * k) (pow-add 2 w (width_of ws)) ∙ sym (mul_assoc front (2 ^ w) end))
    ∙ sym (add_assoc (front * 2 ^ w * end) (n * end) rest)
    ∙ ap (λ (k : ℕ). k + rest) (sym (add-mul (front * 2 ^ w) n end)) in
    ap₂ (λ (k : ℕ) (ks : List ℕ). k ∷ ks) first (ap (apart ws) moved ∙ packed_behind (front * 2 ^ w + n) ws ns f.1)

pub packed_field : (ws ns : List ℕ) → Fit ws ns → apart ws (side_by_side ws ns) ≡ ns
packed_field ws ns f =
    let none : 0 * 2 ^ width_of ws + side_by_side ws ns ≡ side_by_side ws ns = omega arith in
    ap (apart ws) (sym none) ∙ packed_behind 0 ws ns f
