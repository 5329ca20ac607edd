-- What a status makes of a float, which float the line's bits give, and that a reading's float is a number with those bits.
use Prim.Native.Nat.{ℕ, zero, suc, ◌+◌, ◌%◌, ◌^◌, ◌<◌}
use mathlib.Core.Path.{◌≡◌, refl, sym, ap, ◌∙◌}
use mathlib.Core.Bool.{Bool, true, false, not, cond}
use lib.Dec.{T, eqb}
use lib.Ieee.{Float, nan, inf, fin, binary32, of_bits, of_fields, to_bits, nan_bits, is_nan, odd, hid, prec, low}
use lib.Ieee.Bits.{nan_bits_is, to_bits-of_bits}
use borrow.Author.Tests.{eq-eqb, ne_eqb}
use Rattle.commands.specs.Worth.{float_of, bad, absent, good, poor, fixed, quality, exponent, worth, is_number, Keeps, Sound}

-- what a status makes of a float, case by case
module _ (status bits : ℕ) where
  pub worth_bad : quality status ≡ 0 → worth status bits ≡ bad
  unfolding worth
  worth_bad e = rw (eq-eqb (quality status) 0 e)

  pub worth_absent : (quality status ≡ 0 → ⊥) → exponent bits ≡ 255 → worth status bits ≡ absent
  unfolding worth
  worth_absent n e = rw (ne_eqb (quality status) 0 n, eq-eqb (exponent bits) 255 e)

  module _ (number : exponent bits ≡ 255 → ⊥) where
    pub worth_good : quality status ≡ 3 → worth status bits ≡ good (float_of bits)
    unfolding worth
    worth_good e = rw (e, ne_eqb (exponent bits) 255 number)

    pub worth_poor : quality status ≡ 1 → worth status bits ≡ poor (float_of bits)
    unfolding worth
    worth_poor e = rw (e, ne_eqb (exponent bits) 255 number)

    pub worth_fixed : quality status ≡ 2 → worth status bits ≡ fixed (float_of bits)
    unfolding worth
    worth_fixed e = rw (e, ne_eqb (exponent bits) 255 number)

is_nan_lem : (v : Float) → is_nan v ≡ true → v ≡ nan
unfolding is_nan
is_nan_lem nan e = refl
is_nan_lem (inf s) e = cc
is_nan_lem (fin s m x) e = cc

pub untrue : (b : Bool) → b ≡ false → T (not b)
untrue b e = rw e tt

-- a pattern of a NaN gives the NaN, and any other float has its pattern's bits
pub nan_value : (bits : ℕ) → nan_bits binary32 bits ≡ true → float_of bits ≡ nan
nan_value bits e = is_nan_lem (float_of bits) (sym (nan_bits_is binary32 bits) ∙ e)

pub keeps_bits : (bits : ℕ) → bits < 2 ^ 32 → nan_bits binary32 bits ≡ false → to_bits binary32 (float_of bits) ≡ bits
keeps_bits bits h e = to_bits-of_bits binary32 bits h (untrue _ (sym (nan_bits_is binary32 bits) ∙ e))

odd_number : (d : ℕ) (s : Bool) (q k l : ℕ) → is_number (odd d s q k l) ≡ true
unfolding odd
odd_number d s zero k l = refl
odd_number d s (suc q) k l = refl

fields_number : (s : Bool) (x t : ℕ) → is_number (of_fields binary32 s x t) ≡ not (eqb x 255)
unfolding of_fields
fields_number s zero t = odd_number (prec binary32) s t 0 (low binary32)
fields_number s (suc x) t = by (eqb (suc x) 255) (eqb t 0) (odd (prec binary32) s (hid binary32 + t) x (low binary32)) (odd_number (prec binary32) s (hid binary32 + t) x (low binary32))
  where
    by : (all none : Bool) (v : Float) → is_number v ≡ true → is_number (cond all (cond none (inf s) nan) v) ≡ not all
    by true true v e = refl
    by true false v e = refl
    by false none v e = e

-- the float is a number exactly if the exponent is not all ones
pub number_exactly : (bits : ℕ) → is_number (float_of bits) ≡ not (eqb (exponent bits) 255)
unfolding of_bits
number_exactly bits = fields_number _ (exponent bits) (bits % 2 ^ 23)

number_no_nan : (v : Float) → is_number v ≡ true → is_nan v ≡ false
unfolding is_nan
number_no_nan nan e = cc
number_no_nan (inf s) e = cc
number_no_nan (fin s m x) e = refl

keeps : (bits : ℕ) → bits < 2 ^ 32 → eqb (exponent bits) 255 ≡ false → Keeps bits (float_of bits)
keeps bits h e =
    let number : is_number (float_of bits) ≡ true = number_exactly bits ∙ ap not e in
    (number, keeps_bits bits h (nan_bits_is binary32 bits ∙ number_no_nan (float_of bits) number))

-- whatever a status says, it comes with no NaN and no infinity, and with the line's own bits
pub sound : (status bits : ℕ) → bits < 2 ^ 32 → Sound bits (worth status bits)
unfolding worth
sound status bits h = by (eqb (quality status) 0) (eqb (exponent bits) 255) (eqb (quality status) 3) (eqb (quality status) 1) refl
  where
    by : (zero ones three one : Bool) → eqb (exponent bits) 255 ≡ ones → Sound bits (cond zero bad (cond ones absent (cond three (good (float_of bits)) (cond one (poor (float_of bits)) (fixed (float_of bits))))))
    by true ones three one e = tt
    by false true three one e = tt
    by false false true one e = keeps bits h e
    by false false false true e = keeps bits h e
    by false false false false e = keeps bits h e
