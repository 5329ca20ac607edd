-- Reading a delimiter finds those that are made, and no other byte: all this rests on one law, `opening_back`. And how large one is.
use Prim.Native.Nat.{ℕ, ◌*◌, ◌/◌, ◌%◌, ◌^◌, ◌≤◌, ◌<◌}
use native.Mathlib.Omega.{arith}
use mathlib.Core.Path.{◌≡◌, refl, sym, ap, ◌∙◌}
use mathlib.Core.Logic.{◌≢◌}
use mathlib.Core.Bool.{Bool, true, false, cond}
use lib.Dec.{eqb}
use borrow.Author.Tests.{eqb-true, eqb-false, eq-eqb, ne_eqb}
use Rattle.octets.specs.Bit.{bit}
use Rattle.types.specs.declared.delimiter.FrameType.{FrameType}
use Rattle.types.specs.declared.delimiter.FrameType.TheVariants.{Request, Response, Burst}
use Rattle.types.specs.declared.delimiter.Opening.{Opening}
use Rattle.std.specs.Prelude.{Option, Some, None}
use Rattle.types.specs.Delimiter.{opening, short_delimiter, delimiter, delimiter_type, opening_at, delimiter_of}

-- a type takes three bits and is never zero
short_small : (t : FrameType) → (0 < short_delimiter t) × (short_delimiter t < 8)
short_small Request = omega arith
short_small Response = omega arith
short_small Burst = omega arith

-- a bit is worth its place or nothing
bit_worth : (l : Bool) (k : ℕ) → (cond l k 0 ≡ k * cond l 1 0) × (cond l 1 0 ≤ 1)
bit_worth true k = (omega arith, omega arith)
bit_worth false k = (omega arith, omega arith)

type_back : (t : FrameType) (b : ℕ) → b % 8 ≡ short_delimiter t → delimiter_type b ≡ t
type_back Request b e = rw e
type_back Response b e = rw e
type_back Burst b e = rw e

bit_back : (k b : ℕ) (l : Bool) → b / 2 ^ k % 2 ≡ cond l 1 0 → bit k b ≡ l
bit_back k b true e = eq-eqb (b / 2 ^ k % 2) 1 e
bit_back k b false e = ne_eqb (b / 2 ^ k % 2) 1 (omega (arith, e))

-- what a delimiter says is read from it again, each field whatever the others are
pub opening_back : (o : Opening) → opening_at (delimiter o) ≡ o
opening_back o =
    let type = short_small o.frame_type in
    let long = bit_worth o.is_long 0x80 in
    rw (type_back o.frame_type (delimiter o) (omega (arith, type, long)), bit_back 7 (delimiter o) o.is_long (omega (arith, type, long)))

-- a byte that is made again of what it says is a delimiter, and another is none
module _ (b : ℕ) where
  pub made_again : delimiter (opening_at b) ≡ b → delimiter_of b ≡ Some (opening_at b)
  unfolding delimiter_of
  made_again e = ap (λ (y : Bool). cond y (Some (opening_at b)) None) (eq-eqb (delimiter (opening_at b)) b e)

  pub made_otherwise : delimiter (opening_at b) ≢ b → delimiter_of b ≡ None
  unfolding delimiter_of
  made_otherwise n = ap (λ (y : Bool). cond y (Some (opening_at b)) None) (ne_eqb (delimiter (opening_at b)) b n)

-- what was read of a byte is right
abbrev pub Right : ℕ → Option Opening → Type 0
Right b (Some o) = b ≡ delimiter o
Right b None = (o : Opening) → b ≢ delimiter o

pub delimiter_right : (b : ℕ) → Right b (delimiter_of b)
unfolding delimiter_of
delimiter_right b = by (eqb (delimiter (opening_at b)) b) refl
  where
    by : (y : Bool) → eqb (delimiter (opening_at b)) b ≡ y → Right b (cond y (Some (opening_at b)) None)
    by true e = sym (eqb-true (delimiter (opening_at b)) b e)
    by false e = λ o q. eqb-false (delimiter (opening_at b)) b e (ap (λ (x : ℕ). delimiter (opening_at x)) q ∙ ap delimiter (opening_back o) ∙ sym q)

pub delimiter_back : (o : Opening) → delimiter_of (delimiter o) ≡ Some o
delimiter_back o = made_again (delimiter o) (ap delimiter (opening_back o)) ∙ ap Some (opening_back o)

pub delimiter_unknown : (b : ℕ) → ((o : Opening) → b ≢ delimiter o) → delimiter_of b ≡ None
delimiter_unknown b not = by (delimiter_of b) (delimiter_right b)
  where
    by : (d : Option Opening) → Right b d → d ≡ None
    by (Some o) e = absurd (not o e)
    by None r = refl

-- a byte that is none of document 01's six is no delimiter
pub delimiter_none : (b : ℕ) → b ≢ 0x02 → b ≢ 0x82 → b ≢ 0x06 → b ≢ 0x86 → b ≢ 0x01 → b ≢ 0x81 → delimiter_of b ≡ None
delimiter_none b a c d e f g = delimiter_unknown b (λ o. none o.frame_type o.is_long)
  where
    none : (t : FrameType) (long : Bool) → b ≢ delimiter (opening t long)
    none Request false = a
    none Request true = c
    none Response false = d
    none Response true = e
    none Burst false = f
    none Burst true = g

-- document 01's six, tried one after the other, are those that are found
pub six_delimiters : (b : ℕ)
    → cond (eqb b 0x02) (Some (opening Request false))
    (cond (eqb b 0x82) (Some (opening Request true))
    (cond (eqb b 0x06) (Some (opening Response false))
    (cond (eqb b 0x86) (Some (opening Response true))
    (cond (eqb b 0x01) (Some (opening Burst false))
    (cond (eqb b 0x81) (Some (opening Burst true))
    None)))))
    ≡ delimiter_of b
six_delimiters b =
    tried Request false _ (λ a. tried Request true _ (λ c. tried Response false _ (λ d. tried Response true _ (λ e. tried Burst false _ (λ f. tried Burst true _ (λ g. sym (delimiter_none b a c d e f g)))))))
  where
    tried : (t : FrameType) (long : Bool) (rest : Option Opening) → (b ≢ delimiter (opening t long) → rest ≡ delimiter_of b) → cond (eqb b (delimiter (opening t long))) (Some (opening t long)) rest ≡ delimiter_of b
    tried t long rest otherwise = by (eqb b (delimiter (opening t long))) refl
      where
        by : (y : Bool) → eqb b (delimiter (opening t long)) ≡ y → cond y (Some (opening t long)) rest ≡ delimiter_of b
        by true e = sym (ap delimiter_of (eqb-true b (delimiter (opening t long)) e) ∙ delimiter_back (opening t long))
        by false e = otherwise (eqb-false b (delimiter (opening t long)) e)

-- a delimiter is a byte, is no preamble byte and is not zero
pub delimiter_small : (o : Opening) → (0 < delimiter o) × (delimiter o < 0xFF)
delimiter_small o = omega (arith, short_small o.frame_type, bit_worth o.is_long 0x80)
