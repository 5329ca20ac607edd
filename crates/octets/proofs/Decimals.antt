-- Decimal text: its last digit, its length, and some numbers as a reader expects them.
use Prim.Native.Nat.{ℕ, zero, suc, ◌-◌, ◌*◌, ◌/◌, ◌%◌, ◌^◌, ◌≤◌, ◌<◌}
use native.Mathlib.Omega.{arith}
use native.Mathlib.Nat.{pow-suc}
use mathlib.Core.Path.{◌≡◌, refl, ap, ◌∙◌}
use mathlib.Core.Bool.{Bool, true, false, cond}
use mathlib.Core.List.{List, [], ◌∷◌, ◌++◌}
use lib.ListN.{length, take, drop, replicate, length-append, length-replicate}
use lib.Seq.{take_all, drop_at}
use lib.Dec.{T, ltb, leb, leb→le, lit<}
use borrow.Author.Tests.{lt-ltb, le-ltb, ltb-true, ltb-false}
use Rattle.octets.specs.Figures.{digit, decimal_within, decimal, decimal_of, hex_byte, hex}
use Rattle.octets.specs.declared.figures.Digits.{Digits}

-- any bound that is not too small serves
within_same : (j k n : ℕ) → n ≤ j → n ≤ k → decimal_within j n ≡ decimal_within k n
within_same zero zero n h i = refl
within_same zero (suc k) n h i = rw (lt-ltb n 10 (omega arith))
within_same (suc j) zero n h i = rw (lt-ltb n 10 (omega arith))
within_same (suc j) (suc k) n h i = by (ltb n 10) refl (within_same j k (n / 10))
  where
    by : (y : Bool) → ltb n 10 ≡ y → (n / 10 ≤ j → n / 10 ≤ k → decimal_within j (n / 10) ≡ decimal_within k (n / 10))
        → cond y (digit n ∷ []) (decimal_within j (n / 10) ++ (digit (n % 10) ∷ [])) ≡ cond y (digit n ∷ []) (decimal_within k (n / 10) ++ (digit (n % 10) ∷ []))
    by true e same = refl
    by false e same =
        let some : 10 ≤ n = ltb-false n 10 e in
        ap (λ (xs : List ℕ). xs ++ (digit (n % 10) ∷ [])) (same (omega arith) (omega arith))

pub decimal_one : (n : ℕ) → n < 10 → decimal n ≡ digit n ∷ []
unfolding decimal
decimal_one zero h = refl
decimal_one (suc n) h = rw (lt-ltb (suc n) 10 h)

pub decimal_more : (n : ℕ) → 10 ≤ n → decimal n ≡ decimal (n / 10) ++ (digit (n % 10) ∷ [])
unfolding decimal
decimal_more zero h = absurd (omega arith)
decimal_more (suc n) h =
    rw (le-ltb (suc n) 10 h) (ap (λ (xs : List ℕ). xs ++ (digit (suc n % 10) ∷ [])) (within_same n (suc n / 10) (suc n / 10) (omega arith) (omega arith)))

pub decimal_some : (n : ℕ) → 1 ≤ length (decimal n)
decimal_some n = by (ltb n 10) refl
  where
    by : (y : Bool) → ltb n 10 ≡ y → 1 ≤ length (decimal n)
    by true e = rw (decimal_one n (ltb-true n 10 e)) (omega arith)
    by false e = rw (decimal_more n (ltb-false n 10 e)) (omega (arith, length-append (decimal (n / 10)) (digit (n % 10) ∷ [])))

-- a number below a power of ten has so many digits at most
length_below : (k n : ℕ) → n < 10 ^ suc k → length (decimal n) ≤ suc k
length_below zero n h = rw (decimal_one n h) (omega arith)
length_below (suc k) n h = by (ltb n 10) refl (length_below k (n / 10))
  where
    by : (y : Bool) → ltb n 10 ≡ y → (n / 10 < 10 ^ suc k → length (decimal (n / 10)) ≤ suc k) → length (decimal n) ≤ suc (suc k)
    by true e shorter = rw (decimal_one n (ltb-true n 10 e)) (omega arith)
    by false e shorter =
        let tenth : length (decimal (n / 10)) ≤ suc k = shorter (omega (arith, pow-suc 10 (suc k))) in
        rw (decimal_more n (ltb-false n 10 e)) (omega (arith, length-append (decimal (n / 10)) (digit (n % 10) ∷ [])))

-- a u64 fits its room
pub length-decimal : (n : ℕ) → n < 2 ^ 64 → length (decimal n) ≤ 20
length-decimal n h = length_below 19 n (omega arith)

-- the text that is handed over, and the part of it that is the number
module _ (n : ℕ) (small : n < 2 ^ 64) {d : Digits} (e : d ≡ decimal_of n) where
  pub from_within : d.from ≤ 20
  from_within = rw e (omega arith)

  zeros : length (replicate {A = ℕ} (20 - length (decimal n)) 0) ≡ 20 - length (decimal n)
  zeros = length-replicate {A = ℕ} (20 - length (decimal n)) 0

  pub length-text : length d.text ≡ 20
  length-text = rw e (omega (arith, length-append (replicate (20 - length (decimal n)) 0) (decimal n), zeros, length-decimal n small))

  pub text_part : take (20 - d.from) (drop d.from d.text) ≡ decimal n
  text_part =
      let size : length (decimal n) ≤ 20 - (20 - length (decimal n)) = omega (arith, length-decimal n small) in
      rw (e, drop_at (replicate (20 - length (decimal n)) 0) (decimal n) (20 - length (decimal n)) zeros) (take_all (20 - (20 - length (decimal n))) (decimal n) size)

-- a byte has three digits at most
pub length-decimal_byte : (n : ℕ) → n < 256 → length (decimal n) ≤ 3
length-decimal_byte n h = length_below 2 n (omega arith)

pub length-hex : (bs : List ℕ) → length (hex bs) ≡ 2 * length bs
length-hex [] = refl
length-hex (b ∷ bs) = omega (arith, length-hex bs)

pub hex-append : (bs cs : List ℕ) → hex (bs ++ cs) ≡ hex bs ++ hex cs
hex-append [] cs = refl
hex-append (b ∷ bs) cs = ap (λ (xs : List ℕ). hex_byte b ++ xs) (hex-append bs cs)

-- numbers as a reader expects them
small_tried : (decimal 0 ≡ 0x30 ∷ []) × (decimal 9 ≡ 0x39 ∷ []) × (decimal 10 ≡ 0x31 ∷ 0x30 ∷ []) × (decimal 255 ≡ 0x32 ∷ 0x35 ∷ 0x35 ∷ [])
unfolding decimal
small_tried = (refl, refl, refl, refl)

hex_tried : hex (0x03 ∷ 0xA9 ∷ 0xF0 ∷ []) ≡ 0x30 ∷ 0x33 ∷ 0x41 ∷ 0x39 ∷ 0x46 ∷ 0x30 ∷ []
hex_tried = refl

behind : (n : ℕ) → T (leb 10 n) → {xs : List ℕ} → decimal (n / 10) ≡ xs → decimal n ≡ xs ++ (digit (n % 10) ∷ [])
behind n h e = decimal_more n (leb→le 10 n h) ∙ ap (λ (ys : List ℕ). ys ++ (digit (n % 10) ∷ [])) e

largest_tried : decimal 18446744073709551615 ≡ 0x31 ∷ 0x38 ∷ 0x34 ∷ 0x34 ∷ 0x36 ∷ 0x37 ∷ 0x34 ∷ 0x34 ∷ 0x30 ∷ 0x37 ∷ 0x33 ∷ 0x37 ∷ 0x30 ∷ 0x39 ∷ 0x35 ∷ 0x35 ∷ 0x31 ∷ 0x36 ∷ 0x31 ∷ 0x35 ∷ []
largest_tried =
    behind 18446744073709551615 tt (behind 1844674407370955161 tt (behind 184467440737095516 tt (behind 18446744073709551 tt (behind 1844674407370955 tt (behind 184467440737095 tt (behind 18446744073709 tt (behind 1844674407370 tt (behind 184467440737 tt (behind 18446744073 tt (behind 1844674407 tt (behind 184467440 tt (behind 18446744 tt (behind 1844674 tt (behind 184467 tt (behind 18446 tt (behind 1844 tt (behind 184 tt (behind 18 tt (decimal_one 1 (lit< tt))))))))))))))))))))
