-- No bit of a group is lost: a variable's bytes are those that it was read from, and a variable that was written reads back as itself. What
-- a request wrote is its codes.
use Prim.Native.Nat.{ℕ, ◌+◌, ◌^◌, ◌≤◌, ◌<◌}
use native.Mathlib.Nat.{add-zero}
use native.Mathlib.Omega.{arith}
use mathlib.Core.Path.{◌≡◌, refl, sym, ap, ◌∙◌}
use mathlib.Core.Bool.{Bool, true, false, cond}
use mathlib.Core.List.{List, [], ◌∷◌, ◌++◌}
use lib.ListN.{length, get_or, take, drop}
use lib.Seq.{take_at}
use lib.Dec.{ltb, lit<}
use lib.Ieee.{binary32, to_bits, nan_bits}
use Rattle.refusal.specs.Outcome.{done, ends, wrote, refuses}
use Rattle.octets.specs.Digits.{Below}
use Rattle.octets.proofs.Bases.{below_at, digits_from, from_digits_whole, from_below}
use Rattle.commands.specs.Worth.{worth, Sound}
use Rattle.commands.proofs.Worths.{keeps_bits, sound}
use Rattle.octets.proofs.Places.{standing, taken}
use Rattle.commands.specs.Variables.{codes_requested, variable, variable_at, group_bytes}
use Rattle.response.specs.Sizes.{most_variables, group_size}

abbrev float_at : List ℕ → ℕ → List ℕ
float_at bs base = get_or bs (base + 3) 0 ∷ get_or bs (base + 4) 0 ∷ get_or bs (base + 5) 0 ∷ get_or bs (base + 6) 0 ∷ []

module _ (bs : List ℕ) (base : ℕ) (bytes : Below 256 bs) where
  float_below : Below 256 (float_at bs base)
  float_below = let byte : (i : ℕ) → get_or bs i 0 < 256 = below_at 256 bs bytes (lit< tt) in (byte (base + 3), (byte (base + 4), (byte (base + 5), (byte (base + 6), tt))))

  pub group_back : base + group_size ≤ length bs → group_bytes (variable_at bs base) ≡ take group_size (drop base bs)
  group_back h =
      let at : ℕ → ℕ = λ i. get_or bs i 0 in
      ap (λ (ds : List ℕ). (at base ∷ at (base + 1) ∷ at (base + 2) ∷ ds) ++ (at (base + 7) ∷ [])) (digits_from 256 (float_at bs base) float_below)
      ∙ ap (λ (i : ℕ). at i ∷ standing bs base 1 7) (sym (add-zero base))
      ∙ sym (taken bs base 0 group_size (omega arith))
      ∙ ap (λ (i : ℕ). take group_size (drop i bs)) (add-zero base)

  bits_below : (variable_at bs base).bits < 2 ^ 32
  bits_below = from_below 256 (float_at bs base) float_below

  -- the float has the line's bits, off the NaNs
  pub value_keeps_bits : let v = variable_at bs base in nan_bits binary32 v.bits ≡ false → to_bits binary32 v.value ≡ v.bits
  value_keeps_bits e = keeps_bits (variable_at bs base).bits bits_below e

  -- and in a reading it always has
  pub variable_sound : let v = variable_at bs base in Sound v.bits (worth v.status v.bits)
  variable_sound = sound (variable_at bs base).status (variable_at bs base).bits bits_below

pub variable_back : (code class unit bits status : ℕ) (rest : List ℕ) → bits < 2 ^ 32 → let v = variable code class unit bits status in variable_at (group_bytes v ++ rest) 0 ≡ v
variable_back code class unit bits status rest h = ap (λ (n : ℕ). variable code class unit n status) (from_digits_whole 256 4 bits (lit< tt) h)

-- the codes of a request that was written are those that were asked for
pub request_back : (codes buffer : List ℕ) {values left : List ℕ} → codes_requested codes buffer ≡ ends (done values) left → take (length codes) left ≡ codes
unfolding codes_requested
request_back codes buffer {values} {left} = by (ltb most_variables (length codes)) (ltb (length buffer) (length codes))
  where
    by : (many small : Bool) → cond many (refuses 1 [] buffer) (cond small (refuses 2 [] buffer) (wrote codes buffer)) ≡ ends (done values) left → take (length codes) left ≡ codes
    by true small e = cc
    by false true e = cc
    by false false e = let front : left ≡ codes ++ drop (length codes) buffer = cc in ap (take (length codes)) front ∙ take_at codes (drop (length codes) buffer) (length codes) refl
