use Prim.Native.Nat.{ℕ, ◌+◌, ◌-◌, ◌/◌, ◌%◌, ◌^◌, ◌<◌, ◌≤◌}
use native.Mathlib.Omega.{arith}
use mathlib.Core.Path.{◌≡◌, sym, ap, ◌∙◌}
use mathlib.Core.List.{List, [], ◌∷◌, ◌++◌, append_assoc}
use lib.ListN.{length, set, replicate, length-append, length-replicate, replicate-append-replicate}
use lib.Seq.{set_at}
use Rattle.octets.specs.Figures.{digit, decimal}
use Rattle.octets.proofs.Decimals.{decimal_one, decimal_more, decimal_some, length-decimal}
use Rattle.octets.proofs.figures.decimal.Goals as goal

-- a digit takes the place of the last zero
stored : (from d : ℕ) (done : List ℕ) → set (replicate (from + 1) 0 ++ done) from d ≡ replicate from 0 ++ (d ∷ done)
stored from d done =
    ap (λ (xs : List ℕ). set (xs ++ done) from d) (sym (replicate-append-replicate from 1 0))
    ∙ ap (λ (xs : List ℕ). set xs from d) (append_assoc (replicate from 0) (0 ∷ []) done)
    ∙ set_at (replicate from 0) 0 done d from (length-replicate {A = ℕ} from 0)

-- while two digits are left at least, there is a place in front of those that were found
in_front : (number rest from : ℕ) (done : List ℕ) → number < 2 ^ 64 → 10 ≤ rest → decimal number ≡ decimal rest ++ done → from + 1 + length done ≡ 20 → 1 ≤ from
in_front number rest from done small two found places =
    let more : decimal rest ≡ decimal (rest / 10) ++ (digit (rest % 10) ∷ []) = decimal_more rest two in
    omega (
      arith,
      ap length found,
      length-append (decimal rest) done,
      ap length more,
      length-append (decimal (rest / 10)) (digit (rest % 10) ∷ []),
      decimal_some (rest / 10),
      length-decimal number small,
    )

pub overflow_sub-from : goal.overflow_sub-from
overflow_sub-from c =
    let l = c.loop-rest in
    let front : 1 ≤ l.from = in_front c.args.number l.rest l.from l.invariant.0 (omega arith) (omega arith) l.invariant.1 l.invariant.3 in
    omega arith

pub loop-rest-preserved : goal.loop-rest-preserved
loop-rest-preserved c =
    let l = c.loop-rest in
    let d : ℕ = digit (l.rest % 10) in
    let front : 1 ≤ l.from = in_front c.args.number l.rest l.from l.invariant.0 (omega arith) (omega arith) l.invariant.1 l.invariant.3 in
    let place : l.from - 1 + 1 ≡ l.from = omega arith in (
      d ∷ l.invariant.0,
      l.invariant.1 ∙ ap (λ (xs : List ℕ). xs ++ l.invariant.0) (decimal_more l.rest (omega arith)) ∙ append_assoc (decimal (l.rest / 10)) (d ∷ []) l.invariant.0,
      ap (λ (xs : List ℕ). set xs l.from d) l.invariant.2 ∙ stored l.from d l.invariant.0 ∙ ap (λ (n : ℕ). replicate n 0 ++ (d ∷ l.invariant.0)) (sym place),
      omega arith,
    )

pub returns : goal.returns
returns c =
    let l = c.loop-rest in
    let d : ℕ = digit l.rest in
    let n : ℕ = c.args.number in
    let whole : decimal n ≡ d ∷ l.invariant.0 = l.invariant.1 ∙ ap (λ (xs : List ℕ). xs ++ l.invariant.0) (decimal_one l.rest (omega arith)) in
    let place : l.from ≡ 20 - length (decimal n) = omega (arith, ap length whole) in
    let text : set l.text l.from d ≡ replicate l.from 0 ++ decimal n =
    ap (λ (xs : List ℕ). set xs l.from d) l.invariant.2 ∙ stored l.from d l.invariant.0 ∙ ap (λ (xs : List ℕ). replicate l.from 0 ++ xs) (sym whole) in
    rw (text, place)
