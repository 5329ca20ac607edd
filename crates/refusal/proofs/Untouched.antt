-- That a refused call writes nothing, put together from the ways in which a call can end.
use Prim.Native.Nat.{ℕ}
use native.Mathlib.Omega.{arith}
use mathlib.Core.Path.{◌≡◌}
use mathlib.Core.Bool.{Bool, true, false, cond}
use mathlib.Core.List.{List}
use Rattle.refusal.specs.Outcome.{refused, Outcome, ends, wrote, refuses, Untouched}

pub untouched_refuses : (number : ℕ) (values : List ℕ) → Untouched (refuses number values)
untouched_refuses number values buffer n vs after e = cc

-- a call that is done is not refused
pub untouched_wrote : (bytes : List ℕ) → Untouched (wrote bytes)
untouched_wrote bytes buffer n vs after e = let z : ◌≡◌ {A = ℕ} 0 1 = cc in absurd (omega arith)

-- whichever way a test goes
pub untouched_either : {f g : List ℕ → Outcome} (test : List ℕ → Bool) → Untouched f → Untouched g → Untouched (λ buffer. cond (test buffer) (f buffer) (g buffer))
untouched_either {f} {g} test p q buffer n vs after = by (test buffer)
  where
    by : (t : Bool) → cond t (f buffer) (g buffer) ≡ ends (refused n vs) after → after ≡ buffer
    by true e = p buffer n vs after e
    by false e = q buffer n vs after e
