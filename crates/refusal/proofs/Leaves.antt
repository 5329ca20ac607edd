-- What a call that is done has left, put together from the ways in which a call can end.
use Prim.Native.Nat.{ℕ}
use native.Mathlib.Omega.{arith}
use mathlib.Core.Path.{◌≡◌, ap₂, ◌∙◌}
use mathlib.Core.Bool.{Bool, true, false, cond}
use mathlib.Core.List.{List, [], ◌∷◌, ◌++◌}
use lib.ListN.{length, take, drop}
use lib.Seq.{take-append_seam}
use Rattle.refusal.specs.Outcome.{done, Outcome, ends, wrote, refuses, Leaves}

-- a call that is refused is not done
pub leaves_refuses : (bytes : List ℕ) (number : ℕ) (values : List ℕ) → Leaves bytes (refuses number values)
leaves_refuses bytes number values buffer count after e = let z : ◌≡◌ {A = ℕ} 0 1 = cc in absurd (omega arith)

pub leaves_wrote : (bytes : List ℕ) → Leaves bytes (wrote bytes)
leaves_wrote bytes buffer count after e =
    let n : count ≡ length bytes = cc in
    let left : after ≡ bytes ++ drop (length bytes) buffer = cc in
    ap₂ (λ (k : ℕ) (l : List ℕ). take k l) n left ∙ take-append_seam bytes (drop (length bytes) buffer)

-- whichever way a test goes
pub leaves_either : {bytes : List ℕ} {f g : List ℕ → Outcome} (test : List ℕ → Bool) → Leaves bytes f → Leaves bytes g → Leaves bytes (λ buffer. cond (test buffer) (f buffer) (g buffer))
leaves_either {bytes} {f} {g} test p q buffer count after = by (test buffer)
  where
    by : (t : Bool) → cond t (f buffer) (g buffer) ≡ ends (done (count ∷ [])) after → take count after ≡ bytes
    by true e = p buffer count after e
    by false e = q buffer count after e
