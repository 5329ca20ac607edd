-- What stands at places of a list in turn is a part of it.
use Prim.Native.Nat.{ℕ, zero, suc, ◌+◌, ◌≤◌}
use native.Mathlib.Nat.{add-suc}
use native.Mathlib.Omega.{arith}
use mathlib.Core.Path.{◌≡◌, refl, sym, ap, ◌∙◌}
use mathlib.Core.List.{List, [], ◌∷◌}
use lib.ListN.{length, get_or, take, drop}
use lib.Seq.{drop-cons}

-- what stands at n + j and behind it
abbrev pub standing : List ℕ → ℕ → ℕ → ℕ → List ℕ
standing l n j zero = []
standing l n j (suc k) = get_or l (n + j) 0 ∷ standing l n (suc j) k

pub taken : (l : List ℕ) (n j k : ℕ) → n + j + k ≤ length l → take k (drop (n + j) l) ≡ standing l n j k
taken l n j zero h = refl
taken l n j (suc k) h =
    ap (take (suc k)) (drop-cons l (n + j) 0 (omega arith))
    ∙ ap (λ (r : List ℕ). get_or l (n + j) 0 ∷ r) (ap (λ (m : ℕ). take k (drop m l)) (sym (add-suc n j)) ∙ taken l n (suc j) k (omega arith))
