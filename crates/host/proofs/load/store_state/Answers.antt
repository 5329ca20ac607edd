use Prim.Native.Nat.{ℕ, suc, ◌-◌, ◌/◌, ◌%◌, ◌<◌}
use native.Mathlib.Omega.{arith}
use mathlib.Core.Path.{◌≡◌, sym, ap, ◌∙◌}
use mathlib.Core.List.{List, [], ◌∷◌, ◌++◌}
use lib.ListN.{length, set, take, drop, length-append}
use lib.Seq.{set_split, drop_at, length-take-le, append_snoc}
use Rattle.octets.specs.Digits.{digits}
use Rattle.octets.specs.Put.{put}
use Rattle.octets.proofs.Bases.{length_digits}
use Rattle.octets.proofs.Put.{put_front}
use Rattle.host.proofs.load.store_state.Goals as goal

-- a byte that was stored before those in front of it
put_before : (l bs : List ℕ) (k v : ℕ) → length bs ≡ k → k < length l → put (set l k v) 0 bs ≡ put l 0 (bs ++ (v ∷ []))
put_before l bs k v e h =
    let all : length (bs ++ (v ∷ [])) ≡ suc k = omega (arith, length-append bs (v ∷ [])) in
    put_front (set l k v) bs
    ∙ ap (λ (n : ℕ). bs ++ drop n (set l k v)) e
    ∙ ap (λ (q : List ℕ). bs ++ q) (ap (drop k) (set_split l k v h) ∙ drop_at (take k l) (v ∷ drop (suc k) l) k (length-take-le k l (omega arith)))
    ∙ sym (put_front l (bs ++ (v ∷ [])) ∙ ap (λ (n : ℕ). (bs ++ (v ∷ [])) ++ drop n l) all ∙ append_snoc bs v (drop (suc k) l))

pub loop-i-preserved : goal.loop-i-preserved
loop-i-preserved c =
    let l = c.loop-i.block in
    let i = c.loop-i.i in
    let rest = c.loop-i.rest in
    let j = i - 1 in
    let one : suc j ≡ i = omega arith in
    put_before l (digits 256 j (rest / 256)) j (rest % 256) (length_digits 256 j (rest / 256)) (omega arith) ∙ ap (λ (n : ℕ). put l 0 (digits 256 n rest)) one ∙ c.loop-i.invariant
