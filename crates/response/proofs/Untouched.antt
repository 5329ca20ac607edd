-- A refused field writes nothing and moves no place, and a refused response writes nothing.
use Prim.Native.Nat.{ℕ, ◌+◌}
use native.Mathlib.Omega.{arith}
use mathlib.Core.Path.{◌≡◌}
use mathlib.Core.Bool.{Bool, true, false, cond, ◌||◌}
use mathlib.Core.List.{List, [], ◌∷◌}
use lib.ListN.{length}
use lib.Dec.{ltb}
use Rattle.refusal.specs.Outcome.{done, refused, ends, Untouched}
use Rattle.refusal.proofs.Untouched.{untouched_refuses, untouched_wrote, untouched_either}
use Rattle.octets.specs.Put.{put}
use Rattle.response.specs.declared.field.Kind.{Kind}
use Rattle.response.specs.declared.field.Field.{Field}
use Rattle.response.specs.Sizes.{most_fields}
use Rattle.response.specs.Field.{bytes_in, size_in, characters_in, bad_of, latest_of, Placing, leads, stays, pushed_in}
use Rattle.response.specs.Whole.{weighed, all_bytes, responded}

pub refused_stays : (kind : Kind) (cs payload : List ℕ) (at number : ℕ) (values after : List ℕ) (place : ℕ) → pushed_in kind cs payload at ≡ leads (ends (refused number values) after) place → (after ≡ payload) × (place ≡ at)
unfolding pushed_in
refused_stays kind cs payload at number values after place =
    let end : ℕ = at + size_in kind (length cs) in
    by (ltb (latest_of kind) end) (ltb (length payload) end) (ltb (bad_of kind cs) (characters_in kind (length cs)))
  where
    wrote : Placing
    wrote = leads (ends (done (size_in kind (length cs) ∷ [])) (put payload at (bytes_in kind cs))) (at + size_in kind (length cs))

    by : (late small bad : Bool) → cond late (stays 1 [] payload at) (cond small (stays 2 [] payload at) (cond bad (stays 7 (bad_of kind cs ∷ []) payload at) wrote)) ≡ leads (ends (refused number values) after) place
        → (after ≡ payload) × (place ≡ at)
    by true small bad e = (cc, cc)
    by false true bad e = (cc, cc)
    by false false true e = (cc, cc)
    by false false false e = let z : ◌≡◌ {A = ℕ} 0 1 = cc in absurd (omega arith)

pub response_untouched : (field : ℕ → Field) (n : ℕ) → Untouched (responded field n)
unfolding responded
response_untouched field n =
    let w = weighed field n in
    untouched_either (λ payload. ltb most_fields n || w.late) (untouched_refuses 1 [])
    (untouched_either (λ payload. ltb (length payload) w.size) (untouched_refuses 2 [])
    (untouched_either (λ payload. ltb w.bad w.characters) (untouched_refuses 7 (w.bad ∷ []))
    (untouched_wrote (all_bytes field n))))
