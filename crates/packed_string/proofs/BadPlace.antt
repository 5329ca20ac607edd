-- The first character that standard mode has no code for: that it is the first, where it is in two texts joined, and that there is none
-- exactly where a text is plain.
use Prim.Native.Nat.{ℕ, zero, suc, ◌+◌, ◌≤◌, ◌<◌}
use native.Mathlib.Nat.{zero-add, suc-add}
use native.Mathlib.Omega.{arith}
use mathlib.Core.Path.{◌≡◌, refl, sym, ap, ◌∙◌}
use mathlib.Core.Bool.{Bool, true, false, cond, not, ◌&&◌}
use mathlib.Core.List.{List, [], ◌∷◌, ◌++◌}
use lib.ListN.{length, get_or}
use lib.Dec.{leb, ltb}
use borrow.Author.Tests.{leb-true, leb-false, ltb-true, ltb-false}
use Rattle.std.specs.Prelude.{Option, Some, None, position, unwrap_or}
use Rattle.std.proofs.lemmas.List.Recursion.{is_position_or_len}
use Rattle.packed_string.specs.Plain.{bad_place, Coded, Plain}

pub bad_nil : bad_place [] ≡ 0
unfolding bad_place
bad_nil = refl

-- the first character decides: it has a code and the rest goes on, or it has none and the place is 0
first_case : (c : ℕ) (s : List ℕ) {X : Type 0} → (Coded c → bad_place (c ∷ s) ≡ suc (bad_place s) → X) → ((Coded c → ⊥) → bad_place (c ∷ s) ≡ 0 → X) → X
unfolding bad_place
first_case c s {X} good bad = by (leb 0x20 c) (leb c 0x5F) refl refl
  where
    by : (t u : Bool) → leb 0x20 c ≡ t → leb c 0x5F ≡ u → X
    by true true e f = good (leb-true 0x20 c e, leb-true c 0x5F f) (rw (e, f))
    by true false e f = bad (λ k. omega (arith, leb-false c 0x5F f, k.1)) (rw (e, f))
    by false u e f = bad (λ k. omega (arith, leb-false 0x20 c e, k.0)) (rw e)

module _ (c : ℕ) (s : List ℕ) where
  pub good_first : Coded c → bad_place (c ∷ s) ≡ suc (bad_place s)
  good_first k = first_case c s (λ _ e. e) (λ n e. absurd (n k))

  pub bad_first : (Coded c → ⊥) → bad_place (c ∷ s) ≡ 0
  bad_first n = first_case c s (λ k e. absurd (n k)) (λ _ e. e)

pub place_within : (s : List ℕ) → bad_place s ≤ length s
place_within [] = omega (arith, bad_nil)
place_within (c ∷ s) = first_case c s (λ _ e. omega (arith, place_within s)) (λ _ e. omega arith)

-- it is the first: the character there has no code, and each one before it has
pub place_outside : (s : List ℕ) → bad_place s < length s → Coded (get_or s (bad_place s) 0) → ⊥
place_outside [] h k = omega arith
place_outside (c ∷ s) h k = first_case c s (λ _ e. place_outside s (omega arith) (rw e at k)) (λ n e. n (rw e at k))

pub before_coded : (s : List ℕ) (i : ℕ) → i < bad_place s → Coded (get_or s i 0)
before_coded [] i h = absurd (omega (arith, bad_nil))
before_coded (c ∷ s) zero h = first_case c s (λ k e. k) (λ n e. absurd (omega arith))
before_coded (c ∷ s) (suc i) h = first_case c s (λ k e. before_coded s i (omega arith)) (λ n e. absurd (omega arith))

-- of two texts, one behind the other: the first's, or past it the second's
pub bad_append_first : (s t : List ℕ) → bad_place s < length s → bad_place (s ++ t) ≡ bad_place s
bad_append_first [] t h = absurd (omega arith)
bad_append_first (c ∷ s) t h =
    first_case c s (λ k e. good_first c (s ++ t) k ∙ ap suc (bad_append_first s t (omega arith)) ∙ sym e) (λ n e. bad_first c (s ++ t) n ∙ sym e)

pub bad_append_second : (s t : List ℕ) → Plain s → bad_place (s ++ t) ≡ length s + bad_place t
bad_append_second [] t p = sym (zero-add (bad_place t))
bad_append_second (c ∷ s) t p = good_first c (s ++ t) p.0 ∙ ap suc (bad_append_second s t p.1) ∙ sym (suc-add (length s) (bad_place t))

pub plain_place : (s : List ℕ) → Plain s → bad_place s ≡ length s
plain_place [] p = bad_nil
plain_place (c ∷ s) p = good_first c s p.0 ∙ ap suc (plain_place s p.1)

pub place_plain : (s : List ℕ) → length s ≤ bad_place s → Plain s
place_plain [] h = tt
place_plain (c ∷ s) h = first_case c s (λ k e. (k, place_plain s (omega arith))) (λ n e. absurd (omega arith))

-- what std's `position` finds of it: the place where there is one
abbrev pub found_in : List ℕ → Option ℕ
found_in s = position (λ (c : ℕ). not (leb 0x20 c && leb c 0x5F)) s

turned : (coded : Bool) (n : ℕ) → cond coded (suc n) 0 ≡ cond (not coded) 0 (1 + n)
turned true n = omega arith
turned false n = refl

one_more : (c : ℕ) (s : List ℕ) → bad_place (c ∷ s) ≡ cond (not (leb 0x20 c && leb c 0x5F)) 0 (1 + bad_place s)
unfolding bad_place
one_more c s = turned (leb 0x20 c && leb c 0x5F) (bad_place s)

found_is : (s : List ℕ) → found_in s ≡ cond (ltb (bad_place s) (length s)) (Some (bad_place s)) None
found_is s =
    ap (λ (i : ℕ). cond (ltb i (length s)) (Some i) None) (sym (is_position_or_len bad_place (λ (c : ℕ). not (leb 0x20 c && leb c 0x5F)) bad_nil one_more s))

pub found_some : (s : List ℕ) {i : ℕ} → found_in s ≡ Some i → (i ≡ bad_place s) × (bad_place s < length s)
found_some s {i} e = by (ltb (bad_place s) (length s)) refl (sym (found_is s) ∙ e)
  where
    by : (b : Bool) → ltb (bad_place s) (length s) ≡ b → cond b (Some (bad_place s)) None ≡ Some i → (i ≡ bad_place s) × (bad_place s < length s)
    by true h f = (cc, ltb-true (bad_place s) (length s) h)
    by false h f = absurd cc

pub found_none : (s : List ℕ) → found_in s ≡ None → length s ≤ bad_place s
found_none s e = by (ltb (bad_place s) (length s)) refl (sym (found_is s) ∙ e)
  where
    by : (b : Bool) → ltb (bad_place s) (length s) ≡ b → cond b (Some (bad_place s)) None ≡ None → length s ≤ bad_place s
    by true h f = absurd cc
    by false h f = ltb-false (bad_place s) (length s) h

pub found_or_length : (s : List ℕ) → unwrap_or (found_in s) (length s) ≡ bad_place s
found_or_length s = ap (λ (o : Option ℕ). unwrap_or o (length s)) (found_is s) ∙ by (ltb (bad_place s) (length s)) refl
  where
    by : (b : Bool) → ltb (bad_place s) (length s) ≡ b → unwrap_or (cond b (Some (bad_place s)) None) (length s) ≡ bad_place s
    by true h = refl
    by false h = omega (arith, ltb-false (bad_place s) (length s) h, place_within s)
