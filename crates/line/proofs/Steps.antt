-- The scanner along bytes where no piece ends: through preamble, address and data up to a frame's check byte, and into any fine state.
use Prim.Native.Nat.{ℕ, zero, suc, ◌+◌, ◌≤◌, ◌<◌}
use native.Mathlib.Omega.{arith}
use mathlib.Core.Path.{◌≡◌, refl, ◌∙◌}
use mathlib.Core.Bool.{cond}
use Rattle.std.specs.Prelude.{None}
use mathlib.Core.List.{List, [], ◌∷◌, ◌++◌, append-nil}
use lib.ListN.{length, length-append}
use lib.Seq.{append_snoc}
use lib.Dec.{eqb}
use borrow.Author.Tests.{eq-eqb, ne_eqb, le-leb}
use Rattle.types.specs.declared.delimiter.Opening.{Opening}
use Rattle.types.specs.Delimiter.{delimiter}
use Rattle.types.specs.Address.{head_length}
use Rattle.types.proofs.Delimiters.{delimiter_back, delimiter_small}
use Rattle.types.proofs.Addresses.{head_some}
use Rattle.line.specs.Layout.{Wire, Fits, preambles, body}
use Rattle.line.specs.Pieces.{enough}
use Rattle.line.specs.Runs.{ends_in}
use Rattle.line.proofs.Scan.{
  Phase,
  addressing,
  commanding,
  counting,
  loading,
  checking,
  Scan,
  hunt,
  pre,
  within,
  wire,
  scan_within,
  scan,
  opened,
  held,
  Sized,
  Fine,
}

pub data Steps : Scan → List ℕ → Scan → Type 0 where
  stay : {s : Scan} → Steps s [] s
  go : {s s' s'' : Scan} {b : ℕ} {bs : List ℕ} → scan s b ≡ (s', None) → Steps s' bs s'' → Steps s (b ∷ bs) s''

via : {s s'' : Scan} {b : ℕ} {bs : List ℕ} (s' : Scan) → scan s b ≡ (s', None) → Steps s' bs s'' → Steps s (b ∷ bs) s''
via s' e q = go e q

steps_append : {s s' s'' : Scan} {bs cs : List ℕ} → Steps s bs s' → Steps s' cs s'' → Steps s (bs ++ cs) s''
steps_append stay r = r
steps_append (go e q) r = go e (steps_append q r)

pub steps_ends : {s s' : Scan} {bs : List ℕ} → Steps s bs s' → (cs : List ℕ) → ends_in scan s (bs ++ cs) ≡ ends_in scan s' cs
steps_ends stay cs = refl
steps_ends (go e q) cs = rw (ends_in, e) (steps_ends q cs)

-- preamble bytes
more_preambles : (j i n : ℕ) → i + j ≡ n → Steps (pre i) (preambles j) (pre n)
unfolding scan
more_preambles zero i n e = let q : i ≡ n = omega arith in rw (← q) stay
more_preambles (suc j) i n e = go refl (more_preambles j (suc i) n (omega arith))

pub to_preambles : (n : ℕ) → 1 ≤ n → Steps hunt (preambles n) (pre n)
unfolding scan
to_preambles zero h = absurd (omega arith)
to_preambles (suc j) h = go refl (more_preambles j 1 (suc j) (omega arith))

-- bytes of a known number m: K while some are missing, D with the last
module _ (n m : ℕ) (K D : List ℕ → Phase)
    (adds : (b : ℕ) (xs : List ℕ) → scan (within n (K xs)) b ≡ (cond (eqb (length (xs ++ (b ∷ []))) m) (within n (D (xs ++ (b ∷ [])))) (within n (K (xs ++ (b ∷ [])))), None)) where
  collect : (b : ℕ) (xs bs : List ℕ) → length xs + suc (length bs) ≡ m → Steps (within n (K xs)) (b ∷ bs) (within n (D (xs ++ (b ∷ bs))))
  collect b xs [] e =
      let last : length (xs ++ (b ∷ [])) ≡ m = length-append xs (b ∷ []) ∙ e in
      via (within n (D (xs ++ (b ∷ [])))) (rw (adds, eq-eqb (length (xs ++ (b ∷ []))) m last)) stay
  collect b xs (c ∷ bs) e =
      via (within n (K (xs ++ (b ∷ [])))) (rw (adds, length-append, ne_eqb (length xs + 1) m (omega arith)))
      (rw append_snoc at (collect c (xs ++ (b ∷ [])) bs (rw length-append (omega arith))))

  collect_some : (xs bs : List ℕ) → length xs + length bs < m → Steps (within n (K xs)) bs (within n (K (xs ++ bs)))
  collect_some xs [] h = rw append-nil stay
  collect_some xs (b ∷ bs) h =
      via (within n (K (xs ++ (b ∷ [])))) (rw (adds, length-append, ne_eqb (length xs + 1) m (omega arith)))
      (rw append_snoc at (collect_some (xs ++ (b ∷ [])) bs (rw length-append (omega arith))))

-- from the delimiter on
module _ (n : ℕ) (many : enough ≤ n) (o : Opening) where
  opens : scan (pre n) (delimiter o) ≡ (within n (addressing o []), None)
  unfolding scan
  opens = rw (ne_eqb (delimiter o) 0xFF (omega (arith, delimiter_small o)), le-leb enough n many, delimiter_back)

  opening : {s : Scan} {bs : List ℕ} → Steps (within n (addressing o [])) bs s → Steps hunt (preambles n ++ (delimiter o ∷ bs)) s
  opening q = steps_append (to_preambles n (omega arith)) (go opens q)

  to_addressing : (hs : List ℕ) → length hs < head_length o → Steps hunt (preambles n ++ (delimiter o ∷ hs)) (within n (addressing o hs))
  unfolding scan scan_within
  to_addressing hs h = opening (collect_some n (head_length o) (addressing o) (commanding o) (λ b xs. refl) [] hs (omega arith))

  addresses : (hs : List ℕ) → length hs ≡ head_length o → Steps (within n (addressing o [])) hs (within n (commanding o hs))
  unfolding scan scan_within
  addresses [] e = absurd (omega (arith, head_some o))
  addresses (b ∷ bs) e = collect n (head_length o) (addressing o) (commanding o) (λ c xs. refl) b [] bs (omega arith)

  -- behind the address
  module _ (hs : List ℕ) (addressed : length hs ≡ head_length o) (c : ℕ) where
    commands : Steps (within n (addressing o [])) (hs ++ (c ∷ [])) (within n (counting o hs c))
    unfolding scan scan_within
    commands = steps_append (addresses hs addressed) (go refl stay)

    loads : (ds : List ℕ) → Steps (within n (counting o hs c)) (length ds ∷ ds) (within n (checking (wire o hs c ds)))
    unfolding scan scan_within
    loads [] = go refl stay
    loads (d ∷ ds) =
        let m : ℕ = suc (length ds) in
        via (within n (loading o hs c m [])) (rw (ne_eqb 0 m (omega arith)))
        (collect n m (loading o hs c m) (λ es. checking (wire o hs c es)) (λ b es. refl) d [] ds (omega arith))

    loads_some : (e : ℕ) (ds : List ℕ) → length ds < e → Steps (within n (counting o hs c)) (e ∷ ds) (within n (loading o hs c e ds))
    unfolding scan scan_within
    loads_some e ds h =
        via (within n (loading o hs c e [])) (rw (ne_eqb 0 e (omega arith)))
        (collect_some n e (loading o hs c e) (λ es. checking (wire o hs c es)) (λ b es. refl) [] ds (omega arith))

    past_count : {s : Scan} {e : ℕ} {ds : List ℕ} → Steps (within n (counting o hs c)) (e ∷ ds) s → Steps hunt (preambles n ++ (delimiter o ∷ (hs ++ (c ∷ e ∷ ds)))) s
    past_count q = opening (rw append_snoc at (steps_append commands q))

pub to_ready : (n : ℕ) (w : Wire) → enough ≤ n → Fits w → Steps hunt (preambles n ++ body w) (within n (checking w))
to_ready n w h f =
    past_count n h w.opening w.heading f.heading_fits w.command (loads n h w.opening w.heading f.heading_fits w.command w.payload)

phase_steps : (n : ℕ) (p : Phase) → enough ≤ n → Sized p → Steps hunt (preambles n ++ opened p) (within n p)
phase_steps n (addressing o hs) h z = to_addressing n h o hs z
phase_steps n (commanding o hs) h z = opening n h o (addresses n h o hs z)
phase_steps n (counting o hs c) h z = opening n h o (commands n h o hs z c)
phase_steps n (loading o hs c e ds) h z = past_count n h o hs z.0 c (loads_some n h o hs z.0 c e ds z.1)
phase_steps n (checking w) h z = to_ready n w h z

-- a fine state is reached by the bytes it holds
pub held_steps : (s : Scan) → Fine s → Steps hunt (held s) s
held_steps hunt f = stay
held_steps (pre n) f = to_preambles n f
held_steps (within n p) f = phase_steps n p f.0 f.1
