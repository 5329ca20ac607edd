-- Where the Rust's decoder stops, in the words of a cut: at the 256th FF of a preamble, and nowhere else.
use Prim.Native.Nat.{ℕ, zero, suc, ◌+◌, ◌-◌, ◌≤◌, ◌<◌}
use native.Mathlib.Omega.{arith}
use mathlib.Core.Path.{◌≡◌, refl, sym, ap, subst, ◌∙◌}
use mathlib.Core.Logic.{◌↔◌, ◌⊎◌, inl, inr}
use mathlib.Core.Bool.{Bool, true, false, cond, ◌||◌, or-true, or-false, true≢false}
use Rattle.std.specs.Prelude.{Option, None, Some}
use mathlib.Core.List.{List, [], ◌∷◌, ◌++◌, map, append-nil, append_assoc}
use lib.Dec.{eqb, leb}
use lib.ListN.{replicate}
use lib.Seq.{append_snoc}
use borrow.Author.Tests.{eqb-true, ne_eqb, le-leb, lt-leb, leb-true, leb-false}
use Rattle.types.specs.declared.delimiter.FrameType.TheVariants.{Request}
use Rattle.types.specs.declared.first.MasterRole.TheVariants.{Primary}
use Rattle.types.specs.declared.address.Address.TheVariants.{Short}
use Rattle.types.specs.Delimiter.{delimiter}
use Rattle.types.proofs.Delimiters.{delimiter_small}
use Rattle.line.specs.Layout.{Wire, preambles, body, check_of}
use Rattle.line.specs.Pieces.{
  Piece,
  noise,
  short_run,
  bad_delimiter,
  frame,
  bad_check,
  Holds,
  front,
  last,
  bytes_of,
  Bytes,
  joined,
  AllHold,
  Rest,
  Cut,
}
use Rattle.line.specs.Runs.{ends_in}
use Rattle.line.proofs.Machines.{ends-append}
use Rattle.line.proofs.Scan.{Scan, hunt, pre, within, scan_within, scan}
use Rattle.line.proofs.Steps.{Steps, stay, go, steps_ends, to_preambles}
use Rattle.line.proofs.Unique.{passes, rest_steps, scanned_whole}
use Rattle.line.proofs.Exists.{cut_exists}
use Rattle.line.specs.machine.Feed.{fresh}
use Rattle.line.specs.machine.Demand.{hears, Call, feeds, resets, heard_along}
use Rattle.line.specs.machine.Source.{Result, ok_none, ok_some, source_new, source_feed, stopped, returned, traced, result_of, SmallCalls, first_run, later_runs, runs_of, last_of, last_run, leading_ff, uncountable, overlong, Overlong, SomeOverlong}
use Rattle.line.proofs.machine.Source.{preamble_of, Stays, stays_within, stays_behind, crosses, crossing, some_crossing, source_along}

-- what the scanner holds is known from the bytes since it was in state `pre m`, if no piece has ended: all FF, or so many in front
abbrev CountedFrom : ℕ → List ℕ → Scan → Type 0
CountedFrom m bs hunt = ⊥
CountedFrom m bs (pre n) = (bs ≡ preambles (n - m)) × (m ≤ n)
CountedFrom m bs (within n p) = n ≡ m + leading_ff bs

leading_preambles : (n : ℕ) (bs : List ℕ) → leading_ff (preambles n ++ bs) ≡ n + leading_ff bs
leading_preambles zero bs = omega arith
leading_preambles (suc n) bs = ap suc (leading_preambles n bs) ∙ omega arith

leading_all : (n : ℕ) → leading_ff (preambles n) ≡ n
leading_all zero = refl
leading_all (suc n) = ap suc (leading_all n)

counted_preamble : (m : ℕ) (bs : List ℕ) (s : Scan) → CountedFrom m bs s → preamble_of s ≡ m + leading_ff bs
counted_preamble m bs hunt a = absurd a
counted_preamble m bs (pre n) a = rw a.0 (omega (arith, leading_all (n - m), a.1))
counted_preamble m bs (within n p) a = a

-- one FF in front, and another byte in front
counted_ff : (m b : ℕ) (bs : List ℕ) (s : Scan) → eqb b 0xFF ≡ true → CountedFrom (suc m) bs s → CountedFrom m (b ∷ bs) s
counted_ff m b bs hunt e a = a
counted_ff m b bs (pre n) e a =
    let one : n - m ≡ suc (n - suc m) = omega (arith, a.1) in
    (rw (one, eqb-true b 0xFF e) (ap (λ (cs : List ℕ). 0xFF ∷ cs) a.0), omega (arith, a.1))
counted_ff m b bs (within n p) e a = rw e (omega arith)

counted_other : (m b : ℕ) (bs : List ℕ) (s : Scan) → eqb b 0xFF ≡ false → Stays m (s, None) → CountedFrom m (b ∷ bs) s
counted_other m b bs hunt e k = absurd k
counted_other m b bs (pre n) e k = absurd k
counted_other m b bs (within n p) e k = rw e (omega arith)

-- one step
step_ff : (m b : ℕ) (s : Scan) → eqb b 0xFF ≡ true → scan (pre m) b ≡ (s, None) → s ≡ pre (suc m)
unfolding scan
step_ff m b s z e = let same : ◌≡◌ {A = Scan × Option Piece} (pre (suc m), None) (s, None) = rw z at e in ap (λ (r : Scan × Option Piece). r.0) (sym same)

step_within : (m : ℕ) (s : Scan) (b : ℕ) (s' : Scan) → Stays m (s, None) → scan s b ≡ (s', None) → Stays m (s', None)
unfolding scan
step_within m hunt b s' k e = absurd k
step_within m (pre n) b s' k e = absurd k
step_within m (within n p) b s' k e = subst (Stays m) e (subst (λ (i : ℕ). Stays i (scan_within n p b)) k (stays_within n p b))

steps_within : (bs : List ℕ) (m : ℕ) (s : Scan) {s'' : Scan} → Stays m (s, None) → Steps s bs s'' → Stays m (s'', None)
steps_within [] m s k stay = k
steps_within (b ∷ bs) m s k (go {s' = s'} e q) = steps_within bs m s' (step_within m s b s' k e) q

steps_pre : (bs : List ℕ) (m : ℕ) {s'' : Scan} → Steps (pre m) bs s'' → CountedFrom m bs s''
steps_pre [] m stay = let none_left : m - m ≡ 0 = omega arith in (rw none_left, omega arith)
steps_pre (b ∷ bs) m {s''} (go {s' = s'} e q) = by (eqb b 0xFF) refl (steps_pre bs (suc m))
  where
    by : (y : Bool) → eqb b 0xFF ≡ y → (Steps (pre (suc m)) bs s'' → CountedFrom (suc m) bs s'') → CountedFrom m (b ∷ bs) s''
    by true z ih = counted_ff m b bs s'' z (ih (subst (λ (s : Scan). Steps s bs s'') (step_ff m b s' z e) q))
    by false z ih = counted_other m b bs s'' z (steps_within bs m s' (subst (Stays m) e (stays_behind m b z)) q)

piece_given : (p : Piece) → ◌≡◌ {A = Option Piece} (Some p) None → ⊥
piece_given p e = let z : ◌≡◌ {A = ℕ} 0 1 = cc in omega arith

steps_hunt : (b : ℕ) (bs : List ℕ) {s'' : Scan} → Steps hunt (b ∷ bs) s'' → CountedFrom 0 (b ∷ bs) s''
unfolding scan
steps_hunt b bs {s''} (go {s' = s'} e q) = by (eqb b 0xFF) refl
  where
    by : (y : Bool) → eqb b 0xFF ≡ y → CountedFrom 0 (b ∷ bs) s''
    by true z =
        let same : ◌≡◌ {A = Scan × Option Piece} (pre 1, None) (s', None) = rw z at e in
        let begun : s' ≡ pre 1 = ap (λ (r : Scan × Option Piece). r.0) (sym same) in
        counted_ff 0 b bs s'' z (steps_pre bs 1 (subst (λ (s : Scan). Steps s bs s'') begun q))
    by false z = let other : ◌≡◌ {A = Scan × Option Piece} (hunt, Some (noise b)) (s', None) = rw z at e in absurd (piece_given (noise b) (ap (λ (r : Scan × Option Piece). r.1) other))

-- so it has counted the FF in front
steps_count : (bs : List ℕ) {s : Scan} → Steps hunt bs s → preamble_of s ≡ leading_ff bs
steps_count [] stay = refl
steps_count (b ∷ bs) {s} q = omega (arith, counted_preamble 0 (b ∷ bs) s (steps_hunt b bs q))

-- and where it still counts, there is nothing but them
steps_all : (bs : List ℕ) (n : ℕ) {s : Scan} → Steps hunt bs s → s ≡ pre (suc n) → bs ≡ preambles (suc n)
steps_all [] n stay e = let z : 0 ≡ suc n = ap preamble_of e in absurd (omega arith)
steps_all (b ∷ bs) n q e = let whole : suc n - 0 ≡ suc n = omega arith in (subst (CountedFrom 0 (b ∷ bs)) e (steps_hunt b bs q)).0 ∙ ap preambles whole

-- the count does not fall until a piece ends
stays_count : (m : ℕ) (s : Scan) → Stays m (s, None) → preamble_of s ≡ m
stays_count m hunt k = absurd k
stays_count m (pre n) k = absurd k
stays_count m (within n p) k = k

step_grows : (s : Scan) (b : ℕ) (s' : Scan) → scan s b ≡ (s', None) → preamble_of s ≤ preamble_of s'
step_grows hunt b s' e = omega arith
step_grows (pre n) b s' e = by (eqb b 0xFF) refl
  where
    by : (y : Bool) → eqb b 0xFF ≡ y → n ≤ preamble_of s'
    by true z = rw (step_ff n b s' z e) (omega arith)
    by false z = omega (arith, stays_count n s' (subst (Stays n) e (stays_behind n b z)))
step_grows (within n p) b s' e = omega (arith, stays_count n s' (step_within n (within n p) b s' refl e))

steps_grow : {s s'' : Scan} {bs : List ℕ} → Steps s bs s'' → preamble_of s ≤ preamble_of s''
steps_grow stay = omega arith
steps_grow {s} (go {s' = s'} {b = b} e q) = omega (arith, step_grows s b s' e, steps_grow q)

-- so whether it comes to 256 along such bytes is seen behind them
crossing_steps : {s s'' : Scan} {bs : List ℕ} → Steps s bs s'' → (cs : List ℕ) → preamble_of s < 256 → crossing s (bs ++ cs) ≡ (leb 256 (preamble_of s'') || crossing s'' cs)
crossing_steps {s} stay cs h = rw (lt-leb 256 (preamble_of s) h)
crossing_steps {s} {s''} (go {s' = s'} {bs = bs} e q) cs h = rw e (by (leb 256 (preamble_of s')) refl (λ below. crossing_steps q cs below))
  where
    by : (y : Bool) → leb 256 (preamble_of s') ≡ y → (preamble_of s' < 256 → crossing s' (bs ++ cs) ≡ (leb 256 (preamble_of s'') || crossing s'' cs))
        → (y || crossing s' (bs ++ cs)) ≡ (leb 256 (preamble_of s'') || crossing s'' cs)
    by true z ih = rw (le-leb 256 (preamble_of s'') (omega (arith, leb-true 256 (preamble_of s') z, steps_grow q)))
    by false z ih = ih (leb-false 256 (preamble_of s') z)

-- a piece's preamble ends before its last byte
leading_frame : (n : ℕ) (w : Wire) (c : ℕ) → leading_ff (preambles n ++ body w) ≡ leading_ff ((preambles n ++ body w) ++ (c ∷ []))
leading_frame n w c =
    let d : ℕ = delimiter w.opening in
    let other : eqb d 0xFF ≡ false = ne_eqb d 0xFF (omega (arith, delimiter_small w.opening)) in
    rw (append_assoc, leading_preambles n (body w), leading_preambles n (body w ++ (c ∷ [])), other)

leading_byte : (n b : ℕ) → eqb b 0xFF ≡ false → leading_ff (preambles n) ≡ leading_ff (preambles n ++ (b ∷ []))
leading_byte n b e = rw (leading_preambles n (b ∷ []), e, leading_all n) (omega arith)

leading_front : (p : Piece) → Holds p → leading_ff (front p) ≡ leading_ff (bytes_of p)
leading_front (noise b) h = rw (ne_eqb b 0xFF h)
leading_front (short_run n b) h = leading_byte n b (ne_eqb b 0xFF h.2)
leading_front (bad_delimiter n b) h = leading_byte n b (ne_eqb b 0xFF h.1)
leading_front (frame n w) h = leading_frame n w (check_of w)
leading_front (bad_check n w c) h = leading_frame n w c

crossing_piece : (p : Piece) → Holds p → (cs : List ℕ) → crossing hunt (bytes_of p ++ cs) ≡ (uncountable (bytes_of p) || crossing hunt cs)
crossing_piece p h cs =
    let w = passes p h in
    ap (crossing hunt) (append_snoc (front p) (last p) cs)
    ∙ crossing_steps w.along (last p ∷ cs) (omega arith)
    ∙ rw w.scans (ap (λ (n : ℕ). leb 256 n || crossing hunt cs) (steps_count (front p) w.along ∙ leading_front p h))

crossing_joined : (ps : List Piece) (t : List ℕ) → AllHold ps → Rest t → crossing hunt (joined ps ++ t) ≡ overlong ps t
crossing_joined [] t a r =
    let q = rest_steps r in
    ap (crossing hunt) (sym (append-nil t)) ∙ crossing_steps q.1 [] (omega arith) ∙ or-false (leb 256 (preamble_of q.0)) ∙ ap (leb 256) (steps_count t q.1)
crossing_joined (p ∷ ps) t a r =
    ap (crossing hunt) (append_assoc (bytes_of p) (joined ps) t) ∙ crossing_piece p a.0 (joined ps ++ t) ∙ ap (λ (o : Bool). uncountable (bytes_of p) || o) (crossing_joined ps t a.1 r)

crossing_cut : {run : List ℕ} {ps : List Piece} {t : List ℕ} → Cut run ps t → crossing hunt run ≡ overlong ps t
crossing_cut {ps = ps} {t = t} c = ap (crossing hunt) c.whole ∙ crossing_joined ps t c.pieces c.rest

-- the runs of calls that feed bytes
abbrev AllBytes : List (List ℕ) → Type 0
AllBytes [] = Unit {0}
AllBytes (run ∷ runs) = Bytes run × AllBytes runs

runs_small : (calls : List Call) → SmallCalls calls → Bytes (first_run calls) × AllBytes (later_runs calls)
runs_small [] k = (tt, tt)
runs_small (feeds b ∷ cs) k = let r = runs_small cs k.1 in ((k.0, r.0), r.1)
runs_small (resets ∷ cs) k = (tt, runs_small cs k)

crossing_overlong : (runs : List (List ℕ)) → AllBytes runs → some_crossing runs ≡ true → SomeOverlong runs
crossing_overlong [] k e = absurd (true≢false (sym e))
crossing_overlong (run ∷ runs) k e = by (crossing hunt run) refl e (crossing_overlong runs k.1)
  where
    by : (y : Bool) → crossing hunt run ≡ y → (y || some_crossing runs) ≡ true → (some_crossing runs ≡ true → SomeOverlong runs) → Overlong run ⊎ SomeOverlong runs
    by true z o ih = let found = cut_exists run k.0 in inl (record { pieces = found.0; rest = found.1; cut = found.2; somewhere = sym (crossing_cut found.2) ∙ z })
    by false z o ih = inr (ih o)

overlong_crossing : (runs : List (List ℕ)) → SomeOverlong runs → some_crossing runs ≡ true
overlong_crossing [] o = absurd o
overlong_crossing (run ∷ runs) (inl o) = rw (crossing_cut o.cut ∙ o.somewhere)
overlong_crossing (run ∷ runs) (inr o) = rw (overlong_crossing runs o) (or-true (crossing hunt run))

-- what a trace says of its test
test_stopped : (o : Bool) (rs : List Result) → cond o stopped (returned rs) ≡ stopped → o ≡ true
test_stopped true rs e = refl
test_stopped false rs e = cc

test_returned : (o : Bool) (rs qs : List Result) → cond o stopped (returned rs) ≡ returned qs → o ≡ false
test_returned true rs qs e = cc
test_returned false rs qs e = refl

pub source_stops : (calls : List Call) → SmallCalls calls → (traced source_new calls ≡ stopped) ↔ SomeOverlong (runs_of calls)
source_stops calls k = (
  λ e. crossing_overlong (runs_of calls) (runs_small calls k) (test_stopped (some_crossing (runs_of calls)) _ (sym (source_along calls k) ∙ e)),
  λ o. source_along calls k ∙ rw (overlong_crossing (runs_of calls) o),
)

pub source_completes : (calls : List Call) → SmallCalls calls → (SomeOverlong (runs_of calls) → ⊥) → traced source_new calls ≡ returned (map result_of (heard_along hears fresh fresh calls))
source_completes calls k none_is = source_along calls k ∙ by (some_crossing (runs_of calls)) refl
  where
    by : (o : Bool) → some_crossing (runs_of calls) ≡ o → cond o stopped (returned (map result_of (heard_along hears fresh fresh calls))) ≡ returned (map result_of (heard_along hears fresh fresh calls))
    by true z = absurd (none_is (crossing_overlong (runs_of calls) (runs_small calls k) z))
    by false z = refl

-- Where the scanner stands behind calls, and one byte more.
abbrev calls_end : Scan → List Call → Scan
calls_end s [] = s
calls_end s (feeds b ∷ cs) = calls_end (scan s b).0 cs
calls_end s (resets ∷ cs) = calls_end hunt cs

abbrev calls_crossing : Scan → List Call → Bool
calls_crossing s cs = crossing s (first_run cs) || some_crossing (later_runs cs)

crossing_more : (s : Scan) (cs : List Call) (b : ℕ) → calls_crossing s cs ≡ false → calls_crossing s (cs ++ (feeds b ∷ [])) ≡ leb 256 (preamble_of (scan (calls_end s cs) b).0)
crossing_more s [] b e = or-false (leb 256 (preamble_of (scan s b).0) || false) ∙ or-false (leb 256 (preamble_of (scan s b).0))
crossing_more s (resets ∷ cs) b e = crossing_more hunt cs b e
crossing_more s (feeds c ∷ cs) b e = by (leb 256 (preamble_of (scan s c).0)) e (crossing_more (scan s c).0 cs b)
  where
    s' : Scan
    s' = (scan s c).0

    by : (y : Bool) → ((y || crossing s' (first_run cs)) || some_crossing (later_runs cs)) ≡ false
        → (calls_crossing s' cs ≡ false → calls_crossing s' (cs ++ (feeds b ∷ [])) ≡ leb 256 (preamble_of (scan (calls_end s' cs) b).0))
        → ((y || crossing s' (first_run (cs ++ (feeds b ∷ [])))) || some_crossing (later_runs (cs ++ (feeds b ∷ [])))) ≡ leb 256 (preamble_of (scan (calls_end s' cs) b).0)
    by true z ih = absurd (true≢false z)
    by false z ih = ih z

crossing_below : (s : Scan) (cs : List Call) → preamble_of s < 256 → calls_crossing s cs ≡ false → preamble_of (calls_end s cs) < 256
crossing_below s [] h e = h
crossing_below s (resets ∷ cs) h e = crossing_below hunt cs (omega arith) e
crossing_below s (feeds c ∷ cs) h e = by (leb 256 (preamble_of (scan s c).0)) refl e (crossing_below (scan s c).0 cs)
  where
    s' : Scan
    s' = (scan s c).0

    by : (y : Bool) → leb 256 (preamble_of s') ≡ y → ((y || crossing s' (first_run cs)) || some_crossing (later_runs cs)) ≡ false
        → (preamble_of s' < 256 → calls_crossing s' cs ≡ false → preamble_of (calls_end s' cs) < 256) → preamble_of (calls_end s' cs) < 256
    by true z o ih = absurd (true≢false o)
    by false z o ih = ih (leb-false 256 (preamble_of s') z) o

small_more : (cs : List Call) (b : ℕ) → SmallCalls cs → b < 256 → SmallCalls (cs ++ (feeds b ∷ []))
small_more [] b k h = (h, tt)
small_more (resets ∷ cs) b k h = small_more cs b k h
small_more (feeds c ∷ cs) b k h = (k.0, small_more cs b k.1 h)

-- that is where it stands behind the last of the runs alone, and behind the tail of its cut
abbrev runs_end : Scan → List (List ℕ) → Scan
runs_end s [] = s
runs_end s (run ∷ runs) = runs_end (ends_in scan hunt run) runs

calls_runs_end : (s : Scan) (cs : List Call) → calls_end s cs ≡ runs_end (ends_in scan s (first_run cs)) (later_runs cs)
calls_runs_end s [] = refl
calls_runs_end s (resets ∷ cs) = calls_runs_end hunt cs
calls_runs_end s (feeds b ∷ cs) = calls_runs_end (scan s b).0 cs

runs_end_lem : (run : List ℕ) (runs : List (List ℕ)) → runs_end (ends_in scan hunt run) runs ≡ ends_in scan hunt (last_of run runs)
runs_end_lem run [] = refl
runs_end_lem run (r ∷ rs) = runs_end_lem r rs

tail_end : {run : List ℕ} {ps : List Piece} {t : List ℕ} → Cut run ps t → ends_in scan hunt run ≡ ends_in scan hunt t
tail_end {ps = ps} {t = t} c = ap (ends_in scan hunt) c.whole ∙ ends-append scan hunt (joined ps) t ∙ ap (λ (s : Scan). ends_in scan s t) (scanned_whole ps c.pieces)

-- The place: behind calls that the Rust has completed it stops at the next byte exactly if this is the 256th FF of a preamble.
pub source_stops_at : (calls : List Call) (rs : List Result) (b : ℕ) {ps : List Piece} {t : List ℕ} → SmallCalls calls → b < 256 → traced source_new calls ≡ returned rs → Cut (last_run calls) ps t
    → (traced source_new (calls ++ (feeds b ∷ [])) ≡ stopped) ↔ ((t ≡ preambles 255) × (b ≡ 0xFF))
unfolding scan
source_stops_at calls rs b {t = t} k small e c = (
  λ z. at_last (crosses here b below (leb-true 256 (preamble_of (scan here b).0) (sym more ∙ test_stopped (calls_crossing hunt (calls ++ (feeds b ∷ []))) _ (sym trace ∙ z)))),
  λ at. trace ∙ rw (more ∙ over at),
)
  where
    here : Scan
    here = calls_end hunt calls

    uncrossed : calls_crossing hunt calls ≡ false
    uncrossed = test_returned (calls_crossing hunt calls) _ rs (sym (source_along calls k) ∙ e)

    below : preamble_of here < 256
    below = crossing_below hunt calls (omega arith) uncrossed

    more : calls_crossing hunt (calls ++ (feeds b ∷ [])) ≡ leb 256 (preamble_of (scan here b).0)
    more = crossing_more hunt calls b uncrossed

    trace : traced source_new (calls ++ (feeds b ∷ [])) ≡ cond (calls_crossing hunt (calls ++ (feeds b ∷ []))) stopped (returned (map result_of (heard_along hears fresh fresh (calls ++ (feeds b ∷ [])))))
    trace = source_along (calls ++ (feeds b ∷ [])) (small_more calls b k small)

    here_tail : here ≡ ends_in scan hunt t
    here_tail = calls_runs_end hunt calls ∙ runs_end_lem (first_run calls) (later_runs calls) ∙ tail_end c

    at_last : (here ≡ pre 255) × (eqb b 0xFF ≡ true) → (t ≡ preambles 255) × (b ≡ 0xFF)
    at_last at =
        let q = rest_steps c.rest in
        let ended : ends_in scan hunt t ≡ q.0 = rw append-nil at (steps_ends q.1 []) in
        (steps_all t 254 q.1 (sym ended ∙ sym here_tail ∙ at.0), eqb-true b 0xFF at.1)

    over_255 : leb 256 (preamble_of (scan (pre 255) 0xFF).0) ≡ true
    over_255 = refl

    over : (t ≡ preambles 255) × (b ≡ 0xFF) → leb 256 (preamble_of (scan here b).0) ≡ true
    over at =
        let counted : ends_in scan hunt (preambles 255) ≡ pre 255 = ap (ends_in scan hunt) (sym (append-nil (preambles 255))) ∙ steps_ends (to_preambles 255 (omega arith)) [] in
        let place : here ≡ pre 255 = here_tail ∙ ap (ends_in scan hunt) at.0 ∙ counted in
        ap (λ (s : Scan). leb 256 (preamble_of (scan s b).0)) place ∙ ap (λ (x : ℕ). leb 256 (preamble_of (scan (pre 255) x).0)) at.1 ∙ over_255

-- a byte count FF, 255 data bytes FF and a check FF are no preamble: of 257 FF in a row the Rust stops at none
pub source_takes_ff_data : traced source_new (map feeds (preambles 5 ++ (0x02 ∷ 0x80 ∷ 0x7D ∷ preambles 257)))
    ≡ returned (replicate 264 ok_none ++ (ok_some (record { frame_type = Request; address = Short Primary false 0; command = 0x7D; payload = preambles 255 }) ∷ []))
unfolding source_feed
source_takes_ff_data = refl
