-- The scanner gives every piece of a cut at its last byte and none elsewhere. So a run has one cut at most.
use Prim.Native.Nat.{ℕ}
use native.Mathlib.Omega.{arith}
use mathlib.Core.Path.{◌≡◌, refl, sym, ap, ◌∙◌}
use mathlib.Core.Logic.{◌≢◌}
use Rattle.std.specs.Prelude.{Option, None, Some}
use mathlib.Core.List.{
  List,
  [],
  ◌∷◌,
  ◌++◌,
  map,
  append-nil,
  append_assoc,
  append_cancel_left,
  head-eq_of_cons-eq,
  tail-eq_of_cons-eq,
  cons≢nil,
}
use borrow.Author.Tests.{eq-eqb, ne_eqb, le-leb, lt-leb}
use Rattle.types.proofs.Delimiters.{delimiter_unknown}
use Rattle.line.specs.Layout.{check_of}
use Rattle.line.specs.Pieces.{
  Piece,
  noise,
  short_run,
  bad_delimiter,
  frame,
  bad_check,
  enough,
  front,
  last,
  Holds,
  AllHold,
  joined,
  Rest,
  nothing,
  tail,
  Cut,
}
use Rattle.line.specs.Events.{Event, silence, silent, dictated}
use Rattle.line.specs.Runs.{says, ends_in}
use Rattle.line.proofs.Scan.{Scan, hunt, pre, within, checking, scan_within, scan, told}
use Rattle.line.proofs.Steps.{Steps, stay, go, steps_ends, to_preambles, to_ready}

-- no piece ends before a piece's last byte, and there it ends
pub record Passes (p : Piece) : Type 0 where
  pub before : Scan
  pub along : Steps hunt (front p) before
  pub scans : scan before (last p) ≡ (hunt, Some p)

pub passes : (p : Piece) → Holds p → Passes p
unfolding scan scan_within
passes (noise b) h = record { before = hunt; along = stay; scans = rw (ne_eqb b 0xFF h) }
passes (short_run n b) h =
    record { before = pre n; along = to_preambles n h.0; scans = rw (ne_eqb b 0xFF h.2, lt-leb enough n (omega arith)) }
passes (bad_delimiter n b) h =
    record {
      before = pre n;
      along = to_preambles n (omega arith);
      scans = rw (ne_eqb b 0xFF h.1, le-leb enough n h.0, delimiter_unknown b h.2);
    }
passes (frame n w) h =
    record { before = within n (checking w); along = to_ready n w h.0 h.1; scans = rw (eq-eqb (check_of w) (check_of w) refl) }
passes (bad_check n w c) h =
    record { before = within n (checking w); along = to_ready n w h.0 h.1; scans = rw (ne_eqb c (check_of w) h.2) }

-- a tail is bytes of a piece without its last
steps_front : {s s'' : Scan} (bs cs : List ℕ) → Steps s (bs ++ cs) s'' → (s' : Scan) × Steps s bs s'
steps_front {s} [] cs q = (s, stay)
steps_front (b ∷ bs) cs (go e q) = let r = steps_front bs cs q in (r.0, go e r.1)

proper : (t fr cs : List ℕ) (d : ℕ) → cs ≢ [] → t ++ cs ≡ fr ++ (d ∷ []) → (u : List ℕ) × (fr ≡ t ++ u)
proper [] fr cs d n e = (fr, refl)
proper (a ∷ []) [] cs d n e = absurd (n (tail-eq_of_cons-eq e))
proper (a ∷ a' ∷ t) [] cs d n e = absurd (cons≢nil (tail-eq_of_cons-eq e))
proper (a ∷ t) (b ∷ fr) cs d n e =
    let r = proper t fr cs d n (tail-eq_of_cons-eq e) in
    let h = head-eq_of_cons-eq e in
    (r.0, cc r.1)

pub rest_steps : {t : List ℕ} → Rest t → (s : Scan) × Steps hunt t s
rest_steps nothing = (hunt, stay)
rest_steps (tail {t = t} w) =
    let r = proper t (front w.piece) w.missing (last w.piece) w.lacking w.begins in
    steps_front t r.0 (rw r.1 at (passes w.piece w.holds).along)

-- what the scanner gives, byte by byte
abbrev nothings : List ℕ → List (Option Piece)
nothings bs = map (λ (b : ℕ). None) bs

abbrev given : List Piece → List ℕ → List (Option Piece)
given [] t = nothings t
given (p ∷ ps) t = nothings (front p) ++ (Some p ∷ given ps t)

steps_says : {s s' : Scan} {bs : List ℕ} → Steps s bs s' → (cs : List ℕ) → says scan s (bs ++ cs) ≡ nothings bs ++ says scan s' cs
steps_says stay cs = refl
steps_says (go e q) cs = rw e (ap (λ (os : List (Option Piece)). None ∷ os) (steps_says q cs))

regroup : (p : Piece) (ps : List Piece) (t : List ℕ) → joined (p ∷ ps) ++ t ≡ front p ++ (last p ∷ (joined ps ++ t))
regroup p ps t = simp append_assoc

says_given : (ps : List Piece) (t : List ℕ) → AllHold ps → Rest t → says scan hunt (joined ps ++ t) ≡ given ps t
says_given [] t a r = simp append-nil at (steps_says (rest_steps r).1 [])
says_given (p ∷ ps) t a r =
    let w = passes p a.0 in
    rw regroup (steps_says w.along (last p ∷ (joined ps ++ t)) ∙ rw (w.scans, says_given ps t a.1 r))

pub scanned_whole : (ps : List Piece) → AllHold ps → ends_in scan hunt (joined ps) ≡ hunt
scanned_whole [] a = refl
scanned_whole (p ∷ ps) a =
    let w = passes p a.0 in
    rw append_assoc (steps_ends w.along (last p ∷ joined ps) ∙ rw (ends_in, w.scans) (scanned_whole ps a.1))

-- the events told
nothings_told : (bs : List ℕ) (os : List (Option Piece)) → map told (nothings bs ++ os) ≡ silent bs ++ map told os
nothings_told [] os = refl
nothings_told (b ∷ bs) os = ap (λ (es : List Event). silence ∷ es) (nothings_told bs os)

given_told : (ps : List Piece) (t : List ℕ) → map told (given ps t) ≡ dictated ps t
given_told [] t = simp append-nil at (nothings_told t [])
given_told (p ∷ ps) t = nothings_told (front p) (Some p ∷ given ps t) ∙ rw (given_told ps t, append_assoc)

pub scanned : (ps : List Piece) (t : List ℕ) → AllHold ps → Rest t → map told (says scan hunt (joined ps ++ t)) ≡ dictated ps t
scanned ps t a r = ap (map told) (says_given ps t a r) ∙ given_told ps t

-- the pieces among what is given
abbrev pieces_in : List (Option Piece) → List Piece
pieces_in [] = []
pieces_in (None ∷ os) = pieces_in os
pieces_in (Some p ∷ os) = p ∷ pieces_in os

nothings_pieces : (bs : List ℕ) (os : List (Option Piece)) → pieces_in (nothings bs ++ os) ≡ pieces_in os
nothings_pieces [] os = refl
nothings_pieces (b ∷ bs) os = nothings_pieces bs os

given_pieces : (ps : List Piece) (t : List ℕ) → pieces_in (given ps t) ≡ ps
given_pieces [] t = rw append-nil at (nothings_pieces t [])
given_pieces (p ∷ ps) t = nothings_pieces (front p) (Some p ∷ given ps t) ∙ ap (λ (qs : List Piece). p ∷ qs) (given_pieces ps t)

pieces_given : (ps : List Piece) (t : List ℕ) → AllHold ps → Rest t → pieces_in (says scan hunt (joined ps ++ t)) ≡ ps
pieces_given ps t a r = ap pieces_in (says_given ps t a r) ∙ given_pieces ps t

pub cut_unique : (run : List ℕ) (ps qs : List Piece) (t u : List ℕ) → Cut run ps t → Cut run qs u → (ps ≡ qs) × (t ≡ u)
cut_unique run ps qs t u c d = (same, append_cancel_left (joined ps) t u (sym c.whole ∙ d.whole ∙ rw same))
  where
    same : ps ≡ qs
    same = sym (pieces_given ps t c.pieces c.rest) ∙ ap (λ (bs : List ℕ). pieces_in (says scan hunt bs)) (sym c.whole ∙ d.whole) ∙ pieces_given qs u d.pieces d.rest

-- the empty run has no piece and no tail
pub cut_empty : (ps : List Piece) (t : List ℕ) → Cut [] ps t → (ps ≡ []) × (t ≡ [])
cut_empty ps t c = cut_unique [] ps [] t [] c (record { pieces = tt; rest = nothing; whole = refl })
