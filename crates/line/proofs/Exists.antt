-- The scanner takes a run apart: what it gives along the way and what it holds at the end are a cut.
use Prim.Native.Nat.{ℕ, zero, suc, ◌+◌, ◌-◌, ◌≤◌, ◌<◌}
use native.Mathlib.Omega.{arith}
use native.Mathlib.Decide.{dec_le}
use mathlib.Core.Path.{◌≡◌, refl, sym, ap, subst, ◌∙◌}
use mathlib.Core.Logic.{◌≢◌}
use mathlib.Core.Bool.{Bool, true, false, cond}
use mathlib.Core.List.{List, [], ◌∷◌, ◌++◌, append-nil, append_assoc, cons≢nil}
use lib.ListN.{length, replicate, length-append, length-replicate, replicate-append-replicate}
use lib.Seq.{append_snoc}
use lib.Dec.{eqb, leb}
use borrow.Author.Tests.{eqb-true, eqb-false, leb-true, leb-false}
use Rattle.octets.proofs.Check.{check_below}
use Rattle.std.specs.Prelude.{Option, Some, None}
use Rattle.types.specs.declared.delimiter.Opening.{Opening}
use Rattle.types.specs.Delimiter.{delimiter, delimiter_of}
use Rattle.types.specs.Address.{head_length}
use Rattle.types.proofs.Delimiters.{Right, delimiter_right, delimiter_small}
use Rattle.types.proofs.Addresses.{head_some}
use Rattle.line.specs.Layout.{Wire, Fits, preambles, body, check_of}
use Rattle.line.specs.Pieces.{
  Piece,
  noise,
  short_run,
  bad_delimiter,
  frame,
  bad_check,
  enough,
  Holds,
  bytes_of,
  Bytes,
  Tail,
  joined,
  Rest,
  nothing,
  tail,
  Cut,
}
use Rattle.line.specs.Runs.{ends_in}
use Rattle.line.proofs.Scan.{
  Phase,
  addressing,
  commanding,
  counting,
  loading,
  checking,
  Scan,
  hunt,
  pre,
  within,
  wire,
  scan_within,
  scan_enter,
  scan,
  opened,
  held,
  Sized,
  Fine,
}
use Rattle.line.proofs.Steps.{steps_ends, held_steps}
use Rattle.line.proofs.Bytes.{bytes-append, bytes_right, bytes-replicate, one_more}

abbrev bytes_out : Option Piece → List ℕ
bytes_out None = []
bytes_out (Some p) = bytes_of p

abbrev HoldsOut : Option Piece → Type 0
HoldsOut None = Unit {0}
HoldsOut (Some p) = Holds p

-- one byte more: the state is fine again, a piece that is given holds, and no byte is lost
record Sound (s : Scan) (b : ℕ) (r : Scan × Option Piece) : Type 0 where
  fine : Fine r.0
  out : HoldsOut r.1
  kept : bytes_out r.1 ++ held r.0 ≡ held s ++ (b ∷ [])

-- bytes behind the address
behind : (d : ℕ) (hs xs ys : List ℕ) → d ∷ (hs ++ (xs ++ ys)) ≡ (d ∷ (hs ++ xs)) ++ ys
behind d hs xs ys = ap (λ (bs : List ℕ). d ∷ bs) (sym (append_assoc hs xs ys))

-- inside a frame
module _ (n b : ℕ) (many : enough ≤ n) (small : b < 256) where
  sound_on : (p q : Phase) → Bytes (opened p) → Sized q → opened q ≡ opened p ++ (b ∷ []) → Sound (within n p) b (within n q, None)
  sound_on p q k z e =
      record {
        fine = (many, z, subst Bytes (sym e) (bytes-append (opened p) (b ∷ []) k (small, tt)));
        out = tt;
        kept = rw e (sym (append_assoc (preambles n) (opened p) (b ∷ [])));
      }

  sound_within : (p : Phase) → Sized p → Bytes (opened p) → Sound (within n p) b (scan_within n p b)
  unfolding scan_within
  sound_within (addressing o hs) z k =
      one_more (λ (s : Scan). Sound (within n (addressing o hs)) b (s, None)) hs b (head_length o)
      (within n (commanding o (hs ++ (b ∷ [])))) (within n (addressing o (hs ++ (b ∷ [])))) z
      (λ full. sound_on (addressing o hs) (commanding o (hs ++ (b ∷ []))) k full refl)
      (λ short. sound_on (addressing o hs) (addressing o (hs ++ (b ∷ []))) k short refl)
  sound_within (commanding o hs) z k = sound_on (commanding o hs) (counting o hs b) k z refl
  sound_within (counting o hs c) z k = by (eqb 0 b) refl
    where
      by : (y : Bool) → eqb 0 b ≡ y → Sound (within n (counting o hs c)) b (cond y (within n (checking (wire o hs c []))) (within n (loading o hs c b [])), None)
      by true e =
          sound_on (counting o hs c) (checking (wire o hs c [])) k (record { heading_fits = z; count_fits = omega arith })
          (rw (sym (eqb-true 0 b e)) (behind (delimiter o) hs (c ∷ []) (0 ∷ [])))
      by false e =
          sound_on (counting o hs c) (loading o hs c b []) k (z, omega (arith, eqb-false 0 b e)) (behind (delimiter o) hs (c ∷ []) (b ∷ []))
  sound_within (loading o hs c m ds) z k =
      let count_small : m < 256 = (bytes_right hs (c ∷ m ∷ ds) k.1).1.0 in
      one_more (λ (s : Scan). Sound (within n (loading o hs c m ds)) b (s, None)) ds b m
      (within n (checking (wire o hs c (ds ++ (b ∷ []))))) (within n (loading o hs c m (ds ++ (b ∷ [])))) z.1
      (λ full. sound_on (loading o hs c m ds) (checking (wire o hs c (ds ++ (b ∷ [])))) k (record { heading_fits = z.0; count_fits = omega (arith, full, count_small) })
      (ap (λ (j : ℕ). delimiter o ∷ (hs ++ (c ∷ j ∷ (ds ++ (b ∷ []))))) full ∙ behind (delimiter o) hs (c ∷ m ∷ ds) (b ∷ [])))
      (λ short. sound_on (loading o hs c m ds) (loading o hs c m (ds ++ (b ∷ []))) k (z.0, short) (behind (delimiter o) hs (c ∷ m ∷ ds) (b ∷ [])))
  sound_within (checking w) z k = by (eqb b (check_of w)) refl
    where
      by : (y : Bool) → eqb b (check_of w) ≡ y → Sound (within n (checking w)) b (hunt, Some (cond y (frame n w) (bad_check n w b)))
      by true e = record { fine = tt; out = (many, z); kept = append-nil (bytes_of (frame n w)) ∙ rw (sym (eqb-true b (check_of w) e)) }
      by false e = record { fine = tt; out = (many, z, eqb-false b (check_of w) e); kept = append-nil (bytes_of (bad_check n w b)) }

sound_enter : (n b : ℕ) → enough ≤ n → b < 256 → b ≢ 0xFF → (d : Option Opening) → Right b d → Sound (pre n) b (scan_enter n b d)
sound_enter n b h k other (Some o) q =
    record { fine = (h, head_some o, (rw (sym q) k, tt)); out = tt; kept = ap (λ (d : ℕ). preambles n ++ (d ∷ [])) (sym q) }
sound_enter n b h k other None q = record { fine = tt; out = (h, other, q); kept = append-nil (preambles n ++ (b ∷ [])) }

preambles-snoc : (n : ℕ) → preambles (suc n) ≡ preambles n ++ (0xFF ∷ [])
preambles-snoc zero = refl
preambles-snoc (suc n) = ap (λ (bs : List ℕ). 0xFF ∷ bs) (preambles-snoc n)

sound : (s : Scan) (b : ℕ) → Fine s → b < 256 → Sound s b (scan s b)
unfolding scan
sound hunt b f k = by (eqb b 0xFF) refl
  where
    by : (y : Bool) → eqb b 0xFF ≡ y → Sound hunt b (cond y (pre 1, None) (hunt, Some (noise b)))
    by true e = record { fine = omega arith; out = tt; kept = ap (λ (d : ℕ). d ∷ []) (sym (eqb-true b 0xFF e)) }
    by false e = record { fine = tt; out = eqb-false b 0xFF e; kept = refl }
sound (pre n) b f k = by (eqb b 0xFF) refl
  where
    by' : (y : Bool) → b ≢ 0xFF → leb enough n ≡ y → Sound (pre n) b (cond y (scan_enter n b (delimiter_of b)) (hunt, Some (short_run n b)))
    by' true other e = sound_enter n b (leb-true enough n e) k other (delimiter_of b) (delimiter_right b)
    by' false other e = record { fine = tt; out = (f, omega (arith, leb-false enough n e), other); kept = append-nil (preambles n ++ (b ∷ [])) }

    by : (y : Bool) → eqb b 0xFF ≡ y → Sound (pre n) b (cond y (pre (suc n), None) (cond (leb enough n) (scan_enter n b (delimiter_of b)) (hunt, Some (short_run n b))))
    by true e = record { fine = omega arith; out = tt; kept = rw (eqb-true b 0xFF e) (preambles-snoc n) }
    by false e = by' (leb enough n) (eqb-false b 0xFF e) refl
sound (within n p) b f k = sound_within n b f.0 k p f.1 f.2

pub fine_scan : (s : Scan) (b : ℕ) → Fine s → b < 256 → Fine (scan s b).0
fine_scan s b f k = (sound s b f k).fine

pub fine_ends : (s : Scan) (bs : List ℕ) → Fine s → Bytes bs → Fine (ends_in scan s bs)
fine_ends s [] f k = f
fine_ends s (b ∷ bs) f k = fine_ends (scan s b).0 bs (fine_scan s b f k.0) k.1

pub held_ends : (s : Scan) → Fine s → ends_in scan hunt (held s) ≡ s
held_ends s f = rw append-nil at (steps_ends (held_steps s f) [])

pub held_bytes : (s : Scan) → Fine s → Bytes (held s)
held_bytes hunt f = tt
held_bytes (pre n) f = bytes-replicate n 0xFF (omega arith)
held_bytes (within n p) f = bytes-append (preambles n) (opened p) (bytes-replicate n 0xFF (omega arith)) f.2

-- noughts and a check make a whole frame of an unfinished one
record Finish (p : Phase) : Type 0 where
  whole : Wire
  fits : Fits whole
  noughts : ℕ
  begins : body whole ≡ opened p ++ replicate noughts 0

finish : (p : Phase) → Sized p → Bytes (opened p) → Finish p
finish (addressing o hs) z k =
    let j : ℕ = head_length o - length hs in
    record {
      whole = wire o (hs ++ replicate j 0) 0 [];
      fits = record { heading_fits = length-append hs (replicate j 0) ∙ rw length-replicate (omega arith); count_fits = omega arith };
      noughts = j + 2;
      begins = ap (λ (bs : List ℕ). delimiter o ∷ bs) (append_assoc hs (replicate j 0) (0 ∷ 0 ∷ []) ∙ ap (λ (bs : List ℕ). hs ++ bs) (replicate-append-replicate j 2 0));
    }
finish (commanding o hs) z k = record { whole = wire o hs 0 []; fits = record { heading_fits = z; count_fits = omega arith }; noughts = 2; begins = refl }
finish (counting o hs c) z k =
    record { whole = wire o hs c []; fits = record { heading_fits = z; count_fits = omega arith }; noughts = 1; begins = behind (delimiter o) hs (c ∷ []) (0 ∷ []) }
finish (loading o hs c m ds) z k =
    let j : ℕ = m - length ds in
    let full : length (ds ++ replicate j 0) ≡ m = length-append ds (replicate j 0) ∙ rw length-replicate (omega arith) in
    let count_small : m < 256 = (bytes_right hs (c ∷ m ∷ ds) k.1).1.0 in
    record {
      whole = wire o hs c (ds ++ replicate j 0);
      fits = record { heading_fits = z.0; count_fits = omega (arith, full, count_small) };
      noughts = j;
      begins = ap (λ (i : ℕ). delimiter o ∷ (hs ++ (c ∷ i ∷ (ds ++ replicate j 0)))) full ∙ behind (delimiter o) hs (c ∷ m ∷ ds) (replicate j 0);
    }
finish (checking w) z k = record { whole = w; fits = z; noughts = 0; begins = sym (append-nil (body w)) }

snoc_nonempty : (bs : List ℕ) (b : ℕ) → bs ++ (b ∷ []) ≢ []
snoc_nonempty [] b e = cons≢nil e
snoc_nonempty (c ∷ bs) b e = cons≢nil e

begun : (n : ℕ) (bs : List ℕ) → 1 ≤ n → preambles n ++ bs ≢ []
begun zero bs h e = omega arith
begun (suc n) bs h e = cons≢nil e

regroup : (a b c d : List ℕ) → (a ++ b) ++ (c ++ d) ≡ (a ++ (b ++ c)) ++ d
regroup a b c d = simp append_assoc

-- what is held is nothing or a tail
remains : (s : Scan) → Fine s → Rest (held s)
remains hunt f = nothing
remains (pre n) f = tail (by (dec_le enough n))
  where
    nonempty' : preambles n ≢ []
    nonempty' = rw append-nil at (begun n [] f)

    by : Dec (enough ≤ n) → Tail (preambles n)
    by (no h) = record { nonempty = nonempty'; piece = short_run n 0; holds = (f, omega (arith, h), omega arith); missing = 0 ∷ []; lacking = cons≢nil; small = (omega arith, tt); begins = refl }
    by (yes h) =
        record {
          nonempty = nonempty';
          piece = bad_delimiter n 0;
          holds = (h, omega arith, λ o. omega (arith, delimiter_small o));
          missing = 0 ∷ [];
          lacking = cons≢nil;
          small = (omega arith, tt);
          begins = refl;
        }
remains (within n p) f =
    let r = finish p f.1 f.2 in
    let w = r.whole in
    let zeros : List ℕ = replicate r.noughts 0 in
    let zeros-small : Bytes zeros = bytes-replicate r.noughts 0 (omega arith) in
    let body-small : Bytes (body w) = subst Bytes (sym r.begins) (bytes-append (opened p) zeros f.2 zeros-small) in
    tail (record {
      nonempty = begun n (opened p) (omega arith);
      piece = frame n w;
      holds = (f.0, r.fits);
      missing = zeros ++ (check_of w ∷ []);
      lacking = snoc_nonempty zeros (check_of w);
      small = bytes-append zeros (check_of w ∷ []) zeros-small (check_below 0 (body w) (omega arith) body-small, tt);
      begins = regroup (preambles n) (opened p) zeros (check_of w ∷ []) ∙ ap (λ (bs : List ℕ). (preambles n ++ bs) ++ (check_of w ∷ [])) (sym r.begins);
    })

record Found (run : List ℕ) : Type 0 where
  parts : List Piece
  left : List ℕ
  cut : Cut run parts left

add : (o : Option Piece) (run : List ℕ) → HoldsOut o → Found run → Found (bytes_out o ++ run)
add None run h found = found
add (Some p) run h found =
    record {
      parts = p ∷ found.parts;
      left = found.left;
      cut = record {
        pieces = (h, found.cut.pieces);
        rest = found.cut.rest;
        whole = ap (λ (bs : List ℕ). bytes_of p ++ bs) found.cut.whole ∙ sym (append_assoc (bytes_of p) (joined found.parts) found.left);
      };
    }

find : (s : Scan) (bs : List ℕ) → Fine s → Bytes bs → Found (held s ++ bs)
find s [] f k = rw append-nil (record { parts = []; left = held s; cut = record { pieces = tt; rest = remains s f; whole = refl } })
find s (b ∷ bs) f k =
    let w = sound s b f k.0 in
    let r = scan s b in
    let e : held s ++ (b ∷ bs) ≡ bytes_out r.1 ++ (held r.0 ++ bs) =
    sym (append_snoc (held s) b bs) ∙ ap (λ (cs : List ℕ). cs ++ bs) (sym w.kept) ∙ append_assoc (bytes_out r.1) (held r.0) bs in
    rw e (add r.1 (held r.0 ++ bs) w.out (find r.0 bs w.fine k.1))

pub cut_exists : (run : List ℕ) → Bytes run → (ps : List Piece) × (t : List ℕ) × Cut run ps t
cut_exists run h = let found = find hunt run tt h in (found.parts, found.left, found.cut)
