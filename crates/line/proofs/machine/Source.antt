-- On every sequence of feeds and resets that the Rust's decoder completes, it returns what ours is heard to answer: both follow the
-- scanner of the crate line, the Rust's up to the 256th FF of a preamble, where it stops. SourceStops.antt says this place in the words of
-- a cut.
use Prim.Native.Nat.{ℕ, suc, ◌+◌, ◌-◌, ◌≤◌, ◌<◌}
use native.Mathlib.Omega.{arith}
use native.Mathlib.Numerals.{add-one}
use mathlib.Core.Path.{◌≡◌, refl, sym, ap, ◌∙◌}
use mathlib.Core.Bool.{Bool, true, false, cond, ◌||◌}
use mathlib.Core.List.{List, [], ◌∷◌, ◌++◌, map}
use lib.Bits.{bit_xor}
use lib.Dec.{eqb, ltb, leb}
use lib.ListN.{length, take, replicate, length-append}
use lib.Seq.{take_at}
use borrow.Author.Tests.{eqb-true, eqb-false, eq-eqb, ne_eqb, lt-ltb, le-ltb, le-leb, lt-leb, leb-true, leb-false}
use Rattle.octets.specs.Check.{check}
use Rattle.octets.proofs.Check.{check_first, check-snoc}
use Rattle.refusal.specs.declared.Refusal.TheVariants.{InvalidDelimiter}
use Rattle.types.specs.declared.delimiter.Opening.{Opening}
use Rattle.types.specs.declared.delimiter.FrameType.TheVariants.{Request, Response, Burst}
use Rattle.std.specs.Prelude.{Option, Some, None}
use Rattle.types.specs.Delimiter.{opening, delimiter, delimiter_of}
use Rattle.types.specs.Address.{address_length, head_length}
use Rattle.types.proofs.Delimiters.{Right, delimiter_right, six_delimiters}
use Rattle.line.specs.Layout.{Wire, Fits, preambles, check_of}
use Rattle.line.specs.Pieces.{Piece, noise, short_run, frame, bad_check, enough, Bytes}
use Rattle.line.proofs.Bytes.{bytes_left, bytes_right, one_more}
use Rattle.line.proofs.Scan.{
  Phase,
  addressing,
  commanding,
  counting,
  loading as loadingPhase,
  checking,
  Scan,
  hunt,
  pre,
  within,
  wire,
  closed,
  scan_within,
  scan_enter,
  scan,
  told,
  Fine,
}
use Rattle.line.proofs.Exists.{fine_scan}
use Rattle.line.specs.machine.Room.{data_room}
use Rattle.line.specs.machine.Frames.{padded, heard_of}
use Rattle.line.specs.machine.Feed.{fresh}
use Rattle.line.specs.machine.Demand.{hears, Call, feeds, resets, heard_along}
use Rattle.octets.specs.Source.{stops}
use Rattle.line.specs.machine.Source.{SourceState, preamble, address, command, byte_count, loading, checksum, SourceDecoder, Result, ok_none, err, SourceRun, comes_to, source_new, goto, begin, process_delimiter, source_feed, stopped, returned, before, next, traced, result_of, SmallCalls, first_run, later_runs, runs_of}
use Rattle.types.proofs.Addresses.{head_length_le, read_taken}
use Rattle.line.proofs.machine.Padded.{length-padded, padded-set}
use Rattle.line.proofs.machine.Image.{real, sums_behind, follows}
use Rattle.line.proofs.machine.SourceAddress.{address_whole_same}

-- the Rust's `addr_buf` is as long as a long address
abbrev source_room : ℕ
source_room = address_length true

-- the Rust's decoder where the scanner stands
abbrev in_frame : SourceState → Opening → List ℕ → ℕ → ℕ → List ℕ → SourceDecoder
in_frame s o hs c x ds = record {
  state = s;
  frame_type = Some o.frame_type;
  is_long = o.is_long;
  addr_buf = padded source_room hs;
  addr_len = head_length o;
  addr_idx = length hs;
  command_byte = c;
  sum = x;
  payload = ds;
}

abbrev source_at : Phase → SourceDecoder
source_at (addressing o hs) = in_frame (address (head_length o - length hs)) o hs 0 (check (delimiter o ∷ hs)) []
source_at (commanding o hs) = in_frame command o hs 0 (check (delimiter o ∷ hs)) []
source_at (counting o hs c) = in_frame byte_count o hs c (check (delimiter o ∷ (hs ++ (c ∷ [])))) []
source_at (loadingPhase o hs c e ds) = in_frame (loading (e - length ds)) o hs c (check (delimiter o ∷ (hs ++ (c ∷ e ∷ ds)))) ds
source_at (checking w) = in_frame checksum w.opening w.heading w.command (check_of w) w.payload

abbrev source_of : Scan → SourceDecoder
source_of hunt = source_new
source_of (pre n) = goto (preamble n) source_new
source_of (within n p) = source_at p

-- what the scanner gives at a byte, as the Rust gives it
abbrev source_image : Scan × Option Piece → SourceRun
source_image r = comes_to (source_of r.0) (result_of (heard_of (told r.1)))

source_address_lem : (n : ℕ) (o : Opening) (hs : List ℕ) (b : ℕ) → length hs < head_length o
    → source_feed (source_of (within n (addressing o hs))) b ≡ source_image (scan (within n (addressing o hs)) b)
unfolding source_feed scan scan_within
source_address_lem n o hs b z =
    one_more (λ (s : Scan). source_feed (source_of (within n (addressing o hs))) b ≡ source_image (s, None)) hs b (head_length o)
    (within n (commanding o (hs ++ (b ∷ [])))) (within n (addressing o (hs ++ (b ∷ [])))) z
    (λ full. rw (room, fits, le-leb (head_length o) (length hs + 1) (omega (arith, longer, full)), padded-set source_room hs b short, sums, longer))
    (λ more. rw (room, fits, lt-leb (head_length o) (length hs + 1) (omega (arith, longer, more)), le-leb (length hs + 1) (head_length o) (omega (arith, longer, more)), padded-set source_room hs b short, sums, longer))
  where
    longer : length (hs ++ (b ∷ [])) ≡ length hs + 1
    longer = length-append hs (b ∷ [])

    short : length hs < source_room
    short = omega (arith, z, head_length_le o)

    room : ltb (length hs) (length (padded source_room hs)) ≡ true
    room = lt-ltb (length hs) (length (padded source_room hs)) (omega (arith, short, length-padded source_room hs (omega (arith, short))))

    fits : ltb (length hs + 1) 256 ≡ true
    fits = lt-ltb (length hs + 1) 256 (omega (arith, short))

    sums : bit_xor (check (delimiter o ∷ hs)) b ≡ check (delimiter o ∷ (hs ++ (b ∷ [])))
    sums = sym (check-snoc 0 (delimiter o ∷ hs) b)

source_command : (n : ℕ) (o : Opening) (hs : List ℕ) (b : ℕ)
    → source_feed (source_of (within n (commanding o hs))) b ≡ source_image (scan (within n (commanding o hs)) b)
unfolding source_feed scan scan_within
source_command n o hs b = rw (sym (check-snoc 0 (delimiter o ∷ hs) b))

source_count : (n : ℕ) (o : Opening) (hs : List ℕ) (c b : ℕ)
    → source_feed (source_of (within n (counting o hs c))) b ≡ source_image (scan (within n (counting o hs c)) b)
unfolding source_feed scan scan_within
source_count n o hs c b = by (eqb 0 b) refl
  where
    sums : bit_xor (check (delimiter o ∷ (hs ++ (c ∷ [])))) b ≡ check (delimiter o ∷ (hs ++ (c ∷ b ∷ [])))
    sums = sums_behind (delimiter o) hs (c ∷ []) b

    by : (y : Bool) → eqb 0 b ≡ y
        → source_feed (source_of (within n (counting o hs c))) b ≡ source_image (cond y (within n (checking (wire o hs c []))) (within n (loadingPhase o hs c b [])), None)
    by true e = let z : b ≡ 0 = sym (eqb-true 0 b e) in rw (sums, z)
    by false e =
        let whole : b - 0 ≡ b = omega arith in
        rw (sums, ne_eqb b 0 (λ z. eqb-false 0 b e (sym z)), whole)

source_data : (n : ℕ) (o : Opening) (hs : List ℕ) (c m : ℕ) (ds : List ℕ) (b : ℕ) → length ds < m → m < 256
    → source_feed (source_of (within n (loadingPhase o hs c m ds))) b ≡ source_image (scan (within n (loadingPhase o hs c m ds)) b)
unfolding source_feed scan scan_within
source_data n o hs c m ds b z small =
    one_more (λ (s : Scan). source_feed (source_of (within n (loadingPhase o hs c m ds))) b ≡ source_image (s, None)) ds b m
    (within n (checking (wire o hs c (ds ++ (b ∷ []))))) (within n (loadingPhase o hs c m (ds ++ (b ∷ [])))) z
    (λ full. rw (some_left, room, sums, eq-eqb (m - length ds - 1) 0 (omega (arith, longer, full)), full))
    (λ short. rw (some_left, room, sums, ne_eqb (m - length ds - 1) 0 (omega (arith, longer, short)), left))
  where
    longer : length (ds ++ (b ∷ [])) ≡ length ds + 1
    longer = length-append ds (b ∷ [])

    room : ltb (length ds) 256 ≡ true
    room = lt-ltb (length ds) 256 (omega arith)

    some_left : leb 1 (m - length ds) ≡ true
    some_left = le-leb 1 (m - length ds) (omega arith)

    sums : bit_xor (check (delimiter o ∷ (hs ++ (c ∷ m ∷ ds)))) b ≡ check (delimiter o ∷ (hs ++ (c ∷ m ∷ (ds ++ (b ∷ [])))))
    sums = sums_behind (delimiter o) hs (c ∷ m ∷ ds) b

    left : m - length ds - 1 ≡ m - length (ds ++ (b ∷ []))
    left = omega (arith, longer)

source_check : (n : ℕ) (w : Wire) (b : ℕ) → Fits w → Bytes w.heading → source_feed (source_of (within n (checking w))) b ≡ source_image (hunt, Some (closed n w b))
unfolding source_feed
source_check n w b f k = by (eqb b (check_of w)) refl
  where
    by : (y : Bool) → eqb b (check_of w) ≡ y → source_feed (source_of (within n (checking w))) b ≡ source_image (hunt, Some (cond y (frame n w) (bad_check n w b)))
    by true e =
        let o = w.opening in
        let short : head_length o ≤ source_room = head_length_le o in
        let padding : length (padded source_room w.heading) ≡ source_room = length-padded source_room w.heading (omega (arith, short, f.heading_fits)) in
        let part : take (head_length o) (padded source_room w.heading) ≡ w.heading = take_at w.heading (replicate (source_room - length w.heading) 0) (head_length o) f.heading_fits in
        let loaded : take (length w.payload) (padded data_room w.payload) ≡ w.payload = take_at w.payload (replicate (data_room - length w.payload) 0) (length w.payload) refl in
        rw (e, le-leb (head_length o) (length (padded source_room w.heading)) (omega (arith, short, padding)), part, address_whole_same w.heading o.is_long (omega (arith, f.heading_fits)) k, loaded, sym (read_taken o.is_long w.heading))
    by false e = rw e

-- the Rust tries the six delimiters one after the other
abbrev source_delimited : SourceDecoder → ℕ → Option Opening → SourceRun
source_delimited d b (Some o) = begin o.frame_type o.is_long b d
source_delimited d b None = comes_to source_new (err (InvalidDelimiter b))

module _ (d : SourceDecoder) (b : ℕ) where
  tries : (o : Opening) (rest : Option Opening) (otherwise : SourceRun) → source_delimited d b rest ≡ otherwise
      → source_delimited d b (cond (eqb b (delimiter o)) (Some o) rest) ≡ cond (eqb b (delimiter o)) (source_delimited d b (Some o)) otherwise
  tries o rest otherwise e =
      elim (eqb b (delimiter o)) as (λ y. source_delimited d b (cond y (Some o) rest) ≡ cond y (source_delimited d b (Some o)) otherwise) [ true ↦ refl | false ↦ e ]

  delimiter_same : source_delimited d b (delimiter_of b) ≡ process_delimiter d b
  delimiter_same =
      ap (source_delimited d b) (sym (six_delimiters b))
      ∙ tries (opening Request false) _ _ (tries (opening Request true) _ _ (tries (opening Response false) _ _ (tries (opening Response true) _ _ (tries (opening Burst false) _ _ (tries (opening Burst true) _ _ refl)))))

-- the Rust's own numbers for the bytes of an address
lengths_same : (long : Bool) → cond long 5 1 ≡ address_length long
lengths_same false = refl
lengths_same true = refl

source_delimiter : (n b : ℕ) (d : Option Opening) → Right b d → source_delimited source_new b d ≡ source_image (scan_enter n b d)
source_delimiter n b (Some o) e =
    let whole : head_length o - 0 ≡ head_length o = omega arith in
    rw (lengths_same o.is_long, check_first (delimiter o) [], sym e, whole)
source_delimiter n b None e = refl

source_other : (n b : ℕ) → eqb b 0xFF ≡ false → source_feed (source_of (pre n)) b ≡ source_image (scan (pre n) b)
unfolding source_feed scan
source_other n b e = rw e (by (leb enough n))
  where
    by : (y : Bool) → cond y (process_delimiter source_new b) (comes_to source_new ok_none) ≡ source_image (cond y (scan_enter n b (delimiter_of b)) (hunt, Some (short_run n b)))
    by true = sym (delimiter_same source_new b) ∙ source_delimiter n b (delimiter_of b) (delimiter_right b)
    by false = refl

-- up to the 255th, the Rust counts an FF; at the next it stops
source_count_on : (n b : ℕ) → eqb b 0xFF ≡ true → n < 255 → source_feed (source_of (pre n)) b ≡ source_image (scan (pre n) b)
unfolding source_feed scan
source_count_on n b e h = rw (e, lt-ltb (n + 1) 256 (omega arith), add-one)

source_count_out : (n b : ℕ) → eqb b 0xFF ≡ true → 255 ≤ n → source_feed (source_of (pre n)) b ≡ stops
unfolding source_feed
source_count_out n b e h = rw (e, le-ltb (n + 1) 256 (omega arith))

source_hunt : (b : ℕ) → source_feed source_new b ≡ source_image (scan hunt b)
unfolding source_feed scan
source_hunt b = elim (eqb b 0xFF) as (λ y. cond y (comes_to (goto (preamble 1) source_new) ok_none) (comes_to source_new ok_none) ≡ source_image (cond y (pre 1, None) (hunt, Some (noise b)))) [ true ↦ refl | false ↦ refl ]

-- at every byte outside a preamble the Rust comes to what the scanner gives
source_within : (n : ℕ) (p : Phase) (b : ℕ) → Fine (within n p) → source_feed (source_of (within n p)) b ≡ source_image (scan (within n p) b)
unfolding scan scan_within
source_within n (addressing o hs) b f = source_address_lem n o hs b f.1
source_within n (commanding o hs) b f = source_command n o hs b
source_within n (counting o hs c) b f = source_count n o hs c b
source_within n (loadingPhase o hs c m ds) b f = source_data n o hs c m ds b f.1.1 (bytes_right hs (c ∷ m ∷ ds) f.2.1).1.0
source_within n (checking w) b f = source_check n w b f.1 (bytes_left w.heading (w.command ∷ length w.payload ∷ w.payload) f.2.1)

-- the preamble bytes of the piece that the scanner is in
abbrev pub preamble_of : Scan → ℕ
preamble_of hunt = 0
preamble_of (pre n) = n
preamble_of (within n p) = n

-- behind a preamble its number stays, until the piece ends
abbrev pub Stays : ℕ → Scan × Option Piece → Type 0
Stays n (hunt, None) = ⊥
Stays n (pre m, None) = ⊥
Stays n (within m p, None) = m ≡ n
Stays n (s, Some p) = s ≡ hunt

pub stays_within : (n : ℕ) (p : Phase) (b : ℕ) → Stays n (scan_within n p b)
unfolding scan_within
stays_within n (addressing o hs) b =
    elim (eqb (length (hs ++ (b ∷ []))) (head_length o)) as (λ y. Stays n (cond y (within n (commanding o (hs ++ (b ∷ [])))) (within n (addressing o (hs ++ (b ∷ [])))), None)) [ true ↦ refl | false ↦ refl ]
stays_within n (commanding o hs) b = refl
stays_within n (counting o hs c) b = elim (eqb 0 b) as (λ y. Stays n (cond y (within n (checking (wire o hs c []))) (within n (loadingPhase o hs c b [])), None)) [ true ↦ refl | false ↦ refl ]
stays_within n (loadingPhase o hs c m ds) b =
    elim (eqb (length (ds ++ (b ∷ []))) m) as (λ y. Stays n (cond y (within n (checking (wire o hs c (ds ++ (b ∷ []))))) (within n (loadingPhase o hs c m (ds ++ (b ∷ [])))), None)) [ true ↦ refl | false ↦ refl ]
stays_within n (checking w) b = refl

pub stays_behind : (n b : ℕ) → eqb b 0xFF ≡ false → Stays n (scan (pre n) b)
unfolding scan
stays_behind n b e = rw e (by (leb enough n) (delimiter_of b))
  where
    by : (y : Bool) (d : Option Opening) → Stays n (cond y (scan_enter n b d) (hunt, Some (short_run n b)))
    by true (Some o) = refl
    by true None = refl
    by false d = refl

no_more : (n : ℕ) (r : Scan × Option Piece) → Stays n r → preamble_of r.0 ≤ n
no_more n (hunt, None) k = absurd k
no_more n (pre m, None) k = absurd k
no_more n (within m p, None) k = omega arith
no_more n (s, Some p) k = rw k (omega arith)

-- below 256 the Rust comes to what the scanner gives
source_goes : (s : Scan) (b : ℕ) → Fine s → preamble_of (scan s b).0 < 256 → source_feed (source_of s) b ≡ source_image (scan s b)
unfolding scan
source_goes hunt b f h = source_hunt b
source_goes (pre n) b f h = by (eqb b 0xFF) refl
  where
    counted : eqb b 0xFF ≡ true → suc n < 256
    counted e = rw e at h

    by : (y : Bool) → eqb b 0xFF ≡ y → source_feed (source_of (pre n)) b ≡ source_image (scan (pre n) b)
    by true e = source_count_on n b e (omega (arith, counted e))
    by false e = source_other n b e
source_goes (within n p) b f h = source_within n p b f

-- one more than 255 preamble bytes there are only behind 255 of them, at an FF
pub crosses : (s : Scan) (b : ℕ) → preamble_of s < 256 → 256 ≤ preamble_of (scan s b).0 → (s ≡ pre 255) × (eqb b 0xFF ≡ true)
unfolding scan
crosses hunt b h k = absurd (few (eqb b 0xFF) k)
  where
    few : (y : Bool) → 256 ≤ preamble_of (cond {A = Scan × Option Piece} y (pre 1, None) (hunt, Some (noise b))).0 → ⊥
    few true j = omega arith
    few false j = omega arith
crosses (pre n) b h k = by (eqb b 0xFF) refl
  where
    by : (y : Bool) → eqb b 0xFF ≡ y → (pre n ≡ pre 255) × (eqb b 0xFF ≡ true)
    by true e = let over : 256 ≤ suc n = rw e at k in (ap pre (omega arith), e)
    by false e = absurd (omega (arith, h, k, no_more n (scan (pre n) b) (stays_behind n b e)))
crosses (within n p) b h k = absurd (omega (arith, h, k, no_more n (scan_within n p b) (stays_within n p b)))

source_halts : (s : Scan) (b : ℕ) → preamble_of s < 256 → 256 ≤ preamble_of (scan s b).0 → source_feed (source_of s) b ≡ stops
source_halts s b h k = let at = crosses s b h k in rw at.0 (source_count_out 255 b at.1 (omega arith))

-- whether the scanner comes to 256 preamble bytes along a run, or along one of several
abbrev pub crossing : Scan → List ℕ → Bool
crossing s [] = false
crossing s (b ∷ bs) = leb 256 (preamble_of (scan s b).0) || crossing (scan s b).0 bs

abbrev pub some_crossing : List (List ℕ) → Bool
some_crossing [] = false
some_crossing (run ∷ runs) = crossing hunt run || some_crossing runs

-- what ours is heard to answer at one byte more
heard_more : (s : Scan) (b : ℕ) (cs : List Call) → Fine s → b < 256 → map result_of (heard_along hears fresh (real s) (feeds b ∷ cs)) ≡ result_of (heard_of (told (scan s b).1)) ∷ map result_of (heard_along hears fresh (real (scan s b).0) cs)
heard_more s b cs f k = rw (follows s b f k)

trace_along : (s : Scan) (cs : List Call) → Fine s → preamble_of s < 256 → SmallCalls cs
    → traced (source_of s) cs ≡ cond (crossing s (first_run cs) || some_crossing (later_runs cs)) stopped (returned (map result_of (heard_along hears fresh (real s) cs)))
trace_along s [] f h k = refl
trace_along s (resets ∷ cs) f h k = trace_along hunt cs tt (omega arith) k
trace_along s (feeds b ∷ cs) f h k = by (leb 256 (preamble_of (scan s b).0)) refl (λ below. trace_along (scan s b).0 cs (fine_scan s b f k.0) below k.1)
  where
    s' : Scan
    s' = (scan s b).0

    x : Result
    x = result_of (heard_of (told (scan s b).1))

    later : Bool
    later = crossing s' (first_run cs) || some_crossing (later_runs cs)

    one_before : (o : Bool) (rs : List Result) → before x (cond o stopped (returned rs)) ≡ cond o stopped (returned (x ∷ rs))
    one_before true rs = refl
    one_before false rs = refl

    by : (y : Bool) → leb 256 (preamble_of s') ≡ y → (preamble_of s' < 256 → traced (source_of s') cs ≡ cond later stopped (returned (map result_of (heard_along hears fresh (real s') cs))))
        → traced (source_of s) (feeds b ∷ cs) ≡ cond ((y || crossing s' (first_run cs)) || some_crossing (later_runs cs)) stopped (returned (map result_of (heard_along hears fresh (real s) (feeds b ∷ cs))))
    by true e ih = ap (λ (q : SourceRun). next q (λ d. traced d cs)) (source_halts s b h (leb-true 256 (preamble_of s') e))
    by false e ih =
        let below : preamble_of s' < 256 = leb-false 256 (preamble_of s') e in
        ap (λ (q : SourceRun). next q (λ d. traced d cs)) (source_goes s b f below)
        ∙ ap (before x) (ih below)
        ∙ one_before later (map result_of (heard_along hears fresh (real s') cs))
        ∙ ap (λ (rs : List Result). cond later stopped (returned rs)) (sym (heard_more s b cs f k.0))

-- the Rust stops where the scanner comes to 256, and nowhere else
pub source_along : (calls : List Call) → SmallCalls calls → traced source_new calls ≡ cond (some_crossing (runs_of calls)) stopped (returned (map result_of (heard_along hears fresh fresh calls)))
source_along calls k = trace_along hunt calls tt (omega arith) k

pub source_same : (calls : List Call) → SmallCalls calls → (rs : List Result) → traced source_new calls ≡ returned rs → map result_of (heard_along hears fresh fresh calls) ≡ rs
source_same calls k rs e = by (some_crossing (runs_of calls)) (sym (source_along calls k) ∙ e)
  where
    by : (o : Bool) → cond o stopped (returned (map result_of (heard_along hears fresh fresh calls))) ≡ returned rs → map result_of (heard_along hears fresh fresh calls) ≡ rs
    by true z = cc
    by false z = cc

-- the Rust takes 255 FF and stops at the next
pub source_takes_255 : traced source_new (map feeds (preambles 255)) ≡ returned (replicate 255 ok_none)
unfolding source_feed
source_takes_255 = refl

pub source_stops_256 : traced source_new (map feeds (preambles 256)) ≡ stopped
unfolding source_feed
source_stops_256 = refl
