-- The decoder follows the scanner of the crate line: a scanner's state has a decoder as its image, that decoder passes the test of
-- reachability, and a byte fed to it gives the image of what the byte gives the scanner.
use Prim.Native.Nat.{ℕ, suc, ◌+◌, ◌-◌, ◌≤◌, ◌<◌, min}
use native.Mathlib.Omega.{arith}
use mathlib.Core.Path.{◌≡◌, refl, sym, ap, ◌∙◌}
use mathlib.Core.Bool.{Bool, true, false, cond, ◌&&◌}
use mathlib.Core.List.{List, [], ◌∷◌, ◌++◌, append_assoc}
use lib.Bits.{bit_xor, xor_zero_r}
use lib.Dec.{eqb, ltb, leb}
use lib.ListN.{length, set, take, drop, replicate, length-append}
use lib.Seq.{set-append_left, take_at, drop_at}
use borrow.Author.Tests.{eqb-true, eqb-false, eq-eqb, ne_eqb, ltb-true, ltb-false, lt-ltb, le-ltb, leb-true, leb-false, le-leb}
use Rattle.octets.specs.Check.{check, check_from}
use Rattle.octets.proofs.Check.{check_first, check-append, check-snoc, check_zeros}
use Rattle.types.specs.declared.delimiter.Opening.{Opening}
use Rattle.std.specs.Prelude.{Option, Some, None}
use Rattle.types.specs.Delimiter.{delimiter, delimiter_of}
use Rattle.types.specs.Address.{head_length, head_room}
use Rattle.types.proofs.Delimiters.{Right, delimiter_right}
use Rattle.types.proofs.Addresses.{head_length_le}
use Rattle.line.specs.Layout.{Wire, Fits, check_of}
use Rattle.line.specs.Pieces.{Bytes, Piece, noise, short_run, frame, bad_check, enough}
use Rattle.line.specs.Events.{Event, silence}
use Rattle.line.proofs.Bytes.{bytes_right, one_more}
use Rattle.line.proofs.Scan.{
  Phase,
  addressing,
  commanding,
  counting,
  loading,
  checking,
  Scan,
  hunt,
  pre,
  within,
  wire,
  closed,
  scan_within,
  scan_enter,
  scan,
  told,
  opened,
  Sized,
  Fine,
}
use Rattle.line.specs.machine.Room.{data_room, decoder_room}
use Rattle.line.specs.machine.Frames.{padded, wire_at}
use Rattle.line.specs.machine.Step.{head_of, delimited, preamble_cap}
use Rattle.line.specs.machine.Reachable.{counts_possible, no_claim, claim, claim_of, is_clear, is_right, reachable_at}
use Rattle.line.specs.machine.Feed.{Held, holding, blank, fresh, reachable, settled, stepped, feeding}
use Rattle.line.specs.declared.state.Head.{Head}
use Rattle.line.specs.declared.state.State.{State}
use Rattle.line.specs.declared.state.State.TheVariants.{
  Hunting,
  Preamble,
  Address,
  Command,
  ByteCount,
  Data,
  Checksum,
}
use Rattle.line.specs.declared.claim.Claim.{Claim}
use Rattle.line.proofs.machine.Padded.{length-padded, padded_clear, padded-set, set_behind}

-- the bytes before the command and those of the data, each filled up with zeros
abbrev pub array : List ℕ → List ℕ → List ℕ
array hs ds = padded head_room hs ++ padded data_room ds

-- the running check is that of everything from the delimiter on
abbrev pub head_at : Opening → Phase → Head
head_at o p = head_of o (check (opened p))

abbrev pub state_of : Phase → State
state_of (addressing o hs) = Address (head_at o (addressing o hs)) (length hs)
state_of (commanding o hs) = Command (head_at o (commanding o hs))
state_of (counting o hs c) = ByteCount (head_at o (counting o hs c)) c
state_of (loading o hs c e ds) = Data (head_at o (loading o hs c e ds)) c e (length ds)
state_of (checking w) = Checksum (head_at w.opening (checking w)) w.command (length w.payload)

abbrev pub array_of : Phase → List ℕ
array_of (addressing o hs) = array hs []
array_of (commanding o hs) = array hs []
array_of (counting o hs c) = array hs []
array_of (loading o hs c e ds) = array hs ds
array_of (checking w) = array w.heading w.payload

abbrev pub real : Scan → Held
real hunt = fresh
real (pre n) = holding (Preamble (min n preamble_cap)) blank
real (within n p) = holding (state_of p) (array_of p)

-- what the scanner gives at a byte, as the decoder gives it
abbrev image : Scan × Option Piece → Held × Event
image r = (real r.0, told r.1)

pub blank_array : blank ≡ array [] []
unfolding blank
blank_array = refl

-- ---- the image of a fine state passes the test

module _ (hs ds : List ℕ) (short : length hs ≤ head_room) where
  take_array : take (length hs) (array hs ds) ≡ hs
  take_array = ap (take (length hs)) (append_assoc hs (replicate (head_room - length hs) 0) (padded data_room ds)) ∙ take_at hs (replicate (head_room - length hs) 0 ++ padded data_room ds) (length hs) refl

  front_array : take head_room (array hs ds) ≡ padded head_room hs
  front_array = take_at (padded head_room hs) (padded data_room ds) head_room (length-padded head_room hs short)

  back_array : drop head_room (array hs ds) ≡ padded data_room ds
  back_array = drop_at (padded head_room hs) (padded data_room ds) head_room (length-padded head_room hs short)

  take_back_array : take (length ds) (drop head_room (array hs ds)) ≡ ds
  take_back_array = ap (take (length ds)) back_array ∙ take_at ds (replicate (data_room - length ds) 0) (length ds) refl

  clear_array : (q : Claim) → q.address ≡ length hs → q.loaded ≡ length ds → is_clear q (array hs ds) ≡ true
  clear_array q a n = rw (a, n, front_array, back_array, padded_clear head_room hs, padded_clear data_room ds)

  right_array : (q : Claim) → q.address ≡ length hs → q.loaded ≡ length ds → q.check ≡ check_from q.start (hs ++ (q.command ∷ q.count ∷ ds)) → is_right q (array hs ds) ≡ true
  right_array q a n e = rw (a, n, take_array, take_back_array) (eq-eqb q.check _ e)

  pub whole_array : length ds ≤ data_room → length (array hs ds) ≡ decoder_room
  whole_array h = length-append (padded head_room hs) (padded data_room ds) ∙ omega (arith, length-padded head_room hs short, length-padded data_room ds h)

  passes_array : length ds ≤ data_room → (q : Claim) {p : Bool} → p ≡ true → q.address ≡ length hs → q.loaded ≡ length ds → q.check ≡ check_from q.start (hs ++ (q.command ∷ q.count ∷ ds))
      → eqb (length (array hs ds)) decoder_room && (p && (is_clear q (array hs ds) && is_right q (array hs ds))) ≡ true
  passes_array h q possible a n e = rw (eq-eqb (length (array hs ds)) decoder_room (whole_array h), possible, clear_array q a n, right_array q a n e)

-- what was not read is zero and adds nothing to a check
pub zeros_read : (x : ℕ) (hs : List ℕ) → check_from x hs ≡ check_from x (hs ++ (0 ∷ 0 ∷ []))
zeros_read x hs = sym (check-append x hs (0 ∷ 0 ∷ []) ∙ check_zeros (check_from x hs) 2)

pub zero_read : (x c : ℕ) (hs : List ℕ) → check_from x (hs ++ (c ∷ [])) ≡ check_from x (hs ++ (c ∷ 0 ∷ []))
zero_read x c hs = check-append x hs (c ∷ []) ∙ sym (check-append x hs (c ∷ 0 ∷ []) ∙ xor_zero_r (bit_xor (check_from x hs) c))

-- the count of the data is a byte
count_byte : (hs : List ℕ) (c e : ℕ) (ds : List ℕ) {d : ℕ} → Bytes (d ∷ (hs ++ (c ∷ e ∷ ds))) → e < 256
count_byte hs c e ds k = (bytes_right hs (c ∷ e ∷ ds) k.1).1.0

reachable_phase : (p : Phase) → Sized p → Bytes (opened p) → reachable_at (state_of p) (array_of p) ≡ true
unfolding reachable_at
reachable_phase (addressing o hs) z k =
    passes_array hs [] (omega (arith, head_length_le o)) (omega arith) (claim (head_at o (addressing o hs)) (length hs) 0 0 0)
    (lt-ltb (length hs) (head_length o) z) refl refl (check_first (delimiter o) hs ∙ zeros_read (delimiter o) hs)
reachable_phase (commanding o hs) z k =
    passes_array hs [] (omega (arith, z, head_length_le o)) (omega arith) (claim (head_at o (commanding o hs)) (head_length o) 0 0 0)
    refl (sym z) refl (check_first (delimiter o) hs ∙ zeros_read (delimiter o) hs)
reachable_phase (counting o hs c) z k =
    passes_array hs [] (omega (arith, z, head_length_le o)) (omega arith) (claim (head_at o (counting o hs c)) (head_length o) c 0 0)
    refl (sym z) refl (check_first (delimiter o) (hs ++ (c ∷ [])) ∙ zero_read (delimiter o) c hs)
reachable_phase (loading o hs c e ds) z k =
    passes_array hs ds (omega (arith, z.0, head_length_le o)) (omega (arith, z.1, count_byte hs c e ds k)) (claim (head_at o (loading o hs c e ds)) (head_length o) c e (length ds))
    (lt-ltb (length ds) e z.1) (sym z.0) refl (check_first (delimiter o) (hs ++ (c ∷ e ∷ ds)))
reachable_phase (checking w) z k =
    let n : ℕ = length w.payload in
    passes_array w.heading w.payload (omega (arith, z.heading_fits, head_length_le w.opening)) z.count_fits
    (claim (head_at w.opening (checking w)) (head_length w.opening) w.command n n)
    refl (sym z.heading_fits) refl (check_first (delimiter w.opening) (w.heading ++ (w.command ∷ n ∷ w.payload)))

reachable_blank : (s : State) → claim_of s ≡ no_claim → counts_possible s ≡ true → reachable_at s blank ≡ true
unfolding reachable_at
reachable_blank s e h = rw (e, blank_array) (passes_array [] [] (omega arith) (omega arith) no_claim h refl refl refl)

pub reachable_real : (s : Scan) → Fine s → reachable (real s) ≡ true
reachable_real hunt f = reachable_blank Hunting refl refl
reachable_real (pre n) f =
    let m : ℕ = min n preamble_cap in reachable_blank (Preamble m) refl (rw (lt-ltb 0 m (omega arith), le-leb m preamble_cap (omega arith)))
reachable_real (within n p) f = reachable_phase p f.1 f.2

-- ---- a byte into the image

module _ (o : Opening) (xs : List ℕ) (b : ℕ) where
  -- the check with one byte more
  mixed-snoc : head_of o (bit_xor (check xs) b) ≡ head_of o (check (xs ++ (b ∷ [])))
  mixed-snoc = ap (head_of o) (sym (check-snoc 0 xs b))

store_address : (hs : List ℕ) (b : ℕ) → length hs < head_room → set (array hs []) (length hs) b ≡ array (hs ++ (b ∷ [])) []
store_address hs b h =
    set-append_left (padded head_room hs) (padded data_room []) (length hs) b (omega (arith, length-padded head_room hs (omega arith)))
    ∙ ap (λ (xs : List ℕ). xs ++ padded data_room []) (padded-set head_room hs b h)

store_data : (hs ds : List ℕ) (b : ℕ) → length hs ≤ head_room → length ds < data_room → set (array hs ds) (head_room + length ds) b ≡ array hs (ds ++ (b ∷ []))
store_data hs ds b h k =
    set_behind (padded head_room hs) (padded data_room ds) head_room (length ds) b (length-padded head_room hs h) ∙ ap (λ (xs : List ℕ). padded head_room hs ++ xs) (padded-set data_room ds b k)

stepped_address : (n : ℕ) (o : Opening) (hs : List ℕ) (b : ℕ) → length hs < head_length o
    → stepped (real (within n (addressing o hs))) b ≡ (real (scan (within n (addressing o hs)) b).0, silence)
unfolding stepped scan scan_within
stepped_address n o hs b z =
    one_more (λ (s : Scan). stepped (real (within n (addressing o hs))) b ≡ (real s, silence)) hs b (head_length o)
    (within n (commanding o (hs ++ (b ∷ [])))) (within n (addressing o (hs ++ (b ∷ [])))) z
    (λ full. rw (le-ltb (length hs + 1) (head_length o) (omega (arith, longer, full)), stored, head))
    (λ short. rw (lt-ltb (length hs + 1) (head_length o) (omega (arith, longer, short)), stored, head, longer))
  where
    longer : length (hs ++ (b ∷ [])) ≡ length hs + 1
    longer = length-append hs (b ∷ [])

    stored : set (array hs []) (length hs) b ≡ array (hs ++ (b ∷ [])) []
    stored = store_address hs b (omega (arith, z, head_length_le o))

    head : head_of o (bit_xor (check (delimiter o ∷ hs)) b) ≡ head_of o (check (delimiter o ∷ (hs ++ (b ∷ []))))
    head = mixed-snoc o (delimiter o ∷ hs) b

stepped_command : (n : ℕ) (o : Opening) (hs : List ℕ) (b : ℕ) → stepped (real (within n (commanding o hs))) b ≡ (real (scan (within n (commanding o hs)) b).0, silence)
unfolding stepped scan scan_within
stepped_command n o hs b = rw (mixed-snoc o (delimiter o ∷ hs) b)

-- the check with one byte more behind the address
pub sums_behind : (d : ℕ) (hs xs : List ℕ) (b : ℕ) → bit_xor (check (d ∷ (hs ++ xs))) b ≡ check (d ∷ (hs ++ (xs ++ (b ∷ []))))
sums_behind d hs xs b = sym (check-snoc 0 (d ∷ (hs ++ xs)) b) ∙ ap (λ (ys : List ℕ). check (d ∷ ys)) (append_assoc hs xs (b ∷ []))

behind : (o : Opening) (hs xs : List ℕ) (b : ℕ)
    → head_of o (bit_xor (check (delimiter o ∷ (hs ++ xs))) b) ≡ head_of o (check (delimiter o ∷ (hs ++ (xs ++ (b ∷ [])))))
behind o hs xs b = ap (head_of o) (sums_behind (delimiter o) hs xs b)

stepped_count : (n : ℕ) (o : Opening) (hs : List ℕ) (c b : ℕ) → stepped (real (within n (counting o hs c))) b ≡ (real (scan (within n (counting o hs c)) b).0, silence)
unfolding stepped scan scan_within
stepped_count n o hs c b = by (eqb 0 b) refl
  where
    head : head_of o (bit_xor (check (delimiter o ∷ (hs ++ (c ∷ [])))) b) ≡ head_of o (check (delimiter o ∷ (hs ++ (c ∷ b ∷ []))))
    head = behind o hs (c ∷ []) b

    by : (y : Bool) → eqb 0 b ≡ y → stepped (real (within n (counting o hs c))) b ≡ (real (cond y (within n (checking (wire o hs c []))) (within n (loading o hs c b []))), silence)
    by true e =
        let z : b ≡ 0 = sym (eqb-true 0 b e) in
        rw (head, z)
    by false e = rw (head, ne_eqb b 0 (λ z. eqb-false 0 b e (sym z)))

stepped_data : (n : ℕ) (o : Opening) (hs : List ℕ) (c m : ℕ) (ds : List ℕ) (b : ℕ) → length hs ≡ head_length o → length ds < m → m < 256
    → stepped (real (within n (loading o hs c m ds))) b ≡ (real (scan (within n (loading o hs c m ds)) b).0, silence)
unfolding stepped scan scan_within
stepped_data n o hs c m ds b a z small =
    one_more (λ (s : Scan). stepped (real (within n (loading o hs c m ds))) b ≡ (real s, silence)) ds b m
    (within n (checking (wire o hs c (ds ++ (b ∷ []))))) (within n (loading o hs c m (ds ++ (b ∷ [])))) z
    (λ full. rw (le-ltb (length ds + 1) m (omega (arith, longer, full)), stored)
    (ap (λ (h : Head). (holding (Checksum h c m) (array hs (ds ++ (b ∷ []))), silence)) head
    ∙ ap (λ (k : ℕ). (holding (Checksum (head_of o (check (delimiter o ∷ (hs ++ (c ∷ k ∷ (ds ++ (b ∷ []))))))) c k) (array hs (ds ++ (b ∷ []))), silence)) (sym full)))
    (λ short. rw (lt-ltb (length ds + 1) m (omega (arith, longer, short)), stored, head, longer))
  where
    longer : length (ds ++ (b ∷ [])) ≡ length ds + 1
    longer = length-append ds (b ∷ [])

    stored : set (array hs ds) (head_room + length ds) b ≡ array hs (ds ++ (b ∷ []))
    stored = store_data hs ds b (omega (arith, a, head_length_le o)) (omega arith)

    head : head_of o (bit_xor (check (delimiter o ∷ (hs ++ (c ∷ m ∷ ds)))) b) ≡ head_of o (check (delimiter o ∷ (hs ++ (c ∷ m ∷ (ds ++ (b ∷ []))))))
    head = behind o hs (c ∷ m ∷ ds) b

-- at its check byte the arrays hold the frame
wire_back : (w : Wire) → Fits w → wire_at (head_at w.opening (checking w)) w.command (length w.payload) (array w.heading w.payload) ≡ w
wire_back w f =
    let short : length w.heading ≤ head_room = omega (arith, f.heading_fits, head_length_le w.opening) in
    rw (sym f.heading_fits, take_array w.heading w.payload short, take_back_array w.heading w.payload short)

stepped_check : (n : ℕ) (w : Wire) (b : ℕ) → Fits w → stepped (real (within n (checking w))) b ≡ (fresh, told (Some (closed n w b)))
unfolding stepped
stepped_check n w b f = by (eqb b (check_of w)) refl
  where
    by : (y : Bool) → eqb b (check_of w) ≡ y → stepped (real (within n (checking w))) b ≡ (fresh, told (Some (cond y (frame n w) (bad_check n w b))))
    by true e = rw (e, wire_back w f)
    by false e = rw e

stepped_delimiter : (n b : ℕ) (d : Option Opening) → Right b d → settled (delimited b d) blank ≡ image (scan_enter n b d)
stepped_delimiter n b (Some o) e = rw (blank_array, check_first (delimiter o) [], sym e)
stepped_delimiter n b None e = refl

stepped_preamble : (n b : ℕ) → stepped (real (pre n)) b ≡ image (scan (pre n) b)
unfolding stepped scan
stepped_preamble n b = by (eqb b 0xFF) refl
  where
    -- the count that the byte leaves is held to the scanner's, whichever it is
    saturates : (y : Bool) → ltb (min n preamble_cap) preamble_cap ≡ y → eqb b 0xFF ≡ true → stepped (real (pre n)) b ≡ image (pre (suc n), None)
    saturates true e more = rw (more, e) (ap (λ (k : ℕ). (holding (Preamble k) blank, silence)) (omega (arith, ltb-true (min n preamble_cap) preamble_cap e)))
    saturates false e more = rw (more, e) (ap (λ (k : ℕ). (holding (Preamble k) blank, silence)) (omega (arith, ltb-false (min n preamble_cap) preamble_cap e)))

    by' : (y : Bool) → leb enough n ≡ y → eqb b 0xFF ≡ false
        → stepped (real (pre n)) b ≡ image (cond y (scan_enter n b (delimiter_of b)) (hunt, Some (short_run n b)))
    by' true e other = rw (other, le-ltb (min n preamble_cap) enough (omega (arith, leb-true enough n e))) (stepped_delimiter n b (delimiter_of b) (delimiter_right b))
    by' false e other = rw (other, lt-ltb (min n preamble_cap) enough (omega (arith, leb-false enough n e)))

    by : (y : Bool) → eqb b 0xFF ≡ y
        → stepped (real (pre n)) b ≡ image (cond y (pre (suc n), None) (cond (leb enough n) (scan_enter n b (delimiter_of b)) (hunt, Some (short_run n b))))
    by true e = saturates (ltb (min n preamble_cap) preamble_cap) refl e
    by false e = by' (leb enough n) refl e

stepped_hunt : (b : ℕ) → stepped fresh b ≡ image (scan hunt b)
unfolding stepped scan
stepped_hunt b = by (eqb b 0xFF) refl
  where
    by : (y : Bool) → eqb b 0xFF ≡ y → stepped fresh b ≡ image (cond y (pre 1, None) (hunt, Some (noise b)))
    by true e = rw e
    by false e = rw e

-- the inner step, which asks for no test, follows the scanner
pub stepped_real : (s : Scan) (b : ℕ) → Fine s → stepped (real s) b ≡ (real (scan s b).0, told (scan s b).1)
unfolding scan scan_within
stepped_real hunt b f = stepped_hunt b
stepped_real (pre n) b f = stepped_preamble n b
stepped_real (within n (addressing o hs)) b f = stepped_address n o hs b f.1
stepped_real (within n (commanding o hs)) b f = stepped_command n o hs b
stepped_real (within n (counting o hs c)) b f = stepped_count n o hs c b
stepped_real (within n (loading o hs c m ds)) b f = stepped_data n o hs c m ds b f.1.0 f.1.1 (count_byte hs c m ds f.2)
stepped_real (within n (checking w)) b f = stepped_check n w b f.1

pub follows : (s : Scan) (b : ℕ) → Fine s → b < 256 → feeding (real s) b ≡ (real (scan s b).0, told (scan s b).1)
unfolding feeding
follows s b f h = rw (reachable_real s f) (stepped_real s b f)
