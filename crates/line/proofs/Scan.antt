-- A machine that only the proofs know. It counts preamble bytes without end, keeps every byte of the piece it is in, and gives the piece
-- itself at its last byte. So that a run has one cut is that a function has one value; and a decoder meets the demand if it follows this
-- machine byte by byte (Follows.antt).
use Prim.Native.Nat.{ℕ, suc, ◌≤◌, ◌<◌}
use mathlib.Core.Path.{◌≡◌}
use mathlib.Core.Bool.{cond}
use mathlib.Core.List.{List, [], ◌∷◌, ◌++◌}
use lib.ListN.{length}
use lib.Dec.{eqb, leb}
use Rattle.types.specs.declared.delimiter.Opening.{Opening}
use Rattle.std.specs.Prelude.{Option, Some, None}
use Rattle.types.specs.Delimiter.{delimiter, delimiter_of}
use Rattle.types.specs.Address.{head_length}
use Rattle.line.specs.Layout.{Wire, Fits, preambles, body, check_of}
use Rattle.line.specs.Pieces.{Piece, noise, short_run, bad_delimiter, frame, bad_check, enough, Bytes}
use Rattle.line.specs.Events.{Event, silence, verdict}

-- inside a frame: what the delimiter said, and what was read behind it
pub data Phase : Type 0 where
  addressing : Opening → List ℕ → Phase
  commanding : Opening → List ℕ → Phase
  counting : Opening → List ℕ → ℕ → Phase
  loading : Opening → List ℕ → ℕ → ℕ → List ℕ → Phase
  checking : Wire → Phase

pub data Scan : Type 0 where
  hunt : Scan
  pre : ℕ → Scan
  within : ℕ → Phase → Scan

-- at its check byte a frame is over
abbrev pub closed : ℕ → Wire → ℕ → Piece
closed n w b = cond (eqb b (check_of w)) (frame n w) (bad_check n w b)

abbrev pub wire : Opening → List ℕ → ℕ → List ℕ → Wire
wire o hs c ds = record { opening = o; heading = hs; command = c; payload = ds }

abbrev pub scan_address : ℕ → Opening → List ℕ → Scan
scan_address n o hs = cond (eqb (length hs) (head_length o)) (within n (commanding o hs)) (within n (addressing o hs))

abbrev pub scan_data : ℕ → Opening → List ℕ → ℕ → ℕ → List ℕ → Scan
scan_data n o hs c e ds = cond (eqb (length ds) e) (within n (checking (wire o hs c ds))) (within n (loading o hs c e ds))

unfoldable pub scan_within : ℕ → Phase → ℕ → Scan × Option Piece
scan_within n (addressing o hs) b = (scan_address n o (hs ++ (b ∷ [])), None)
scan_within n (commanding o hs) b = (within n (counting o hs b), None)
scan_within n (counting o hs c) b = (scan_data n o hs c b [], None)
scan_within n (loading o hs c e ds) b = (scan_data n o hs c e (ds ++ (b ∷ [])), None)
scan_within n (checking w) b = (hunt, Some (closed n w b))

abbrev pub scan_enter : ℕ → ℕ → Option Opening → Scan × Option Piece
scan_enter n b (Some o) = (within n (addressing o []), None)
scan_enter n b None = (hunt, Some (bad_delimiter n b))

unfoldable pub scan : Scan → ℕ → Scan × Option Piece
scan hunt b = cond (eqb b 0xFF) (pre 1, None) (hunt, Some (noise b))
scan (pre n) b = cond (eqb b 0xFF) (pre (suc n), None) (cond (leb enough n) (scan_enter n b (delimiter_of b)) (hunt, Some (short_run n b)))
scan (within n p) b = scan_within n p b

-- what is told where a piece ends, and where none does
abbrev pub told : Option Piece → Event
told None = silence
told (Some p) = verdict p

-- the bytes of the piece so far: from the delimiter on, and with the preamble
abbrev pub opened : Phase → List ℕ
opened (addressing o hs) = delimiter o ∷ hs
opened (commanding o hs) = delimiter o ∷ hs
opened (counting o hs c) = delimiter o ∷ (hs ++ (c ∷ []))
opened (loading o hs c e ds) = delimiter o ∷ (hs ++ (c ∷ e ∷ ds))
opened (checking w) = body w

abbrev pub held : Scan → List ℕ
held hunt = []
held (pre n) = preambles n
held (within n p) = preambles n ++ opened p

-- what holds of the states that a run of bytes leads to
abbrev pub Sized : Phase → Type 0
Sized (addressing o hs) = length hs < head_length o
Sized (commanding o hs) = length hs ≡ head_length o
Sized (counting o hs c) = length hs ≡ head_length o
Sized (loading o hs c e ds) = (length hs ≡ head_length o) × (length ds < e)
Sized (checking w) = Fits w

abbrev pub Fine : Scan → Type 0
Fine hunt = Unit {0}
Fine (pre n) = 1 ≤ n
Fine (within n p) = (enough ≤ n) × Sized p × Bytes (opened p)
