-- Document 01, 'Commands': the payload of a response or burst frame.
use Rattle.std.specs.Prelude.{ℕ, Bool, true, false, cond, not, List, [], ◌∷◌, length, get_or, take, drop, eqb, ltb, Result, Ok, Err}
use Rattle.std.specs.Borrow.{Bor}
use Rattle.refusal.specs.declared.Refusal.{Refusal}
use Rattle.refusal.specs.Table.{number_of, values_of}
use Rattle.octets.specs.Part.{Part, part_of, from, empty_at}
use Rattle.octets.specs.Bit.{bit}
use Rattle.types.specs.declared.delimiter.FrameType.{FrameType}
use Rattle.types.specs.declared.delimiter.FrameType.TheVariants.{Request, Response, Burst}
use Rattle.line.specs.declared.frame.Frame.{Frame}

-- what is made of a frame's data: they carry a payload, or a refusal's number and values
pub data Judgement : Type 0 where
  carries : Judgement
  withheld : ℕ → List ℕ → Judgement

abbrev pub judgement_of : Result (Unit {0}) Refusal → Judgement
judgement_of (Ok _) = carries
judgement_of (Err r) = withheld (number_of r) (values_of r)

-- of a frame that a device sends: 3 without both status bytes, 9 if the first has bit 7 set, 10 if it is not 0 otherwise
abbrev pub judged : List ℕ → Judgement
judged ds =
    let first = get_or ds 0 0 in
    cond (ltb (length ds) 2) (withheld 3 [])
    (cond (bit 7 first) (withheld 9 (first ∷ []))
    (cond (not (eqb first 0)) (withheld 10 (first ∷ []))
    carries))

-- 6 comes first, for a request whatever its data; a burst frame is treated as a response
unfoldable pub payload_judgement : FrameType → List ℕ → Judgement
payload_judgement Request ds = withheld 6 []
payload_judgement Response ds = judged ds
payload_judgement Burst ds = judged ds

-- whether the caller gets the payload: the one place that says so
abbrev pub handed_back : Judgement → Bool
handed_back carries = true
handed_back (withheld number values) = false

-- what is left behind the two status bytes, or nothing, at the start
unfoldable pub payload_part : FrameType → Part → Part
payload_part t p = cond (handed_back (payload_judgement t p.bytes)) (from 2 p) (empty_at p)

-- what is handed back of a frame's data: a part of them, or a refusal's number and values
pub data Portion : Type 0 where
  handed : Part → Portion
  kept : ℕ → List ℕ → Portion

abbrev pub portion_of : Result (Bor (List ℕ)) Refusal → Portion
portion_of (Ok p) = handed (part_of p)
portion_of (Err r) = kept (number_of r) (values_of r)

-- what is carried stands behind the status bytes, and a refusal is passed on as it is
abbrev pub portion : Judgement → Part → Portion
portion carries p = handed (from 2 p)
portion (withheld number values) p = kept number values

-- a typed reading asks for a command: 6 for any other, as for a request, comes before what the data are judged for
unfoldable pub typed : ℕ → FrameType → ℕ → List ℕ → Judgement
typed wanted t command ds = cond (eqb command wanted) (payload_judgement t ds) (withheld 6 [])

-- what a command brings to it: its number, how a payload is read, and what stands for a refusal
pub record Reader (A : Type 0) : Type 0 where
  pub number : ℕ
  pub read : List ℕ → A
  pub refuse : ℕ → List ℕ → A

-- it takes the judgement apart: what is carried, behind the status bytes, is read, and a refusal is passed on as it is
abbrev pub passed_on : {A : Type 0} → Reader A → Judgement → List ℕ → A
passed_on k carries ds = k.read (drop 2 ds)
passed_on k (withheld number values) ds = k.refuse number values

-- the typed reading of a frame's type, command and data
unfoldable pub typed_in : {A : Type 0} → Reader A → FrameType → ℕ → List ℕ → A
typed_in k t command ds = passed_on k (typed k.number t command ds) ds

-- a frame's own data: the first `length` bytes of its array, without the zeros behind them
abbrev pub data_of : Frame → List ℕ
data_of f = take f.length f.«data»

-- and of a frame that a decoder found
unfoldable pub typed_of : {A : Type 0} → Reader A → Frame → A
typed_of k f = typed_in k f.frame_type f.command (data_of f)
