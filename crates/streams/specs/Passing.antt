-- Bytes that were read are passed on. Between two bytes a program holds a state: `after` gives the one behind a run of bytes, and
-- `said` what there is to say along the run.
use Rattle.std.specs.Prelude.{ℕ, ◌≤◌, ◌<◌, ◌≡◌, List, [], ◌++◌, length, take, Result, Ok, Err, Option, Some, None}
use Rattle.streams.specs.declared.Handover.{Handover}
use Rattle.streams.specs.declared.Heard.{Heard}

-- the most bytes that a read brings
abbrev pub read_size : ℕ
read_size = 65536

-- the bytes of a read that was answered so, at the front of the buffer
abbrev pub brought : {E : Type 0} → Result (Option ℕ) E → List ℕ → List ℕ
brought (Ok (Some n)) input = take n input
brought (Ok None) input = []
brought (Err e) input = []

-- a state and what is said go on from run to run
pub record GoesOn {S : Type 0} (after : S → List ℕ → S) (said : S → List ℕ → List ℕ) : Type 0 where
  pub after_none : (s : S) → after s [] ≡ s
  pub said_none : (s : S) → said s [] ≡ []
  pub after_append : (s : S) (bs cs : List ℕ) → after s (bs ++ cs) ≡ after (after s bs) cs
  pub said-append : (s : S) (bs cs : List ℕ) → said s (bs ++ cs) ≡ said s bs ++ said (after s bs) cs

-- of the bytes some at the front are used, one at least: the state is the one behind just these, and what there is to say of them stands
-- at the front of a buffer
pub record HearsFront {S : Type 0} (after : S → List ℕ → S) (said : S → List ℕ → List ℕ) (before : S) (src : List ℕ) (next : S) (out : List ℕ) (h : Heard) : Type 0 where
  pub some : 0 < h.used
  pub within : h.used ≤ length src
  pub behind : next ≡ after before (take h.used src)
  pub room : h.written ≤ length out
  pub front : take h.written out ≡ said before (take h.used src)

-- what was handed to standard output stands at the front of a buffer, and is just these bytes
pub record HandsOver (bytes out : List ℕ) (h : Handover) : Type 0 where
  pub front : take h.asked out ≡ bytes
  pub whole : h.asked ≡ length bytes
  pub answered : h.took ≤ h.asked

-- of the bytes some at the front are used: the state is the one behind just these, and as many bytes as there are to say of them were
-- handed over
pub record PassesFront {S : Type 0} (after : S → List ℕ → S) (said : S → List ℕ → List ℕ) (before : S) (src : List ℕ) (next : S) (used : ℕ) (h : Handover) : Type 0 where
  pub within : used ≤ length src
  pub behind : next ≡ after before (take used src)
  pub whole : h.asked ≡ length (said before (take used src))
  pub answered : h.took ≤ h.asked

-- a state behind some run of so many bytes
pub record BehindRun {S : Type 0} (after : S → List ℕ → S) (first next : S) (bytes : ℕ) : Type 0 where
  pub run : List ℕ
  pub counted : length run ≡ bytes
  pub leads : next ≡ after first run

-- the state is the one behind all bytes that were used; and a read that brought bytes is the last one only where not all was taken of
-- what was handed over for them
pub record PassesAll {S E : Type 0} (after : S → List ℕ → S) (first next : S) (heard : ℕ) (got : Result (Option ℕ) E) (h : Handover) : Type 0 where
  pub behind : BehindRun after first next heard
  pub stopped : (n : ℕ) → got ≡ Ok (Some n) → 0 < n → h.took ≡ h.asked → ⊥
