-- When a frame's data carry a payload, which part is then handed back, and what a typed reading of a frame is: callers cite these and not
-- the text of the definitions.
use Prim.Native.Nat.{ℕ, ◌-◌, ◌≤◌}
use native.Mathlib.Omega.{arith}
use mathlib.Core.Path.{◌≡◌, refl, ap}
use mathlib.Core.Logic.{◌≢◌, ◌↔◌}
use mathlib.Core.Bool.{Bool, true, false, cond, not}
use mathlib.Core.List.{List, []}
use lib.ListN.{length, get_or, drop, replicate}
use lib.Seq.{take-append_seam}
use lib.Dec.{eqb}
use borrow.Author.Tests.{ltb-false, eqb-true, not-false, le-ltb, eq-eqb, ne_eqb}
use Rattle.std.specs.Prelude.{Result, Ok, Err}
use Rattle.std.specs.Borrow.{Bor}
use Rattle.std.specs.Result.{result_unwrap_or}
use Rattle.refusal.specs.declared.Refusal.{Refusal}
use Rattle.octets.specs.Part.{Part, part_of, from, empty_at}
use Rattle.octets.specs.Bit.{bit}
use Rattle.types.specs.Delimiter.{type_number}
use Rattle.types.specs.declared.delimiter.FrameType.{FrameType}
use Rattle.types.specs.declared.delimiter.FrameType.TheVariants.{Request, Response, Burst}
use Rattle.line.specs.Layout.{Wire}
use Rattle.line.specs.machine.Room.{data_room}
use Rattle.line.specs.machine.Frames.{frame_of}
use Rattle.framing.specs.Payload.{Judgement, carries, withheld, judged, payload_judgement, handed_back, payload_part, portion_of, portion, typed, data_of}

-- a check that does not refuse
passed : (fails : Bool) (n : ℕ) (vs : List ℕ) (rest : Judgement) → cond fails (withheld n vs) rest ≡ carries → (fails ≡ false) × (rest ≡ carries)
passed true n vs rest e = (cc, cc)
passed false n vs rest e = (refl, e)

judged_exactly : (t : FrameType) → t ≢ Request → (ds : List ℕ) → (judged ds ≡ carries) ↔ ((t ≢ Request) × (2 ≤ length ds) × (get_or ds 0 0 ≡ 0))
judged_exactly t other ds =
    let first = get_or ds 0 0 in (
      λ e.
          let long = passed _ _ _ _ e in
          let no-error = passed (bit 7 first) _ _ _ long.1 in
          let no_code = passed (not (eqb first 0)) _ _ _ no-error.1 in (other, ltb-false _ _ long.0, eqb-true _ _ (not-false _ no_code.0)),
      λ h. rw (le-ltb (length ds) 2 h.1, h.2),
    )

pub carries_exactly : (t : FrameType) (ds : List ℕ) → (payload_judgement t ds ≡ carries) ↔ ((t ≢ Request) × (2 ≤ length ds) × (get_or ds 0 0 ≡ 0))
unfolding payload_judgement
carries_exactly Request ds = (λ e. let z : ◌≡◌ {A = ℕ} 0 1 = cc in absurd (omega arith), λ h. absurd (h.0 refl))
carries_exactly Response ds = judged_exactly Response (λ e. omega (arith, ap type_number e)) ds
carries_exactly Burst ds = judged_exactly Burst (λ e. omega (arith, ap type_number e)) ds

pub part_carried : (t : FrameType) (p : Part) → payload_judgement t p.bytes ≡ carries → payload_part t p ≡ from 2 p
unfolding payload_part
part_carried t p e = rw e

pub part_refused : (t : FrameType) (p : Part) (n : ℕ) (vs : List ℕ) → payload_judgement t p.bytes ≡ withheld n vs → payload_part t p ≡ empty_at p
unfolding payload_part
part_refused t p n vs e = rw e

-- what is handed back, or no bytes in its place
pub part_or_none : (t : FrameType) (p : Part) (r : Result (Bor (List ℕ)) Refusal) (none : Bor (List ℕ)) → portion_of r ≡ portion (payload_judgement t p.bytes) p → part_of none ≡ empty_at p → part_of (result_unwrap_or r none) ≡ payload_part t p
unfolding payload_part
part_or_none t p r none said empty = by r (payload_judgement t p.bytes) said
  where
    by : (s : Result (Bor (List ℕ)) Refusal) (j : Judgement) → portion_of s ≡ portion j p → part_of (result_unwrap_or s none) ≡ cond (handed_back j) (from 2 p) (empty_at p)
    by (Ok q) carries e = cc
    by (Ok q) (withheld n vs) e = cc
    by (Err d) carries e = cc
    by (Err d) (withheld n vs) e = empty

module _ (wanted : ℕ) (t : FrameType) (command : ℕ) (ds : List ℕ) where
  pub typed_same : command ≡ wanted → typed wanted t command ds ≡ payload_judgement t ds
  unfolding typed
  typed_same e = rw (eq-eqb command wanted e)

  pub typed_other : command ≢ wanted → typed wanted t command ds ≡ withheld 6 []
  unfolding typed
  typed_other n = rw (ne_eqb command wanted n)

  -- what is carried for a command is carried at all
  typed_carries : typed wanted t command ds ≡ carries → payload_judgement t ds ≡ carries
  unfolding typed
  typed_carries e = by (eqb command wanted) e
    where
      by : (same : Bool) → cond same (payload_judgement t ds) (withheld 6 []) ≡ carries → payload_judgement t ds ≡ carries
      by true f = f
      by false f = cc

-- a typed reading reads what stands behind the status bytes
pub typed_part : (wanted : ℕ) (t : FrameType) (command : ℕ) (p : Part) → typed wanted t command p.bytes ≡ carries → (payload_part t p).bytes ≡ drop 2 p.bytes
typed_part wanted t command p e = ap (λ (q : Part). q.bytes) (part_carried t p (typed_carries wanted t command p.bytes e))

-- a frame as it was heard has the payload of the line, without a byte of what fills its array
pub frame_data : (w : Wire) → data_of (frame_of w) ≡ w.payload
frame_data w = take-append_seam w.payload (replicate (data_room - length w.payload) 0)
