-- The third demand over the decoder that callers use, and over any calls of it.
use Prim.Native.Nat.{ℕ}
use mathlib.Core.Path.{◌≡◌, refl, ap, ◌∙◌}
use mathlib.Core.List.{List, [], ◌∷◌, ◌++◌, map}
use Rattle.refusal.specs.declared.Refusal.{Refusal}
use Rattle.line.specs.Pieces.{Bytes, joined}
use Rattle.line.specs.Events.{Event, silence, found, rejected, gather, frames_in, refusals_in}
use Rattle.line.specs.Runs.{Demand, says, ends_in}
use Rattle.line.proofs.Machines.{worded_says, worded_ends}
use Rattle.line.proofs.Scan.{hunt, scan, told}
use Rattle.line.proofs.Follows.{demand, follows_ends, follows_says}
use Rattle.line.specs.machine.Frames.{frame_of, heard_of}
use Rattle.line.specs.machine.Feed.{fresh, stepped, feeding}
use Rattle.line.specs.machine.Demand.{
  hears,
  frames_heard,
  refusals_heard,
  Answered,
  Call,
  feeds,
  resets,
  heard_along,
}
use Rattle.line.specs.declared.frame.Frame.{Frame}
use Rattle.line.specs.machine.Frames.{Heard}
use Rattle.line.proofs.machine.Image.{real, stepped_real, follows}

pub feeding_demand : (run : List ℕ) → Bytes run → Demand feeding fresh run
feeding_demand run k = demand feeding real follows run k

-- for those that step from a new one on, and so need no test
pub stepped_demand : (run : List ℕ) → Bytes run → Demand stepped fresh run
stepped_demand run k = demand stepped real (λ s b f h. stepped_real s b f) run k

-- what is heard, byte by byte, is what the scanner gives: a way to compute it without the bytes beside a state
pub heard_scanned : (run : List ℕ) → Bytes run → says hears fresh run ≡ map heard_of (map told (says scan hunt run))
heard_scanned run k = worded_says feeding heard_of fresh run ∙ ap (map heard_of) (follows_says feeding real follows hunt run tt k)

pub ends_scanned : (run : List ℕ) → Bytes run → ends_in hears fresh run ≡ real (ends_in scan hunt run)
ends_scanned run k = worded_ends feeding heard_of fresh run ∙ follows_ends feeding real follows hunt run tt k

frames_heard_lem : (es : List Event) → frames_heard (map heard_of es) ≡ map frame_of (gather frames_in es)
frames_heard_lem [] = refl
frames_heard_lem (silence ∷ es) = frames_heard_lem es
frames_heard_lem (found w ∷ es) = ap (λ (fs : List Frame). frame_of w ∷ fs) (frames_heard_lem es)
frames_heard_lem (rejected r ∷ es) = frames_heard_lem es

refusals_heard_lem : (es : List Event) → refusals_heard (map heard_of es) ≡ gather refusals_in es
refusals_heard_lem [] = refl
refusals_heard_lem (silence ∷ es) = refusals_heard_lem es
refusals_heard_lem (found w ∷ es) = refusals_heard_lem es
refusals_heard_lem (rejected r ∷ es) = ap (λ (rs : List Refusal). r ∷ rs) (refusals_heard_lem es)

pub answered : (run : List ℕ) → Bytes run → Answered hears fresh run
answered run k =
    let d = feeding_demand run k in
    let said : says hears fresh run ≡ map heard_of (says feeding fresh run) = worded_says feeding heard_of fresh run in
    record {
      pieces = d.pieces;
      rest = d.rest;
      cut = d.cut;
      only = d.only;
      answers = said ∙ ap (map heard_of) d.events;
      frames = ap frames_heard said ∙ frames_heard_lem (says feeding fresh run) ∙ ap (map frame_of) d.frames;
      refusals = ap refusals_heard said ∙ refusals_heard_lem (says feeding fresh run) ∙ d.refusals;
      again = worded_ends feeding heard_of fresh (joined d.pieces) ∙ d.again;
    }

-- of anything that hears: calls that only feed hear what the run gives
module _ {D : Type 0} (hearing : D → ℕ → D × Heard) (new : D) where
  pub fed_along : (d : D) (run : List ℕ) → heard_along hearing new d (map feeds run) ≡ says hearing d run
  fed_along d [] = refl
  fed_along d (b ∷ bs) = ap (λ (hs : List Heard). (hearing d b).1 ∷ hs) (fed_along (hearing d b).0 bs)

  -- a reset ends the run, and what follows it is heard as by a new one
  pub reset_starts : (d : D) (before after : List Call) → heard_along hearing new d (before ++ (resets ∷ after)) ≡ heard_along hearing new d before ++ heard_along hearing new new after
  reset_starts d [] after = refl
  reset_starts d (feeds b ∷ before) after = ap (λ (hs : List Heard). (hearing d b).1 ∷ hs) (reset_starts (hearing d b).0 before after)
  reset_starts d (resets ∷ before) after = reset_starts new before after
