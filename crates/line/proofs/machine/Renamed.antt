-- What holds of one that hears bytes holds of it under other names for its states.
use Prim.Native.Nat.{ℕ}
use mathlib.Core.Path.{◌≡◌, refl, ap, ◌∙◌}
use mathlib.Core.List.{List, [], ◌∷◌}
use Rattle.line.specs.Pieces.{joined}
use Rattle.line.proofs.Machines.{renamed_says, renamed_ends}
use Rattle.line.specs.machine.Demand.{
  frames_heard,
  refusals_heard,
  Answered,
  Reached,
  Call,
  feeds,
  resets,
  heard_along,
}
use Rattle.line.specs.machine.Frames.{Heard}

module _ {S T : Type 0} (hearing : S → ℕ → S × Heard) (other : T → ℕ → T × Heard) (name : S → T)
    (same : (s : S) (b : ℕ) → other (name s) b ≡ (name (hearing s b).0, (hearing s b).1)) (new : S) where
  pub renamed_answered : (run : List ℕ) → Answered hearing new run → Answered other (name new) run
  renamed_answered run a =
      let said = renamed_says hearing other name same new run in
      record {
        pieces = a.pieces;
        rest = a.rest;
        cut = a.cut;
        only = a.only;
        answers = said ∙ a.answers;
        frames = ap frames_heard said ∙ a.frames;
        refusals = ap refusals_heard said ∙ a.refusals;
        again = renamed_ends hearing other name same new (joined a.pieces) ∙ ap name a.again;
      }

  pub renamed_reached : (s : S) → Reached hearing new s → Reached other (name new) (name s)
  renamed_reached s r =
      record { run = r.run; small = r.small; leads = renamed_ends hearing other name same new r.run ∙ ap name r.leads }

  pub renamed_along : (s : S) (calls : List Call) → heard_along other (name new) (name s) calls ≡ heard_along hearing new s calls
  renamed_along s [] = refl
  renamed_along s (feeds b ∷ cs) = rw (same s b) (ap (λ (hs : List Heard). (hearing s b).1 ∷ hs) (renamed_along (hearing s b).0 cs))
  renamed_along s (resets ∷ cs) = renamed_along new cs
