-- The event of a settled byte is that of what it ended.
use Prim.Native.Nat.{ℕ}
use mathlib.Core.Path.{◌≡◌, refl, ap, ◌∙◌}
use mathlib.Core.List.{List}
use Rattle.std.specs.Prelude.{Option, Some, None, Ok, Err}
use Rattle.line.specs.machine.Step.{Ended}
use Rattle.line.specs.machine.Feed.{event_of, settled_by}
use Rattle.line.specs.declared.state.State.{State}
use Rattle.line.specs.declared.moved.Completed.{Completed}

pub settled_event : (x : Ended) (s : State) (bs : List ℕ) → (settled_by x s bs).1 ≡ event_of x bs
settled_event (Ok None) s bs = refl
settled_event (Ok (Some c)) s bs = refl
settled_event (Err r) s bs = refl

-- what a byte ended, where a match has looked into it twice
pub looked_into : (x : Ended) (o p : Option Completed) → x ≡ Ok o → o ≡ p → x ≡ Ok p
looked_into x o p e f = e ∙ ap Ok f
