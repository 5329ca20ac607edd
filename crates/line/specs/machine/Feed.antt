-- What feeding a byte to a decoder comes to.
use Rattle.std.specs.Prelude.{ℕ, Bool, cond, List, [], replicate, Some, None, Ok, Err}
use Rattle.line.specs.Layout.{Wire}
use Rattle.line.specs.Events.{Event, silence, found, rejected, refusal}
use Rattle.line.specs.machine.Room.{decoder_room}
use Rattle.line.specs.machine.Frames.{wire_at}
use Rattle.line.specs.machine.Step.{Ended, moved_at, stored_at}
use Rattle.line.specs.machine.Reachable.{reachable_at}
use Rattle.line.specs.declared.state.State.{State}
use Rattle.line.specs.declared.state.State.TheVariants.{Hunting}
use Rattle.line.specs.declared.moved.Moved.{Moved}
use Rattle.line.specs.declared.moved.Completed.{Completed}

-- what a decoder holds between two bytes: `framing` has it as a value, the C host as a block of bytes
pub record Held : Type 0 where
  pub state : State
  pub bytes : List ℕ

abbrev pub holding : State → List ℕ → Held
holding s bs = record { state = s; bytes = bs }

-- no byte of a frame read yet
unfoldable pub blank : List ℕ
blank = replicate decoder_room 0

abbrev pub fresh : Held
fresh = holding Hunting blank

abbrev pub reachable : Held → Bool
reachable d = reachable_at d.state d.bytes

-- the frame of a right check, from the bytes beside the state
abbrev pub wire_in : Completed → List ℕ → Wire
wire_in c bs = wire_at c.head c.command c.length bs

-- what a byte ended, as an event, the frame taken from the bytes beside the state
abbrev pub event_of : Ended → List ℕ → Event
event_of (Ok None) bs = silence
event_of (Ok (Some c)) bs = found (wire_in c bs)
event_of (Err r) bs = rejected r

-- a piece that is over leaves a new decoder, and its event
abbrev pub settled_by : Ended → State → List ℕ → Held × Event
settled_by (Ok None) s bs = (holding s bs, silence)
settled_by (Ok (Some c)) s bs = (fresh, found (wire_in c bs))
settled_by (Err r) s bs = (fresh, rejected r)

abbrev pub settled : Moved → List ℕ → Held × Event
settled m bs = settled_by m.ended m.state bs

-- one byte into a decoder that a run of bytes leads to
unfoldable pub stepped : Held → ℕ → Held × Event
stepped d b = settled (moved_at d.state b) (stored_at d.state d.bytes b)

-- one byte into any decoder: what no run leads to gets 8 and comes back as it was
unfoldable pub feeding : Held → ℕ → Held × Event
feeding d b = cond (reachable d) (stepped d b) (d, refusal 8 [])
