-- The third demand, as callers of a decoder see it: what is heard along a run of bytes, and which decoders a run leads to. Decoders come
-- in more than one form, so each statement is of what hears bytes one by one, in any form, from a new one on.
use Rattle.std.specs.Prelude.{ℕ, ◌<◌, ◌≡◌, List, [], ◌∷◌, map, length, Some, None, Ok, Err}
use Rattle.refusal.specs.declared.Refusal.{Refusal}
use Rattle.line.specs.Pieces.{Piece, Bytes, joined, Cut}
use Rattle.line.specs.Events.{verdict, dictated, gather, frames_in, refusals_in}
use Rattle.line.specs.Runs.{says, ends_in}
use Rattle.line.specs.machine.Room.{decoder_room}
use Rattle.line.specs.machine.Frames.{frame_of, Heard, heard_of}
use Rattle.line.specs.machine.Feed.{Held, feeding}
use Rattle.line.specs.declared.state.Head.{Head}
use Rattle.line.specs.declared.state.State.{State}
use Rattle.line.specs.declared.state.State.TheVariants.{
  Hunting,
  Preamble,
  Address,
  Command,
  ByteCount,
  Data,
  Checksum,
}
use Rattle.line.specs.declared.frame.Frame.{Frame}

-- one byte fed: the decoder for the next, and what is heard
abbrev pub hears : Held → ℕ → Held × Heard
hears d b = ((feeding d b).0, heard_of (feeding d b).1)

-- the frames among what was heard, and the refusals
abbrev pub frame_heard : Heard → List Frame
frame_heard (Ok None) = []
frame_heard (Ok (Some f)) = f ∷ []
frame_heard (Err r) = []

abbrev pub refusal_heard : Heard → List Refusal
refusal_heard (Ok f) = []
refusal_heard (Err r) = r ∷ []

abbrev pub frames_heard : List Heard → List Frame
frames_heard hs = gather frame_heard hs

abbrev pub refusals_heard : List Heard → List Refusal
refusals_heard hs = gather refusal_heard hs

-- a run has one cut; a new decoder that is fed the run answers at each byte what the cut dictates; its frames in order are the frames
-- of the cut, its refusals those of the cut; and after whole pieces it is new again
pub record Answered {D : Type 0} (hearing : D → ℕ → D × Heard) (new : D) (run : List ℕ) : Type 0 where
  pub pieces : List Piece
  pub rest : List ℕ
  pub cut : Cut run pieces rest
  pub only : (qs : List Piece) (u : List ℕ) → Cut run qs u → (pieces ≡ qs) × (rest ≡ u)
  pub answers : says hearing new run ≡ map heard_of (dictated pieces rest)
  pub frames : frames_heard (says hearing new run) ≡ map frame_of (gather frames_in (map verdict pieces))
  pub refusals : refusals_heard (says hearing new run) ≡ gather refusals_in (map verdict pieces)
  pub again : ends_in hearing new (joined pieces) ≡ new

-- some run of bytes leads a new decoder to it
pub record Reached {D : Type 0} (hearing : D → ℕ → D × Heard) (new : D) (d : D) : Type 0 where
  pub run : List ℕ
  pub small : Bytes run
  pub leads : ends_in hearing new run ≡ d

-- any calls of a decoder: bytes fed and resets, and what is heard at each byte
pub data Call : Type 0 where
  feeds : ℕ → Call
  resets : Call

module _ {D : Type 0} (hearing : D → ℕ → D × Heard) (new : D) where
  abbrev pub heard_along : D → List Call → List Heard
  heard_along d [] = []
  heard_along d (feeds b ∷ cs) = (hearing d b).1 ∷ heard_along (hearing d b).0 cs
  heard_along d (resets ∷ cs) = heard_along new cs

-- the numbers of a state are in the range of their types
abbrev pub SmallHead : Head → Type 0
SmallHead h = h.check < 256

abbrev pub SmallState : State → Type 0
SmallState Hunting = Unit {0}
SmallState (Preamble n) = n < 256
SmallState (Address h k) = SmallHead h × (k < 256)
SmallState (Command h) = SmallHead h
SmallState (ByteCount h c) = SmallHead h × (c < 256)
SmallState (Data h c e n) = SmallHead h × (c < 256) × (e < 256) × (n < 256)
SmallState (Checksum h c e) = SmallHead h × (c < 256) × (e < 256)

-- each number in a decoder is in the range of its type, and its array is whole
pub record Value (d : Held) : Type 0 where
  pub state : SmallState d.state
  pub bytes : Bytes d.bytes
  pub whole : length d.bytes ≡ decoder_room
