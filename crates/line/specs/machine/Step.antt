-- What a byte does to a decoder: to its state, and to the address and data bytes beside it.
use Rattle.std.specs.Prelude.{ℕ, ◌+◌, cond, List, [], ◌∷◌, set, eqb, ltb, Option, Some, None, Result, Ok, Err}
use Rattle.std.specs.Int.Bits.{bit_xor}
use Rattle.refusal.specs.declared.Refusal.{Refusal}
use Rattle.refusal.specs.Table.{refusal_of}
use Rattle.types.specs.declared.delimiter.Opening.{Opening}
use Rattle.types.specs.Delimiter.{opening, delimiter_of}
use Rattle.types.specs.Address.{head_length, head_room}
use Rattle.line.specs.Pieces.{enough}
use Rattle.line.specs.declared.state.Head.{Head}
use Rattle.line.specs.declared.state.State.{State}
use Rattle.line.specs.declared.state.State.TheVariants.{
  Hunting,
  Preamble,
  Address,
  Command,
  ByteCount,
  Data,
  Checksum,
}
use Rattle.line.specs.declared.moved.Moved.{Moved}
use Rattle.line.specs.declared.moved.Completed.{Completed}

-- what a byte ended: nothing, a frame, or a piece that is refused
abbrev pub Ended : Type 0
Ended = Result (Option Completed) Refusal

-- the piece goes on, or is over
abbrev pub going : State → Moved
going s = record { state = s; ended = Ok None }

abbrev pub over : Ended → Moved
over e = record { state = Hunting; ended = e }

-- a frame whose check was right, and a piece that is refused
abbrev pub completed : Head → ℕ → ℕ → Completed
completed h c n = record { head = h; command = c; length = n }

abbrev pub ends_frame : Head → ℕ → ℕ → Ended
ends_frame h c n = Ok (Some (completed h c n))

-- the first FF of a preamble, or noise
abbrev pub hunted : ℕ → Moved
hunted b = going (cond (eqb b 0xFF) (Preamble 1) Hunting)

-- what a delimiter said, and the check so far
abbrev pub head_of : Opening → ℕ → Head
head_of o check = record { frame_type = o.frame_type; is_long = o.is_long; check = check }

abbrev pub opening_in : Head → Opening
opening_in h = opening h.frame_type h.is_long

-- the check begins with the delimiter
abbrev pub delimited : ℕ → Option Opening → Moved
delimited b (Some o) = going (Address (head_of o b) 0)
delimited b None = over (Err (refusal_of 4 (b ∷ [])))

-- the preamble count saturates: so many FF are counted and no more
abbrev pub preamble_cap : ℕ
preamble_cap = 5

-- one FF more
abbrev pub saturated : ℕ → ℕ
saturated n = cond (ltb n preamble_cap) (n + 1) preamble_cap

-- behind too few FF any other byte is passed over
abbrev pub preambled : ℕ → ℕ → Moved
preambled n b = cond (eqb b 0xFF) (going (Preamble (saturated n))) (cond (ltb n enough) (going Hunting) (delimited b (delimiter_of b)))

-- one byte more in the running check
abbrev pub mixed : Head → ℕ → Head
mixed h b = head_of (opening_in h) (bit_xor h.check b)

-- byte k of those before the command: another one follows, or the command
abbrev pub addressed : Head → ℕ → ℕ → Moved
addressed h k b = going (cond (ltb (k + 1) (head_length (opening_in h))) (Address (mixed h b) (k + 1)) (Command (mixed h b)))

-- the byte count: data follow, or the check
abbrev pub byte_counted : Head → ℕ → ℕ → Moved
byte_counted h c b = going (cond (eqb b 0) (Checksum (mixed h b) c 0) (Data (mixed h b) c b 0))

-- data byte n of e
abbrev pub loaded : Head → ℕ → ℕ → ℕ → ℕ → Moved
loaded h c e n b = going (cond (ltb (n + 1) e) (Data (mixed h b) c e (n + 1)) (Checksum (mixed h b) c e))

-- the check byte ends the piece
abbrev pub checked : Head → ℕ → ℕ → ℕ → Moved
checked h c e b = over (cond (eqb b h.check) (ends_frame h c e) (Err (refusal_of 5 (h.check ∷ b ∷ []))))

-- the state behind a byte, and what ended with it
abbrev pub moved_at : State → ℕ → Moved
moved_at Hunting b = hunted b
moved_at (Preamble n) b = preambled n b
moved_at (Address h k) b = addressed h k b
moved_at (Command h) b = going (ByteCount (mixed h b) b)
moved_at (ByteCount h c) b = byte_counted h c b
moved_at (Data h c e n) b = loaded h c e n b
moved_at (Checksum h c e) b = checked h c e b

-- a byte before the command and a data byte are kept, each at its place, where there is one
abbrev pub stored_at : State → List ℕ → ℕ → List ℕ
stored_at Hunting bs b = bs
stored_at (Preamble n) bs b = bs
stored_at (Address h k) bs b = set bs k b
stored_at (Command h) bs b = bs
stored_at (ByteCount h c) bs b = bs
stored_at (Data h c e n) bs b = set bs (head_room + n) b
stored_at (Checksum h c e) bs b = bs
