-- The dump along a run of bytes: what it holds between two, what it prints, and how far it comes in a buffer that is lent.
use Rattle.std.specs.Prelude.{ℕ, suc, ◌+◌, ◌-◌, cond, List, [], ◌∷◌, ◌++◌, ltb, length, take}
use Rattle.line.specs.Events.{Event, silence, found, rejected}
use Rattle.line.specs.declared.state.State.{State}
use Rattle.line.specs.machine.Feed.{Held, holding, stepped, fresh}
use Rattle.dump_lines.specs.Text.{line_of, end_line, line_max}
use Rattle.dump_lines.specs.declared.Totals.{Totals}
use Rattle.dump_lines.specs.declared.Dump.{Dump}
use Rattle.dump_lines.specs.declared.Taken.{Taken}

-- a counter stays at the largest number of 64 bits
abbrev pub largest : ℕ
largest = 18446744073709551615

abbrev pub more : ℕ → ℕ
more n = cond (ltb n largest) (n + 1) n

abbrev pub totals_of : ℕ → ℕ → ℕ → Totals
totals_of bytes frames refusals = record { bytes = bytes; frames = frames; refusals = refusals }

-- one byte more, and what was told at it
abbrev pub totalled : Totals → Event → Totals
totalled t silence = totals_of (more t.bytes) t.frames t.refusals
totalled t (found w) = totals_of (more t.bytes) (more t.frames) t.refusals
totalled t (rejected r) = totals_of (more t.bytes) t.frames (more t.refusals)

abbrev pub dump : State → List ℕ → Totals → Dump
dump s bs t = record { state = s; bytes = bs; totals = t }

abbrev pub dump_of : Held → Totals → Dump
dump_of h t = dump h.state h.bytes t

abbrev pub held_by_dump : Dump → Held
held_by_dump d = holding d.state d.bytes

abbrev pub fresh_dump : Dump
fresh_dump = dump_of fresh (totals_of 0 0 0)

-- one byte: the dump behind it, and the line that is printed at it. Its place is the number of bytes before it
abbrev pub next_dump : Dump → ℕ → Dump
next_dump d b = dump_of (stepped (held_by_dump d) b).0 (totalled d.totals (stepped (held_by_dump d) b).1)

abbrev pub told : Dump → ℕ → List ℕ
told d b = line_of d.totals.bytes (stepped (held_by_dump d) b).1

-- the same along a run
abbrev pub after : Dump → List ℕ → Dump
after d [] = d
after d (b ∷ bs) = after (next_dump d b) bs

abbrev pub printed : Dump → List ℕ → List ℕ
printed d [] = []
printed d (b ∷ bs) = told d b ++ printed (next_dump d b) bs

-- and the line behind the last byte
abbrev pub last_line : Totals → List ℕ
last_line t = end_line t.bytes t.frames t.refusals

-- bytes are taken as long as the room that is left would hold the longest line: how many, and which
abbrev pub count : Dump → List ℕ → ℕ → ℕ
count d [] room = 0
count d (b ∷ bs) room = cond (ltb room line_max) 0 (suc (count (next_dump d b) bs (room - length (told d b))))

abbrev pub taking : Dump → List ℕ → ℕ → List ℕ
taking d src room = take (count d src room) src

abbrev pub taken : Dump → List ℕ → ℕ → Taken
taken d src room = record {
  used = count d src room;
  written = length (printed d (taking d src room));
}
