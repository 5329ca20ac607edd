-- The loop's invariant: the listener is the one behind all bytes that were used, and these stay within 64 bits.
use Rattle.std.proofs.Common.{◌*◌, ◌≤◌}
use Rattle.streams.specs.Passing.{read_size, BehindRun}
use Rattle.streams.proofs.listen.Given as goal

abbrev pub invariant-loop-i : goal.invariant-loop-i
invariant-loop-i g l = record { counted : l.heard ≤ read_size * l.i; behind : BehindRun g.L.Listener.after l.initial.listener l.listener l.heard }
