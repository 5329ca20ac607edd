-- The loop's invariant: the bytes so far are passed on. Each turn uses a byte at least, and asks for as many bytes as the buffer has at most.
use Rattle.std.proofs.Common.{◌*◌, ◌-◌, ◌≤◌, length}
use Rattle.streams.specs.Passing.{read_size, PassesFront}
use Rattle.streams.proofs.pass_all.Given as goal

abbrev pub invariant-loop-used : goal.invariant-loop-used
invariant-loop-used g l = record { few : l.handover.asked ≤ read_size * l.used; passes_on : PassesFront g.L.Listener.after g.L.Listener.said l.initial.listener l.bytes l.listener l.used l.handover }

abbrev pub decreases-loop-used : goal.decreases-loop-used
decreases-loop-used g l = length l.bytes - l.used
