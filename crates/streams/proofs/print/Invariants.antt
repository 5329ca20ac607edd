-- The loop's invariant: no more was taken than there is.
use Rattle.std.proofs.Common.{◌≤◌, length}
use Rattle.streams.proofs.print.Given as goal

abbrev pub invariant-loop : goal.invariant-loop
invariant-loop g l = l.took ≤ length l.bytes
