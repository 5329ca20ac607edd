-- The loop's invariant: what is still to come of the rest of the run is what the whole run comes to.
use Rattle.std.proofs.Common.{◌≡◌, drop}
use Rattle.lent.specs.Listen.{listened}
use Rattle.lent.proofs.Listening.{to_come}
use Rattle.lent.proofs.listen.Given as goal

abbrev pub invariant-loop-byte : goal.invariant-loop-byte
invariant-loop-byte l = to_come (drop l.byte-index l.run) l.decoder l.before ≡ listened l.run l.n
