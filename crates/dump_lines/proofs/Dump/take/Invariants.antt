-- The loop's invariant: the dump and the text are those of the bytes that were taken, and of the bytes to be taken in all the rest is still to come.
use Rattle.dump_lines.proofs.Along.{Took}
use Rattle.dump_lines.proofs.Dump.take.Given as goal

abbrev pub invariant-loop-used : goal.invariant-loop-used
invariant-loop-used l = Took l.initial.self l.src l.initial.writer l.self l.used l.writer
