-- No more is read than there is room for. The loop ends since each turn leaves less of it.
use Rattle.std.proofs.Common.{◌-◌, ◌≤◌, length}
use Rattle.example.proofs.read.Given as goal

abbrev pub invariant-loop-got : goal.invariant-loop-got
invariant-loop-got g l = l.got ≤ length l.line

abbrev pub decreases-loop-got : goal.decreases-loop-got
decreases-loop-got g l = length l.line - l.got
