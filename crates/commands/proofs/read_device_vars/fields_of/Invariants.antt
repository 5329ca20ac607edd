-- The loop's invariant: the fields of the groups so far.
use mathlib.Core.Path.{◌≡◌}
use Rattle.commands.specs.Code.{variables_fields}
use Rattle.commands.proofs.read_device_vars.fields_of.Given as goal

abbrev pub invariant-loop-variable : goal.invariant-loop-variable
invariant-loop-variable l = l.fields ≡ variables_fields l.first l.second l.extended l.variables l.variable-index
