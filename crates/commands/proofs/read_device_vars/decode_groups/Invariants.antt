-- The loop's invariant: the first i variables stand in their places, and nothing stands in the others.
use mathlib.Core.Path.{◌≡◌}
use Rattle.commands.proofs.read_device_vars.Groups.{placed}
use Rattle.commands.proofs.read_device_vars.decode_groups.Given as goal

abbrev pub invariant-loop-i : goal.invariant-loop-i
invariant-loop-i l = l.variables ≡ placed l.data l.i
