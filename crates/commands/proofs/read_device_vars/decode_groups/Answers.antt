use native.Mathlib.Omega.{arith}
use Rattle.commands.proofs.read_device_vars.Groups.{placed_turn}
use Rattle.commands.proofs.read_device_vars.decode_groups.Goals as goal

pub loop-i-preserved : goal.loop-i-preserved
loop-i-preserved c =
    placed_turn c.args.«data».now c.loop-i.i c.loop-i.invariant c.variable_at.ensures (omega (arith, c.min-count.ensures))
