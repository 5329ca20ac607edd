-- The two bytes as they were stored.
use native.Mathlib.Omega.{arith}
use mathlib.Core.Path.{ap}
use Rattle.device.specs.Device.{speaks}
use Rattle.device.proofs.Spoken.{status_stored}
use Rattle.device.proofs.tell_status.Goals as goal

pub returns : goal.returns
returns c = ap speaks (status_stored c.args.payload.now c.args.code 0 (omega arith))
