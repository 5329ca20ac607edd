-- The fields are the definition's.
use mathlib.Core.Path.{refl}
use Rattle.device.specs.Own.{own_identity}
use Rattle.device.proofs.own.own_identity.Goals as goal

pub returns : goal.returns
unfolding own_identity
returns c = refl
