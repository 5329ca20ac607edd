-- The text is the definition's.
use mathlib.Core.Path.{refl}
use Rattle.device.specs.Own.{own_tag}
use Rattle.device.proofs.own.own_tag.Goals as goal

pub returns : goal.returns
unfolding own_tag
returns c = refl
