-- The two tests are the two that make a pattern a NaN's.
use mathlib.Core.Path.{refl}
use lib.Ieee.{nan_bits}
use Rattle.commands.proofs.reading.is_nan_pattern.Goals as goal

pub returns : goal.returns
unfolding nan_bits
returns c = refl
