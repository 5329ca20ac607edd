-- Zero by zero is the NaN.
use mathlib.Core.Path.{◌≡◌, refl, sym, ◌∙◌}
use lib.Ieee.{nan, binary32, of_bits, of_fields, odd, div}
use Rattle.commands.proofs.Worths.{nan_value}
use Rattle.commands.proofs.reading.value_of.Goals as goal

zero_by_zero : div binary32 (of_bits binary32 0) (of_bits binary32 0) ≡ nan
unfolding div of_bits of_fields odd
zero_by_zero = refl

pub returns-then-is_nan_pattern : goal.returns-then-is_nan_pattern
returns-then-is_nan_pattern c = zero_by_zero ∙ sym (nan_value c.args.bits (sym c.is_nan_pattern.ensures ∙ c.if-is_nan_pattern.true))
