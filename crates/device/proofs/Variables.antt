-- The variable of a code that the device has not.
use Prim.Native.Nat.{ℕ}
use mathlib.Core.Path.{◌≡◌}
use mathlib.Core.Logic.{◌≢◌}
use borrow.Author.Tests.{ne_eqb}
use Rattle.commands.specs.Variables.{variable}
use Rattle.device.specs.Own.{own_variable}

pub variable_none : (code : ℕ) → code ≢ 0 → code ≢ 1 → code ≢ 2 → code ≢ 3 → own_variable code ≡ variable code 0 0xFA 0x7FA00000 0x30
unfolding own_variable
variable_none code h0 h1 h2 h3 = rw (ne_eqb code 0 h0, ne_eqb code 1 h1, ne_eqb code 2 h2, ne_eqb code 3 h3)
