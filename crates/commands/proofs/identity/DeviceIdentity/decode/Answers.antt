-- The refusal by its test, and the rest by the fields that were read.
use native.Mathlib.Omega.{arith}
use mathlib.Core.Path.{sym, ap, ◌∙◌}
use Rattle.commands.specs.Identity.{identified}
use Rattle.commands.proofs.Identities.{identity_short, identity_whole}
use Rattle.commands.proofs.identity.DeviceIdentity.decode.Goals as goal

pub returns-then-data-lt-IDENTITY_SIZE : goal.returns-then-data-lt-IDENTITY_SIZE
returns-then-data-lt-IDENTITY_SIZE c = sym (identity_short _ c.if-data-lt-IDENTITY_SIZE.true)

pub returns : goal.returns
returns c = ap identified c.identity_at.ensures ∙ sym (identity_whole _ (omega (arith, c.if-data-lt-IDENTITY_SIZE.false)))
