-- A refusal by its test, and the codes by what was copied into zeros.
use Prim.Native.Nat.{ℕ, min}
use native.Mathlib.Omega.{arith}
use mathlib.Core.Path.{◌≡◌, sym, ap, ap₂, ◌∙◌}
use lib.ListN.{length, take, replicate, length-take}
use borrow.Author.Tests.{eqb-true, eqb-false}
use Rattle.octets.specs.Put.{put_if_fits}
use Rattle.octets.proofs.Put.{take_least}
use Rattle.line.proofs.machine.Zeros.{copied_into_zeros}
use Rattle.framing.specs.Payload.{carries}
use Rattle.response.specs.Sizes.{most_variables}
use Rattle.commands.specs.Variables.{reads_codes}
use Rattle.commands.proofs.read_device_vars.Calls.{codes_none, codes_some}
use Rattle.commands.proofs.read_device_vars.read_codes.Goals as goal

pub returns-then-is_empty : goal.returns-then-is_empty
returns-then-is_empty c = sym (codes_none c.args.«data».now (omega (arith, eqb-true _ _ (sym c.is_empty.ensures ∙ c.if-is_empty.true))))

pub returns : goal.returns
returns c =
    let bs = c.args.«data».now in
    let count : c.min-count.result ≡ min most_variables (length bs) = c.min-count.ensures in
    let codes : take c.min-count.result bs ≡ take most_variables bs = ap (λ (n : ℕ). take n bs) count ∙ take_least most_variables bs in
    ap₂ (reads_codes carries) count
    (copied_into_zeros most_variables (take most_variables bs) (omega (arith, length-take most_variables bs)) (c.copy_into.ensures ∙ ap (put_if_fits (replicate most_variables 0) 0) codes))
    ∙ sym (codes_some bs (omega (arith, eqb-false _ _ (sym c.is_empty.ensures ∙ c.if-is_empty.false))))
