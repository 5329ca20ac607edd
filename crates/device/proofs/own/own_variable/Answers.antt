-- Each code by its case, and any other by none.
use native.Mathlib.Omega.{arith}
use mathlib.Core.Path.{sym, ap, ◌∙◌}
use Rattle.device.specs.Own.{own_variable}
use Rattle.device.proofs.Variables.{variable_none}
use Rattle.device.proofs.own.own_variable.Goals as goal

pub returns-in-0 : goal.returns-in-0
unfolding own_variable
returns-in-0 c = c.variable.ensures ∙ sym (ap own_variable c.in-0.is)

pub returns-in-1 : goal.returns-in-1
unfolding own_variable
returns-in-1 c = c.variable-in-1.ensures ∙ sym (ap own_variable c.in-1.is)

pub returns-in-2 : goal.returns-in-2
unfolding own_variable
returns-in-2 c = c.variable-in-2.ensures ∙ sym (ap own_variable c.in-2.is)

pub returns-in-3 : goal.returns-in-3
unfolding own_variable
returns-in-3 c = c.variable-in-3.ensures ∙ sym (ap own_variable c.in-3.is)

pub returns-in_default : goal.returns-in_default
returns-in_default c =
    c.variable-in_default.ensures ∙ sym (variable_none c.args.code (λ e. omega (arith, e)) (λ e. omega (arith, e)) (λ e. omega (arith, e)) (λ e. omega (arith, e)))
