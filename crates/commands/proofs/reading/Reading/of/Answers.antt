-- `Reading::of` meets its contract.
use native.Mathlib.Omega.{arith}
use mathlib.Core.Path.{◌≡◌, sym, ap, ◌∙◌}
use Rattle.commands.specs.Worth.{quality, exponent, good, poor, fixed}
use Rattle.commands.proofs.Worths.{worth_bad, worth_absent, worth_good, worth_poor, worth_fixed}
use Rattle.commands.proofs.reading.Reading.of.Goals as goal

pub returns-then-quality-eq0 : goal.returns-then-quality-eq0
returns-then-quality-eq0 c = sym (worth_bad _ _ c.if-quality-eq0.true)

-- both tests are told by arithmetic and not by their text, so that another test fails where it tells something false
pub returns-then-bits-eq255 : goal.returns-then-bits-eq255
returns-then-bits-eq255 c =
    let a = c.args in
    let ones : exponent a.bits ≡ 255 = omega (arith, c.if-bits-eq255.true) in
    sym (worth_absent a.status a.bits (λ e. omega (arith, e)) ones)

pub returns-in-3 : goal.returns-in-3
returns-in-3 c =
    let a = c.args in
    let number : exponent a.bits ≡ 255 → ⊥ = λ e. c.if-bits-eq255.false (omega (arith, e)) in
    ap good c.value_of-value.ensures ∙ sym (worth_good a.status a.bits number c.in-3.is)

pub returns-in-1 : goal.returns-in-1
returns-in-1 c =
    let a = c.args in
    let number : exponent a.bits ≡ 255 → ⊥ = λ e. c.if-bits-eq255.false (omega (arith, e)) in
    ap poor c.value_of-value.ensures ∙ sym (worth_poor a.status a.bits number c.in-1.is)

pub returns-in_default : goal.returns-in_default
returns-in_default c =
    let a = c.args in
    let number : exponent a.bits ≡ 255 → ⊥ = λ e. c.if-bits-eq255.false (omega (arith, e)) in
    let two : quality a.status ≡ 2 = omega arith in
    ap fixed c.value_of-value.ensures ∙ sym (worth_fixed a.status a.bits number two)
