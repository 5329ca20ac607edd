-- By what is said.
use native.Mathlib.Omega.{arith}
use mathlib.Core.Path.{◌∙◌}
use Rattle.device.proofs.Answers.{answers_nothing, answers_first}
use Rattle.device.proofs.answer.Goals as goal

pub returns-in_default : goal.returns-in_default
returns-in_default c =
    let a = c.args in
    answers_nothing a.frame a.out.now c.tell.new.payload c.in_default.is c.tell.ensures

pub returns : goal.returns
returns c =
    let a = c.args in
    c.reply.ensures ∙ answers_first a.frame a.out.now c.tell.new.payload c.in-Some.is (omega (arith, c.min.ensures)) c.tell.ensures
