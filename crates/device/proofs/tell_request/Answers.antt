-- By the command.
use Prim.Native.Nat.{ℕ}
use native.Mathlib.Omega.{arith}
use mathlib.Core.Path.{sym, ap, ◌∙◌}
use Rattle.framing.specs.Payload.{data_of}
use Rattle.device.specs.Device.{told_to}
use Rattle.device.proofs.Answers.{told_other}
use Rattle.device.proofs.tell_request.Goals as goal

pub returns-in-0 : goal.returns-in-0
unfolding told_to
returns-in-0 c = c.tell_identity.ensures ∙ sym (ap (λ (n : ℕ). told_to n (data_of c.args.frame)) c.in-0.is)

pub returns-in-9 : goal.returns-in-9
unfolding told_to
returns-in-9 c = c.tell_variables.ensures ∙ sym (ap (λ (n : ℕ). told_to n (data_of c.args.frame)) c.in-9.is)

pub returns-in-11 : goal.returns-in-11
unfolding told_to
returns-in-11 c = c.tell_if_tagged.ensures ∙ sym (ap (λ (n : ℕ). told_to n (data_of c.args.frame)) c.in-11.is)

pub returns-in-13 : goal.returns-in-13
unfolding told_to
returns-in-13 c = c.tell_texts.ensures ∙ sym (ap (λ (n : ℕ). told_to n (data_of c.args.frame)) c.in-13.is)

pub returns-in-18 : goal.returns-in-18
unfolding told_to
returns-in-18 c = c.tell_back.ensures ∙ sym (ap (λ (n : ℕ). told_to n (data_of c.args.frame)) c.in-18.is)

pub returns-in_default : goal.returns-in_default
returns-in_default c =
    let f = c.args.frame in
    c.tell_status.ensures ∙ sym (told_other f.command (data_of f) (λ e. omega (arith, e)) (λ e. omega (arith, e)) (λ e. omega (arith, e)) (λ e. omega (arith, e)) (λ e. omega (arith, e)))
