-- The buffer has room for the answer.
use Prim.Native.Nat.{ℕ}
use native.Mathlib.Omega.{arith}
use mathlib.Core.Path.{ap, ◌∙◌}
use lib.ListN.{take}
use Rattle.transmitter.proofs.Passing.{answer_within, answer_front}
use Rattle.transmitter.proofs.respond.Goals as goal

pub returns-clause-bound : goal.returns-clause-bound
returns-clause-bound c =
    omega (arith, c.unwrap_or.ensures, answer_within c.args.frame c.args.out.now (omega arith) c.answer.result c.answer.ensures (omega arith))

pub returns-clause-front : goal.returns-clause-front
returns-clause-front c =
    ap (λ (n : ℕ). take n c.answer.new.out) c.unwrap_or.ensures ∙ answer_front c.args.frame c.args.out.now (omega arith) c.answer.result c.answer.ensures
