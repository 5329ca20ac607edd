-- The promise of this crate leaves one outcome: one answer, and one content of the lent buffer.
use Rattle.refusal.specs.Determined.{Determined}
use Rattle.refusal.specs.Outcome.{reply_of}
use Rattle.refusal.proofs.Known.{agree, written_known}
use Rattle.device.proofs.answer.Kinds as answer-kinds
use Rattle.device.proofs.answer.Reads as answer-reads

pub answer : Determined 1 answer-kinds.ps answer-kinds.r answer-reads.Post (λ κs x. x.1.0.now)
answer κs a r s x y = agree reply_of written_known
