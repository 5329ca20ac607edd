-- Each promise of this crate leaves one outcome: one answer, and one content of each lent buffer.
use Rattle.refusal.specs.Determined.{Determined}
use Rattle.refusal.proofs.Known.{agree_alone}
use Rattle.line.proofs.frame.Frame.empty.Kinds as frame-empty-kinds
use Rattle.line.proofs.frame.Frame.empty.Reads as frame-empty-reads
use Rattle.line.proofs.state.Head.opening.Kinds as head-opening-kinds
use Rattle.line.proofs.state.Head.opening.Reads as head-opening-reads

pub frame_empty : Determined 0 frame-empty-kinds.ps frame-empty-kinds.r frame-empty-reads.Post (λ κs x. tt {0})
frame_empty κs a r s x y = agree_alone

pub head_opening : Determined 0 head-opening-kinds.ps head-opening-kinds.r head-opening-reads.Post (λ κs x. tt {0})
head_opening κs a r s x y = agree_alone
