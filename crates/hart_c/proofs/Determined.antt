-- Each promise of this crate leaves one outcome: one answer, and one content of each lent buffer.
use Rattle.refusal.specs.Determined.{Determined}
use Rattle.host.specs.Block.{tells}
use Rattle.host.proofs.Known.{agree_told, agree_cleared}
use Rattle.hart_c.proofs.hart_clear.Kinds as hart-clear-kinds
use Rattle.hart_c.proofs.hart_clear.Reads as hart-clear-reads
use Rattle.hart_c.proofs.hart_feed.Kinds as hart-feed-kinds
use Rattle.hart_c.proofs.hart_feed.Reads as hart-feed-reads

pub hart_clear : Determined 1 hart-clear-kinds.ps hart-clear-kinds.r hart-clear-reads.Post (λ κs x. x.0.now)
hart_clear κs a r s x y = agree_cleared

pub hart_feed : Determined 2 hart-feed-kinds.ps hart-feed-kinds.r hart-feed-reads.Post (λ κs x. tells 0 x.0.now x.1.0.now)
hart_feed κs a r s x y = agree_told
