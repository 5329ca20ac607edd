-- Each promise of this crate leaves one outcome: one answer, and one content of each lent buffer.
use Rattle.refusal.specs.Determined.{Determined}
use Rattle.host.specs.Block.{tells}
use Rattle.host.proofs.Known.{agree_told, agree_cleared}
use Rattle.host.proofs.feed.clear_block.Kinds as clear-block-kinds
use Rattle.host.proofs.feed.clear_block.Reads as clear-block-reads
use Rattle.host.proofs.feed.feed_block.Kinds as feed-block-kinds
use Rattle.host.proofs.feed.feed_block.Reads as feed-block-reads

pub clear_block : Determined 1 clear-block-kinds.ps clear-block-kinds.r clear-block-reads.Post (λ κs x. x.0.now)
clear_block κs a r s x y = agree_cleared

pub feed_block : Determined 2 feed-block-kinds.ps feed-block-kinds.r feed-block-reads.Post (λ κs x. tells 0 x.0.now x.1.0.now)
feed_block κs a r s x y = agree_told
