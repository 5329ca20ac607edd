-- `settle` meets its contract: a piece that is over leaves a new decoder.
use Prim.Native.Nat.{ℕ}
use mathlib.Core.Path.{◌≡◌, sym, ap, ◌∙◌}
use lib.ListN.{replicate, drop}
use Rattle.std.proofs.Common.{rules}
use Rattle.line.specs.machine.Feed.{settled_by}
use Rattle.host.specs.Block.{header_size, block_of}
use Rattle.host.proofs.Blocks.{block_fresh, record_told}
use Rattle.host.proofs.feed.settle.Goals as goal
use Rattle.host.proofs.feed.settle.Goals.{in_default-via-in-Ok+in_default, in_default-via-in_default}

pub returns-in_default : goal.returns-in_default
returns-in_default c =
    let a = c.args in
    let bs = drop header_size a.block.now in
    let cleared = c.fill.ensures ∙ ap (λ (n : ℕ). replicate n 0) c.told-block ∙ sym block_fresh in
    let new : c.fill.new.dst ≡ block_of (settled_by a.moved.ended a.moved.state bs).0 =
    elim c.in_default.branch [ in_default-via-in-Ok+in_default w ↦ search rules | in_default-via-in_default w ↦ rw w.in_default.is cleared ] in
    record_told a.moved.ended a.moved.state bs a.room.now c.write_record-length.ensures new
