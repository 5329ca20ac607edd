use native.Mathlib.Omega.{arith}
use mathlib.Core.Path.{refl, ◌∙◌}
use Rattle.octets.proofs.Parts.{parts_start}
use Rattle.packed_string.specs.Groups.{unpacked_group}
use Rattle.packed_string.proofs.Groups.{group_turn, unpacked_sized}
use Rattle.packed_string.proofs.text_groups.unpack.Goals as goal

pub loop-g-init : goal.loop-g-init
loop-g-init c =
    let a = c.args in (parts_start (unpacked_group a.mode a.src.now) a.dst.now, refl)

pub loop-g-preserved : goal.loop-g-preserved
loop-g-preserved c =
    let a = c.args in
    let m = a.mode in
    let s = a.src.now in
    let w = c.copy_into in (
      group_turn (unpacked_group m s) 4 (unpacked_sized m s) a.dst.now c.loop-g.g c.loop-g.invariant.0 c.unpacked_at.ensures w.ensures (omega arith),
      w.auto.dst ∙ c.loop-g.invariant.1,
    )
