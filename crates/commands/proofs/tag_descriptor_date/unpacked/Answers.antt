-- The characters fill the array of spaces.
use native.Mathlib.Omega.{arith}
use mathlib.Core.Path.{ap, ◌∙◌}
use lib.ListN.{replicate}
use Rattle.packed_string.proofs.Texts.{left_by, unpacks_full}
use Rattle.commands.proofs.tag_descriptor_date.unpacked.Goals as goal

pub returns : goal.returns
returns g c =
    let a = c.args in
    ap left_by (c.decode_in.ensures ∙ unpacks_full a.mode a.packed.now (replicate g.row.N 0x20) (omega arith) (omega arith))
