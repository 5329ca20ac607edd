-- What `unpack` puts and counts in crate mode.
use mathlib.Core.Path.{refl, sym, ◌∙◌}
use Rattle.packed_string.specs.declared.text_group.Mode.TheVariants.{Crate}
use Rattle.packed_string.specs.Groups.{unpacked_count}
use Rattle.packed_string.proofs.Groups.{unpacked_wrote}
use Rattle.packed_string.proofs.Calls.{crate_unpacks}
use Rattle.packed_string.proofs.decode_packed.Goals as goal

pub returns : goal.returns
returns c =
    let a = c.args in
    let s = a.src.now in
    let d = a.dst.now in
    let p = c.unpack in unpacked_wrote Crate s d (unpacked_count s d) p.ensures.0 p.ensures.1 ∙ sym (crate_unpacks s d refl)
