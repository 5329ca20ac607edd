-- What `pack` puts and counts in crate mode.
use mathlib.Core.Path.{refl, sym, ◌∙◌}
use Rattle.packed_string.specs.declared.text_group.Mode.TheVariants.{Crate}
use Rattle.packed_string.specs.Groups.{packed_count}
use Rattle.packed_string.proofs.Groups.{packed_wrote}
use Rattle.packed_string.proofs.Calls.{crate_packs}
use Rattle.packed_string.proofs.encode_packed.Goals as goal

pub returns : goal.returns
returns c =
    let a = c.args in
    let s = a.src.now in
    let d = a.dst.now in
    let p = c.pack in packed_wrote Crate s d (packed_count s d) p.ensures.0 p.ensures.1 ∙ sym (crate_packs s d refl)
