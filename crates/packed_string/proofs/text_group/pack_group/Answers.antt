-- Each byte, as the code works it out, is a digit of the number that the codes make.
use native.Mathlib.Omega.{arith}
use mathlib.Core.Path.{sym, ap, ◌∙◌}
use lib.ListN.{get_or}
use lib.Dec.{lit<}
use Rattle.octets.proofs.Bases.{below_at}
use Rattle.packed_string.specs.Group.{pack_group}
use Rattle.packed_string.proofs.Group.{four, pack_group_lem}
use Rattle.packed_string.proofs.text_group.pack_group.Goals as goal

pub returns : goal.returns
returns c =
    let g = c.args.group in
    pack_group_lem (get_or g 0 0) (get_or g 1 0) (get_or g 2 0) (get_or g 3 0) (below_at 64 g c.requires (lit< tt) 0) (below_at 64 g c.requires (lit< tt) 1) (below_at 64 g c.requires (lit< tt) 2) (below_at 64 g c.requires (lit< tt) 3)
    ∙ ap pack_group (sym (four g (omega (arith, c.well_formed.0))))
