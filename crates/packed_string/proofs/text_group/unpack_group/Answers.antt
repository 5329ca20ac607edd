-- Each code, as the code works it out, is a digit of the number that the bytes make.
use native.Mathlib.Omega.{arith}
use mathlib.Core.Path.{sym, ap, ◌∙◌}
use lib.ListN.{get_or}
use Rattle.packed_string.specs.Group.{unpack_group}
use Rattle.packed_string.proofs.Group.{three, unpack_group_lem}
use Rattle.packed_string.proofs.text_group.unpack_group.Goals as goal

pub returns : goal.returns
returns c =
    let g = c.args.group in
    unpack_group_lem (get_or g 0 0) (get_or g 1 0) (get_or g 2 0) (omega arith) (omega arith) (omega arith) ∙ ap unpack_group (sym (three g (omega (arith, c.well_formed.0))))
