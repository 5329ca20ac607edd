-- The contents are copied into zeros, to whose front they go.
use Prim.Native.Nat.{ℕ}
use mathlib.Core.Path.{ap}
use mathlib.Core.List.{List}
use lib.ListN.{length}
use Rattle.line.proofs.machine.Zeros.{copied_into_zeros}
use Rattle.response.specs.Sizes.{field_room}
use Rattle.response.proofs.field.field_of.Goals as goal

pub returns : goal.returns
returns c =
    let a = c.args in
    let cs = a.contents.now in
    ap (λ (bs : List ℕ). record { kind = a.kind; bytes = bs; length = length cs }) (copied_into_zeros field_room cs c.requires c.copy_into.ensures)
