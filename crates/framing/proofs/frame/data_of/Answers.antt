-- The bytes are copied into zeros, to whose front they go.
use Prim.Native.Nat.{ℕ, ◌+◌, ◌-◌}
use native.Mathlib.Omega.{arith}
use mathlib.Core.Path.{◌≡◌, ap, ◌∙◌}
use lib.ListN.{take, drop, replicate, length-take}
use Rattle.octets.specs.Put.{put_if_fits}
use Rattle.types.specs.Address.{head_room}
use Rattle.line.specs.machine.Room.{data_room}
use Rattle.line.proofs.machine.Zeros.{copied_into_zeros}
use Rattle.framing.proofs.frame.data_of.Goals as goal

pub returns : goal.returns
returns c =
    let a = c.args in
    let behind = drop head_room a.bytes.now in
    let count : head_room + a.n - head_room ≡ a.n = omega arith in
    copied_into_zeros data_room (take a.n behind) (omega (arith, length-take a.n behind))
    (c.copy_into.ensures ∙ ap (λ (k : ℕ). put_if_fits (replicate data_room 0) 0 (take k behind)) count)
