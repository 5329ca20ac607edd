use Prim.Native.Nat.{ℕ, ◌<◌}
use native.Mathlib.Numerals.{add-one}
use native.Mathlib.Omega.{arith}
use mathlib.Core.Path.{ap, ◌∙◌}
use lib.ListN.{length, take, get_or}
use lib.Seq.{take-suc, length-take-le}
use Rattle.octets.proofs.Put.{put_turn}
use Rattle.host.proofs.records.write_data.Goals as goal

pub loop-i-preserved : goal.loop-i-preserved
loop-i-preserved c =
    let a = c.args in
    let s = a.data.now in
    let i = c.loop-i.i in
    let g : i < length s = omega arith in
    put_turn a.room.now a.at i (take i s) (get_or s i 0) c.loop-i.invariant (length-take-le i s (omega arith)) (omega arith) (ap (λ (k : ℕ). take k s) (add-one i) ∙ take-suc s i 0 g)
