use Prim.Native.Nat.{◌≤◌}
use native.Mathlib.Nat.{pow-le-pow_right}
use native.Mathlib.Omega.{arith}
use Rattle.host.proofs.load.header_in.Goals as goal

pub overflow_mul-header : goal.overflow_mul-header
overflow_mul-header c =
    let few : c.loop-byte.byte-index ≤ 5 = omega arith in
    omega (arith, pow-le-pow_right {n = 256} (omega arith) few)
