-- `is_right` meets its contract.
use Prim.Native.Nat.{◌+◌, ◌-◌, ◌*◌, ◌/◌}
use native.Mathlib.Omega.{arith}
use mathlib.Core.Path.{◌≡◌, sym, ap, ◌∙◌}
use lib.Bits.{bit_xor}
use lib.Dec.{eqb}
use lib.ListN.{take, drop}
use lib.Seq.{take-add}
use Rattle.octets.specs.Check.{check_from}
use Rattle.octets.proofs.Check.{check-append}
use Rattle.framing.proofs.Strides.{stride, odd, check_strides}
use Rattle.framing.proofs.reachable.is_right.Goals as goal

pub returns : goal.returns
returns c =
    let a = c.args in
    let q = a.claim in
    let bs = a.bytes.now in
    let strides = (q.loaded / stride + 1) * stride in
    let start = bit_xor (bit_xor q.start q.command) q.count in
    let first : c.checksum_from-odd.result ≡ check_from start (take odd bs) = c.checksum_from-odd.ensures in
    let count : odd + strides - odd ≡ strides = omega arith in
    let second : c.checksum_from.result ≡ check_from start (take (odd + strides) bs) =
    rw (count, first) at c.checksum_from.ensures ∙ sym (check-append start (take odd bs) (take strides (drop odd bs))) ∙ ap (check_from start) (sym (take-add odd strides bs)) in
    λ clear. ap (eqb q.check) (second ∙ check_strides q bs (odd + strides) c.requires.0 (omega arith) clear)
