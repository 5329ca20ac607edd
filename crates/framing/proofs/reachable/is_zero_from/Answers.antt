-- `is_zero_from` meets its contract.
use Prim.Native.Nat.{◌+◌, ◌-◌, ◌*◌, ◌/◌, ◌≤◌}
use native.Mathlib.Omega.{arith}
use mathlib.Core.Path.{◌≡◌, sym, ap, ap₂, ◌∙◌}
use mathlib.Core.Bool.{Bool, ◌&&◌}
use lib.ListN.{length, take, drop}
use lib.Seq.{drop-drop}
use borrow.Author.Rules.{part_to_end}
use Rattle.line.specs.machine.Reachable.{all_zero}
use Rattle.framing.proofs.Strides.{stride, zeros_overlap}
use Rattle.framing.proofs.reachable.is_zero_from.Goals as goal

pub returns : goal.returns
returns c =
    let a = c.args in
    let bs = a.bytes.now in
    let whole = length bs - (length bs - a.from) / stride * stride in
    let behind = whole - a.from in
    let count : a.from + stride - a.from ≡ stride = omega arith in
    let place : a.from + behind ≡ whole = omega (arith, c.requires) in
    let near : behind ≤ stride = omega (arith, c.requires) in
    let first : c.is_zero-first.result ≡ all_zero (take stride (drop a.from bs)) = rw count at c.is_zero-first.ensures in
    let rest : c.is_zero-rest.result ≡ all_zero (drop behind (drop a.from bs)) =
    c.is_zero-rest.ensures ∙ ap all_zero (part_to_end bs whole ∙ sym (drop-drop behind a.from bs ∙ rw place)) in
    ap₂ (λ (x y : Bool). x && y) first rest ∙ zeros_overlap behind stride (drop a.from bs) near
