use native.Mathlib.Omega.{arith}
use native.Mathlib.Numerals.{add-one}
use mathlib.Core.Path.{ap, sym, ◌∙◌}
use mathlib.Core.Bool.{Bool, ◌&&◌}
use lib.Dec.{eqb}
use lib.ListN.{get_or}
use Rattle.line.proofs.machine.Zeros.{zeros_turn}
use Rattle.framing.proofs.reachable.is_zero.Goals as goal

pub loop-byte-preserved : goal.loop-byte-preserved
loop-byte-preserved c =
    let l = c.loop-byte in
    let bs = c.args.bytes.now in
    rw add-one (ap (λ (t : Bool). t && eqb (get_or bs l.byte-index 0) 0) l.invariant ∙ sym (zeros_turn l.byte-index bs (omega arith)))
