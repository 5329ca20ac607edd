-- A turn passes on bytes behind those so far.
use Rattle.std.proofs.Common.{◌≡◌, ◌-◌, ℕ, List, length, take, drop, arith, ap, length-drop}
use lib.Seq.{take_all}
use Rattle.streams.proofs.Passing.{passes_more}
use Rattle.streams.proofs.pass_all.Goals as goal

pub loop-used-preserved : goal.loop-used-preserved
loop-used-preserved g c =
    let l = c.loop-used in
    let p = c.pass_some-passed in
    let rest : List ℕ = drop l.used c.args.bytes.now in
    let all : take (length c.args.bytes.now - l.used) rest ≡ rest = take_all (length c.args.bytes.now - l.used) rest (omega (arith, length-drop l.used c.args.bytes.now)) in
    record {
      few = omega (arith, l.invariant.few, p.ensures.asked_in_bounds, p.ensures.used_nonzero);
      passes_on = passes_more g.met.L.Listener.goes_on l.invariant.passes_on p.ensures.passes_on (ap (take p.result.used) all) (omega (arith, p.ensures.passes_on.within, ap length all, length-drop l.used c.args.bytes.now, l.invariant.passes_on.within));
    }
