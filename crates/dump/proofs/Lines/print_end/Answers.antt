-- The buffer has room for the last line, which is handed over whole.
use Rattle.std.proofs.Common.{arith}
use Rattle.dump_lines.proofs.Words.{end_within}
use Rattle.dump.proofs.Passing.{end_never, end_passes}
use Rattle.dump.proofs.Lines.print_end.Goals as goal

pub shared_ref_as_front-print : goal.shared_ref_as_front-print
shared_ref_as_front-print g c =
    let a = c.args in
    let t = a.self.now.dump.totals in
    omega (arith, end_within t.bytes t.frames t.refusals a.out.now c.in-Ok.ensures c.end.auto.out)

pub returns-in-Ok : goal.returns-in-Ok
returns-in-Ok g c =
    let a = c.args in
    end_passes a.self.now.dump a.out.now (omega arith) c.in-Ok.ensures c.print.ensures.0 c.print.ensures.1

pub returns-in-Err : goal.returns-in-Err
returns-in-Err g c = let a = c.args in absurd (end_never a.self.now.dump a.out.now (omega arith) c.in-Err.ensures)
