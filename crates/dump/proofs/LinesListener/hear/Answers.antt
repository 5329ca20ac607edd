-- What the library took and wrote.
use Rattle.std.proofs.Common.{arith}
use Rattle.dump.proofs.Passing.{take_hears}
use Rattle.dump.proofs.LinesListener.hear.Goals as goal

pub returns : goal.returns
returns c =
    let a = c.args in
    let t = c.take-taken in
    take_hears a.self.now.dump a.bytes.now a.out.now t.ensures.value t.ensures.dump_after t.ensures.out_after (omega arith) (omega arith) (omega arith)
