-- The bytes of a read stand behind all before. An answer that brings bytes is the last one only where not all was taken.
use Rattle.std.proofs.Common.{◌∙◌, eq-eqb}
use borrow.Author.Tests.{lt-ltb}
use Rattle.octets.proofs.Tests.{both_ways}
use Rattle.streams.proofs.Passing.{behind_more}
use Rattle.streams.proofs.listen.Goals as goal

pub returns-then-not-goes_on : goal.returns-then-not-goes_on
returns-then-not-goes_on g c =
    record {
      behind = behind_more g.met.L.Listener.goes_on c.loop-i.invariant.behind c.read_on-got.ensures.passes_on;
      stopped = λ n brings more all. both_ways (c.goes_on.ensures n brings ∙ rw (lt-ltb 0 n more, eq-eqb _ _ all)) c.if-not-goes_on.true;
    }
