-- Two words, one behind the other.
use Rattle.dump_lines.proofs.Words.{joined_on}
use Rattle.dump_lines.proofs.dump_text.Writer.start.Goals as goal

pub returns-clause-writes : goal.returns-clause-writes
returns-clause-writes c = joined_on c.letter.ensures c.number.ensures.writes
