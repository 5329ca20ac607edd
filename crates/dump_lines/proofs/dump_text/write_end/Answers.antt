-- Four words, one behind the other.
use Rattle.std.proofs.Common.{arith, rules}
use borrow.Author.Tests.{lt-ltb, le-ltb}
use Rattle.octets.proofs.Put.{put-wrote}
use Rattle.dump_lines.specs.Text.{end_line, line_max}
use Rattle.dump_lines.specs.Writing.{end_written}
use Rattle.dump_lines.proofs.Words.{joined_on, writes}
use Rattle.dump_lines.proofs.dump_text.write_end.Goals as goal

pub returns-then-out-lt-LINE_MAX : goal.returns-then-out-lt-LINE_MAX
unfolding end_written
returns-then-out-lt-LINE_MAX c = rw (lt-ltb _ line_max c.if-out-lt-LINE_MAX.true)

pub returns : goal.returns
unfolding end_line end_written
returns c =
    let a = c.args in
    let w = writes (joined_on c.word.ensures (joined_on c.number.ensures.writes (joined_on c.number-2.ensures.writes c.number-3.ensures.writes))) in
    let said = put-wrote a.out.now (end_line a.totals.bytes a.totals.frames a.totals.refusals) {b = c.number-3.new.self.out.now} {n = c.number-3.new.self.at} w.content (omega (arith, w.place)) in
    rw (le-ltb _ line_max c.if-out-lt-LINE_MAX.false) (search (rules, said))
