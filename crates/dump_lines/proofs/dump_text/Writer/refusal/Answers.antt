-- A line for 4, a line for 5, and none for another refusal.
use Rattle.std.proofs.Common.{arith}
use mathlib.Core.Path.{◌≡◌, sym}
use mathlib.Core.List.{[]}
use Prim.Native.Nat.{ℕ}
use mathlib.Core.Logic.{◌≢◌}
use borrow.Author.Tests.{ne_eqb}
use Rattle.refusal.specs.declared.Refusal.{Refusal}
use Rattle.refusal.specs.Table.{number_of}
use Rattle.refusal.proofs.Cases.{not_four, not_five}
use Rattle.dump_lines.specs.Text.{refusal_line}
use Rattle.dump_lines.proofs.Words.{unwritten_on, joined_on, reworded_on}
use Rattle.dump_lines.proofs.dump_text.Writer.refusal.Goals as goal

-- neither 4 nor 5
no_line : (place : ℕ) (r : Refusal) → number_of r ≢ 4 → number_of r ≢ 5 → refusal_line place r ≡ []
unfolding refusal_line
no_line place r h k = rw (ne_eqb (number_of r) 4 h, ne_eqb (number_of r) 5 k)

pub returns-in-InvalidDelimiter : goal.returns-in-InvalidDelimiter
unfolding refusal_line
returns-in-InvalidDelimiter c =
    rw c.in-InvalidDelimiter.is (joined_on c.start.ensures.writes c.hex.ensures)

pub returns-in-ChecksumMismatch : goal.returns-in-ChecksumMismatch
unfolding refusal_line
returns-in-ChecksumMismatch c =
    rw c.in-ChecksumMismatch.is (joined_on c.start-in-ChecksumMismatch.ensures.writes (joined_on c.hex-in-ChecksumMismatch.ensures c.hex-in-ChecksumMismatch-2.ensures))

pub returns-in_default : goal.returns-in_default
returns-in_default c =
    let a = c.args in
    let d = c.in_default in
    reworded_on (sym (no_line a.place a.refusal (not_four a.refusal d.not-InvalidDelimiter) (not_five a.refusal d.not-ChecksumMismatch))) (unwritten_on a.self.now (omega arith))
