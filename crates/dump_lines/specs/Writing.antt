-- The lines of the dump, written into a lent buffer.
use Rattle.std.specs.Prelude.{ℕ, cond, List, [], ltb, length}
use Rattle.refusal.specs.Outcome.{Outcome, wrote, refuses}
use Rattle.dump_lines.specs.Text.{line_max, end_line}

-- the last line at the front, or 2 where the longest line would not fit
unfoldable pub end_written : ℕ → ℕ → ℕ → List ℕ → Outcome
end_written bytes frames refusals buffer = cond (ltb (length buffer) line_max) (refuses 2 [] buffer) (wrote (end_line bytes frames refusals) buffer)
