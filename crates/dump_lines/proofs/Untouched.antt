-- Document 01, 'What comes back': a refused call writes nothing.
use Prim.Native.Nat.{ℕ}
use mathlib.Core.List.{[]}
use lib.Dec.{ltb}
use lib.ListN.{length}
use Rattle.refusal.specs.Outcome.{Untouched}
use Rattle.refusal.proofs.Untouched.{untouched_refuses, untouched_wrote, untouched_either}
use Rattle.dump_lines.specs.Text.{line_max, end_line}
use Rattle.dump_lines.specs.Writing.{end_written}

pub end_untouched : (bytes frames refusals : ℕ) → Untouched (end_written bytes frames refusals)
unfolding end_written
end_untouched bytes frames refusals =
    untouched_either (λ buffer. ltb (length buffer) line_max) (untouched_refuses 2 []) (untouched_wrote (end_line bytes frames refusals))
