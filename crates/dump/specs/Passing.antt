-- The dump as a listener: it goes on behind the bytes that were read, and says their lines.
use Rattle.std.specs.Prelude.{ℕ, List, refl}
use Rattle.std.proofs.Common.{ap}
use Rattle.dump_lines.specs.Lines.{fresh_dump, after, printed}
use Rattle.dump_lines.specs.declared.Dump.{Dump}
use Rattle.dump_lines.proofs.Along.{after_append, printed-append}
use Rattle.streams.specs.Passing.{GoesOn}
use Rattle.dump.specs.declared.Lines.{Lines}

abbrev pub lines_of : Dump → Lines
lines_of d = record { dump = d }

abbrev pub fresh_lines : Lines
fresh_lines = lines_of fresh_dump

-- the lines behind a run of bytes
abbrev pub lines_after : Lines → List ℕ → Lines
lines_after s bs = lines_of (after s.dump bs)

-- what they say along it
abbrev pub lines_said : Lines → List ℕ → List ℕ
lines_said s bs = printed s.dump bs

pub lines_go_on : GoesOn lines_after lines_said
lines_go_on = record {
  after_none = λ s. refl;
  said_none = λ s. refl;
  after_append = λ s bs cs. ap lines_of (after_append s.dump bs cs);
  said-append = λ s bs cs. printed-append s.dump bs cs;
}
