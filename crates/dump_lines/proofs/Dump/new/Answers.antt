-- `Dump::new` meets its contract.
use mathlib.Core.Path.{refl}
use Rattle.line.specs.machine.Feed.{blank}
use Rattle.dump_lines.proofs.Dump.new.Goals as goal

pub returns : goal.returns
unfolding blank
returns c = refl
