-- A refusal by its test, and the tag by what the call unpacks.
use native.Mathlib.Omega.{arith}
use mathlib.Core.Path.{sym, ap, ◌∙◌}
use Rattle.framing.specs.Payload.{carries}
use Rattle.commands.specs.Tag.{reads_tag}
use Rattle.commands.proofs.read_unique_id_by_tag.Tags.{tag_read_short, tag_read_whole}
use Rattle.commands.proofs.read_unique_id_by_tag.read_tag.Goals as goal

pub returns-then-data-lt-TAG_SIZE : goal.returns-then-data-lt-TAG_SIZE
returns-then-data-lt-TAG_SIZE c = sym (tag_read_short c.args.mode c.args.«data».now (omega arith))

pub returns : goal.returns
returns c = ap (reads_tag carries) c.unpacked.ensures ∙ sym (tag_read_whole c.args.mode c.args.«data».now (omega arith))
