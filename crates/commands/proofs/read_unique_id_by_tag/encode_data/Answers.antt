-- A refusal by its test, and the rest by what the call made of the part that it was lent.
use native.Mathlib.Omega.{arith}
use mathlib.Core.Path.{sym}
use Rattle.commands.proofs.read_unique_id_by_tag.Tags.{tag_small, tag_lent}
use Rattle.commands.proofs.read_unique_id_by_tag.encode_data.Goals as goal

pub returns-then-buf-lt-TAG_SIZE : goal.returns-then-buf-lt-TAG_SIZE
returns-then-buf-lt-TAG_SIZE c = let a = c.args in sym (tag_small a.mode a.tag a.buf.now (omega arith))

pub returns : goal.returns
returns c = let a = c.args in tag_lent a.mode a.tag a.buf.now (omega arith) (omega arith) c.encode_in.ensures
