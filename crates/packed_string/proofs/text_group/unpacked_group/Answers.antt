-- Three bytes make four codes below 64, which is what `character` asks of each.
use Prim.Native.Nat.{ℕ, ◌<◌}
use mathlib.Core.Path.{◌≡◌}
use mathlib.Core.List.{List}
use lib.Dec.{lit<}
use lib.ListN.{get_or}
use Rattle.octets.proofs.Bases.{below_at}
use Rattle.packed_string.specs.Group.{unpack_group}
use Rattle.packed_string.proofs.Group.{unpacked_below}
use Rattle.packed_string.proofs.text_group.unpacked_group.Goals as goal

each_below : (bytes : List ℕ) {codes : List ℕ} → codes ≡ unpack_group bytes → (i : ℕ) → get_or codes i 0 < 64
each_below bytes e i = rw e (below_at 64 (unpack_group bytes) (unpacked_below bytes) (lit< tt) i)

pub character-requires : goal.character-requires
character-requires c = each_below _ c.unpack_group.ensures 0

pub character-requires-2 : goal.character-requires-2
character-requires-2 c = each_below _ c.unpack_group.ensures 1

pub character-requires-3 : goal.character-requires-3
character-requires-3 c = each_below _ c.unpack_group.ensures 2

pub character-requires-4 : goal.character-requires-4
character-requires-4 c = each_below _ c.unpack_group.ensures 3
