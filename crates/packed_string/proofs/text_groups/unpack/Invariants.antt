-- The loop's invariant: the first g groups stand unpacked at the front of the buffer.
use mathlib.Core.Path.{◌≡◌}
use lib.ListN.{length}
use Rattle.octets.specs.Put.{put}
use Rattle.packed_string.specs.Groups.{unpacked}
use Rattle.packed_string.proofs.text_groups.unpack.Given as goal

abbrev pub invariant-loop-g : goal.invariant-loop-g
invariant-loop-g l = (l.dst ≡ put l.initial.dst 0 (unpacked l.mode l.src l.g)) × (length l.dst ≡ length l.initial.dst)
