-- The loop's invariant: the first i bytes stand in the room from place `at` on.
use mathlib.Core.Path.{◌≡◌}
use lib.ListN.{take}
use Rattle.octets.specs.Put.{put}
use Rattle.host.proofs.records.write_data.Given as goal

abbrev pub invariant-loop-i : goal.invariant-loop-i
invariant-loop-i l = l.room ≡ put l.initial.room l.at (take l.i l.data)
