-- The loop's invariant: the first bytes stand in the buffer in hex.
use Rattle.std.proofs.Common.{◌≤◌, length, take}
use Rattle.octets.specs.Figures.{hex}
use Rattle.dump_lines.specs.Code.{WritesOn}
use Rattle.dump_lines.proofs.dump_text.Writer.hex.Given as goal

abbrev pub invariant-loop-byte : goal.invariant-loop-byte
invariant-loop-byte l = record { within : l.byte-index ≤ length l.bytes; writes : WritesOn l.initial.self (hex (take l.byte-index l.bytes)) l.self }
