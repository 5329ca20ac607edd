-- The loop's invariant: the number is that of the bytes that were read, and has no more digits than they are.
use Rattle.std.proofs.Common.{◌≡◌, ◌<◌, ◌^◌, take}
use Rattle.octets.specs.Digits.{from_digits}
use Rattle.host.proofs.load.header_in.Given as goal

abbrev pub invariant-loop-byte : goal.invariant-loop-byte
invariant-loop-byte l = record { read : l.header ≡ from_digits 256 (take l.byte-index l.block); small : l.header < 256 ^ l.byte-index }
