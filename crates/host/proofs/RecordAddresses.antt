-- A record's address is as we write it.
use Prim.Native.Nat.{ℕ, ◌/◌, ◌%◌}
use native.Mathlib.Omega.{arith}
use mathlib.Core.Path.{◌≡◌}
use mathlib.Core.Bool.{Bool, true, false}
use lib.ListN.{get_or, take}
use Rattle.types.specs.declared.first.MasterRole.{MasterRole}
use Rattle.types.specs.declared.first.MasterRole.TheVariants.{Primary, Secondary}
use Rattle.types.specs.First.{master_of}
use Rattle.octets.specs.Bit.{bit}
use Rattle.types.specs.Address.{address_length, first_byte, address_bytes}
use Rattle.line.specs.Layout.{Wire}
use Rattle.host.specs.Record.{frame_record}

low_only : (m : MasterRole) (b : Bool) (low : ℕ) → first_byte m b (low % 16) / 16 % 4 ≡ 0
low_only Primary false low = omega arith
low_only Primary true low = omega arith
low_only Secondary false low = omega arith
low_only Secondary true low = omega arith

-- in a record the two bits above a polling address are clear, though a line may set them
pub short_bits_clear : (w : Wire) → w.opening.is_long ≡ false → get_or (frame_record w) 1 0 / 16 % 4 ≡ 0
unfolding address_bytes
short_bits_clear w e =
    let first = get_or (take (address_length false) w.heading) 0 0 in
    rw e (low_only (master_of first) (bit 6 first) (first % 16))
