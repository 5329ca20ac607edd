-- Document 01, 'Wire layout': the two highest bits of an address's first byte.
use Rattle.std.specs.Prelude.{ℕ, Bool, true, false, cond}
use Rattle.octets.specs.Bit.{bit}
use Rattle.types.specs.declared.first.MasterRole.{MasterRole}
use Rattle.types.specs.declared.first.MasterRole.TheVariants.{Primary, Secondary}

-- bit 7 of the first byte
abbrev pub master_of : ℕ → MasterRole
master_of first = cond (bit 7 first) Primary Secondary

-- bits 7 and 6 of the first byte as they are written
abbrev pub master_bit : MasterRole → ℕ
master_bit Primary = 0x80
master_bit Secondary = 0

abbrev pub burst_bit : Bool → ℕ
burst_bit false = 0
burst_bit true = 0x40
