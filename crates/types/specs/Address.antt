-- Document 01, 'Wire layout': what the bytes of an address say, and the bytes that say an address.
use Rattle.std.specs.Prelude.{ℕ, ◌+◌, ◌%◌, ◌^◌, ◌≤◌, ◌<◌, Bool, true, false, cond, List, [], ◌∷◌, length, get_or, ltb, Result, Ok, Err}
use Rattle.refusal.specs.declared.Refusal.{Refusal}
use Rattle.refusal.specs.Table.{number_of, values_of}
use Rattle.refusal.specs.Outcome.{Outcome, wrote, refuses}
use Rattle.octets.specs.Digits.{from_digits, digits}
use Rattle.octets.specs.Bit.{bit}
use Rattle.types.specs.First.{master_of, master_bit, burst_bit}
use Rattle.types.specs.declared.delimiter.Opening.{Opening}
use Rattle.types.specs.declared.first.MasterRole.{MasterRole}
use Rattle.types.specs.declared.address.Address.{Address}
use Rattle.types.specs.declared.address.Address.TheVariants.{Short, Long}

-- bytes of a short and of a long one
abbrev pub address_length : Bool → ℕ
address_length false = 1
address_length true = 5

-- bytes between the delimiter and the command: those of the address; and room for as many as any frame has there
abbrev pub head_length : Opening → ℕ
head_length o = address_length o.is_long

abbrev pub head_room : ℕ
head_room = address_length true

-- bit 6 burst; the low 4 bits are the polling address, and bits 5 and 4 say nothing
abbrev pub short_address : ℕ → Address
short_address first = Short (master_of first) (bit 6 first) (first % 16)

-- the low 6 bits are the manufacturer; then the device type, and the device number in three bytes
abbrev pub long_address : ℕ → ℕ → ℕ → ℕ → ℕ → Address
long_address first device high middle low = Long (master_of first) (bit 6 first) (first % 64) device (from_digits 256 (high ∷ middle ∷ low ∷ []))

abbrev pub read_address : Bool → List ℕ → Address
read_address false bs = short_address (get_or bs 0 0)
read_address true bs = long_address (get_or bs 0 0) (get_or bs 1 0) (get_or bs 2 0) (get_or bs 3 0) (get_or bs 4 0)

abbrev pub is_long : Address → Bool
is_long (Short master burst polling) = false
is_long (Long master burst manufacturer device number) = true

-- what reading an address comes to: the address and the bytes it took, or a refusal's number and values
pub data AddressReading : Type 0 where
  address_read : Address → ℕ → AddressReading
  address_refused : ℕ → List ℕ → AddressReading

abbrev pub read_of : Result (Address × ℕ) Refusal → AddressReading
read_of (Ok (address, used)) = address_read address used
read_of (Err r) = address_refused (number_of r) (values_of r)

-- 3 if there are fewer bytes than the address has; bytes past it are ignored
abbrev pub decoded : Bool → List ℕ → AddressReading
decoded long bs = cond (ltb (length bs) (address_length long)) (address_refused 3 []) (address_read (read_address long bs) (address_length long))

-- the two bits over a field of the lower ones
abbrev pub first_byte : MasterRole → Bool → ℕ → ℕ
first_byte master burst low = master_bit master + burst_bit burst + low

abbrev pub long_bytes : ℕ → ℕ → ℕ → List ℕ
long_bytes first device number = first ∷ device ∷ digits 256 3 number

-- the bytes of an address: each field keeps the bits that the line has for it, and bits 5 and 4 of a short one are zero
unfoldable pub address_bytes : Address → List ℕ
address_bytes (Short master burst polling) = first_byte master burst (polling % 16) ∷ []
address_bytes (Long master burst manufacturer device number) = long_bytes (first_byte master burst (manufacturer % 64)) device number

-- 2 if the buffer has fewer bytes than the address
unfoldable pub address_written : Address → List ℕ → Outcome
address_written a buffer = cond (ltb (length buffer) (address_length (is_long a))) (refuses 2 [] buffer) (wrote (address_bytes a) buffer)

-- each field fits its bits, so that nothing is dropped
abbrev pub Limited : Address → Type 0
Limited (Short master burst polling) = polling ≤ 15
Limited (Long master burst manufacturer device number) = (manufacturer ≤ 63) × (number < 2 ^ 24)

-- each number is in the range of its type
abbrev pub Ranged : Address → Type 0
Ranged (Short master burst polling) = polling < 256
Ranged (Long master burst manufacturer device number) = (manufacturer < 256) × (device < 256) × (number < 2 ^ 32)
