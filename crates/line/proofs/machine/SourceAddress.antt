-- The Rust's lines that read an address say what document 01 says of its bits.
use Prim.Native.Nat.{ℕ, ◌+◌, ◌*◌, ◌^◌, ◌≤◌, ◌<◌}
use native.Mathlib.Omega.{arith}
use mathlib.Core.Path.{◌≡◌, refl, ap, ◌∙◌}
use mathlib.Core.Bool.{Bool, true, false, cond}
use mathlib.Core.List.{List, [], ◌∷◌}
use lib.Bits.{bit_and, bit_or, and_mask, or_shifted}
use lib.Dec.{ltb, lit<}
use lib.ListN.{length, get_or}
use borrow.Author.Tests.{eq-eqb, ne_eqb, lt-ltb, le-ltb, ltb-true, ltb-false}
use Rattle.octets.specs.Digits.{from_digits}
use Rattle.octets.proofs.Bases.{below_at}
use Rattle.types.specs.declared.first.MasterRole.TheVariants.{Primary, Secondary}
use Rattle.types.specs.declared.address.Address.TheVariants.{Short, Long}
use Rattle.types.specs.First.{master_of}
use Rattle.types.specs.Address.{address_length, short_address, read_address, address_read, address_refused, decoded}
use Rattle.line.specs.Pieces.{Bytes}
use Rattle.types.specs.StatusSource.{has_bit}
use Rattle.types.proofs.StatusSource.{masked_bit}
use Rattle.line.specs.machine.Source.{ok_address, source_master, source_address, reading_of}

master_same : (b : ℕ) → source_master b ≡ master_of b
master_same b = ap (λ (t : Bool). cond t Primary Secondary) (masked_bit 7 b)

number_same : (high middle low : ℕ) → middle < 256 → low < 256 → bit_or (bit_or (high * 2 ^ 16) (middle * 2 ^ 8)) low ≡ from_digits 256 (high ∷ middle ∷ low ∷ [])
number_same high middle low h k =
    let e : bit_or (high * 2 ^ 16) (middle * 2 ^ 8) ≡ (high * 256 + middle) * 2 ^ 8 = or_shifted high 16 (middle * 2 ^ 8) (omega arith) ∙ omega arith in
    ap (λ (x : ℕ). bit_or x low) e ∙ or_shifted (high * 256 + middle) 8 low k ∙ omega arith

-- whatever the number of bytes
short_same : (first : ℕ) → Short (source_master first) (has_bit first 0x40) (bit_and first 0x0F) ≡ short_address first
short_same first = rw (master_same first, masked_bit 6 first, and_mask first 4)

long_same : (ad : List ℕ) → Bytes ad
    → Long (source_master (get_or ad 0 0)) (has_bit (get_or ad 0 0) 0x40) (bit_and (get_or ad 0 0) 0x3F) (get_or ad 1 0) (bit_or (bit_or (get_or ad 2 0 * 2 ^ 16) (get_or ad 3 0 * 2 ^ 8)) (get_or ad 4 0)) ≡ read_address true ad
long_same ad k =
    rw (
      master_same (get_or ad 0 0),
      masked_bit 6 (get_or ad 0 0),
      and_mask (get_or ad 0 0) 6,
      number_same (get_or ad 2 0) (get_or ad 3 0) (get_or ad 4 0) (below_at 256 ad k (lit< tt) 3) (below_at 256 ad k (lit< tt) 4),
    )

pub address_whole_same : (ad : List ℕ) (long : Bool) → address_length long ≤ length ad → Bytes ad → source_address ad long ≡ ok_address (read_address long ad) (address_length long)
address_whole_same ad false n k = rw (ne_eqb (length ad) 0 (omega (arith, n)), short_same (get_or ad 0 0))
address_whole_same ad true n k = rw (le-ltb (length ad) (address_length true) n, long_same ad k)

pub address_same : (ad : List ℕ) (long : Bool) → Bytes ad → reading_of (source_address ad long) ≡ decoded long ad
address_same ad long k = by (ltb (length ad) (address_length long)) refl
  where
    too_short : (l : Bool) → length ad < address_length l → reading_of (source_address ad l) ≡ address_refused 3 []
    too_short true h = rw (lt-ltb (length ad) (address_length true) h)
    too_short false h = rw (eq-eqb (length ad) 0 (omega (arith, h)))

    by : (y : Bool) → ltb (length ad) (address_length long) ≡ y → reading_of (source_address ad long) ≡ cond y (address_refused 3 []) (address_read (read_address long ad) (address_length long))
    by true e = too_short long (ltb-true (length ad) (address_length long) e)
    by false e = ap reading_of (address_whole_same ad long (ltb-false (length ad) (address_length long) e) k)
