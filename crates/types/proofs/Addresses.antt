-- Addresses written: how many bytes, that they are bytes, and that an address comes back from them exactly if it is within its limits.
use Prim.Native.Nat.{ℕ, ◌+◌, ◌-◌, ◌/◌, ◌%◌, ◌^◌, ◌≤◌, ◌<◌}
use native.Mathlib.Omega.{arith}
use native.Mathlib.Nat.{mod-eq_of_lt}
use mathlib.Core.Path.{◌≡◌, refl, sym, ap, ◌∙◌}
use mathlib.Core.Bool.{Bool, true, false, cond}
use mathlib.Core.List.{List, [], ◌∷◌, ◌++◌, append-nil}
use lib.Dec.{lit<, lit≤}
use lib.ListN.{length, get_or, take, drop, length-append, length-drop}
use lib.Seq.{get_or-take, length-take-le, take-take}
use borrow.Author.Tests.{eq-eqb, ne_eqb, lt-ltb, le-ltb}
use borrow.Rule.Slice.PartMut.{mid_of, put_mid}
use Rattle.refusal.specs.Outcome.{Reply, ends, wrote, refuses}
use Rattle.octets.specs.Bit.{bit}
use Rattle.octets.specs.Digits.{Below}
use Rattle.octets.specs.Put.{put}
use Rattle.octets.proofs.Bases.{from_digits_lem, digits_below}
use Rattle.octets.proofs.Put.{lent_put}
use Rattle.types.specs.declared.delimiter.Opening.{Opening}
use Rattle.types.specs.declared.first.MasterRole.{MasterRole}
use Rattle.types.specs.declared.first.MasterRole.TheVariants.{Primary, Secondary}
use Rattle.types.specs.First.{master_of, master_bit, burst_bit}
use Rattle.types.specs.declared.address.Address.{Address}
use Rattle.types.specs.declared.address.Address.TheVariants.{Short, Long}
use Rattle.types.specs.Address.{
  address_length,
  head_length,
  head_room,
  read_address,
  is_long,
  address_read,
  address_refused,
  decoded,
  first_byte,
  address_bytes,
  address_written,
  Limited,
  Ranged,
}

pub address_length_le : (long : Bool) → address_length long ≤ address_length true
address_length_le false = lit≤ tt
address_length_le true = lit≤ tt

-- a frame has something between its delimiter and its command, and never more than there is room for
pub head_some : (o : Opening) → 0 < head_length o
head_some o = by o.is_long
  where
    by : (long : Bool) → 0 < address_length long
    by false = lit< tt
    by true = lit< tt

pub head_length_le : (o : Opening) → head_length o ≤ head_room
head_length_le o = address_length_le o.is_long

pub master_bit_le : (m : MasterRole) → master_bit m ≤ 128
master_bit_le Primary = lit≤ tt
master_bit_le Secondary = lit≤ tt

pub burst_bit_le : (b : Bool) → burst_bit b ≤ 64
burst_bit_le false = lit≤ tt
burst_bit_le true = lit≤ tt

-- what a buffer has room for is written, and what it has none for is refused
module _ (a : Address) (buffer : List ℕ) where
  pub address_fits : address_length (is_long a) ≤ length buffer → address_written a buffer ≡ wrote (address_bytes a) buffer
  unfolding address_written
  address_fits h = ap (λ (t : Bool). cond t (refuses 2 [] buffer) (wrote (address_bytes a) buffer)) (le-ltb (length buffer) (address_length (is_long a)) h)

  pub address_refused_lem : length buffer < address_length (is_long a) → address_written a buffer ≡ refuses 2 [] buffer
  unfolding address_written
  address_refused_lem h = ap (λ (t : Bool). cond t (refuses 2 [] buffer) (wrote (address_bytes a) buffer)) (lt-ltb (length buffer) (address_length (is_long a)) h)

pub length-address : (a : Address) → length (address_bytes a) ≡ address_length (is_long a)
unfolding address_bytes
length-address (Short m b p) = refl
length-address (Long m b f t n) = refl

-- the part of a buffer from a place on, lent to the writer of an address that fits there
pub lent_address : (a : Address) (l : List ℕ) (at : ℕ) {r : Reply} {part : List ℕ} → at + address_length (is_long a) ≤ length l → ends r part ≡ address_written a (mid_of at (length l - at) l)
    → put_mid at (length l - at) l part ≡ put l at (address_bytes a)
lent_address a l at {r} {part} h e =
    let mid = mid_of at (length l - at) l in
    let room : length l - at ≤ length mid = omega (arith, length-take-le (length l - at) (drop at l) (omega (arith, length-drop at l))) in
    let f : ends r part ≡ wrote (address_bytes a) mid = e ∙ address_fits a mid (omega arith) in
    let g : part ≡ address_bytes a ++ drop (length (address_bytes a)) mid = cc in
    lent_put l at (address_bytes a) (omega (arith, length-address a)) g

-- the first byte, read
module _ (low : ℕ) (small : low < 64) where
  first_below : (m : MasterRole) (b : Bool) → first_byte m b low < 256
  first_below m b = omega (arith, master_bit_le m, burst_bit_le b)

  first_master : (m : MasterRole) (b : Bool) → master_of (first_byte m b low) ≡ m
  first_master Primary false = rw (eq-eqb ((128 + low) / 128 % 2) 1 (omega arith))
  first_master Primary true = rw (eq-eqb ((192 + low) / 128 % 2) 1 (omega arith))
  first_master Secondary false = rw (ne_eqb ((0 + low) / 128 % 2) 1 (omega arith))
  first_master Secondary true = rw (ne_eqb ((64 + low) / 128 % 2) 1 (omega arith))

  first_burst : (m : MasterRole) (b : Bool) → bit 6 (first_byte m b low) ≡ b
  first_burst Primary false = ne_eqb ((128 + low) / 64 % 2) 1 (omega arith)
  first_burst Primary true = eq-eqb ((192 + low) / 64 % 2) 1 (omega arith)
  first_burst Secondary false = ne_eqb ((0 + low) / 64 % 2) 1 (omega arith)
  first_burst Secondary true = eq-eqb ((64 + low) / 64 % 2) 1 (omega arith)

  first_low : (m : MasterRole) (b : Bool) → first_byte m b low % 64 ≡ low
  first_low Primary false = omega arith
  first_low Primary true = omega arith
  first_low Secondary false = omega arith
  first_low Secondary true = omega arith

pub address_bytes_below : (a : Address) → Ranged a → Below 256 (address_bytes a)
unfolding address_bytes
address_bytes_below (Short m b p) r = (first_below (p % 16) (omega arith) m b, tt)
address_bytes_below (Long m b f t n) r = (first_below (f % 64) (omega arith) m b, (r.1, digits_below 256 3 n (lit< tt)))

-- an address without the bits that are dropped
abbrev kept : Address → Address
kept (Short m b p) = Short m b (p % 16)
kept (Long m b f t n) = Long m b (f % 64) t (n % 2 ^ 24)

back : (a : Address) (rest : List ℕ) → read_address (is_long a) (address_bytes a ++ rest) ≡ kept a
unfolding address_bytes
back (Short m b p) rest =
    let low : p % 16 < 64 = omega arith in
    let q : first_byte m b (p % 16) % 16 ≡ p % 16 = omega (arith, first_low (p % 16) low m b) in
    rw (first_master (p % 16) low m b, first_burst (p % 16) low m b, q)
back (Long m b f t n) rest =
    let low : f % 64 < 64 = omega arith in
    rw (first_master (f % 64) low m b, first_burst (f % 64) low m b, first_low (f % 64) low m b, from_digits_lem 256 3 n (lit< tt))

kept_limited : (a : Address) → Limited a → kept a ≡ a
kept_limited (Short m b p) h = ap (Short m b) (omega arith)
kept_limited (Long m b f t n) h = let e : f % 64 ≡ f = omega arith in rw (e, mod-eq_of_lt h.1)

limited_kept : (a : Address) → kept a ≡ a → Limited a
limited_kept (Short m b p) e = let q : p % 16 ≡ p = cc in omega arith
limited_kept (Long m b f t n) e = let q : f % 64 ≡ f = cc in let r : n % 2 ^ 24 ≡ n = cc in (omega arith, omega arith)

-- written and then read, whatever stands behind: the same address comes back if it is within its limits, and only then
module _ (a : Address) (rest : List ℕ) where
  read_kept : decoded (is_long a) (address_bytes a ++ rest) ≡ address_read (kept a) (address_length (is_long a))
  read_kept =
      let bs = address_bytes a ++ rest in
      let n = address_length (is_long a) in
      ap (λ (t : Bool). cond t (address_refused 3 []) (address_read (read_address (is_long a) bs) n)) (le-ltb (length bs) n (omega (arith, length-append (address_bytes a) rest, length-address a)))
      ∙ ap (λ (x : Address). address_read x n) (back a rest)

  pub written_read : Limited a → decoded (is_long a) (address_bytes a ++ rest) ≡ address_read a (address_length (is_long a))
  written_read h = read_kept ∙ ap (λ (x : Address). address_read x (address_length (is_long a))) (kept_limited a h)

  pub read_limited : decoded (is_long a) (address_bytes a ++ rest) ≡ address_read a (address_length (is_long a)) → Limited a
  read_limited e = let both : address_read (kept a) (address_length (is_long a)) ≡ address_read a (address_length (is_long a)) = sym read_kept ∙ e in limited_kept a (cc)

-- the same of the bytes alone
pub address_back : (a : Address) → Limited a → read_address (is_long a) (address_bytes a) ≡ a
address_back a h = ap (read_address (is_long a)) (sym (append-nil (address_bytes a))) ∙ back a [] ∙ kept_limited a h

-- reading looks at the first byte, or at all five
pub read_taken : (long : Bool) (bs : List ℕ) → read_address long bs ≡ read_address long (take (address_length long) bs)
read_taken false bs = rw (get_or-take (address_length false) bs 0 0 (omega arith))
read_taken true bs =
    let n = address_length true in
    rw (get_or-take n bs 0 0 (omega arith), get_or-take n bs 1 0 (omega arith), get_or-take n bs 2 0 (omega arith), get_or-take n bs 3 0 (omega arith), get_or-take n bs 4 0 (omega arith))

-- so five bytes that were taken out one by one will do
pub address_taken : (long : Bool) (bs : List ℕ) → read_address long (get_or bs 0 0 ∷ get_or bs 1 0 ∷ get_or bs 2 0 ∷ get_or bs 3 0 ∷ get_or bs 4 0 ∷ []) ≡ read_address long (take (address_length long) bs)
address_taken false bs = read_taken false bs
address_taken true bs = read_taken true bs

-- the address comes first of what stands between delimiter and command
address_in_head : (o : Opening) → address_length o.is_long ≤ head_length o
address_in_head o = omega arith

pub address_first : (o : Opening) (bs : List ℕ) → take (address_length o.is_long) (take (head_length o) bs) ≡ take (address_length o.is_long) bs
address_first o bs = take-take (address_length o.is_long) (head_length o) bs (address_in_head o)

pub long_read : (long : Bool) (bs : List ℕ) → is_long (read_address long bs) ≡ long
long_read false bs = refl
long_read true bs = refl
