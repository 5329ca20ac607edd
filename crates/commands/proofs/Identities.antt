-- What reading an identity comes to, case by case, and that its ten fields hold just its bytes.
use Prim.Native.Nat.{ℕ, ◌+◌, ◌*◌, ◌/◌, ◌%◌, ◌^◌, ◌≤◌, ◌<◌}
use native.Mathlib.Omega.{arith}
use mathlib.Core.Path.{◌≡◌, sym, ap, ap₂, ◌∙◌}
use mathlib.Core.List.{List, [], ◌∷◌, ◌++◌}
use lib.ListN.{length, get_or, take}
use lib.Dec.{lit<}
use borrow.Author.Tests.{lt-ltb, le-ltb}
use Rattle.octets.specs.Digits.{Below, digits, from_digits}
use Rattle.octets.proofs.Bases.{below_at, digits_from, from_digits_lem, from_digits_whole}
use Rattle.octets.proofs.Places.{taken}
use Rattle.commands.specs.declared.identity.DeviceIdentity.{DeviceIdentity}
use Rattle.commands.specs.Identity.{identity_at, identity_bytes, IdentityLimited, lowered, lowered_bytes, identified, unidentified, identity}
use Rattle.response.specs.Sizes.{identity_size}

module _ (bs : List ℕ) where
  pub identity_short : length bs < identity_size → identity bs ≡ unidentified 3 []
  unfolding identity
  identity_short h = rw (lt-ltb (length bs) identity_size h)

  pub identity_whole : identity_size ≤ length bs → identity bs ≡ identified (identity_at bs)
  unfolding identity
  identity_whole h = rw (le-ltb (length bs) identity_size h)

-- an identity by the three fields that are computed from more than one byte or from part of one
abbrev pub identity_with : List ℕ → ℕ → ℕ → ℕ → DeviceIdentity
identity_with bs type signalling number = record {
  expansion_code = get_or bs 0 0;
  expanded_device_type = type;
  min_preamble_count = get_or bs 3 0;
  hart_revision = get_or bs 4 0;
  device_revision = get_or bs 5 0;
  software_revision = get_or bs 6 0;
  hardware_revision = get_or bs 7 0 / 8;
  physical_signaling = signalling;
  flags = get_or bs 8 0;
  device_id = number;
}

module _ (bs : List ℕ) {type signalling number : ℕ} (t : type ≡ from_digits 256 (get_or bs 1 0 ∷ get_or bs 2 0 ∷ [])) (g : signalling ≡ get_or bs 7 0 % 8)
    (n : number ≡ from_digits 256 (get_or bs 9 0 ∷ get_or bs 10 0 ∷ get_or bs 11 0 ∷ [])) where
  pub identity_fields_lem : identity_with bs type signalling number ≡ identity_at bs
  identity_fields_lem =
      ap (λ (x : ℕ). identity_with bs x signalling number) t ∙ ap₂ (λ (x y : ℕ). identity_with bs (from_digits 256 (get_or bs 1 0 ∷ get_or bs 2 0 ∷ [])) x y) g n

  pub identity_made : identity_size ≤ length bs → identified (identity_with bs type signalling number) ≡ identity bs
  identity_made h = ap identified identity_fields_lem ∙ sym (identity_whole bs h)

-- the fields' bytes are the bytes that were read: nothing of them is lost
pub identity_back : (bs : List ℕ) → Below 256 bs → identity_size ≤ length bs → identity_bytes (identity_at bs) ≡ take identity_size bs
identity_back bs b h =
    let at : ℕ → ℕ = λ i. get_or bs i 0 in
    let byte : (i : ℕ) → at i < 256 = below_at 256 bs b (lit< tt) in
    let type : digits 256 2 (from_digits 256 (at 1 ∷ at 2 ∷ [])) ≡ at 1 ∷ at 2 ∷ [] = digits_from 256 (at 1 ∷ at 2 ∷ []) (byte 1, (byte 2, tt)) in
    let number : digits 256 3 (from_digits 256 (at 9 ∷ at 10 ∷ at 11 ∷ [])) ≡ at 9 ∷ at 10 ∷ at 11 ∷ [] = digits_from 256 (at 9 ∷ at 10 ∷ at 11 ∷ []) (byte 9, (byte 10, (byte 11, tt))) in
    let shared : at 7 / 8 * 8 + at 7 % 8 ≡ at 7 = omega arith in
    ap₂ (λ (x y : List ℕ). (at 0 ∷ x) ++ (at 3 ∷ at 4 ∷ at 5 ∷ at 6 ∷ []) ++ ((at 7 / 8 * 8 + at 7 % 8) ∷ at 8 ∷ y)) type number
    ∙ ap (λ (x : ℕ). at 0 ∷ at 1 ∷ at 2 ∷ at 3 ∷ at 4 ∷ at 5 ∷ at 6 ∷ x ∷ at 8 ∷ at 9 ∷ at 10 ∷ at 11 ∷ []) shared
    ∙ sym (taken bs 0 0 identity_size h)

-- an identity by its numbers that have fewer bits on the line than in the struct, or parts of bytes
abbrev with_numbers : DeviceIdentity → ℕ → ℕ → ℕ → ℕ → DeviceIdentity
with_numbers i type hardware signalling number = record {
  expansion_code = i.expansion_code;
  expanded_device_type = type;
  min_preamble_count = i.min_preamble_count;
  hart_revision = i.hart_revision;
  device_revision = i.device_revision;
  software_revision = i.software_revision;
  hardware_revision = hardware;
  physical_signaling = signalling;
  flags = i.flags;
  device_id = number;
}

-- of any identity, what comes back from its bytes is lowered
pub identity_lowered : (i : DeviceIdentity) (rest : List ℕ) → identity_at (lowered_bytes i ++ rest) ≡ lowered i
identity_lowered i rest =
    let byte = i.hardware_revision % 32 * 8 + i.physical_signaling % 8 in
    let high : byte / 8 ≡ i.hardware_revision % 32 = omega arith in
    let low : byte % 8 ≡ i.physical_signaling % 8 = omega arith in
    ap₂ (λ (x y : ℕ). with_numbers i x (byte / 8) (byte % 8) y) (from_digits_lem 256 2 i.expanded_device_type (lit< tt)) (from_digits_lem 256 3 i.device_id (lit< tt))
    ∙ ap₂ (λ (x y : ℕ). with_numbers i (i.expanded_device_type % 2 ^ 16) x y (i.device_id % 2 ^ 24)) high low

-- and an identity each of whose numbers its bits can hold is no lower
pub lowered_same : (i : DeviceIdentity) → IdentityLimited i → lowered i ≡ i
lowered_same i (t, h, g, n) =
    let type : i.expanded_device_type % 2 ^ 16 ≡ i.expanded_device_type = omega arith in
    let hardware : i.hardware_revision % 2 ^ 5 ≡ i.hardware_revision = omega arith in
    let signalling : i.physical_signaling % 2 ^ 3 ≡ i.physical_signaling = omega arith in
    let number : i.device_id % 2 ^ 24 ≡ i.device_id = omega arith in
    ap₂ (λ (x y : ℕ). with_numbers i x y (i.physical_signaling % 2 ^ 3) (i.device_id % 2 ^ 24)) type hardware
    ∙ ap₂ (λ (x y : ℕ). with_numbers i i.expanded_device_type i.hardware_revision x y) signalling number

-- the fields come back from their bytes, where each is one that its bits can hold
pub fields_back : (i : DeviceIdentity) (rest : List ℕ) → IdentityLimited i → identity_at (identity_bytes i ++ rest) ≡ i
fields_back i rest (t, h, g, n) =
    let made : ℕ → ℕ → ℕ → ℕ → DeviceIdentity = λ type hardware signalling number. record {
      expansion_code = i.expansion_code;
      expanded_device_type = type;
      min_preamble_count = i.min_preamble_count;
      hart_revision = i.hart_revision;
      device_revision = i.device_revision;
      software_revision = i.software_revision;
      hardware_revision = hardware;
      physical_signaling = signalling;
      flags = i.flags;
      device_id = number;
    } in
    let byte = i.hardware_revision * 8 + i.physical_signaling in
    let high : byte / 8 ≡ i.hardware_revision = omega arith in
    let low : byte % 8 ≡ i.physical_signaling = omega arith in
    ap₂ (λ (x y : ℕ). made x (byte / 8) (byte % 8) y) (from_digits_whole 256 2 i.expanded_device_type (lit< tt) t) (from_digits_whole 256 3 i.device_id (lit< tt) n)
    ∙ ap₂ (λ (x y : ℕ). made i.expanded_device_type x y i.device_id) high low
