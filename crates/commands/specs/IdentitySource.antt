-- commands/mod.rs written down: its 24-bit numbers and its identity, with the Rust's own operators and names, in its order, to be held
-- beside it. What stops a debug build stops here: an index or a range outside a slice.
use Rattle.std.specs.Prelude.{ℕ, cond, List, [], length, ltb}
use Rattle.std.specs.Int.Bits.{bit_and, bit_or}
use Rattle.refusal.specs.Outcome.{Outcome, ends, done}
use Rattle.octets.specs.Source.{Run, comes, read_at, slice_at, store_at, shift_left, shift_right, as_u8}
use Rattle.commands.specs.Identity.{Identified, identified, unidentified}

-- `decode_u24_be`, with the rest of the call
abbrev pub source_decoded_u24 : {A : Type 0} → List ℕ → (ℕ → Run A) → Run A
source_decoded_u24 «data» rest =
    read_at «data» 0 (λ b0. read_at «data» 1 (λ b1. read_at «data» 2 (λ b2. rest (bit_or (bit_or (shift_left 32 b0 16) (shift_left 32 b1 8)) b2))))

-- `encode_u24_be`, which gives nothing back
abbrev pub source_encoded_u24 : ℕ → List ℕ → Run Outcome
source_encoded_u24 value buf =
    store_at buf 0 (as_u8 (bit_and (shift_right value 16) 0xFF)) (λ buf₁.
    store_at buf₁ 1 (as_u8 (bit_and (shift_right value 8) 0xFF)) (λ buf₂.
    store_at buf₂ 2 (as_u8 (bit_and value 0xFF)) (λ buf₃. comes (ends (done []) buf₃))))

-- `DeviceIdentity::decode`
abbrev pub source_identity : List ℕ → Run Identified
source_identity «data» =
    cond (ltb (length «data») 12) (comes (unidentified 3 []))
    (read_at «data» 7 (λ hw-raw.
    read_at «data» 0 (λ expansion.
    read_at «data» 1 (λ type-high. read_at «data» 2 (λ type-low.
    read_at «data» 3 (λ preambles.
    read_at «data» 4 (λ hart.
    read_at «data» 5 (λ device.
    read_at «data» 6 (λ software.
    read_at «data» 8 (λ flag.
    slice_at «data» 9 12 (λ part. source_decoded_u24 part (λ number.
    comes (identified record {
      expansion_code = expansion;
      expanded_device_type = bit_or (shift_left 16 type-high 8) type-low;
      min_preamble_count = preambles;
      hart_revision = hart;
      device_revision = device;
      software_revision = software;
      hardware_revision = shift_right hw-raw 3;
      physical_signaling = bit_and hw-raw 0x07;
      flags = flag;
      device_id = number;
    })))))))))))))
