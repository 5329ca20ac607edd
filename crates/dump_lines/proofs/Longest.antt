-- No line is longer than the room that is asked for one.
use Prim.Native.Nat.{ℕ, ◌*◌, ◌^◌, ◌≤◌, ◌<◌}
use native.Mathlib.Omega.{arith}
use mathlib.Core.Bool.{Bool, true}
use mathlib.Core.List.{List, [], ◌∷◌}
use lib.ListN.{length, length-append}
use Rattle.refusal.specs.declared.Refusal.TheVariants.{InvalidDelimiter, ChecksumMismatch}
use Rattle.octets.proofs.Decimals.{length-decimal, length-decimal_byte, length-hex}
use Rattle.types.specs.Address.{address_length, read_address, address_bytes, is_long}
use Rattle.types.proofs.Addresses.{address_length_le, length-address}
use Rattle.line.specs.Layout.{Wire, address_of, most_data, Fits}
use Rattle.dump_lines.specs.Text.{address_text, data_text, frame_line, refusal_line, end_line, line_max}

address_longest : (long : Bool) (bs : List ℕ) → length (address_text long bs) ≤ 2 * address_length true
address_longest long bs =
    let a = read_address long bs in
    omega (arith, length-hex (address_bytes a), length-address a, address_length_le (is_long a))

data_longest : (bs : List ℕ) → length bs ≤ most_data → length (data_text bs) ≤ 2 * most_data
data_longest [] h = omega arith
data_longest (b ∷ bs) h = omega (arith, length-hex (b ∷ bs))

module _ (place : ℕ) (small : place < 2 ^ 64) where
  pub frame_longest : (w : Wire) → Fits w → w.command < 256 → length (frame_line place w) ≤ line_max
  unfolding frame_line
  frame_longest w f k =
      simp length-append (omega (arith, length-decimal place small, address_longest w.opening.is_long (address_of w), length-decimal_byte w.command k, data_longest w.payload f.count_fits))

  pub delimiter_longest : (b : ℕ) → length (refusal_line place (InvalidDelimiter b)) ≤ line_max
  unfolding refusal_line
  delimiter_longest b = simp length-append (omega (arith, length-decimal place small))

  pub check_longest : (x y : ℕ) → length (refusal_line place (ChecksumMismatch x y)) ≤ line_max
  unfolding refusal_line
  check_longest x y = simp length-append (omega (arith, length-decimal place small))

pub end_longest : (b f r : ℕ) → b < 2 ^ 64 → f < 2 ^ 64 → r < 2 ^ 64 → length (end_line b f r) ≤ line_max
unfolding end_line
end_longest b f r hb hf hr = simp length-append (omega (arith, length-decimal b hb, length-decimal f hf, length-decimal r hr))
