-- A line's bytes are refused with 4 and 5 alone, so those who write such a refusal take these two cases and pass over the others. What is
-- left then, whatever other refusals there are, is known here and nowhere else.
use Prim.Native.Nat.{ℕ, ◌≤◌}
use native.Mathlib.Omega.{arith}
use mathlib.Core.Logic.{◌≢◌}
use mathlib.Core.Path.{◌≡◌, refl}
use mathlib.Core.List.{List, [], ◌∷◌}
use lib.ListN.{length}
use Rattle.refusal.specs.declared.Refusal.{Refusal}
use Rattle.refusal.specs.declared.Refusal.TheVariants.{
  DataTooLong,
  BufferTooSmall,
  BufferTooShort,
  InvalidDelimiter,
  ChecksumMismatch,
  WrongFrame,
  BadCharacter,
  BadState,
  CommError,
  ResponseCode,
}
use Rattle.refusal.specs.Table.{number_of, values_of}

pub not_four : (r : Refusal) → ((b : ℕ) → r ≡ InvalidDelimiter b → ⊥) → number_of r ≢ 4
not_four DataTooLong h e = omega arith
not_four BufferTooSmall h e = omega arith
not_four BufferTooShort h e = omega arith
not_four (InvalidDelimiter b) h e = absurd (h b refl)
not_four (ChecksumMismatch x y) h e = omega arith
not_four WrongFrame h e = omega arith
not_four (BadCharacter p) h e = omega arith
not_four BadState h e = omega arith
not_four (CommError b) h e = omega arith
not_four (ResponseCode c) h e = omega arith

pub not_five : (r : Refusal) → ((x y : ℕ) → r ≡ ChecksumMismatch x y → ⊥) → number_of r ≢ 5
not_five DataTooLong h e = omega arith
not_five BufferTooSmall h e = omega arith
not_five BufferTooShort h e = omega arith
not_five (InvalidDelimiter b) h e = omega arith
not_five (ChecksumMismatch x y) h e = absurd (h x y refl)
not_five WrongFrame h e = omega arith
not_five (BadCharacter p) h e = omega arith
not_five BadState h e = omega arith
not_five (CommError b) h e = omega arith
not_five (ResponseCode c) h e = omega arith

-- none carries more than two values
pub values_few : (r : Refusal) → length (values_of r) ≤ 2
values_few DataTooLong = omega arith
values_few BufferTooSmall = omega arith
values_few BufferTooShort = omega arith
values_few (InvalidDelimiter b) = omega arith
values_few (ChecksumMismatch x y) = omega arith
values_few WrongFrame = omega arith
values_few (BadCharacter p) = omega arith
values_few BadState = omega arith
values_few (CommError b) = omega arith
values_few (ResponseCode c) = omega arith
