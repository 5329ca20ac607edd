-- Exclusive ors of several numbers: neither their order nor their grouping (`xor_assoc` of std) matters.
use Prim.Native.Nat.{ℕ}
use mathlib.Core.Path.{◌≡◌, sym, ap, ◌∙◌}
use Rattle.std.specs.Int.Bits.{bit_xor, xor_assoc, xor_comm}

pub xor_swap : (x a b : ℕ) → bit_xor (bit_xor x a) b ≡ bit_xor (bit_xor x b) a
xor_swap x a b = xor_assoc x a b ∙ ap (bit_xor x) (xor_comm a b) ∙ sym (xor_assoc x b a)
