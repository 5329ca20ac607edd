use Prim.Native.Nat.{ℕ, ◌%◌, ◌≤◌}
use mathlib.Core.Path.{◌≡◌, refl, sym, ap, ◌∙◌}
use mathlib.Core.Bool.{Bool, true}
use mathlib.Core.List.{List, [], ◌∷◌}
use lib.Bits.{bit_and, and_mask}
use lib.ListN.{length, set}
use Rattle.refusal.specs.Outcome.{done, ends}
use Rattle.octets.specs.Put.{put, put_if_fits}
use Rattle.octets.proofs.Put.{set_is_put, put_fitting, put-wrote}
use Rattle.types.specs.declared.first.MasterRole.{MasterRole}
use Rattle.types.specs.declared.address.Address.TheVariants.{Short, Long}
use Rattle.types.specs.Address.{address_length, first_byte, long_bytes, address_bytes, address_written}
use Rattle.types.proofs.Addresses.{address_fits, address_refused_lem}
use Rattle.types.proofs.address.Address.encode.Goals as goal

-- what stands in the buffer when a short address is stored, and when a long one is written
short_stored : (m : MasterRole) (b : Bool) (p : ℕ) (buffer : List ℕ) {v : ℕ} → v ≡ first_byte m b (bit_and p 15) → 1 ≤ length buffer
    → ends (done (1 ∷ [])) (set buffer 0 v) ≡ address_written (Short m b p) buffer
unfolding address_bytes
short_stored m b p buffer {v} e h =
    let f : v ≡ first_byte m b (p % 16) = e ∙ ap (first_byte m b) (and_mask p 4) in
    put-wrote buffer (address_bytes (Short m b p)) (set_is_put buffer 0 v h ∙ ap (λ (x : ℕ). put buffer 0 (x ∷ [])) f) refl
    ∙ sym (address_fits (Short m b p) buffer h)

long_stored : (m : MasterRole) (b : Bool) (f t n : ℕ) (buffer : List ℕ) {v : ℕ} {after : List ℕ} → v ≡ first_byte m b (bit_and f 63) → after ≡ put buffer 0 (long_bytes v t n) → address_length true ≤ length buffer
    → ends (done (address_length true ∷ [])) after ≡ address_written (Long m b f t n) buffer
unfolding address_bytes
long_stored m b f t n buffer {v} {after} e w h =
    let g : v ≡ first_byte m b (f % 64) = e ∙ ap (first_byte m b) (and_mask f 6) in
    put-wrote buffer (address_bytes (Long m b f t n)) (w ∙ ap (λ (x : ℕ). put buffer 0 (long_bytes x t n)) g) refl
    ∙ sym (address_fits (Long m b f t n) buffer h)

pub returns-then-buf-lt-SHORT_ADDRESS_LENGTH : goal.returns-then-buf-lt-SHORT_ADDRESS_LENGTH
returns-then-buf-lt-SHORT_ADDRESS_LENGTH c = let a = c.args in sym (address_refused_lem a.self a.buf.now (rw c.in-Short.is c.if-buf-lt-SHORT_ADDRESS_LENGTH.true))

pub returns-then-buf-lt-LONG_ADDRESS_LENGTH : goal.returns-then-buf-lt-LONG_ADDRESS_LENGTH
returns-then-buf-lt-LONG_ADDRESS_LENGTH c = let a = c.args in sym (address_refused_lem a.self a.buf.now (rw c.in-Long.is c.if-buf-lt-LONG_ADDRESS_LENGTH.true))

pub returns-else-buf-lt-SHORT_ADDRESS_LENGTH : goal.returns-else-buf-lt-SHORT_ADDRESS_LENGTH
returns-else-buf-lt-SHORT_ADDRESS_LENGTH c =
    let a = c.args in
    rw c.in-Short.is (short_stored _ _ _ a.buf.now c.first_byte.ensures c.if-buf-lt-SHORT_ADDRESS_LENGTH.false)

pub returns-else-buf-lt-LONG_ADDRESS_LENGTH : goal.returns-else-buf-lt-LONG_ADDRESS_LENGTH
returns-else-buf-lt-LONG_ADDRESS_LENGTH c =
    let a = c.args in
    rw c.in-Long.is (long_stored _ _ _ _ _ a.buf.now c.first_byte-first.ensures (c.copy_into.ensures ∙ ap (put_if_fits a.buf.now 0) c.long_bytes.ensures ∙ put_fitting a.buf.now 0 _ c.if-buf-lt-LONG_ADDRESS_LENGTH.false) c.if-buf-lt-LONG_ADDRESS_LENGTH.false)
