-- The address is read from as many bytes as it has, and the array lent to its writer comes back with it at the front.
use Prim.Native.Nat.{ℕ}
use native.Mathlib.Omega.{arith}
use mathlib.Core.Path.{◌≡◌, ap, sym, ◌∙◌}
use mathlib.Core.Bool.{Bool, true, cond}
use mathlib.Core.List.{List, [], ◌∷◌, ◌++◌}
use lib.ListN.{length, take, drop, replicate}
use lib.Seq.{take_at}
use borrow.Author.Tests.{le-ltb}
use Rattle.refusal.specs.declared.Refusal.{Refusal}
use Rattle.refusal.specs.Outcome.{Reply, ends, wrote}
use Rattle.types.specs.declared.address.Address.{Address}
use Rattle.std.specs.Prelude.{Result, Ok, Err}
use Rattle.types.specs.Address.{address_length, is_long, read_address, address_bytes, address_written, address_read, address_refused, read_of, decoded}
use Rattle.types.proofs.Addresses.{address_length_le, address_fits, length-address, read_taken, long_read}
use Rattle.line.specs.machine.Room.{decoder_room}
use Rattle.octets.specs.Figures.{hex}
use Rattle.dump_lines.proofs.Words.{reworded_on}
use Rattle.dump_lines.proofs.dump_text.Writer.address.Goals as goal

written_front : (a : Address) {r : Reply} {after : List ℕ} → ends r after ≡ address_written a (replicate (address_length true) 0) → take (address_length (is_long a)) after ≡ address_bytes a
written_front a {r} {after} e =
    let n = address_length (is_long a) in
    let f : ends r after ≡ wrote (address_bytes a) (replicate (address_length true) 0) = e ∙ address_fits a (replicate (address_length true) 0) (address_length_le (is_long a)) in
    let g : after ≡ address_bytes a ++ drop (length (address_bytes a)) (replicate (address_length true) 0) = cc in
    ap (take n) g ∙ take_at (address_bytes a) (drop (length (address_bytes a)) (replicate (address_length true) 0)) n (length-address a)

-- the bytes are enough, so that the address is read, from as many of them as it has
module _ (long : Bool) (bs : List ℕ) (size : length bs ≡ decoder_room) (r : Result (Address × ℕ) Refusal) (e : read_of r ≡ decoded long bs) where
  enough : read_of r ≡ address_read (read_address long bs) (address_length long)
  enough =
      e ∙ ap (λ (t : Bool). cond t (address_refused 3 []) (address_read (read_address long bs) (address_length long))) (le-ltb (length bs) (address_length long) (omega (arith, address_length_le long)))

  not_refused : (x : Refusal) → r ≡ Err x → ⊥
  not_refused x f =
      let g : read_of (Err x) ≡ address_read (read_address long bs) (address_length long) = sym (ap read_of f) ∙ enough in
      let z : ◌≡◌ {A = ℕ} 0 1 = cc in
      omega arith

  was_read : (a : Address) (used : ℕ) → r ≡ Ok (a, used) → a ≡ read_address long (take (address_length long) bs)
  was_read a used f =
      let g : address_read a used ≡ address_read (read_address long bs) (address_length long) = sym (ap read_of f) ∙ enough in
      let h : a ≡ read_address long bs = cc in
      h ∙ read_taken long bs

  was_used : (a : Address) (used : ℕ) → r ≡ Ok (a, used) → used ≡ address_length long
  was_used a used f = let g : address_read a used ≡ address_read (read_address long bs) (address_length long) = sym (ap read_of f) ∙ enough in cc

pub returns-in-Ok-clause-writes : goal.returns-in-Ok-clause-writes
returns-in-Ok-clause-writes c =
    let a = c.args in
    let d = c.decode in
    let k = c.in-Ok in
    let address : k.address ≡ read_address a.long (take (address_length a.long) a.bytes.now) = was_read a.long a.bytes.now (omega arith) d.result d.ensures k.address k.used k.is in
    let used : k.used ≡ address_length a.long = was_used a.long a.bytes.now (omega arith) d.result d.ensures k.address k.used k.is in
    let count : k.used ≡ address_length (is_long k.address) =
    omega (arith, ap (λ (x : Address). address_length (is_long x)) address, ap address_length (long_read a.long (take (address_length a.long) a.bytes.now))) in
    let text : hex (take k.used c.encode.new.buf) ≡ hex (address_bytes (read_address a.long (take (address_length a.long) a.bytes.now))) =
    ap hex (ap (λ (n : ℕ). take n c.encode.new.buf) count ∙ written_front k.address c.encode.ensures ∙ ap address_bytes address) in
    reworded_on (ap (λ (xs : List ℕ). xs ++ (a.mark ∷ [])) text) c.hex.ensures
