-- `write_address` meets its contract.
use Prim.Native.Nat.{ℕ, ◌+◌, ◌-◌, ◌≤◌}
use native.Mathlib.Omega.{arith}
use mathlib.Core.Path.{◌≡◌, ap, ◌∙◌}
use lib.ListN.{length}
use mathlib.Core.List.{List}
use borrow.Rule.Slice.PartMut.{mid_of, put_mid}
use Rattle.refusal.specs.Outcome.{Reply, ends}
use Rattle.octets.specs.Put.{put}
use Rattle.types.specs.Address.{is_long, address_length, address_bytes, address_written}
use Rattle.types.specs.declared.address.Address.{Address}
use Rattle.types.proofs.Addresses.{lent_address, address_length_le}
use Rattle.host.proofs.records.write_address.Goals as goal

laid : (a : Address) (l : List ℕ) (n : ℕ) → n ≡ length l - 1 → 1 + address_length (is_long a) ≤ length l → {r : Reply} {part : List ℕ} → ends r part ≡ address_written a (mid_of 1 n l) → put_mid 1 n l part ≡ put l 1 (address_bytes a)
laid a l n e h {r} {part} w =
    let there : ends r part ≡ address_written a (mid_of 1 (length l - 1) l) = w ∙ ap (λ (k : ℕ). address_written a (mid_of 1 k l)) e in
    ap (λ (k : ℕ). put_mid 1 k l part) e ∙ lent_address a l 1 h there

pub returns : goal.returns
returns c =
    let a = c.args in
    let fits : 1 + address_length (is_long a.address) ≤ length a.room.now = omega (arith, address_length_le (is_long a.address)) in
    let room : 262 ≡ length a.room.now - 1 = omega arith in
    laid a.address a.room.now 262 room fits c.encode.ensures
