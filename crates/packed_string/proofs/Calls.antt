-- What each call comes to, for the number of groups that the caller knows of: callers cite these laws and not the definitions' text.
use Prim.Native.Nat.{ℕ}
use mathlib.Core.Path.{◌≡◌, ap}
use mathlib.Core.List.{List}
use Rattle.refusal.specs.Outcome.{wrote}
use Rattle.packed_string.specs.declared.text_group.Mode.TheVariants.{Crate}
use Rattle.packed_string.specs.Groups.{packed, unpacked, packed_count, unpacked_count}
use Rattle.packed_string.specs.Text.{crate_packed, crate_unpacked}

pub crate_packs : (text buffer : List ℕ) {n : ℕ} → packed_count text buffer ≡ n → crate_packed text buffer ≡ wrote (packed Crate text n) buffer
unfolding crate_packed
crate_packs text buffer e = ap (λ (k : ℕ). wrote (packed Crate text k) buffer) e

pub crate_unpacks : (bytes buffer : List ℕ) {n : ℕ} → unpacked_count bytes buffer ≡ n → crate_unpacked bytes buffer ≡ wrote (unpacked Crate bytes n) buffer
unfolding crate_unpacked
crate_unpacks bytes buffer e = ap (λ (k : ℕ). wrote (unpacked Crate bytes k) buffer) e
