-- What a call comes to has one number, one block and one room.
use Prim.Native.Nat.{ℕ}
use mathlib.Core.Path.{◌≡◌, ap₂}
use mathlib.Core.List.{List}
use Rattle.host.specs.Block.{Told, tells, Cleared, clears}

pub agree_told : {r s : ℕ} {b c l m : List ℕ} {o : Told} → tells r b l ≡ o → tells s c m ≡ o → (r ≡ s) × (tells 0 b l ≡ tells 0 c m)
agree_told {r} {s} {b} {c} {l} {m} p q =
    let block : b ≡ c = cc in
    let room : l ≡ m = cc in
    (cc, ap₂ (tells 0) block room)

pub agree_cleared : {r s : ℕ} {b c : List ℕ} {o : Cleared} → clears r b ≡ o → clears s c ≡ o → (r ≡ s) × (b ≡ c)
agree_cleared p q = (cc, cc)
