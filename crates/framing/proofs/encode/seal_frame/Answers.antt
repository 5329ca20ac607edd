-- The check behind the bytes that it is of, where it has room.
use Prim.Native.Nat.{ℕ, ◌-◌}
use native.Mathlib.Omega.{arith}
use mathlib.Core.Path.{sym, ap, ◌∙◌}
use mathlib.Core.List.{[], ◌∷◌}
use lib.ListN.{take, drop, set}
use borrow.Author.Tests.{lt-ltb, le-ltb}
use Rattle.octets.specs.Check.{check}
use Rattle.octets.proofs.Put.{set_is_put, put_fitting, put_misfit}
use Rattle.framing.specs.Code.{sealed}
use Rattle.framing.proofs.encode.seal_frame.Goals as goal

pub returns-then-to-from : goal.returns-then-to-from
unfolding sealed
returns-then-to-from c = rw (lt-ltb _ _ c.if-to-from.true)

pub returns-then-buf-to : goal.returns-then-buf-to
unfolding sealed
returns-then-buf-to c =
    let a = c.args in
    let l = a.buf.now in
    rw (le-ltb _ _ c.if-to-from.false) (sym (put_misfit l a.to (check (take (a.to - a.from) (drop a.from l)) ∷ []) (omega arith)))

pub returns : goal.returns
unfolding sealed
returns c =
    let a = c.args in
    let l = a.buf.now in
    let k = check (take (a.to - a.from) (drop a.from l)) in
    rw (le-ltb _ _ c.if-to-from.false)
    (ap (λ (v : ℕ). set l a.to v) c.checksum_from.ensures ∙ set_is_put l a.to k (omega arith) ∙ sym (put_fitting l a.to (k ∷ []) (omega arith)))
