-- `is_reachable` meets its contract.
use Prim.Native.Nat.{ℕ, ◌+◌, ◌-◌, ◌≤◌}
use native.Mathlib.Omega.{arith}
use mathlib.Core.Path.{◌≡◌, refl, sym, ap, ap₂, ◌∙◌}
use mathlib.Core.Bool.{Bool, true, false, ◌&&◌, cond}
use mathlib.Core.List.{List}
use lib.ListN.{length, take, drop}
use lib.Seq.{length-take-le, take-add, drop_at, drop-drop}
use borrow.Author.Tests.{eq-eqb, ne_eqb}
use Rattle.types.specs.Address.{head_room}
use Rattle.line.specs.machine.Room.{decoder_room}
use Rattle.line.specs.machine.Reachable.{counts_possible, claim_of, possible_claim, all_zero, is_clear, is_right, reachable_at}
use Rattle.line.specs.declared.state.State.{State}
use Rattle.std.specs.Prelude.{Option, Some, None}
use Rattle.line.specs.declared.claim.Claim.{Claim}
use Rattle.line.proofs.machine.Claims.{possible_address}
use Rattle.framing.proofs.reachable.is_reachable.Goals as goal

-- a part from a place up to another
part_front : (a e : ℕ) (l : List ℕ) → a ≤ e → e ≤ length l → take (e - a) (drop a l) ≡ drop a (take e l)
part_front a e l h k =
    let to : a + (e - a) ≡ e = omega arith in
    sym (ap (λ (n : ℕ). drop a (take n l)) (sym to) ∙ ap (drop a) (take-add a (e - a) l) ∙ drop_at (take a l) (take (e - a) (drop a l)) a (length-take-le a l (omega arith)))

and_under : (a b c : Bool) → (a ≡ true → b ≡ c) → a && b ≡ a && c
and_under true b c f = f refl
and_under false b c f = refl

pub returns-then-bytes-ne-ROOM : goal.returns-then-bytes-ne-ROOM
unfolding reachable_at
returns-then-bytes-ne-ROOM c = rw (ne_eqb _ decoder_room c.if-bytes-ne-ROOM.true)

-- what a claim of a state whose counts are possible is, and that a state with none has counts that are not
module _ (s : State) where
  claim_made : (q : Claim) → possible_claim s ≡ Some q → (counts_possible s ≡ true) × (q ≡ claim_of s)
  claim_made q = by (counts_possible s)
    where
      by : (t : Bool) → cond t (Some (claim_of s)) None ≡ Some q → (t ≡ true) × (q ≡ claim_of s)
      by true e = (refl, cc)
      by false e = cc

  claim_missing : possible_claim s ≡ None → counts_possible s ≡ false
  claim_missing = by (counts_possible s)
    where
      by : (t : Bool) → ◌≡◌ {A = Option Claim} (cond t (Some (claim_of s)) None) None → t ≡ false
      by true e = cc
      by false e = refl

pub returns : goal.returns
unfolding reachable_at
returns c =
    let a = c.args in
    let bs = a.bytes.now in
    let q = claim_of a.state in
    let whole : length bs ≡ decoder_room = c.if-bytes-ne-ROOM.false in
    let made = claim_made a.state c.in-Some.claim (sym c.possible_claim.ensures ∙ c.in-Some.is) in
    let e : c.in-Some.claim ≡ q = made.1 in
    let address : c.is_zero-address_clear.result ≡ all_zero (drop q.address (take head_room bs)) = rw e at c.is_zero-address_clear.ensures ∙ ap all_zero (part_front q.address head_room bs (possible_address a.state made.0) (omega arith)) in
    let loaded : c.is_zero_from-data_clear.result ≡ all_zero (drop q.loaded (drop head_room bs)) = rw e at c.is_zero_from-data_clear.ensures ∙ ap all_zero (sym (drop-drop q.loaded head_room bs)) in
    let right : is_clear q bs ≡ true → c.is_right-right.result ≡ is_right q bs = rw e at c.is_right-right.ensures in
    let asked : reachable_at a.state bs ≡ is_clear q bs && is_right q bs = rw (eq-eqb (length bs) decoder_room whole, made.0) in
    ap₂ (λ (x y : Bool). (x && y) && c.is_right-right.result) address loaded ∙ and_under (is_clear q bs) c.is_right-right.result (is_right q bs) right ∙ sym asked

pub returns-in_default : goal.returns-in_default
unfolding reachable_at
returns-in_default c =
    let a = c.args in
    let p : counts_possible a.state ≡ false = claim_missing a.state (sym c.possible_claim.ensures ∙ c.in_default.is) in
    rw (eq-eqb (length a.bytes.now) decoder_room c.if-bytes-ne-ROOM.false, p)
