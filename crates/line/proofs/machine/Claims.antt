-- What the test of reachability tells of a state that passes it, and what a state that claims the possible tells of its counts.
use Prim.Native.Nat.{ℕ, ◌≤◌}
use native.Mathlib.Omega.{arith}
use mathlib.Core.Path.{◌≡◌}
use mathlib.Core.Bool.{Bool, true, ◌&&◌}
use mathlib.Core.List.{List}
use lib.Dec.{eqb}
use lib.ListN.{length}
use borrow.Author.Tests.{eqb-true, ltb-true}
use Rattle.octets.proofs.Tests.{and_first, and_second}
use Rattle.types.specs.Address.{head_length, head_room}
use Rattle.types.proofs.Addresses.{head_length_le}
use Rattle.line.specs.machine.Step.{opening_in}
use Rattle.line.specs.machine.Room.{decoder_room}
use Rattle.line.specs.machine.Reachable.{counts_possible, claim_of, is_clear, is_right, reachable_at}
use Rattle.line.specs.declared.state.State.{State}
use Rattle.line.specs.declared.state.State.TheVariants.{
  Hunting,
  Preamble,
  Address,
  Command,
  ByteCount,
  Data,
  Checksum,
}

-- each of its four parts holds
module _ (s : State) (bs : List ℕ) (r : reachable_at s bs ≡ true) where
  abbrev seen : Bool
  seen = is_clear (claim_of s) bs && is_right (claim_of s) bs

  abbrev claimed : Bool
  claimed = counts_possible s && seen

  pub whole : length bs ≡ decoder_room
  unfolding reachable_at
  whole = eqb-true (length bs) decoder_room (and_first (eqb (length bs) decoder_room) claimed r)

  holds : claimed ≡ true
  unfolding reachable_at
  holds = and_second (eqb (length bs) decoder_room) claimed r

  pub possible : counts_possible s ≡ true
  possible = and_first (counts_possible s) seen holds

  passed : seen ≡ true
  passed = and_second (counts_possible s) seen holds

  pub clear : is_clear (claim_of s) bs ≡ true
  clear = and_first (is_clear (claim_of s) bs) (is_right (claim_of s) bs) passed

  pub right : is_right (claim_of s) bs ≡ true
  right = and_second (is_clear (claim_of s) bs) (is_right (claim_of s) bs) passed

pub possible_address : (s : State) → counts_possible s ≡ true → (claim_of s).address ≤ head_room
possible_address Hunting e = omega arith
possible_address (Preamble n) e = omega arith
possible_address (Address h k) e = omega (arith, ltb-true k (head_length (opening_in h)) e, head_length_le (opening_in h))
possible_address (Command h) e = head_length_le (opening_in h)
possible_address (ByteCount h c) e = head_length_le (opening_in h)
possible_address (Data h c x n) e = head_length_le (opening_in h)
possible_address (Checksum h c x) e = head_length_le (opening_in h)
