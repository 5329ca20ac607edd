-- What only the code needs, and no sentence of document 01 says: a test of which decoders some run of bytes leads to, by what a state claims
-- of the bytes beside it. Document 01's own sentence is Reached in Demand; that the test takes these and no other is a theorem,
-- proofs/machine/Exact.antt.
use Rattle.std.specs.Prelude.{ℕ, Bool, true, cond, Option, Some, None, ◌&&◌, List, [], ◌∷◌, ◌++◌, length, take, drop, eqb, ltb, leb}
use Rattle.octets.specs.Check.{check_from}
use Rattle.types.specs.Delimiter.{delimiter}
use Rattle.types.specs.Address.{head_length, head_room}
use Rattle.line.specs.machine.Room.{decoder_room}
use Rattle.line.specs.machine.Step.{preamble_cap, opening_in}
use Rattle.line.specs.declared.state.Head.{Head}
use Rattle.line.specs.declared.state.State.{State}
use Rattle.line.specs.declared.state.State.TheVariants.{
  Hunting,
  Preamble,
  Address,
  Command,
  ByteCount,
  Data,
  Checksum,
}
use Rattle.line.specs.declared.claim.Claim.{Claim}

-- whether the counts of a state are possible at all
abbrev pub counts_possible : State → Bool
counts_possible Hunting = true
counts_possible (Preamble n) = ltb 0 n && leb n preamble_cap
counts_possible (Address h k) = ltb k (head_length (opening_in h))
counts_possible (Command h) = true
counts_possible (ByteCount h c) = true
counts_possible (Data h c e n) = ltb n e
counts_possible (Checksum h c e) = true

-- what a state says of the bytes beside it: what its check is, and what the check must be made of, zero where nothing was read
abbrev pub no_claim : Claim
no_claim = record {
  check = 0;
  start = 0;
  address = 0;
  command = 0;
  count = 0;
  loaded = 0;
}

abbrev pub claim : Head → ℕ → ℕ → ℕ → ℕ → Claim
claim h k c e n = record {
  check = h.check;
  start = delimiter (opening_in h);
  address = k;
  command = c;
  count = e;
  loaded = n;
}

abbrev pub claim_of : State → Claim
claim_of Hunting = no_claim
claim_of (Preamble n) = no_claim
claim_of (Address h k) = claim h k 0 0 0
claim_of (Command h) = claim h (head_length (opening_in h)) 0 0 0
claim_of (ByteCount h c) = claim h (head_length (opening_in h)) c 0 0
claim_of (Data h c e n) = claim h (head_length (opening_in h)) c e n
claim_of (Checksum h c e) = claim h (head_length (opening_in h)) c e e

-- what the code goes by: the claim of a state whose counts are possible
abbrev pub possible_claim : State → Option Claim
possible_claim s = cond (counts_possible s) (Some (claim_of s)) None

abbrev pub all_zero : List ℕ → Bool
all_zero [] = true
all_zero (b ∷ bs) = eqb b 0 && all_zero bs

-- nothing stands past the bytes before the command and the data bytes that were read
abbrev pub is_clear : Claim → List ℕ → Bool
is_clear q bs = all_zero (drop q.address (take head_room bs)) && all_zero (drop q.loaded (drop head_room bs))

-- the running check agrees with the bytes that were read
abbrev pub is_right : Claim → List ℕ → Bool
is_right q bs =
    eqb q.check (check_from q.start (take q.address bs ++ (q.command ∷ q.count ∷ take q.loaded (drop head_room bs))))

unfoldable pub reachable_at : State → List ℕ → Bool
reachable_at s bs = eqb (length bs) decoder_room && (counts_possible s && (is_clear (claim_of s) bs && is_right (claim_of s) bs))
