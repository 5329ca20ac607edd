-- Document 01, 'For the C host' and 'What comes back': a call that is refused writes neither the block nor the room. A number from 1000 on
-- is a refusal, for no record is so long.
use Prim.Native.Nat.{ℕ, ◌+◌}
use native.Mathlib.Omega.{arith}
use mathlib.Core.Path.{◌≡◌, refl}
use mathlib.Core.Bool.{Bool, true, false, cond}
use mathlib.Core.List.{List}
use lib.Dec.{eqb, leb}
use lib.ListN.{length, replicate, length-drop}
use Rattle.line.specs.machine.Feed.{stepped}
use Rattle.host.specs.Record.{record_of, record_room}
use Rattle.host.specs.Block.{header_size, block_size, held_in, accepted, tells, refusing, recorded, fed_block, clears, cleared_block}
use Rattle.host.proofs.Accepted.{accepted_size}
use Rattle.host.proofs.Calls.{stepped_short}

pub fed_untouched : (block lent : List ℕ) (b number : ℕ) (block' lent' : List ℕ) → fed_block block lent b ≡ tells (1000 + number) block' lent' → (block' ≡ block) × (lent' ≡ lent)
unfolding fed_block
fed_untouched block lent b number block' lent' = by (accepted block) refl (leb record_room (length lent))
  where
    by : (taken : Bool) → accepted block ≡ taken → (room : Bool)
        → cond taken (cond room (recorded (stepped (held_in block) b) lent) (refusing 2 block lent)) (refusing 8 block lent) ≡ tells (1000 + number) block' lent'
        → (block' ≡ block) × (lent' ≡ lent)
    by true a true e =
        let n : length (record_of (stepped (held_in block) b).1) ≡ 1000 + number = cc in
        absurd (omega (arith, stepped_short (held_in block) b (omega (arith, length-drop header_size block, accepted_size block a))))
    by true a false e = (cc, cc)
    by false a room e = (cc, cc)

pub cleared_untouched : (block : List ℕ) (number : ℕ) (after : List ℕ) → cleared_block block ≡ clears (1000 + number) after → after ≡ block
unfolding cleared_block
cleared_untouched block number after = by (eqb (length block) block_size)
  where
    by : (whole : Bool) → cond whole (clears 0 (replicate block_size 0)) (clears (1000 + 8) block) ≡ clears (1000 + number) after → after ≡ block
    by true e = let z : ◌≡◌ {A = ℕ} 0 (1000 + number) = cc in absurd (omega arith)
    by false e = cc
