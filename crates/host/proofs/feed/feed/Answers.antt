-- `feed` meets its contract: the block first and then the room, and of both what the byte came to.
use Prim.Native.Nat.{ℕ}
use native.Mathlib.Omega.{arith}
use mathlib.Core.Path.{◌≡◌, sym, ap, ap₂, ◌∙◌}
use mathlib.Core.Bool.{Bool, true, false, cond}
use mathlib.Core.List.{List}
use lib.ListN.{length, length-drop}
use Rattle.std.specs.Prelude.{Some, None}
use Rattle.line.specs.machine.Feed.{stepped}
use Rattle.line.specs.declared.state.State.{State}
use Rattle.host.specs.Block.{header_size, block_size, held_in, state_in, accepted, recorded, fed_block}
use Rattle.host.specs.Record.{record_room}
use Rattle.host.specs.Code.{state_accepted}
use Rattle.host.proofs.Blocks.{wrong_size, fed_refused, fed_small, fed_taken, stepped_block, told_first}
use Rattle.host.proofs.Calls.{stepped_short}
use Rattle.host.proofs.feed.feed.Goals as goal

-- no state: the block is not accepted; a state: it is, and this is its state
none_accepted : (block : List ℕ) → None ≡ state_accepted block → accepted block ≡ false
none_accepted block e = by (accepted block) e
  where
    by : (b : Bool) → None ≡ cond b (Some (state_in block)) None → b ≡ false
    by true e = cc
    by false e = cc

some_accepted : (block : List ℕ) {s : State} → Some s ≡ state_accepted block → (s ≡ state_in block) × (accepted block ≡ true)
some_accepted block {s} e = by (accepted block) e
  where
    by : (b : Bool) → Some s ≡ cond b (Some (state_in block)) None → (s ≡ state_in block) × (b ≡ true)
    by true e = (cc, cc)
    by false e = cc

pub returns-in_default : goal.returns-in_default
returns-in_default c = let a = c.args in sym (fed_refused a.block.now a.room.now a.byte (wrong_size a.block.now c.in_default.ensures.cases))

pub returns-in_default-load : goal.returns-in_default-load
returns-in_default-load c =
    let a = c.args in
    let same = c.in-Some.ensures.cases.same in
    rw same (sym (fed_refused a.block.now a.room.now a.byte (rw same at (none_accepted c.in-Some.block.now c.in_default-load.ensures))))

pub returns-in_default-first_chunk_mut : goal.returns-in_default-first_chunk_mut
returns-in_default-first_chunk_mut c =
    let a = c.args in
    let same = c.in-Some.ensures.cases.same in
    let taken = some_accepted c.in-Some.block.now c.in-Some-load.ensures in
    rw same (sym (fed_small a.block.now a.room.now a.byte (rw same at taken.1) c.in_default-first_chunk_mut.ensures.cases))

pub returns : goal.returns
returns c =
    let a = c.args in
    let room = a.room.now in
    let block = c.in-Some.block.now in
    let same : block ≡ a.block.now = c.in-Some.ensures.cases.same in
    let long : length block ≡ block_size = omega (arith, ap length same, c.in-Some.ensures.cases.long) in
    let front = c.in-Some-first_chunk_mut.ensures.cases in
    let taken = some_accepted block c.in-Some-load.ensures in
    let x = stepped (held_in block) a.byte in
    let moved = stepped_block block a.byte long taken.0 c.step-moved.ensures.value c.step-moved.ensures.bytes_after in
    let short = stepped_short (held_in block) a.byte (omega (arith, length-drop header_size block, long)) in
    told_first x room record_room short front.enough (c.settle.ensures ∙ ap₂ recorded moved front.same)
    ∙ sym (fed_taken block room a.byte taken.1 front.enough)
    ∙ ap (λ (q : List ℕ). fed_block q room a.byte) same
