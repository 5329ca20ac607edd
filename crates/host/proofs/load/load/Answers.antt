-- `load` meets its contract: the state is the one that the header says, and the two tests are the block's.
use native.Mathlib.Omega.{arith}
use mathlib.Core.Path.{◌≡◌, refl, ap, ap₂, ◌∙◌}
use mathlib.Core.Bool.{Bool, true, false, cond, ◌&&◌}
use lib.Dec.{eqb}
use lib.ListN.{drop, length-drop}
use lib.Seq.{take_all}
use borrow.Rule.Slice.PartMut.{mid_of}
use Rattle.std.specs.Prelude.{Some, None}
use Rattle.std.specs.Bool.{then_some}
use Rattle.line.specs.machine.Room.{decoder_room}
use Rattle.line.specs.machine.Reachable.{reachable_at}
use Rattle.line.specs.declared.state.State.{State}
use Rattle.host.specs.Header.{header_of, state_at}
use Rattle.host.specs.Block.{header_size, header_in, state_in, accepted}
use Rattle.host.proofs.load.load.Goals as goal

found : (b c : Bool) (s : State) → then_some (b && c) s ≡ cond (c && b) (Some s) None
found true true s = refl
found true false s = refl
found false true s = refl
found false false s = refl

pub returns : goal.returns
unfolding accepted
returns c =
    let l = c.args.block.now in
    let behind : mid_of header_size decoder_room l ≡ drop header_size l = take_all decoder_room (drop header_size l) (omega (arith, length-drop header_size l)) in
    let read = c.header_in-header.ensures in
    let state : c.state_at-state.result ≡ state_in l = c.state_at-state.ensures ∙ ap state_at read in
    let reached = c.is_reachable.ensures ∙ ap₂ reachable_at state behind in
    let same = ap₂ eqb (c.header_of.ensures ∙ ap header_of state) read in
    c.then_some.ensures
    ∙ ap₂ then_some (ap₂ (λ (x y : Bool). x && y) reached same) state
    ∙ found (reachable_at (state_in l) (drop header_size l)) (eqb (header_of (state_in l)) (header_in l)) (state_in l)
