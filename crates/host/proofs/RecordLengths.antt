-- A record is no longer than the room that is asked for it.
use Prim.Native.Nat.{ℕ, ◌≤◌}
use native.Mathlib.Omega.{arith}
use mathlib.Core.Path.{◌≡◌}
use mathlib.Core.Bool.{Bool, true, false, cond}
use mathlib.Core.List.{List, [], ◌∷◌}
use lib.Dec.{eqb}
use lib.ListN.{length, drop, length-append, length-take, length-drop}
use Rattle.refusal.specs.declared.Refusal.{Refusal}
use Rattle.refusal.specs.Table.{number_of, values_of}
use Rattle.refusal.proofs.Cases.{values_few}
use Rattle.types.specs.Address.{head_room, is_long, read_address, address_bytes}
use Rattle.types.proofs.Addresses.{address_length_le, length-address}
use Rattle.line.specs.Layout.{Wire, address_of}
use Rattle.line.specs.machine.Room.{decoder_room}
use Rattle.line.specs.machine.Feed.{wire_in, event_of}
use Rattle.line.specs.machine.Step.{Ended}
use Rattle.std.specs.Prelude.{Some, None, Ok, Err}
use Rattle.host.specs.Record.{refusal_first, refusal_record, record_of, record_room}

refusal_short : (r : Refusal) → length (refusal_record r) ≤ record_room
refusal_short r = by (eqb (number_of r) 4) (eqb (number_of r) 5)
  where
    by : (four five : Bool) → length (cond four (refusal_first 1 ∷ values_of r) (cond five (refusal_first 2 ∷ values_of r) [])) ≤ record_room
    by true five = omega (arith, values_few r)
    by false true = omega (arith, values_few r)
    by false false = omega arith

pub event_short : (x : Ended) (bs : List ℕ) → length bs ≡ decoder_room → length (record_of (event_of x bs)) ≤ record_room
unfolding record_of
event_short (Ok None) bs e = omega arith
event_short (Ok (Some c)) bs e =
    let w : Wire = wire_in c bs in
    let ab = address_bytes (read_address w.opening.is_long (address_of w)) in
    let size : length ab ≤ head_room = omega (arith, length-address (read_address w.opening.is_long (address_of w)), address_length_le (is_long (read_address w.opening.is_long (address_of w)))) in
    omega (arith, length-append ab (w.command ∷ length w.payload ∷ w.payload), size, length-take c.length (drop head_room bs), length-drop head_room bs)
event_short (Err r) bs e = refusal_short r
