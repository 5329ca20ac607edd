-- Six words, one behind the other.
use Prim.Native.Nat.{ℕ, ◌≤◌}
use native.Mathlib.Omega.{arith}
use mathlib.Core.Path.{sym, ap}
use mathlib.Core.List.{List, [], ◌∷◌, ◌++◌}
use lib.ListN.{length, length-append}
use Rattle.types.proofs.Addresses.{address_first}
use Rattle.octets.specs.Figures.{decimal}
use Rattle.octets.proofs.Decimals.{length-decimal_byte}
use Rattle.dump_lines.specs.Text.{space, address_text, frame_line}
use Rattle.dump_lines.proofs.Words.{joined_on, reworded_on, writes, same_room}
use Rattle.line.specs.machine.Step.{opening_in}
use Rattle.dump_lines.proofs.dump_text.Writer.frame.Goals as goal

pub data-requires : goal.data-requires
data-requires c =
    let command = c.args.completed.command in
    let size : length (decimal command ++ space) ≤ 4 = omega (arith, length-append (decimal command) space, length-decimal_byte command (omega arith)) in
    omega (
      arith,
      (writes c.number.ensures.writes).place,
      same_room c.start.ensures.writes,
      same_room c.letter-2.ensures,
      same_room c.address.ensures.writes,
      same_room c.number.ensures.writes,
      (writes c.letter-2.ensures).place,
      c.start.ensures.upper_bound,
      c.address.ensures.upper_bound,
    )

pub returns : goal.returns
unfolding frame_line
returns c =
    let a = c.args in
    let o = opening_in a.completed.head in
    joined_on c.start.ensures.writes
    (joined_on (reworded_on (ap (λ (k : ℕ). (k ∷ []) ++ space) c.letter.ensures) c.letter-2.ensures)
    (joined_on (reworded_on (ap (λ (xs : List ℕ). address_text o.is_long xs ++ space) (sym (address_first o a.bytes.now))) c.address.ensures.writes)
    (joined_on c.number.ensures.writes
    c.data.ensures)))
