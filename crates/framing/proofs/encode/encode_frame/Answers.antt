-- Each refusal by its test, and the rest by the layout that was put.
use Prim.Native.Nat.{◌≤◌}
use native.Mathlib.Omega.{arith}
use mathlib.Core.Path.{sym, ◌∙◌}
use lib.ListN.{length}
use Rattle.octets.proofs.Put.{put-wrote}
use Rattle.types.specs.Address.{is_long}
use Rattle.line.specs.Encode.{wire_of, layout, total}
use Rattle.line.proofs.Encoded.{length-layout, encoded_long, encoded_small, encoded_fits}
use Rattle.framing.proofs.encode.encode_frame.Goals as goal

pub returns-then-data-gt-MAX_DATA_LENGTH : goal.returns-then-data-gt-MAX_DATA_LENGTH
returns-then-data-gt-MAX_DATA_LENGTH c = let a = c.args in sym (encoded_long a.frame_type a.address a.command a.«data».now a.preamble_count a.buf.now c.if-data-gt-MAX_DATA_LENGTH.true)

pub returns-then-buf-total : goal.returns-then-buf-total
returns-then-buf-total c =
    let a = c.args in
    sym (encoded_small a.frame_type a.address a.command a.«data».now a.preamble_count a.buf.now c.if-data-gt-MAX_DATA_LENGTH.false (omega (arith, c.if-buf-total.true, c.length_of.ensures)))

pub returns : goal.returns
returns c =
    let a = c.args in
    let ds = a.«data».now in
    let n = a.preamble_count in
    let length-told = c.length_of.ensures in
    let frame = layout n (wire_of a.frame_type a.address a.command ds) in
    let room : total n (is_long a.address) (length ds) ≤ length a.buf.now = omega (arith, c.if-buf-total.false, length-told) in
    put-wrote a.buf.now frame c.write_frame.ensures (omega (arith, length-layout a.frame_type a.address a.command n ds, length-told))
    ∙ sym (encoded_fits a.frame_type a.address a.command ds n a.buf.now c.if-data-gt-MAX_DATA_LENGTH.false room)
