-- The part of the buffer that is lent to the address's writer comes back with the address at its front.
use Prim.Native.Nat.{ℕ, ◌+◌, ◌≤◌}
use native.Mathlib.Omega.{arith}
use mathlib.Core.Path.{◌≡◌, ap, ◌∙◌}
use lib.ListN.{length, set, length-set}
use Rattle.octets.specs.Put.{put}
use Rattle.octets.proofs.Put.{put-head}
use Rattle.types.specs.Delimiter.{delimiter}
use Rattle.types.specs.Address.{address_length, is_long, address_bytes}
use Rattle.types.proofs.Addresses.{length-address, lent_address}
use Rattle.line.specs.Layout.{preambles}
use Rattle.line.specs.Encode.{opening_of}
use Rattle.line.proofs.Layouts.{length-preambles}
use Rattle.framing.proofs.encode.write_head.Goals as goal

pub returns : goal.returns
returns c =
    let a = c.args in
    let n = a.front.preamble_count in
    let p = c.write_preambles.new.buf in
    let d : c.delimiter_byte.result ≡ delimiter (opening_of a.front.frame_type a.front.address) = cc in
    let l = set p n c.delimiter_byte.result in
    let room : n + 1 + address_length (is_long a.front.address) ≤ length l = simp length-set (omega (arith, c.write_preambles.auto.buf)) in
    let w = lent_address a.front.address l (n + 1) room c.encode.ensures ∙ ap (λ (x : ℕ). put (set p n x) (n + 1) (address_bytes a.front.address)) d in
    let at = n + 1 + c.length_of.result in
    let size : at ≡ n + 1 + length (address_bytes a.front.address) = omega (arith, c.length_of.ensures, length-address a.front.address) in
    (omega (arith, c.length_of.ensures), put-head a.buf.now (preambles n) n (delimiter (opening_of a.front.frame_type a.front.address)) (address_bytes a.front.address) at a.front.command a.count c.write_preambles.ensures (length-preambles n) w size (omega (arith, c.length_of.ensures)))
