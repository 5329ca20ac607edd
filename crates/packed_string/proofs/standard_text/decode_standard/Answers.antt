-- What `unpack` puts: where all groups fit, all of them.
use Prim.Native.Nat.{ℕ, ◌/◌}
use native.Mathlib.Omega.{arith}
use mathlib.Core.Path.{◌≡◌, sym, ap, ◌∙◌}
use lib.ListN.{length}
use Rattle.refusal.specs.Outcome.{wrote}
use Rattle.packed_string.specs.declared.text_group.Mode.TheVariants.{Standard}
use Rattle.packed_string.specs.Groups.{unpacked, unpacked_count}
use Rattle.packed_string.proofs.Groups.{unpacked_wrote}
use Rattle.packed_string.proofs.StandardCalls.{standard_unpacks}
use Rattle.packed_string.proofs.standard_text.decode_standard.Goals as goal

pub returns : goal.returns
returns c =
    let a = c.args in
    let s = a.src.now in
    let d = a.dst.now in
    let p = c.unpack in
    let room = c.if-dst-length.false in
    let all : unpacked_count s d ≡ length s / 3 = omega arith in
    unpacked_wrote Standard s d (unpacked_count s d) p.ensures.0 p.ensures.1
    ∙ ap (λ (k : ℕ). wrote (unpacked Standard s k) d) all
    ∙ sym (standard_unpacks s d c.if-length-ne0.false room)
