-- The head where it has room, and else the buffer as it was.
use Prim.Native.Nat.{ℕ, ◌≤◌}
use native.Mathlib.Omega.{arith}
use mathlib.Core.Path.{◌≡◌, sym, ◌∙◌}
use mathlib.Core.List.{List}
use lib.ListN.{length}
use Rattle.octets.specs.Put.{put, put_if_fits}
use Rattle.octets.proofs.Put.{put_fitting, put_misfit}
use Rattle.framing.specs.Code.{head}
use Rattle.framing.proofs.Heads.{length-head}
use Rattle.framing.proofs.encode.open_frame.Goals as goal

fits : (l bs : List ℕ) {b : List ℕ} → b ≡ put l 0 bs → length bs ≤ length l → b ≡ put_if_fits l 0 bs
fits l bs e h = e ∙ sym (put_fitting l 0 bs (omega arith))

pub returns-then-buf-at : goal.returns-then-buf-at
returns-then-buf-at c =
    let a = c.args in
    let size = length-head a.front.frame_type a.front.address a.front.command a.front.preamble_count a.count in
    let told = c.length_of.ensures in
    (omega (arith, told), sym (put_misfit a.buf.now 0 (head a.front.frame_type a.front.address a.front.command a.count a.front.preamble_count) (omega (arith, size, told))))

pub returns : goal.returns
returns c =
    let a = c.args in
    let size = length-head a.front.frame_type a.front.address a.front.command a.front.preamble_count a.count in
    let told = c.length_of.ensures in
    let opened = c.write_head.ensures in
    (opened.0, fits a.buf.now (head a.front.frame_type a.front.address a.front.command a.count a.front.preamble_count) opened.1 (omega (arith, size, told)))
