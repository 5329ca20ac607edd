-- `listen` meets its contract.
use Prim.Native.Nat.{suc, ◌+◌, ◌-◌}
use native.Mathlib.Omega.{arith}
use mathlib.Core.Path.{◌≡◌, sym, ap, ◌∙◌}
use mathlib.Core.Bool.{Bool}
use lib.ListN.{drop}
use Rattle.framing.specs.declared.decode.Decoder.{Decoder}
use Rattle.line.specs.machine.Frames.{Heard}
use Rattle.lent.specs.Listen.{is_silence}
use Rattle.lent.proofs.Listening.{to_come, to_come_first, passes_silence, gives_first, counts_other, none_to_come}
use Rattle.lent.proofs.listen.Goals as goal

pub loop-byte-init : goal.loop-byte-init
loop-byte-init c = ap (λ (d : Decoder). to_come c.args.run.now d c.args.n) c.new-decoder.ensures ∙ to_come_first c.args.run.now c.args.n

-- whether the byte's answer is silence, said of what the definition makes of it
said_of : (k : Heard) {h : Heard} {t u : Bool} → h ≡ k → t ≡ is_silence h → t ≡ u → is_silence k ≡ u
said_of k e p q = sym (ap is_silence e) ∙ sym p ∙ q

pub loop-byte-preserved-then-is_silence : goal.loop-byte-preserved-then-is_silence
loop-byte-preserved-then-is_silence c =
    let l = c.loop-byte in
    let f = c.feed-heard.ensures in
    ap (λ (d : Decoder). to_come (drop (l.byte-index + 1) c.args.run.now) d l.before) f.1
    ∙ passes_silence c.args.run.now l.byte-index l.decoder c.loop-byte-test.true l.before (said_of _ f.0 c.is_silence.ensures c.if-is_silence.true)
    ∙ l.invariant

pub returns-then-before-eq0 : goal.returns-then-before-eq0
returns-then-before-eq0 c =
    let l = c.loop-byte in
    let f = c.feed-heard.ensures in
    f.0
    ∙ gives_first c.args.run.now l.byte-index l.decoder c.loop-byte-test.true (said_of _ f.0 c.is_silence.ensures c.if-is_silence.false)
    ∙ ap (to_come (drop l.byte-index c.args.run.now) l.decoder) (sym c.if-before-eq0.true)
    ∙ l.invariant

pub loop-byte-preserved : goal.loop-byte-preserved
loop-byte-preserved c =
    let l = c.loop-byte in
    let f = c.feed-heard.ensures in
    let more : suc (l.before - 1) ≡ l.before = omega (arith, c.if-before-eq0.false) in
    ap (λ (d : Decoder). to_come (drop (l.byte-index + 1) c.args.run.now) d (l.before - 1)) f.1
    ∙ counts_other c.args.run.now l.byte-index l.decoder c.loop-byte-test.true (l.before - 1) (said_of _ f.0 c.is_silence.ensures c.if-is_silence.false)
    ∙ ap (to_come (drop l.byte-index c.args.run.now) l.decoder) more
    ∙ l.invariant

pub returns : goal.returns
returns c =
    let l = c.loop-byte in
    none_to_come c.args.run.now l.byte-index l.decoder l.before c.loop-byte-test.false ∙ l.invariant
