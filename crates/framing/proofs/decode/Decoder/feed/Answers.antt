-- `Decoder::feed` meets its contract.
use mathlib.Core.Path.{◌≡◌, refl, sym, ◌∙◌}
use mathlib.Core.Bool.{true, false}
use Rattle.line.specs.machine.Feed.{stepped, feeding}
use Rattle.framing.specs.Feed.{decoder_reachable}
use Rattle.framing.proofs.decode.Decoder.feed.Goals as goal

pub returns-then-not-is_reachable : goal.returns-then-not-is_reachable
unfolding feeding
returns-then-not-is_reachable c =
    let d = c.args.self in
    let p : decoder_reachable d ≡ false = sym c.is_reachable.ensures ∙ c.if-not-is_reachable.true in
    rw p refl

pub returns : goal.returns
unfolding stepped feeding
returns c =
    let d = c.args.self in
    let p : decoder_reachable d ≡ true = sym c.is_reachable.ensures ∙ c.if-not-is_reachable.false in
    rw p (rw (c.step-moved.ensures.value, c.step-moved.ensures.bytes_after) at c.ended_with.ensures)
