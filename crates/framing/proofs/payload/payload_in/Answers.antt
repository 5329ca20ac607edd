-- What is carried has both status bytes.
use native.Mathlib.Omega.{arith}
use mathlib.Core.Path.{sym, ap, ◌∙◌}
use Rattle.framing.specs.Payload.{judgement_of}
use Rattle.framing.proofs.Payloads.{carries_exactly}
use Rattle.framing.proofs.payload.payload_in.Goals as goal

pub slice_bounds-result-count : goal.slice_bounds-result-count
slice_bounds-result-count c = omega (arith, (carries_exactly _ _).0 (sym c.payload_verdict.ensures ∙ ap judgement_of c.in_ok-payload_verdict.was))

pub slice_bounds-result-start : goal.slice_bounds-result-start
slice_bounds-result-start c = omega (arith, (carries_exactly _ _).0 (sym c.payload_verdict.ensures ∙ ap judgement_of c.in_ok-payload_verdict.was))
