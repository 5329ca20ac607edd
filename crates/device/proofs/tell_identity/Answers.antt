-- The identity is written, and no such request is refused.
use native.Mathlib.Omega.{arith}
use mathlib.Core.Path.{sym, ap, ◌∙◌}
use Rattle.commands.specs.declared.identity.DeviceIdentity.{DeviceIdentity}
use Rattle.commands.specs.Identity.{lowered_bytes}
use Rattle.commands.specs.Responses.{response_data, identity_responded}
use Rattle.device.specs.Own.{own_identity}
use Rattle.device.proofs.Spoken.{spoken_wrote, identity_written}
use Rattle.device.proofs.Requests.{never_refused}
use Rattle.device.proofs.tell_identity.Goals as goal

pub returns : goal.returns
returns c =
    let before = c.args.payload.now in
    let w = c.encode_response in
    spoken_wrote w.result (response_data 0 0 (lowered_bytes own_identity)) before c.ok-2.ensures.value (w.ensures ∙ ap (λ (i : DeviceIdentity). identity_responded 0 0 i before) c.own_identity.ensures) (identity_written before (omega arith) own_identity)

pub returns-in_err-ok : goal.returns-in_err-ok
returns-in_err-ok c =
    absurd (never_refused 0 c.args.frame c.read_request.result c.requires.0 c.requires.1 c.read_request.ensures (sym c.ok.ensures.value ∙ c.in_err-ok.was))
