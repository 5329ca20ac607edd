-- By whether the tag is the device's own.
use Prim.Native.Nat.{ℕ}
use native.Mathlib.Omega.{arith}
use mathlib.Core.Path.{◌≡◌, refl, sym, ap, ◌∙◌}
use mathlib.Core.Bool.{Bool, true, false, cond, not}
use mathlib.Core.List.{List}
use lib.Dec.{eqb}
use lib.Pointwise.{pointwise}
use Rattle.packed_string.specs.declared.text_group.Mode.TheVariants.{Standard}
use Rattle.commands.specs.declared.identity.DeviceIdentity.{DeviceIdentity}
use Rattle.commands.specs.Identity.{lowered_bytes}
use Rattle.commands.specs.Tag.{tagged_of, request11}
use Rattle.commands.specs.Responses.{response_data, identity_responded}
use Rattle.device.specs.Own.{own_identity, own_tag}
use Rattle.device.specs.Device.{keeps_silent, same_text, identifies, recognizes}
use Rattle.device.proofs.Spoken.{spoken_wrote, identity_written}
use Rattle.device.proofs.Requests.{request_read, said_of}
use Rattle.device.proofs.Texts.{same_pointwise}
use Rattle.device.proofs.tell_if_tagged.Goals as goal

-- what `!=` answered of the tag
compared : (tag : List ℕ) {own : List ℕ} {other same : Bool} → own ≡ own_tag → other ≡ not (pointwise eqb tag own) → other ≡ not same → same_text tag own_tag ≡ same
compared tag {own} {other} {same} e answered f = ap (same_text tag) (sym e) ∙ sym (same_pointwise tag own) ∙ by (pointwise eqb tag own) same (sym answered ∙ f)
  where
    by : (b c : Bool) → not b ≡ not c → b ≡ c
    by true true g = refl
    by true false g = cc
    by false true g = cc
    by false false g = refl

pub returns : goal.returns
returns c =
    let before = c.args.payload.now in
    let q = c.in-Ok.request in
    let w = c.encode_response in
    let own : same_text q.tag own_tag ≡ true = compared q.tag c.own_tag.ensures c.ne.ensures c.if-ne.false in
    spoken_wrote w.result (response_data 0 0 (lowered_bytes own_identity)) before c.ok.ensures.value (w.ensures ∙ ap (λ (i : DeviceIdentity). identity_responded 0 0 i before) c.own_identity.ensures) (identity_written before (omega arith) own_identity)
    ∙ sym (ap (λ (same : Bool). cond same identifies keeps_silent) own)
    ∙ said_of tagged_of recognizes (request_read (request11 Standard) c.args.frame c.requires.0 c.requires.1 c.read_request.ensures) c.in-Ok.is

pub returns-then-ne : goal.returns-then-ne
returns-then-ne c =
    let own : same_text c.in-Ok.request.tag own_tag ≡ false = compared c.in-Ok.request.tag c.own_tag.ensures c.ne.ensures c.if-ne.true in
    sym (ap (λ (same : Bool). cond same identifies keeps_silent) own)
    ∙ said_of tagged_of recognizes (request_read (request11 Standard) c.args.frame c.requires.0 c.requires.1 c.read_request.ensures) c.in-Ok.is

pub returns-in_default : goal.returns-in_default
returns-in_default c =
    c.tell_status.ensures
    ∙ said_of tagged_of recognizes (request_read (request11 Standard) c.args.frame c.requires.0 c.requires.1 c.read_request.ensures) c.in_default.is
