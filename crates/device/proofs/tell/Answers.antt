-- By the frame's type.
use mathlib.Core.Path.{sym, ap, ◌∙◌}
use Rattle.types.specs.declared.delimiter.FrameType.{FrameType}
use Rattle.framing.specs.Payload.{data_of}
use Rattle.device.specs.Device.{told_to, if_request, answer_to}
use Rattle.device.proofs.tell.Goals as goal

pub returns-in-Request : goal.returns-in-Request
unfolding answer_to
returns-in-Request c = let f = c.args.frame in c.tell_request.ensures ∙ sym (ap (λ (t : FrameType). if_request t (told_to f.command (data_of f))) c.in-Request.is)

pub returns-in-Response : goal.returns-in-Response
unfolding answer_to
returns-in-Response c = let f = c.args.frame in sym (ap (λ (t : FrameType). if_request t (told_to f.command (data_of f))) c.in-Response.is)

pub returns-in-Burst : goal.returns-in-Burst
unfolding answer_to
returns-in-Burst c = let f = c.args.frame in sym (ap (λ (t : FrameType). if_request t (told_to f.command (data_of f))) c.in-Burst.is)
