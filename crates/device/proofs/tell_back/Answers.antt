-- The fields that were read are written, or what was read is refused.
use native.Mathlib.Omega.{arith}
use mathlib.Core.Path.{◌≡◌, sym, ap, ◌∙◌}
use Rattle.packed_string.specs.declared.text_group.Mode.TheVariants.{Standard}
use Rattle.framing.specs.Payload.{data_of}
use Rattle.commands.specs.TagDescriptorDate.{tag_descriptor_date_layout, fields_of, fields_read, command18}
use Rattle.commands.specs.Responses.{response_data}
use Rattle.device.specs.Device.{rewrites}
use Rattle.device.proofs.Spoken.{spoken_wrote, texts_written}
use Rattle.device.proofs.Requests.{request_read, said_of, fields_good}
use Rattle.device.proofs.tell_back.Goals as goal

pub returns : goal.returns
returns c =
    let before = c.args.payload.now in
    let r = c.in-Ok.request in
    let read : fields_of c.read_request.result ≡ fields_read Standard (data_of c.args.frame) = request_read (command18 Standard) c.args.frame c.requires.0 c.requires.1 c.read_request.ensures in
    let w = c.encode_response in
    spoken_wrote w.result (response_data 0 0 (tag_descriptor_date_layout Standard r.tag r.descriptor r.day r.month r.year)) before c.ok.ensures.value w.ensures
    (texts_written before (omega arith) r.tag r.descriptor r.day r.month r.year (fields_good (data_of c.args.frame) r (ap fields_of (sym c.in-Ok.is) ∙ read)))
    ∙ said_of fields_of rewrites read c.in-Ok.is

pub returns-in_default : goal.returns-in_default
returns-in_default c =
    c.tell_status.ensures
    ∙ said_of fields_of rewrites (request_read (command18 Standard) c.args.frame c.requires.0 c.requires.1 c.read_request.ensures) c.in_default.is
