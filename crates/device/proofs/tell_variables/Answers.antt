-- The variables that were asked for are written, or what was read is refused.
use native.Mathlib.Omega.{arith}
use mathlib.Core.Path.{◌≡◌, sym, ap, ◌∙◌}
use mathlib.Core.List.{List, ◌∷◌, map}
use Rattle.std.proofs.lemmas.List.{same_lists, get_or-map}
use lib.ListN.{length-map}
use Rattle.framing.specs.Payload.{data_of}
use Rattle.commands.specs.declared.read_device_vars.DeviceVariable.{DeviceVariable}
use Rattle.commands.specs.Variables.{codes_of, codes_read, request9}
use Rattle.commands.specs.Responses.{response_data, groups_bytes, variables_responded}
use Rattle.device.specs.Own.{own_variable}
use Rattle.device.specs.Device.{measures}
use Rattle.device.proofs.Spoken.{spoken_wrote, variables_written}
use Rattle.device.proofs.Requests.{request_read, said_of, codes_few}
use Rattle.device.proofs.tell_variables.Goals as goal

pub returns : goal.returns
returns c =
    let before = c.args.payload.now in
    let q = c.in-Ok.request in
    let vs = map own_variable q.codes in
    let read : codes_of c.read_request.result ≡ codes_read (data_of c.args.frame) = request_read request9 c.args.frame c.requires.0 c.requires.1 c.read_request.ensures in
    let items = c.map-variables.ensures.items in
    let mapped : c.map-variables.result ≡ vs =
    same_lists c.map-variables.result vs (omega (arith, items.long, length-map q.codes own_variable)) (λ k d h. (items.at k 0 d (omega (arith, items.long))).2.met ∙ sym (get_or-map own_variable q.codes k 0 d (omega (arith, items.long)))) in
    let w = c.encode_response in
    spoken_wrote w.result (response_data 0 0 (0 ∷ groups_bytes vs q.count)) before c.ok.ensures.value
    (w.ensures ∙ ap (λ (us : List DeviceVariable). variables_responded 0 0 0 us q.count before) mapped)
    (variables_written before (omega arith) vs q.count (codes_few (data_of c.args.frame) (ap codes_of (sym c.in-Ok.is) ∙ read)))
    ∙ said_of codes_of measures read c.in-Ok.is

pub returns-in_default : goal.returns-in_default
returns-in_default c =
    c.tell_status.ensures ∙ said_of codes_of measures (request_read request9 c.args.frame c.requires.0 c.requires.1 c.read_request.ensures) c.in_default.is
