-- The device's own text is written, and no such request is refused.
use native.Mathlib.Omega.{arith}
use mathlib.Core.Path.{sym, ap, ◌∙◌}
use Rattle.packed_string.specs.declared.text_group.Mode.TheVariants.{Standard}
use Rattle.commands.specs.declared.tag_descriptor_date.TagDescriptorDate.{TagDescriptorDate}
use Rattle.commands.specs.TagDescriptorDate.{tag_descriptor_date_layout}
use Rattle.commands.specs.Responses.{response_data, tag_descriptor_date_responded}
use Rattle.device.specs.Own.{own_tag, own_descriptor, own_day, own_month, own_year}
use Rattle.device.proofs.Texts.{own_good}
use Rattle.device.proofs.Spoken.{spoken_wrote, texts_written}
use Rattle.device.proofs.Requests.{never_refused}
use Rattle.device.proofs.tell_texts.Goals as goal

pub returns : goal.returns
returns c =
    let before = c.args.payload.now in
    let w = c.encode_response in
    spoken_wrote w.result (response_data 0 0 (tag_descriptor_date_layout Standard own_tag own_descriptor own_day own_month own_year)) before c.ok-2.ensures.value
    (w.ensures ∙ ap (λ (t : TagDescriptorDate). tag_descriptor_date_responded Standard 0 0 t.tag t.descriptor t.day t.month t.year before) c.own_texts.ensures)
    (texts_written before (omega arith) own_tag own_descriptor own_day own_month own_year own_good)

pub returns-in_err-ok : goal.returns-in_err-ok
returns-in_err-ok c =
    absurd (never_refused 13 c.args.frame c.read_request.result c.requires.0 c.requires.1 c.read_request.ensures (sym c.ok.ensures.value ∙ c.in_err-ok.was))
