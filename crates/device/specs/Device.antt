-- Document 02, 1/12: what the device answers to a frame that it heard. Text is in standard mode.
use Rattle.std.specs.Prelude.{ℕ, Bool, true, false, cond, ◌&&◌, List, [], ◌∷◌, map, eqb}
use Rattle.refusal.specs.Outcome.{done, Outcome, ends}
use Rattle.packed_string.specs.declared.text_group.Mode.TheVariants.{Standard}
use Rattle.types.specs.declared.delimiter.FrameType.{FrameType}
use Rattle.types.specs.declared.delimiter.FrameType.TheVariants.{Request, Response, Burst}
use Rattle.line.specs.Pieces.{enough}
use Rattle.line.specs.Encode.{encoded}
use Rattle.line.specs.declared.frame.Frame.{Frame}
use Rattle.framing.specs.Payload.{carries, withheld, data_of}
use Rattle.commands.specs.Identity.{lowered_bytes}
use Rattle.commands.specs.Responses.{response_data, groups_bytes}
use Rattle.commands.specs.Tag.{Tagged, reads_tag, tag_read}
use Rattle.commands.specs.TagDescriptorDate.{tag_descriptor_date_layout, Fields, reads_fields, fields_read}
use Rattle.commands.specs.Variables.{Codes, reads_codes, codes_read}
use Rattle.device.specs.Own.{own_identity, own_tag, own_descriptor, own_day, own_month, own_year, own_variable}

-- nothing, or a response with these data
pub data Spoken : Type 0 where
  keeps_silent : Spoken
  speaks : List ℕ → Spoken

-- a response code and the second status byte, 0, and no more
abbrev pub status_alone : ℕ → Spoken
status_alone code = speaks (response_data code 0 [])

-- HART's 5: too few data bytes
abbrev pub too_few : Spoken
too_few = status_alone 5

-- command 0: the identity
abbrev pub identifies : Spoken
identifies = speaks (response_data 0 0 (lowered_bytes own_identity))

-- command 9: the extended status 0, and a group for each code that was asked for, in their order, the first eight; 5 for none
abbrev pub measures : Codes → Spoken
measures (reads_codes carries n codes) = speaks (response_data 0 0 (0 ∷ groups_bytes (map own_variable codes) n))
measures (reads_codes (withheld number values) n codes) = too_few

abbrev pub same_text : List ℕ → List ℕ → Bool
same_text [] [] = true
same_text [] (d ∷ t) = false
same_text (c ∷ s) [] = false
same_text (c ∷ s) (d ∷ t) = eqb c d && same_text s t

-- command 11: the identity, if its own tag was asked for, and else nothing; 5 for fewer bytes than a tag has
abbrev pub recognizes : Tagged → Spoken
recognizes (reads_tag carries tag) = cond (same_text tag own_tag) identifies keeps_silent
recognizes (reads_tag (withheld number values) tag) = too_few

-- command 13: tag, descriptor and date
abbrev pub describes : Spoken
describes = speaks (response_data 0 0 (tag_descriptor_date_layout Standard own_tag own_descriptor own_day own_month own_year))

-- command 18: the fields as they were sent, of which it keeps none, for it is fixed; 5 for fewer bytes than they have
abbrev pub rewrites : Fields → Spoken
rewrites (reads_fields carries tag descriptor day month year) = speaks (response_data 0 0 (tag_descriptor_date_layout Standard tag descriptor day month year))
rewrites (reads_fields (withheld number values) tag descriptor day month year) = too_few

-- a request's command and data; HART's 64 is: command not implemented
unfoldable pub told_to : ℕ → List ℕ → Spoken
told_to command ds =
    cond (eqb command 0) identifies
    (cond (eqb command 9) (measures (codes_read ds))
    (cond (eqb command 11) (recognizes (tag_read Standard ds))
    (cond (eqb command 13) describes
    (cond (eqb command 18) (rewrites (fields_read Standard ds))
    (status_alone 64)))))

-- requests alone are answered
abbrev pub if_request : FrameType → Spoken → Spoken
if_request Request spoken = spoken
if_request Response spoken = keeps_silent
if_request Burst spoken = keeps_silent

unfoldable pub answer_to : Frame → Spoken
answer_to f = if_request f.frame_type (told_to f.command (data_of f))

-- what it writes: nothing, or a response with the request's address and command, behind as many preambles as a listener needs
abbrev pub spoken_to : Frame → Spoken → List ℕ → Outcome
spoken_to f keeps_silent out = ends (done (0 ∷ [])) out
spoken_to f (speaks ds) out = encoded Response f.address f.command ds enough out

unfoldable pub answering : Frame → List ℕ → Outcome
answering f out = spoken_to f (answer_to f) out
