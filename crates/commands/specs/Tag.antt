-- Document 01, 'Commands': command 11; and document 02, 1/12: its request as a device reads it.
use Rattle.std.specs.Prelude.{ℕ, cond, List, [], length, take, replicate, ltb, Result, Ok, Err}
use Rattle.refusal.specs.declared.Refusal.{Refusal}
use Rattle.refusal.specs.Table.{number_of, values_of}
use Rattle.refusal.specs.Outcome.{Outcome}
use Rattle.packed_string.specs.declared.text_group.Mode.{Mode}
use Rattle.framing.specs.Payload.{Judgement, carries, withheld, Reader}
use Rattle.commands.specs.Identity.{Identified, unidentified, identity}
use Rattle.commands.specs.declared.read_unique_id_by_tag.ReadUniqueIdByTagRequest.{ReadUniqueIdByTagRequest}
use Rattle.packed_string.specs.Modes.{packed_text, unpacked_text, fields_written}
use Rattle.response.specs.Sizes.{tag_length, tag_size}

-- The request is a tag of eight characters in 6 packed bytes.
unfoldable pub tag_requested : Mode → List ℕ → List ℕ → Outcome
tag_requested mode tag buffer = fields_written mode tag_size tag (packed_text mode tag) buffer

-- The response is an identity.
abbrev pub command11 : Reader Identified
command11 = record { number = 11; read = identity; refuse = unidentified }

-- what reading a request comes to: carried or refused, and the tag
pub data Tagged : Type 0 where
  reads_tag : Judgement → List ℕ → Tagged

abbrev pub no_tag_read : Judgement → Tagged
no_tag_read judgement = reads_tag judgement (replicate tag_length 0)

abbrev pub tag_refused : ℕ → List ℕ → Tagged
tag_refused number values = no_tag_read (withheld number values)

abbrev pub tagged_of : Result ReadUniqueIdByTagRequest Refusal → Tagged
tagged_of (Ok r) = reads_tag carries r.tag
tagged_of (Err r) = tag_refused (number_of r) (values_of r)

-- 3 if there are fewer than 6 bytes; those past them are ignored
unfoldable pub tag_read : Mode → List ℕ → Tagged
tag_read mode bs = cond (ltb (length bs) tag_size) (tag_refused 3 []) (reads_tag carries (unpacked_text mode (take tag_size bs)))

abbrev pub request11 : Mode → Reader Tagged
request11 mode = record { number = 11; read = tag_read mode; refuse = tag_refused }
