-- Document 01, 'Commands': command 18, whose request and response have one layout: a tag, a descriptor, day, month and year; and
-- document 02, 1/12: command 13, whose response has it too.
use Rattle.std.specs.Prelude.{ℕ, ◌+◌, cond, List, [], ◌∷◌, ◌++◌, length, get_or, take, drop, replicate, ltb, Result, Ok, Err}
use Rattle.refusal.specs.declared.Refusal.{Refusal}
use Rattle.refusal.specs.Table.{number_of, values_of}
use Rattle.refusal.specs.Outcome.{Outcome}
use Rattle.packed_string.specs.declared.text_group.Mode.{Mode}
use Rattle.framing.specs.Payload.{Judgement, carries, withheld, Reader}
use Rattle.packed_string.specs.Modes.{packed_text, unpacked_text, fields_written}
use Rattle.response.specs.Sizes.{tag_length, tag_size, descriptor_length, descriptor_size}
use Rattle.commands.specs.declared.tag_descriptor_date.TagDescriptorDate.{TagDescriptorDate}

-- the characters of both texts
abbrev pub texts_length : ℕ
texts_length = tag_length + descriptor_length

-- where the three bytes of the date stand, and how many bytes there are in all
abbrev pub day_at : ℕ
day_at = tag_size + descriptor_size

abbrev pub month_at : ℕ
month_at = day_at + 1

abbrev pub year_at : ℕ
year_at = month_at + 1

abbrev pub layout_size : ℕ
layout_size = year_at + 1

-- 6 packed bytes of a tag of 8 characters, 12 of a descriptor of 16, day, month, year
abbrev pub tag_descriptor_date_layout : Mode → List ℕ → List ℕ → ℕ → ℕ → ℕ → List ℕ
tag_descriptor_date_layout mode tag descriptor day month year = packed_text mode tag ++ packed_text mode descriptor ++ (day ∷ month ∷ year ∷ [])

-- 2 for a buffer that has not the 21 bytes, then 7, whose place runs through the tag and on through the descriptor
unfoldable pub tag_descriptor_date_requested : Mode → List ℕ → List ℕ → ℕ → ℕ → ℕ → List ℕ → Outcome
tag_descriptor_date_requested mode tag descriptor day month year buffer = fields_written mode layout_size (tag ++ descriptor) (tag_descriptor_date_layout mode tag descriptor day month year) buffer

-- what reading the layout comes to: carried or refused, and the tag, the descriptor, day, month and year
pub data Fields : Type 0 where
  reads_fields : Judgement → List ℕ → List ℕ → ℕ → ℕ → ℕ → Fields

abbrev pub fields_at : Mode → List ℕ → Fields
fields_at mode bs =
    reads_fields carries (unpacked_text mode (take tag_size bs)) (unpacked_text mode (take descriptor_size (drop tag_size bs))) (get_or bs day_at 0) (get_or bs month_at 0) (get_or bs year_at 0)

abbrev pub no_fields_read : Judgement → Fields
no_fields_read judgement = reads_fields judgement (replicate tag_length 0) (replicate descriptor_length 0) 0 0 0

abbrev pub fields_refused : ℕ → List ℕ → Fields
fields_refused number values = no_fields_read (withheld number values)

abbrev pub fields_of : Result TagDescriptorDate Refusal → Fields
fields_of (Ok r) = reads_fields carries r.tag r.descriptor r.day r.month r.year
fields_of (Err r) = fields_refused (number_of r) (values_of r)

-- 3 if there are fewer than 21 bytes; those past them are ignored
unfoldable pub fields_read : Mode → List ℕ → Fields
fields_read mode bs = cond (ltb (length bs) layout_size) (fields_refused 3 []) (fields_at mode bs)

-- a command that has this layout, by its number; a request of command 18 and its response are read alike
abbrev pub texts_reader : ℕ → Mode → Reader Fields
texts_reader wanted mode = record { number = wanted; read = fields_read mode; refuse = fields_refused }

abbrev pub command18 : Mode → Reader Fields
command18 mode = record { number = 18; read = fields_read mode; refuse = fields_refused }

-- The response of command 13 has command 18's layout.
abbrev pub command13 : Mode → Reader Fields
command13 mode = texts_reader 13 mode
