-- Document 02, 1/12: the response writer, which remembers the lent payload and the place it has reached, and fields added in turn.
use Rattle.std.specs.Prelude.{ℕ, zero, suc, cond, List, [], get_or, set, replicate, ltb}
use denote.Ref.{at_last}
use Rattle.refusal.specs.Outcome.{Reply, ends}
use Rattle.response.specs.Sizes.{most_fields}
use Rattle.response.specs.Field.{field_of, Placing, leads, pushed_field}
use Rattle.response.specs.declared.field.Field.{Field}
use Rattle.response.specs.declared.field.Kind.TheVariants.{Bytes}
use Rattle.response.specs.declared.writer.ResponseWriter.{ResponseWriter}
use Rattle.response.specs.declared.writer.ResponseFields.{ResponseFields}

-- what a placing answers, and the payload and the place behind it
abbrev pub reply_in : Placing → Reply
reply_in (leads (ends reply payload) at) = reply

abbrev pub behind : Placing → List ℕ × ℕ
behind (leads (ends reply payload) at) = (payload, at)

-- a field put where the writer stands
abbrev pub pushed_on : ResponseWriter → Field → Placing
pushed_on w f = pushed_field f w.payload.now w.at

-- the writer behind it: the same lent payload with its bytes as they then are, and the place reached
abbrev pub advanced : ResponseWriter → Placing → ResponseWriter
advanced w o = record { payload = at_last w.payload (behind o).0; at = (behind o).1 }

-- so many fields in turn
abbrev pub in_turn : (ℕ → Field) → ℕ → List ℕ × ℕ → List ℕ × ℕ
in_turn field zero x = x
in_turn field (suc n) x = let y : List ℕ × ℕ = in_turn field n x in behind (pushed_field (field n) y.0 y.1)

-- no fields, and one more; one too many is counted and not kept
abbrev pub no_fields : ResponseFields
no_fields = record { list = replicate most_fields (field_of Bytes []); count = 0 }

abbrev pub with_field : ResponseFields → Field → ResponseFields
with_field fields f =
    cond (ltb fields.count most_fields) (record { list = set fields.list fields.count f; count = suc fields.count })
    (record { list = fields.list; count = suc most_fields })

-- the field of a number
abbrev pub nth_field : List Field → ℕ → Field
nth_field list i = get_or list i (record { kind = Bytes; bytes = []; length = 0 })

abbrev pub field_at : ResponseFields → ℕ → Field
field_at fields = nth_field fields.list
