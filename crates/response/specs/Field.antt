-- Document 02, 1/12: a field of a response, and what putting it at a place of the lent payload comes to.
use Rattle.std.specs.Prelude.{ℕ, ◌+◌, ◌-◌, cond, List, [], ◌∷◌, length, take, ltb, Option, Some, None, Result, Ok, Err}
use Rattle.refusal.specs.Table.{number_of, values_of}
use Rattle.refusal.specs.declared.Refusal.{Refusal}
use Rattle.refusal.specs.Outcome.{Outcome, ends, done, refuses}
use Rattle.octets.specs.Put.{put}
use Rattle.packed_string.specs.Modes.{packed_text, packed_size, bad_in}
use Rattle.line.specs.Layout.{most_data}
use Rattle.line.specs.machine.Frames.{padded}
use Rattle.response.specs.Sizes.{groups_end, field_room}
use Rattle.response.specs.declared.field.Kind.{Kind}
use Rattle.response.specs.declared.field.Kind.TheVariants.{Bytes, Group, Text}
use Rattle.response.specs.declared.field.Field.{Field}

-- a field of some contents, with zeros behind them, and the contents of a field
abbrev pub field_of : Kind → List ℕ → Field
field_of kind cs = record { kind = kind; bytes = padded field_room cs; length = length cs }

abbrev pub contents : Field → List ℕ
contents f = take f.length f.bytes

-- the bytes that it has on the line: text is packed
abbrev pub bytes_in : Kind → List ℕ → List ℕ
bytes_in Bytes cs = cs
bytes_in Group cs = cs
bytes_in (Text mode) cs = packed_text mode cs

-- and their number
abbrev pub size_in : Kind → ℕ → ℕ
size_in Bytes n = n
size_in Group n = n
size_in (Text mode) n = packed_size n

-- how many characters it has, and the place of the first without a code, or their number
abbrev pub characters_in : Kind → ℕ → ℕ
characters_in Bytes n = 0
characters_in Group n = 0
characters_in (Text mode) n = n

abbrev pub bad_of : Kind → List ℕ → ℕ
bad_of Bytes cs = 0
bad_of Group cs = 0
bad_of (Text mode) cs = bad_in mode cs

-- the same of a field: the bytes it takes, its characters, and the place of the first without a code, if there is one
abbrev pub field_size : Field → ℕ
field_size f = size_in f.kind (length (contents f))

abbrev pub field_characters : Field → ℕ
field_characters f = characters_in f.kind (length (contents f))

abbrev pub bad_place_in_field : Field → Option ℕ
bad_place_in_field f =
    let bad : ℕ = bad_of f.kind (contents f) in
    cond (ltb bad (field_characters f)) (Some bad) None

-- where it has to end at the latest: a frame's data are 255 bytes at most, and a ninth group of command 9 would end behind the eighth
abbrev pub latest_of : Kind → ℕ
latest_of Bytes = most_data
latest_of Group = groups_end
latest_of (Text mode) = most_data

-- what a call on a payload and a place comes to: its outcome, and the place reached. One that is done gives that place, and has written
-- what lies before it; behind one that is refused the place is the one that it had
pub data Placing : Type 0 where
  leads : Outcome → ℕ → Placing

abbrev pub placing : ℕ → Result ℕ Refusal → List ℕ → Placing
placing at (Ok end) payload = leads (ends (done ((end - at) ∷ [])) payload) end
placing at (Err r) payload = leads (refuses (number_of r) (values_of r) payload) at

-- a refused field writes nothing and moves no place
abbrev pub stays : ℕ → List ℕ → List ℕ → ℕ → Placing
stays number values payload at = leads (refuses number values payload) at

-- 1 where the data would be too long, then 2 for a payload without room, then 7 for a character without a code, at its place in the field
unfoldable pub pushed_in : Kind → List ℕ → List ℕ → ℕ → Placing
pushed_in kind cs payload at =
    let end : ℕ = at + size_in kind (length cs) in
    cond (ltb (latest_of kind) end) (stays 1 [] payload at)
    (cond (ltb (length payload) end) (stays 2 [] payload at)
    (cond (ltb (bad_of kind cs) (characters_in kind (length cs))) (stays 7 (bad_of kind cs ∷ []) payload at)
    (leads (ends (done (size_in kind (length cs) ∷ [])) (put payload at (bytes_in kind cs))) end)))

abbrev pub pushed_field : Field → List ℕ → ℕ → Placing
pushed_field f payload at = pushed_in f.kind (contents f) payload at
