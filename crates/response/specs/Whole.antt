-- Document 02, 1/12: a whole response, its fields one behind another.
use Rattle.std.specs.Prelude.{ℕ, zero, suc, ◌+◌, Bool, false, cond, ◌||◌, List, [], ◌∷◌, length, ltb, Option, Some, None, Result, Ok, Err}
use Rattle.refusal.specs.declared.Refusal.{Refusal}
use Rattle.refusal.specs.declared.Refusal.TheVariants.{DataTooLong}
use Rattle.refusal.specs.Outcome.{Outcome, wrote, refuses}
use Rattle.octets.specs.Put.{first_parts}
use Rattle.response.specs.Sizes.{most_fields}
use Rattle.response.specs.Field.{contents, bytes_in, size_in, characters_in, bad_of, latest_of}
use Rattle.response.specs.declared.field.Kind.{Kind}
use Rattle.response.specs.declared.field.Field.{Field}

-- what fields weigh: whether one ends too late, the bytes of all, their characters, and the first place of one without a code, or their
-- number
pub record Weight : Type 0 where
  pub late : Bool
  pub size : ℕ
  pub characters : ℕ
  pub bad : ℕ

-- the first bad place of two texts, one behind the other: that of the first, or past it that of the second
abbrev pub bad_through : ℕ → ℕ → ℕ → ℕ
bad_through bad characters here = cond (ltb bad characters) bad (characters + here)

-- one field more: whether one ends too late, how many bytes and characters there are, and the first place of a character without a code
abbrev pub added_in : Weight → Kind → List ℕ → Weight
added_in w kind cs = record {
  late = w.late || ltb (latest_of kind) (w.size + size_in kind (length cs));
  size = w.size + size_in kind (length cs);
  characters = w.characters + characters_in kind (length cs);
  bad = bad_through w.bad w.characters (bad_of kind cs);
}

abbrev pub added : Weight → Field → Weight
added w f = added_in w f.kind (contents f)

-- of so many fields
abbrev pub weighed : (ℕ → Field) → ℕ → Weight
weighed field zero = record { late = false; size = 0; characters = 0; bad = 0 }
weighed field (suc n) = added (weighed field n) (field n)

-- as a call gives it: the bytes, or 1 where one ends too late; and the first bad place, if there is one
abbrev pub size_or_late : Weight → Result ℕ Refusal
size_or_late w = cond w.late (Err DataTooLong) (Ok w.size)

abbrev pub first_bad : Weight → Option ℕ
first_bad w = cond (ltb w.bad w.characters) (Some w.bad) None

-- their bytes
abbrev pub field_bytes : Field → List ℕ
field_bytes f = bytes_in f.kind (contents f)

abbrev pub all_bytes : (ℕ → Field) → ℕ → List ℕ
all_bytes field n = first_parts (λ (k : ℕ). field_bytes (field k)) n

-- 1 for too many fields and where one ends too late, then 2 for a payload without room for all of them, then 7
unfoldable pub responded : (ℕ → Field) → ℕ → List ℕ → Outcome
responded field n payload =
    let w : Weight = weighed field n in
    cond (ltb most_fields n || w.late) (refuses 1 [] payload)
    (cond (ltb (length payload) w.size) (refuses 2 [] payload)
    (cond (ltb w.bad w.characters) (refuses 7 (w.bad ∷ []) payload)
    (wrote (all_bytes field n) payload)))
