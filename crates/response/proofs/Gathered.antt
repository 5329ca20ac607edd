-- Fields added one by one: what they weigh, their bytes, and what a response of them comes to, without a look at the list that holds them.
use Prim.Native.Nat.{ℕ, suc, ◌+◌, ◌≤◌, ◌<◌}
use native.Mathlib.Omega.{arith}
use mathlib.Core.Path.{◌≡◌, refl, sym, ap, ap₂, subst, ◌∙◌}
use mathlib.Core.Bool.{Bool, false, cond, ◌||◌}
use mathlib.Core.List.{List, [], ◌++◌}
use lib.ListN.{length, set, length-set}
use lib.Seq.{get_or-set_same, get_or-set_other, take-append_seam}
use lib.Dec.{ltb}
use borrow.Author.Tests.{lt-ltb, le-ltb}
use Rattle.octets.proofs.Parts.{parts_zero, parts_suc}
use Rattle.packed_string.specs.declared.text_group.Mode.{Mode}
use Rattle.packed_string.specs.Modes.{bad_in, fields_written}
use Rattle.response.specs.declared.field.Kind.{Kind}
use Rattle.response.specs.declared.field.Field.{Field}
use Rattle.response.specs.declared.writer.ResponseFields.{ResponseFields}
use Rattle.response.specs.Whole.{Weight}
use Rattle.response.specs.Sizes.{most_fields}
use Rattle.response.specs.Field.{field_of, contents, bytes_in, size_in, characters_in, bad_of, latest_of}
use Rattle.response.specs.Writer.{no_fields, with_field, field_at}
use Rattle.response.specs.Whole.{bad_through, added_in, added, weighed, field_bytes, all_bytes, responded}
use Rattle.response.proofs.Weights.{length_all, weighed_alike, bytes_alike}

abbrev weighing : Bool → ℕ → ℕ → ℕ → Weight
weighing late size characters bad = record { late = late; size = size; characters = characters; bad = bad }

-- n fields, what they weigh, and their bytes
pub record Gathered (fields : ResponseFields) (n : ℕ) (late : Bool) (size characters bad : ℕ) (bs : List ℕ) : Type 0 where
  pub roomy : length fields.list ≡ most_fields
  pub counted : fields.count ≡ n
  pub weight : weighed (field_at fields) n ≡ weighing late size characters bad
  pub bytes : all_bytes (field_at fields) n ≡ bs

pub gathered_none : Gathered no_fields 0 false 0 0 0 []
gathered_none = record { roomy = refl; counted = refl; weight = refl; bytes = parts_zero (λ (k : ℕ). field_bytes (field_at no_fields k)) }

-- by other names for the same numbers and bytes
pub gathered_as : {fields : ResponseFields} {n : ℕ} {late late' : Bool} {size size' characters characters' bad bad' : ℕ} {bs bs' : List ℕ} → Gathered fields n late size characters bad bs
    → late ≡ late' → size ≡ size' → characters ≡ characters' → bad ≡ bad' → bs ≡ bs' → Gathered fields n late' size' characters' bad' bs'
gathered_as had l s c b e = record {
  roomy = had.roomy;
  counted = had.counted;
  weight = had.weight ∙ (λ i. weighing (l i) (s i) (c i) (b i));
  bytes = had.bytes ∙ e;
}

-- one more
module _ {fields : ResponseFields} {n : ℕ} {late : Bool} {size characters bad : ℕ} {bs : List ℕ} (had : Gathered fields n late size characters bad bs) (room : n < most_fields) (kind : Kind) (cs : List ℕ) where
  abbrev f : Field
  f = field_of kind cs

  abbrev next : ResponseFields
  next = record { list = set fields.list n f; count = suc n }

  with_is : with_field fields f ≡ next
  with_is =
      let c = had.counted in
      ap (λ (k : ℕ). cond (ltb k most_fields) (record { list = set fields.list k f; count = suc k }) (record { list = fields.list; count = suc most_fields })) c
      ∙ ap (λ (t : Bool). cond t next (record { list = fields.list; count = suc most_fields })) (lt-ltb n most_fields room)

  before : (k : ℕ) → k < n → field_at next k ≡ field_at fields k
  before k h = get_or-set_other fields.list n k f _ (omega arith)

  there : field_at next n ≡ f
  there = get_or-set_same fields.list n f _ (omega (arith, had.roomy))

  abbrev OneMore : ResponseFields → Type 0
  OneMore x =
      let end : ℕ = size + size_in kind (length cs) in
      Gathered x (suc n) (late || ltb (latest_of kind) end) end (characters + characters_in kind (length cs)) (bad_through bad characters (bad_of kind cs)) (bs ++ bytes_in kind cs)

  pub gathered_with : OneMore (with_field fields (field_of kind cs))
  gathered_with =
      let held : contents f ≡ cs = take-append_seam cs _ in
      subst OneMore (sym with_is) record {
        roomy = length-set fields.list n f ∙ had.roomy;
        counted = refl;
        weight = ap₂ added (weighed_alike (field_at next) (field_at fields) n before ∙ had.weight) there ∙ ap (added_in (weighing late size characters bad) kind) held;
        bytes =
            parts_suc (λ (k : ℕ). field_bytes (field_at next k)) n
            ∙ ap₂ (λ (x y : List ℕ). x ++ y) (bytes_alike (field_at next) (field_at fields) n before ∙ had.bytes) (ap field_bytes there ∙ ap (bytes_in kind) held);
      }

-- a response of fields none of which ends late: all of their bytes, or 2 and then 7 by their text
pub gathered_written : {fields : ResponseFields} {n size characters bad : ℕ} {bs : List ℕ} → Gathered fields n false size characters bad bs → n ≤ most_fields
    → (mode : Mode) (text : List ℕ) → characters ≡ length text → bad ≡ bad_in mode text → (payload : List ℕ)
    → responded (field_at fields) fields.count payload ≡ fields_written mode (length bs) text bs payload
unfolding responded fields_written
gathered_written {fields} {n} {size} {characters} {bad} {bs} had few mode text chars first payload =
    let total : size ≡ length bs = sym (ap (λ (v : Weight). v.size) had.weight) ∙ sym (length_all (field_at fields) n) ∙ ap length had.bytes in
    rw (had.counted, le-ltb most_fields n few, had.weight, chars, first, had.bytes, total)
