-- What the fields of a response weigh, and that fields which pass the tests stand one behind another once they are put in turn.
use Prim.Native.Nat.{ℕ, zero, suc, ◌+◌, ◌≤◌, ◌<◌}
use native.Mathlib.Omega.{arith}
use mathlib.Core.Path.{◌≡◌, refl, sym, ap, ap₂, ◌∙◌}
use mathlib.Core.Bool.{Bool, true, false, cond, ◌||◌}
use mathlib.Core.List.{List, [], ◌∷◌, ◌++◌}
use mathlib.Core.Logic.{◌⊎◌, inl, inr}
use lib.ListN.{length, take, length-append}
use lib.Dec.{ltb}
use borrow.Author.Tests.{lt-ltb, le-ltb, ltb-true, ltb-false}
use Rattle.std.specs.Prelude.{Some, None}
use Rattle.refusal.specs.Outcome.{done, ends, wrote, refuses}
use Rattle.octets.specs.Put.{put, first_parts}
use Rattle.octets.proofs.Put.{length-put, put-put, put-wrote}
use Rattle.octets.proofs.Parts.{parts_zero, parts_suc, parts_start}
use Rattle.response.specs.declared.field.Field.{Field}
use Rattle.response.specs.Sizes.{most_fields}
use Rattle.response.specs.Field.{contents, bad_place_in_field, size_in, field_size, field_characters, characters_in, bad_of, latest_of, pushed_in}
use Rattle.std.proofs.lemmas.List.{get_or-take}
use Rattle.response.specs.Writer.{nth_field, behind, in_turn}
use Rattle.response.specs.Whole.{first_bad, bad_through, added, weighed, field_bytes, all_bytes, responded}
use Rattle.response.proofs.Fields.{some_below, length-bytes, pushed_fits}

-- of two texts, where neither has a bad place the second has none
good_second : (bad characters here more : ℕ) → characters + more ≤ bad_through bad characters here → (characters ≤ bad) × (more ≤ here)
good_second bad characters here more h = by (ltb bad characters) refl h
  where
    by : (b : Bool) → ltb bad characters ≡ b → characters + more ≤ cond b bad (characters + here) → (characters ≤ bad) × (more ≤ here)
    by true e k = absurd (omega (arith, ltb-true bad characters e, k))
    by false e k = (ltb-false bad characters e, omega (arith, k))

or-false : (x y : Bool) → (x || y) ≡ false → (x ≡ false) × (y ≡ false)
or-false true y e = (e, cc)
or-false false y e = (refl, e)

zero_or_less : {n : ℕ} → n ≤ 0 → 0 ≡ n
zero_or_less h = omega arith

last_or_before : (n m : ℕ) → n ≤ suc m → (suc m ≡ n) ⊎ (n ≤ m)
last_or_before n m h = by (ltb m n) refl
  where
    by : (b : Bool) → ltb m n ≡ b → (suc m ≡ n) ⊎ (n ≤ m)
    by true t = inl (omega (arith, ltb-true m n t))
    by false t = inr (ltb-false m n t)

-- the same fields below n weigh the same and have the same bytes
module _ (f g : ℕ → Field) where
  pub weighed_alike : (n : ℕ) → ((k : ℕ) → k < n → f k ≡ g k) → weighed f n ≡ weighed g n
  weighed_alike zero same = refl
  weighed_alike (suc n) same = ap₂ added (weighed_alike n (λ k h. same k (omega arith))) (same n (omega arith))

  pub bytes_alike : (n : ℕ) → ((k : ℕ) → k < n → f k ≡ g k) → all_bytes f n ≡ all_bytes g n
  bytes_alike zero same = parts_zero (λ (k : ℕ). field_bytes (f k)) ∙ sym (parts_zero (λ (k : ℕ). field_bytes (g k)))
  bytes_alike (suc n) same =
      parts_suc (λ (k : ℕ). field_bytes (f k)) n
      ∙ ap₂ (λ (x y : List ℕ). x ++ y) (bytes_alike n (λ k h. same k (omega arith))) (ap field_bytes (same n (omega arith)))
      ∙ sym (parts_suc (λ (k : ℕ). field_bytes (g k)) n)

module _ (field : ℕ → Field) where
  -- what ends too late does so with more fields behind it
  pub late_on : (n m : ℕ) → n ≤ m → (weighed field n).late ≡ true → (weighed field m).late ≡ true
  late_on n zero h e = ap (λ (k : ℕ). (weighed field k).late) (zero_or_less h) ∙ e
  late_on n (suc m) h e =
      let w = weighed field m in
      let f = field m in
      elim (last_or_before n m h) [
        | inl same ↦ ap (λ (k : ℕ). (weighed field k).late) same ∙ e
        | inr before ↦ ap (λ (b : Bool). b || ltb (latest_of f.kind) (w.size + field_size f)) (late_on n m before e)
      ]

  pub late_with : (n : ℕ) → latest_of (field n).kind < (weighed field n).size + field_size (field n) → (weighed field (suc n)).late ≡ true
  late_with n h = by (weighed field n).late (lt-ltb _ _ h)
    where
      by : (b : Bool) {c : Bool} → c ≡ true → (b || c) ≡ true
      by true e = refl
      by false e = e

  -- and what is the first bad place stays so
  pub bad_on : (n m : ℕ) → n ≤ m → (weighed field n).bad < (weighed field n).characters
      → ((weighed field m).bad ≡ (weighed field n).bad) × ((weighed field m).bad < (weighed field m).characters)
  bad_on n zero h e =
      let same = zero_or_less h in
      (ap (λ (k : ℕ). (weighed field k).bad) same, omega (arith, ap (λ (k : ℕ). (weighed field k).bad) same, ap (λ (k : ℕ). (weighed field k).characters) same))
  bad_on n (suc m) h e =
      let w = weighed field m in
      let f = field m in
      elim (last_or_before n m h) [
        | inl same ↦ (ap (λ (k : ℕ). (weighed field k).bad) same, omega (arith, ap (λ (k : ℕ). (weighed field k).bad) same, ap (λ (k : ℕ). (weighed field k).characters) same))
        | inr before ↦
            let had = bad_on n m before e in
            let here : (weighed field (suc m)).bad ≡ w.bad = ap (λ (b : Bool). cond b w.bad (w.characters + bad_of f.kind (contents f))) (lt-ltb w.bad w.characters had.1) in
            (here ∙ had.0, omega (arith, here, had.1))
      ]

  pub first_bad_here : (n m place : ℕ) → n < m → (weighed field n).characters ≤ (weighed field n).bad → Some place ≡ bad_place_in_field (field n)
      → Some ((weighed field n).characters + place) ≡ first_bad (weighed field m)
  first_bad_here n m place h good e =
      let w = weighed field n in
      let v = weighed field m in
      let f = field n in
      let bad = bad_of f.kind (contents f) in
      let found = some_below bad (field_characters f) e in
      let here : (weighed field (suc n)).bad ≡ w.characters + bad = ap (λ (b : Bool). cond b w.bad (w.characters + bad)) (le-ltb w.bad w.characters good) in
      let there = bad_on (suc n) m (omega arith) (omega (arith, here, found.1)) in
      let same : w.characters + place ≡ v.bad = omega (arith, here, found.0, there.0) in
      ap Some same ∙ sym (ap (λ (b : Bool). cond b (Some v.bad) None) (lt-ltb v.bad v.characters there.1))

  pub length_all : (n : ℕ) → length (all_bytes field n) ≡ (weighed field n).size
  unfolding first_parts
  length_all zero = refl
  length_all (suc n) =
      length-append (all_bytes field n) (field_bytes (field n))
      ∙ omega (arith, length_all n, length-bytes (field n).kind (contents (field n)))

  -- fields that end in time, have room and have a code for each character, put in turn
  pub in_turn_fits : (payload : List ℕ) (n : ℕ) → (weighed field n).late ≡ false → (weighed field n).size ≤ length payload → (weighed field n).characters ≤ (weighed field n).bad
      → in_turn field n (payload, 0) ≡ (put payload 0 (all_bytes field n), (weighed field n).size)
  in_turn_fits payload zero late room good = ap (λ (l : List ℕ). (l, 0)) (parts_start (λ (k : ℕ). field_bytes (field k)) payload)
  in_turn_fits payload (suc n) late room good =
      let w = weighed field n in
      let f = field n in
      let cs = contents f in
      let bs = all_bytes field n in
      let l = put payload 0 bs in
      let lates = or-false w.late (ltb (latest_of f.kind) (w.size + size_in f.kind (length cs))) late in
      let goods = good_second w.bad w.characters (bad_of f.kind cs) (characters_in f.kind (length cs)) good in
      let timely : w.size + size_in f.kind (length cs) ≤ latest_of f.kind = ltb-false _ _ lates.1 in
      let size : length bs ≡ w.size = length_all n in
      let kept : length l ≡ length payload = length-put payload 0 bs (omega (arith, size, room)) in
      let before : in_turn field n (payload, 0) ≡ (l, w.size) = in_turn_fits payload n lates.0 (omega (arith, room)) goods.0 in
      ap (λ (y : List ℕ × ℕ). behind (pushed_in f.kind cs y.0 y.1)) before
      ∙ ap behind (pushed_fits f.kind cs l w.size timely (omega (arith, kept, room)) goods.1)
      ∙ ap (λ (x : List ℕ). (x, w.size + size_in f.kind (length cs)))
      (put-put payload 0 bs (field_bytes f) w.size (omega (arith, size, room)) (omega (arith, size)) ∙ sym (ap (put payload 0) (parts_suc (λ (k : ℕ). field_bytes (field k)) n)))

  -- what a whole response comes to
  module _ (n : ℕ) (payload : List ℕ) where
    pub responded_many : most_fields < n → responded field n payload ≡ refuses 1 [] payload
    unfolding responded
    responded_many h = rw (lt-ltb most_fields n h)

    module _ (few : n ≤ most_fields) where
      pub responded_late : (weighed field n).late ≡ true → responded field n payload ≡ refuses 1 [] payload
      unfolding responded
      responded_late e = rw (le-ltb most_fields n few, e)

      module _ (late : (weighed field n).late ≡ false) where
        pub responded_small : length payload < (weighed field n).size → responded field n payload ≡ refuses 2 [] payload
        unfolding responded
        responded_small h = rw (le-ltb most_fields n few, late, lt-ltb _ _ h)

        module _ (room : (weighed field n).size ≤ length payload) where
          pub responded_bad : (weighed field n).bad < (weighed field n).characters → responded field n payload ≡ refuses 7 ((weighed field n).bad ∷ []) payload
          unfolding responded
          responded_bad h = rw (le-ltb most_fields n few, late, le-ltb _ _ room, lt-ltb _ _ h)

          responded_whole : (weighed field n).characters ≤ (weighed field n).bad → responded field n payload ≡ wrote (all_bytes field n) payload
          unfolding responded
          responded_whole h = rw (le-ltb most_fields n few, late, le-ltb _ _ room, le-ltb _ _ h)

          pub responded_fits : (weighed field n).characters ≤ (weighed field n).bad → {l : List ℕ} → l ≡ (in_turn field n (payload, 0)).0
              → ends (done ((weighed field n).size ∷ [])) l ≡ responded field n payload
          responded_fits h e =
              let there = e ∙ ap (λ (x : List ℕ × ℕ). x.0) (in_turn_fits payload n late room h) in
              put-wrote payload (all_bytes field n) there (sym (length_all n)) ∙ sym (responded_whole h)

-- the first fields of a list, as a slice has them
module _ (list fields : List Field) (n : ℕ) (first : fields ≡ take n list) (count : length fields ≡ n) (payload : List ℕ) where
  in_slice : (k : ℕ) → k < n → nth_field list k ≡ nth_field fields k
  in_slice k h = sym (ap (λ (l : List Field). nth_field l k) first ∙ get_or-take n list k _ h)

  pub responded_slice : responded (nth_field list) n payload ≡ responded (nth_field fields) (length fields) payload
  unfolding responded
  responded_slice =
      rw count
      rw (weighed_alike (nth_field list) (nth_field fields) n in_slice, bytes_alike (nth_field list) (nth_field fields) n in_slice)
