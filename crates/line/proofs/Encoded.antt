-- A frame as it is written: how long it is, what a call comes to, and that a call which is done has written it whole.
use Prim.Native.Nat.{ℕ, ◌≤◌, ◌<◌}
use native.Mathlib.Omega.{arith}
use mathlib.Core.Path.{◌≡◌, refl, sym, ap, ap₂, ◌∙◌}
use mathlib.Core.Bool.{Bool, true, false, cond}
use mathlib.Core.List.{List, [], ◌∷◌, ◌++◌}
use lib.ListN.{length, take, drop, replicate}
use lib.Seq.{take_at, drop_at}
use lib.Dec.{ltb}
use borrow.Author.Tests.{lt-ltb, le-ltb, ltb-false}
use Rattle.refusal.specs.Outcome.{ends, done, refused, wrote, refuses}
use Rattle.types.specs.declared.delimiter.FrameType.{FrameType}
use Rattle.types.specs.declared.address.Address.{Address}
use Rattle.types.specs.Address.{is_long}
use Rattle.types.proofs.Addresses.{length-address}
use Rattle.line.specs.Layout.{most_data}
use Rattle.line.specs.Encode.{wire_of, layout, total, encoded, Whole}
use Rattle.line.proofs.Layouts.{length-frame}

-- document 01's total
pub length-layout : (t : FrameType) (a : Address) (c n : ℕ) (ds : List ℕ) → length (layout n (wire_of t a c ds)) ≡ total n (is_long a) (length ds)
length-layout t a c n ds = omega (arith, length-frame n (wire_of t a c ds) (length-address a))

-- what holds whichever way a test went
either : {A : Type 0} {o : A} (P : Type 0) (x : Bool) {a b : A} → (x ≡ true → a ≡ o → P) → (x ≡ false → b ≡ o → P) → cond x a b ≡ o → P
either P true f g e = f refl e
either P false f g e = g refl e

-- document 01, of 256 data bytes and no buffer: 1 is tested before 2
pub long_before_small : (t : FrameType) (a : Address) (c n : ℕ) → encoded t a c (replicate 256 0) n [] ≡ ends (refused 1 []) []
unfolding encoded
long_before_small t a c n = refl

module _ (t : FrameType) (a : Address) (c : ℕ) (ds : List ℕ) (n : ℕ) (buffer : List ℕ) where
  -- a call that is refused has written nothing
  pub encoded_untouched : (number : ℕ) (values after : List ℕ) → encoded t a c ds n buffer ≡ ends (refused number values) after → after ≡ buffer
  unfolding encoded
  encoded_untouched number values after = either (after ≡ buffer) (ltb most_data (length ds)) (λ _ f. kept f) (λ _. either (after ≡ buffer) (ltb (length buffer) (total n (is_long a) (length ds))) (λ _ f. kept f) (λ _ f. never f))
    where
      kept : {k : ℕ} → refuses k [] buffer ≡ ends (refused number values) after → after ≡ buffer
      kept f = cc

      -- what was written is no refusal
      never : {bs rest : List ℕ} → ends (done bs) rest ≡ ends (refused number values) after → after ≡ buffer
      never f = let z : ◌≡◌ {A = ℕ} 0 1 = cc in absurd (omega arith)

  -- a call that is done has written the whole frame
  pub encoded_whole : (count : ℕ) (after : List ℕ) → encoded t a c ds n buffer ≡ ends (done (count ∷ [])) after → Whole t a c ds n buffer count after
  unfolding encoded
  encoded_whole count after =
      either (Whole t a c ds n buffer count after) (ltb most_data (length ds)) (λ _ f. never f)
      (λ p. either (Whole t a c ds n buffer count after) (ltb (length buffer) size) (λ _ f. never f)
      (λ q f. done_whole (ltb-false most_data (length ds) p) (ltb-false (length buffer) size q) refl refl f))
    where
      size : ℕ
      size = total n (is_long a) (length ds)

      frame : List ℕ
      frame = layout n (wire_of t a c ds)

      -- a count and bytes that are those of the frame
      done_whole : {written : ℕ} {bytes : List ℕ} → length ds ≤ most_data → size ≤ length buffer → written ≡ length frame → bytes ≡ frame ++ drop (length frame) buffer → ends (done (written ∷ [])) bytes ≡ ends (done (count ∷ [])) after → Whole t a c ds n buffer count after
      done_whole h k x y f =
          let m : count ≡ length frame = cc in
          let b : after ≡ frame ++ drop (length frame) buffer = cc in
          record {
            short = h;
            fits = omega (arith, length-layout t a c n ds);
            totals = m ∙ length-layout t a c n ds;
            bytes = ap₂ take m b ∙ take_at frame (drop (length frame) buffer) (length frame) refl;
            untouched = ap₂ drop m b ∙ drop_at frame (drop (length frame) buffer) (length frame) refl ∙ ap (λ (j : ℕ). drop j buffer) (sym m);
          }

      -- a refusal is not done
      never : {k : ℕ} {values rest : List ℕ} → ends (refused k values) rest ≡ ends (done (count ∷ [])) after → Whole t a c ds n buffer count after
      never f = let z : ◌≡◌ {A = ℕ} 0 1 = cc in absurd (omega arith)

  -- what a call comes to, case by case
  pub encoded_long : most_data < length ds → encoded t a c ds n buffer ≡ refuses 1 [] buffer
  unfolding encoded
  encoded_long h = rw (lt-ltb most_data (length ds) h)

  pub encoded_small : length ds ≤ most_data → length buffer < total n (is_long a) (length ds) → encoded t a c ds n buffer ≡ refuses 2 [] buffer
  unfolding encoded
  encoded_small h k = rw (le-ltb most_data (length ds) h, lt-ltb (length buffer) (total n (is_long a) (length ds)) k)

  pub encoded_fits : length ds ≤ most_data → total n (is_long a) (length ds) ≤ length buffer → encoded t a c ds n buffer ≡ wrote (layout n (wire_of t a c ds)) buffer
  unfolding encoded
  encoded_fits h k = rw (le-ltb most_data (length ds) h, le-ltb (length buffer) (total n (is_long a) (length ds)) k)
