-- The dump along a run of bytes: one byte as the step gives it, one run behind another, and a loop that takes bytes while there is room.
use Prim.Native.Nat.{ℕ, suc, ◌+◌, ◌-◌, ◌≤◌, ◌<◌}
use native.Mathlib.Omega.{arith}
use native.Mathlib.Decide.{dec_le}
use native.Mathlib.Nat.{zero-add, sub-zero}
use native.Mathlib.Numerals.{add-one}
use mathlib.Core.Path.{◌≡◌, refl, sym, ap, ap₂, ◌∙◌}
use mathlib.Core.Bool.{Bool, true, false, cond}
use mathlib.Core.List.{List, [], ◌∷◌, ◌++◌, append_assoc, append-nil}
use lib.Dec.{ltb}
use lib.ListN.{length, get_or, take, drop, length-append, drop_of_length-le}
use lib.Seq.{length-take-le, take-suc, drop-cons}
use borrow.Author.Tests.{lt-ltb, le-ltb}
use Rattle.octets.specs.Put.{put}
use Rattle.line.specs.declared.state.State.{State}
use Rattle.line.specs.declared.moved.Moved.{Moved}
use Rattle.std.specs.Prelude.{Some, None, Ok, Err}
use Rattle.line.specs.Events.{silence}
use Rattle.line.specs.machine.Step.{Ended, moved_at, stored_at}
use Rattle.line.specs.machine.Feed.{holding, fresh, settled_by, settled, stepped}
use Rattle.dump_lines.specs.Text.{line_max}
use Rattle.dump_lines.specs.Lines.{totals_of, next_dump, told, after, printed, count, taking, taken}
use Rattle.dump_lines.specs.declared.Dump.{Dump}
use Rattle.dump_lines.specs.declared.Taken.{Taken}
use Rattle.line.specs.machine.Feed.{event_of}
use Rattle.dump_lines.specs.Code.{goes_on, WritesOn}
use Rattle.dump_lines.specs.declared.dump_text.Writer.{Writer}
use Rattle.dump_lines.proofs.Words.{unwritten_on, joined_on, reworded_on, same_room, writes}

pub same_totals : {b f r b' f' r' : ℕ} → b ≡ b' → f ≡ f' → r ≡ r' → totals_of b f r ≡ totals_of b' f' r'
same_totals p q r = rw (p, q, r)

-- what the step gave, with what it ended: a piece that goes on is silence, and any other leaves a new decoder and its event
module _ (s : State) (bs : List ℕ) (b : ℕ) {m : Moved} {kept : List ℕ} (p : m ≡ moved_at s b) (q : kept ≡ stored_at s bs b) where
  pub still_open : goes_on m.ended ≡ true → stepped (holding s bs) b ≡ (holding m.state kept, silence)
  unfolding stepped
  still_open r = sym (ap₂ settled p q) ∙ by m.ended r
    where
      by : (x : Ended) → goes_on x ≡ true → settled_by x m.state kept ≡ (holding m.state kept, silence)
      by (Ok None) k = refl
      by (Ok (Some c)) k = cc
      by (Err r) k = cc

  pub is_over : goes_on m.ended ≡ false → stepped (holding s bs) b ≡ (fresh, event_of m.ended kept)
  unfolding stepped
  is_over r = sym (ap₂ settled p q) ∙ by m.ended r
    where
      by : (x : Ended) → goes_on x ≡ false → settled_by x m.state kept ≡ (fresh, event_of x kept)
      by (Ok None) k = cc
      by (Ok (Some c)) k = refl
      by (Err r) k = refl

-- and counts as silence, whatever stands in the bytes
pub open_silent : (x : Ended) (bs : List ℕ) → goes_on x ≡ true → event_of x bs ≡ silence
open_silent (Ok None) bs k = refl
open_silent (Ok (Some c)) bs k = cc
open_silent (Err r) bs k = cc

-- one run behind another
pub after_append : (d : Dump) (xs ys : List ℕ) → after d (xs ++ ys) ≡ after (after d xs) ys
after_append d [] ys = refl
after_append d (x ∷ xs) ys = after_append (next_dump d x) xs ys

pub printed-append : (d : Dump) (xs ys : List ℕ) → printed d (xs ++ ys) ≡ printed d xs ++ printed (after d xs) ys
printed-append d [] ys = refl
printed-append d (x ∷ xs) ys =
    ap (λ (t : List ℕ). told d x ++ t) (printed-append (next_dump d x) xs ys) ∙ sym (append_assoc (told d x) (printed (next_dump d x) xs) (printed (after (next_dump d x) xs) ys))

-- one byte more
module _ (d : Dump) (src : List ℕ) (n : ℕ) (h : n < length src) where
  pub after_more : after d (take (suc n) src) ≡ next_dump (after d (take n src)) (get_or src n 0)
  after_more = ap (after d) (take-suc src n 0 h) ∙ after_append d (take n src) (get_or src n 0 ∷ [])

  pub printed_more : printed d (take (suc n) src) ≡ printed d (take n src) ++ told (after d (take n src)) (get_or src n 0)
  printed_more =
      ap (printed d) (take-suc src n 0 h)
      ∙ printed-append d (take n src) (get_or src n 0 ∷ [])
      ∙ ap (λ (t : List ℕ). printed d (take n src) ++ t) (append-nil (told (after d (take n src)) (get_or src n 0)))

  -- it is taken where the longest line fits
  pub count_more : (e : Dump) (room : ℕ) → line_max ≤ room → count e (drop n src) room ≡ suc (count (next_dump e (get_or src n 0)) (drop (suc n) src) (room - length (told e (get_or src n 0))))
  count_more e room k = rw (drop-cons src n 0 h, le-ltb room line_max k)

-- and none is taken where the bytes are at an end or it does not fit
pub count_none : (d : Dump) (src : List ℕ) (n room : ℕ) → (n < length src → room < line_max) → count d (drop n src) room ≡ 0
count_none d src n room h = by (dec_le (length src) n)
  where
    by : Dec (length src ≤ n) → count d (drop n src) room ≡ 0
    by (yes k) = rw (drop_of_length-le src k)
    by (no k) = let g : n < length src = omega arith in rw (drop-cons src n 0 g, lt-ltb room line_max (h g))

-- what a loop has come to that began with `d₀` and a writer `w₀`, and took `used` bytes: the dump and the text are theirs, and of the bytes
-- to be taken in all the others are still to come
pub record Took (d₀ : Dump) (src : List ℕ) (w₀ : Writer) (d : Dump) (used : ℕ) (w : Writer) : Type 0 where
  pub within : used ≤ length src
  pub dumped : d ≡ after d₀ (take used src)
  pub lines : WritesOn w₀ (printed d₀ (take used src)) w
  pub counted : count d₀ src (length w₀.out.now) ≡ used + count d (drop used src) (length w₀.out.now - w.at)

pub took_none : (d : Dump) (src : List ℕ) (w : Writer) → w.at ≡ 0 → Took d src w d 0 w
took_none d src w e = record { within = omega arith; dumped = refl; lines = unwritten_on w (omega arith); counted = rw (e, sub-zero, zero-add) }

module _ {d₀ d : Dump} {src : List ℕ} {w₀ w : Writer} {used : ℕ} (t : Took d₀ src w₀ d used w) where
  pub took_more : {e : Dump} {next : Writer} → used < length src → w.at + line_max ≤ length w.out.now → e ≡ next_dump d (get_or src used 0) → WritesOn w (told d (get_or src used 0)) next → Took d₀ src w₀ e (used + 1) next
  took_more {e} {next} h k n more =
      let b : ℕ = get_or src used 0 in
      let line : List ℕ = told d b in
      let room : ℕ = length w₀.out.now - w.at in
      let sized : length w.out.now ≡ length w₀.out.now = same_room t.lines in
      let gap : room - length line ≡ length w₀.out.now - next.at = omega (arith, (writes more).place) in
      let left : count (next_dump d b) (drop (suc used) src) (room - length line) ≡ count e (drop (used + 1) src) (length w₀.out.now - next.at) =
      ap (λ (x : Dump). count x (drop (suc used) src) (room - length line)) (sym n) ∙ ap₂ (λ (i r : ℕ). count e (drop i src) r) (sym (add-one used)) gap in
      record {
        within = omega arith;
        dumped = n ∙ ap (λ (x : Dump). next_dump x b) t.dumped ∙ sym (after_more d₀ src used h) ∙ ap (λ (i : ℕ). after d₀ (take i src)) (sym (add-one used));
        lines =
            reworded_on (ap (λ (x : Dump). printed d₀ (take used src) ++ told x b) t.dumped ∙ sym (printed_more d₀ src used h) ∙ ap (λ (i : ℕ). printed d₀ (take i src)) (sym (add-one used)))
            (joined_on t.lines more);
        counted = omega (arith, t.counted, count_more d₀ src used h d room (omega (arith, sized)), left);
      }

  -- where it stops, what was taken is all that is to be taken
  module _ (begins : w₀.at ≡ 0) (stops : used < length src → length w.out.now < w.at + line_max) where
    all : used ≡ count d₀ src (length w₀.out.now)
    all = sym (t.counted ∙ omega (arith, count_none d src used (length w₀.out.now - w.at) (λ k. omega (arith, stops k, same_room t.lines))))

    pub took_all : ◌≡◌ {A = Taken} (record { used = used; written = w.at }) (taken d₀ src (length w₀.out.now))
    took_all =
        let size : w.at ≡ length (printed d₀ (take used src)) = omega (arith, (writes t.lines).place) in
        ap (λ (n : ℕ). record { used = used; written = n }) size ∙ ap (λ (n : ℕ). record { used = n; written = length (printed d₀ (take n src)) }) all

    pub took_dump : d ≡ after d₀ (taking d₀ src (length w₀.out.now))
    took_dump = t.dumped ∙ ap (λ (n : ℕ). after d₀ (take n src)) all

    pub took_text : w.out.now ≡ put w₀.out.now 0 (printed d₀ (taking d₀ src (length w₀.out.now)))
    took_text = (writes t.lines).content ∙ ap₂ (λ (at n : ℕ). put w₀.out.now at (printed d₀ (take n src))) begins all

-- a list that keeps its length had room for what was put into it
put-room : (l : List ℕ) (at : ℕ) (bs : List ℕ) → at ≤ length l → length (put l at bs) ≡ length l → at + length bs ≤ length l
put-room l at bs h e =
    omega (arith, length-append (take at l ++ bs) (drop (at + length bs) l), length-append (take at l) bs, length-take-le at l h)

-- what a caller of `take` goes by: no more is taken than is there, something is taken where there are bytes and room, and what was written
-- lies within the buffer
count_within : (d : Dump) (src : List ℕ) (room : ℕ) → count d src room ≤ length src
count_within d [] room = omega arith
count_within d (b ∷ bs) room = by (ltb room line_max) (count_within (next_dump d b) bs (room - length (told d b)))
  where
    by : (y : Bool) → count (next_dump d b) bs (room - length (told d b)) ≤ length bs → cond y 0 (suc (count (next_dump d b) bs (room - length (told d b)))) ≤ suc (length bs)
    by true h = omega arith
    by false h = omega arith

module _ (d : Dump) (src before : List ℕ) {t : Taken} (e : t ≡ taken d src (length before)) where
  pub used_within : t.used ≤ length src
  used_within = rw e (count_within d src (length before))

  pub used_some : 0 < length src → line_max ≤ length before → 0 < t.used
  used_some h k = rw (e, count_more d src 0 h d (length before) k) (omega arith)

  pub written_within : {after : List ℕ} → after ≡ put before 0 (printed d (taking d src (length before))) → length after ≡ length before → t.written ≤ length before
  written_within f same = rw e (omega (arith, put-room before 0 (printed d (taking d src (length before))) (omega arith) (sym (ap length f) ∙ same)))
