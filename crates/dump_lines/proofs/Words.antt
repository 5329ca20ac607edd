-- Text written into a buffer, a word with its mark, and text behind text.
use Prim.Native.Nat.{ℕ, ◌+◌, ◌≤◌, ◌<◌}
use native.Mathlib.Omega.{arith}
use mathlib.Core.Path.{◌≡◌, refl, sym, ap, ap₂, subst, ◌∙◌}
use denote.Ref.{at_last}
use mathlib.Core.Bool.{Bool, true, false, cond}
use mathlib.Core.List.{List, [], ◌∷◌, ◌++◌}
use lib.Dec.{ltb}
use lib.ListN.{length, drop, set, length-append}
use Rattle.refusal.specs.Outcome.{done, ends, wrote, refuses}
use Rattle.octets.specs.Put.{put}
use Rattle.octets.proofs.Put.{put-nil, length-put, put-put, put-snoc}
use Rattle.dump_lines.specs.Text.{end_line, line_max}
use Rattle.dump_lines.specs.Writing.{end_written}
use Rattle.dump_lines.specs.Code.{Writes, behind_text, WritesOn}
use Rattle.dump_lines.specs.declared.dump_text.Writer.{Writer}

-- the mark is stored right behind the word
pub marked : (l : List ℕ) (at : ℕ) (word : List ℕ) (mark i : ℕ) {b : List ℕ} → b ≡ put l at word → i ≡ at + length word → at + length word < length l → Writes l at (word ++ (mark ∷ [])) (i + 1) (set b i mark)
marked l at word mark i {b} e f h =
    let size : length (word ++ (mark ∷ [])) ≡ length word + 1 = length-append word (mark ∷ []) in
    record {
      room = omega arith;
      place = omega arith;
      content = ap (λ (x : List ℕ). set x i mark) e ∙ put-snoc l at word mark i (omega arith) (sym f);
    }

-- no text
pub unwritten : (l : List ℕ) (at : ℕ) → at ≤ length l → Writes l at [] at l
unwritten l at h = record { room = omega arith; place = omega arith; content = sym (put-nil l at) }

-- text behind text
pub joined : {before middle after first second : List ℕ} {at between behind : ℕ} → Writes before at first between middle → Writes middle between second behind after → Writes before at (first ++ second) behind after
joined {before} {middle} {after} {first} {second} {at} {between} {behind} w v =
    let same : length middle ≡ length before = ap length w.content ∙ length-put before at first w.room in
    let size : length (first ++ second) ≡ length first + length second = length-append first second in
    record {
      room = omega (arith, w.place, v.room);
      place = omega (arith, w.place, v.place);
      content = v.content ∙ ap (λ (b : List ℕ). put b between second) w.content ∙ put-put before at first second between w.room (sym w.place);
    }

-- the same text in other words
pub reworded : {before after text same : List ℕ} {at behind : ℕ} → text ≡ same → Writes before at text behind after → Writes before at same behind after
reworded {before} {after} {text} {same} {at} {behind} e w = subst (λ (t : List ℕ). Writes before at t behind after) e w

-- the same of a writer: what stands in its buffer and where it is say all
pub on : (w : Writer) (text : List ℕ) {xs : List ℕ} {i : ℕ} → Writes w.out.now w.at text i xs → WritesOn w text (record { out = at_last w.out xs; at = i })
on w text t = record { room = t.room; stands = ap₂ (λ (xs : List ℕ) (i : ℕ). record { out = at_last w.out xs; at = i }) t.content t.place }

pub writes : {v w : Writer} {text : List ℕ} → WritesOn v text w → Writes v.out.now v.at text w.at w.out.now
writes {v} {w} {text} t = record { room = t.room; place = ap (λ (x : Writer). x.at) t.stands; content = ap (λ (x : Writer). x.out.now) t.stands }

-- and of a writer that already stands behind some text
pub on_more : {v w : Writer} {part : List ℕ} (text : List ℕ) {xs : List ℕ} {i : ℕ} → WritesOn v part w → Writes v.out.now v.at text i xs → WritesOn v text (record { out = at_last w.out xs; at = i })
on_more {v} {w} text {xs} {i} s t =
    record { room = t.room; stands = ap (λ (x : Writer). record { out = at_last x.out xs; at = i }) s.stands ∙ (on v text t).stands }

pub same_room : {v w : Writer} {text : List ℕ} → WritesOn v text w → length w.out.now ≡ length v.out.now
same_room {v} {w} {text} t = ap length (writes t).content ∙ length-put v.out.now v.at text t.room

pub unwritten_on : (w : Writer) → w.at ≤ length w.out.now → WritesOn w [] w
unwritten_on w h = on w [] (unwritten w.out.now w.at h)

pub joined_on : {u v w : Writer} {first second : List ℕ} → WritesOn u first v → WritesOn v second w → WritesOn u (first ++ second) w
joined_on {u} {v} {w} {first} {second} s t =
    let both : Writes u.out.now u.at (first ++ second) w.at w.out.now = joined (writes s) (writes t) in
    record {
      room = both.room;
      stands =
          t.stands
          ∙ ap (λ (x : Writer). behind_text x second) s.stands
          ∙ ap₂ (λ (xs : List ℕ) (i : ℕ). record { out = at_last u.out xs; at = i }) (put-put u.out.now u.at first second (u.at + length first) s.room refl) (omega (arith, length-append first second));
    }

pub reworded_on : {v w : Writer} {text same : List ℕ} → text ≡ same → WritesOn v text w → WritesOn v same w
reworded_on {v} {w} e t = subst (λ (x : List ℕ). WritesOn v x w) e t

-- a last line that was written lies within the buffer, as its length, which no call changes, shows
pub end_within : (b f r : ℕ) (before : List ℕ) {after : List ℕ} {n : ℕ} → ends (done (n ∷ [])) after ≡ end_written b f r before → length after ≡ length before → n ≤ length before
unfolding end_written
end_within b f r before {after} {n} e same = by (ltb (length before) line_max) e
  where
    line : List ℕ
    line = end_line b f r

    by : (y : Bool) → ends (done (n ∷ [])) after ≡ cond y (refuses 2 [] before) (wrote line before) → n ≤ length before
    by true k = let z : ◌≡◌ {A = ℕ} 0 1 = cc in absurd (omega arith)
    by false k =
        let m : n ≡ length line = cc in
        let text : after ≡ line ++ drop (length line) before = cc in
        omega (arith, ap length text, length-append line (drop (length line) before))
