-- What one call of the library makes of bytes, and of their end.
use Prim.Native.Nat.{ℕ, ◌+◌, ◌≤◌, ◌<◌}
use native.Mathlib.Omega.{arith}
use mathlib.Core.Path.{◌≡◌, sym, ap, ap₂, ◌∙◌}
use mathlib.Core.List.{List, [], ◌∷◌, ◌++◌}
use lib.ListN.{length, take, drop}
use lib.Seq.{take-append_seam}
use borrow.Author.Tests.{le-ltb}
use Rattle.octets.specs.Put.{put}
use Rattle.refusal.specs.Outcome.{done, refused, ends, wrote}
use Rattle.dump_lines.specs.Text.{line_max}
use Rattle.dump_lines.specs.Writing.{end_written}
use Rattle.dump_lines.specs.Lines.{after, printed, last_line, taking, taken}
use Rattle.dump_lines.specs.declared.Dump.{Dump}
use Rattle.dump_lines.specs.declared.Taken.{Taken}
use Rattle.dump_lines.proofs.Along.{used_within, used_some, written_within}
use Rattle.streams.specs.declared.Handover.{Handover}
use Rattle.streams.specs.Passing.{HandsOver, HearsFront}
use Rattle.dump.specs.Passing.{lines_of, lines_after, lines_said}

-- one call of `take`
pub take_hears : (d : Dump) (src out : List ℕ) {t : Taken} {next : Dump} {last : List ℕ} → t ≡ taken d src (length out) → next ≡ after d (taking d src (length out)) → last ≡ put out 0 (printed d (taking d src (length out)))
    → length last ≡ length out → 0 < length src → line_max ≤ length out → HearsFront lines_after lines_said (lines_of d) src (lines_of next) last (record { used = t.used; written = t.written })
take_hears d src out {t} {next} {last} e n f same any room =
    let text : List ℕ = printed d (take t.used src) in
    let lines : printed d (taking d src (length out)) ≡ text = ap (λ (x : Taken). printed d (take x.used src)) (sym e) in
    let size : t.written ≡ length text = ap (λ (x : Taken). x.written) e ∙ ap length lines in
    let there : last ≡ text ++ drop (0 + length text) out = f ∙ ap (put out 0) lines in
    record {
      some = used_some d src out e any room;
      within = used_within d src out e;
      behind = ap lines_of (n ∙ ap (λ (x : Taken). after d (take x.used src)) (sym e));
      room = omega (arith, written_within d src out e f same);
      front = ap₂ take size there ∙ take-append_seam text (drop (0 + length text) out);
    }

-- the last line has room, and is handed over whole
module _ (d : Dump) (before : List ℕ) {last : List ℕ} (room : line_max ≤ length before) where
  pub end_never : {number : ℕ} {values : List ℕ} → ends (refused number values) last ≡ end_written d.totals.bytes d.totals.frames d.totals.refusals before → ⊥
  unfolding end_written
  end_never e = let k = rw (le-ltb (length before) line_max room) at e in let z : ◌≡◌ {A = ℕ} 0 1 = cc in omega arith

  pub end_passes : {n : ℕ} {s : Handover} → ends (done (n ∷ [])) last ≡ end_written d.totals.bytes d.totals.frames d.totals.refusals before → s.asked ≡ length (take n last) → s.took ≤ s.asked → HandsOver (last_line d.totals) last s
  unfolding end_written
  end_passes {n} {s} e a b =
      let line : List ℕ = last_line d.totals in
      let k : ends (done (n ∷ [])) last ≡ wrote line before = rw (le-ltb (length before) line_max room) at e in
      let m : n ≡ length line = cc in
      let text : last ≡ line ++ drop (length line) before = cc in
      let all : take n last ≡ line = ap₂ take m text ∙ take-append_seam line (drop (length line) before) in
      let size : s.asked ≡ n = a ∙ ap length all ∙ sym m in
      record { front = ap (λ (i : ℕ). take i last) size ∙ all; whole = size ∙ m; answered = b }
