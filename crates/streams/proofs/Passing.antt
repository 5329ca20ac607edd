-- Bytes that are passed on, one part behind another.
use Prim.Native.Nat.{ℕ, ◌+◌, ◌≤◌}
use native.Mathlib.Omega.{arith}
use mathlib.Core.Path.{◌≡◌, sym, ap, ap₂, ◌∙◌}
use mathlib.Core.List.{List, ◌++◌}
use lib.ListN.{length, take, drop, length-append}
use lib.Seq.{take-add, length-take-le}
use Rattle.streams.specs.declared.Handover.{Handover}
use Rattle.streams.specs.Passing.{GoesOn, PassesFront, BehindRun}

abbrev pub handover : ℕ → ℕ → Handover
handover asked took = record { asked = asked; took = took }

module _ {S : Type 0} {after : S → List ℕ → S} {said : S → List ℕ → List ℕ} (goes : GoesOn after said) where
  -- some bytes, and some of the rest
  pub passes_more : {first s next : S} {src part : List ℕ} {used k : ℕ} {h j : Handover}
      → PassesFront after said first src s used h → PassesFront after said s part next k j → take k part ≡ take k (drop used src) → used + k ≤ length src
      → PassesFront after said first src next (used + k) (handover (h.asked + j.asked) (h.took + j.took))
  passes_more {first} {s} {next} {src} {part} {used} {k} {h} {j} p r same fits =
      let more : List ℕ = take k (drop used src) in
      let cut : take (used + k) src ≡ take used src ++ more = take-add used k src in
      let all : length (said first (take (used + k) src)) ≡ length (said first (take used src)) + length (said (after first (take used src)) more) =
      ap (λ (bs : List ℕ). length (said first bs)) cut ∙ ap length (goes.said-append first (take used src) more) ∙ length-append (said first (take used src)) (said (after first (take used src)) more) in
      let there : said s (take k part) ≡ said (after first (take used src)) more = ap₂ said p.behind same in
      record {
        within = fits;
        behind = r.behind ∙ ap₂ after p.behind same ∙ sym (goes.after_append first (take used src) more) ∙ ap (after first) (sym cut);
        whole = omega (arith, p.whole, r.whole, ap length there, all);
        answered = omega (arith, p.answered, r.answered);
      }

  -- a state behind a run, and bytes that are passed on to it
  pub behind_more : {first s next : S} {n used : ℕ} {src : List ℕ} {h : Handover} → BehindRun after first s n → PassesFront after said s src next used h → BehindRun after first next (n + used)
  behind_more {first} {s} {next} {n} {used} {src} b p =
      record {
        run = b.run ++ take used src;
        counted = length-append b.run (take used src) ∙ omega (arith, b.counted, length-take-le used src p.within);
        leads = p.behind ∙ ap (λ (x : S). after x (take used src)) b.leads ∙ sym (goes.after_append first b.run (take used src));
      }
