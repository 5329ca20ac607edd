-- What is still to be heard along the rest of a run, from any decoder on: how it goes on from byte to byte, for `listen`'s loop.
use Prim.Native.Nat.{ℕ, suc, ◌+◌, ◌<◌, ◌≤◌}
use native.Mathlib.Numerals.{add-one}
use mathlib.Core.Path.{◌≡◌, refl, sym, ◌∙◌, ap}
use mathlib.Core.Bool.{Bool, true, false, cond}
use mathlib.Core.List.{List, ◌∷◌, map}
use lib.ListN.{length, get_or, drop, drop_of_length-le}
use lib.Seq.{drop-cons}
use Rattle.line.specs.Runs.{says}
use Rattle.framing.specs.declared.decode.Decoder.{Decoder}
use Rattle.line.specs.machine.Frames.{Heard, heard_of}
use Rattle.framing.specs.Feed.{fresh_decoder, feeding_decoder}
use Rattle.lent.specs.Listen.{is_silence, quiet, soundings, listened}

-- a byte's decoder, what is heard of it, and all that is heard along some bytes, silence left out
abbrev pub next : Decoder → ℕ → Decoder
next d b = (feeding_decoder d b).0

abbrev pub heard_at : Decoder → ℕ → Heard
heard_at d b = heard_of (feeding_decoder d b).1

abbrev aloud : List ℕ → Decoder → List Heard
aloud bs d = soundings (map heard_of (says feeding_decoder d bs))

-- number n of it
unfoldable pub to_come : List ℕ → Decoder → ℕ → Heard
to_come bs d n = get_or (aloud bs d) n quiet

pub to_come_first : (run : List ℕ) (n : ℕ) → to_come run fresh_decoder n ≡ listened run n
unfolding to_come listened
to_come_first run n = refl

-- at a place of a run silence passes, of the rest the first thing is the answer, and another one counts
module _ (run : List ℕ) (i : ℕ) (d : Decoder) (h : i < length run) where
  opened : (n : ℕ) → to_come (drop i run) d n ≡ to_come (get_or run i 0 ∷ drop (i + 1) run) d n
  opened n = ap (λ (bs : List ℕ). to_come bs d n) (drop-cons run i 0 h ∙ ap (λ (j : ℕ). get_or run i 0 ∷ drop j run) (sym (add-one i)))

  pub passes_silence : (n : ℕ) → is_silence (heard_at d (get_or run i 0)) ≡ true → to_come (drop (i + 1) run) (next d (get_or run i 0)) n ≡ to_come (drop i run) d n
  unfolding to_come
  passes_silence n e =
      sym (opened n ∙ ap (λ (y : Bool). get_or (cond y (aloud (drop (i + 1) run) (next d (get_or run i 0))) (heard_at d (get_or run i 0) ∷ aloud (drop (i + 1) run) (next d (get_or run i 0)))) n quiet) e)

  pub gives_first : is_silence (heard_at d (get_or run i 0)) ≡ false → heard_at d (get_or run i 0) ≡ to_come (drop i run) d 0
  unfolding to_come
  gives_first e =
      sym (opened 0 ∙ ap (λ (y : Bool). get_or (cond y (aloud (drop (i + 1) run) (next d (get_or run i 0))) (heard_at d (get_or run i 0) ∷ aloud (drop (i + 1) run) (next d (get_or run i 0)))) 0 quiet) e)

  pub counts_other : (n : ℕ) → is_silence (heard_at d (get_or run i 0)) ≡ false → to_come (drop (i + 1) run) (next d (get_or run i 0)) n ≡ to_come (drop i run) d (suc n)
  unfolding to_come
  counts_other n e =
      sym (opened (suc n) ∙ ap (λ (y : Bool). get_or (cond y (aloud (drop (i + 1) run) (next d (get_or run i 0))) (heard_at d (get_or run i 0) ∷ aloud (drop (i + 1) run) (next d (get_or run i 0)))) (suc n) quiet) e)

pub none_to_come : (run : List ℕ) (i : ℕ) (d : Decoder) (n : ℕ) → length run ≤ i → quiet ≡ to_come (drop i run) d n
unfolding to_come
none_to_come run i d n h = sym (ap (λ (bs : List ℕ). get_or (aloud bs d) n quiet) (drop_of_length-le run h))
