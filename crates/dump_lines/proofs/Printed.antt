-- What the dump prints along a run is what the run's cut has, whatever the reads and the buffers.
use Prim.Native.Nat.{ℕ, ◌+◌, ◌^◌, ◌≤◌, ◌<◌}
use native.Mathlib.Omega.{arith}
use mathlib.Core.Path.{◌≡◌, refl, sym, ap, ap₂, ◌∙◌}
use mathlib.Core.List.{List, [], ◌∷◌, ◌++◌, map, append_assoc}
use lib.ListN.{length, length-append}
use borrow.Author.Tests.{lt-ltb}
use Rattle.line.specs.Pieces.{Piece, noise, short_run, bad_delimiter, frame, bad_check, front, bytes_of, last, joined, Bytes}
use Rattle.line.specs.Events.{Event, silence, found, rejected, verdict, silent, said_by, dictated, gather, frames_in, refusals_in}
use Rattle.line.specs.Runs.{says}
use Rattle.line.specs.machine.Feed.{stepped}
use Rattle.line.proofs.Machines.{length-says}
use Rattle.line.proofs.machine.Demand.{stepped_demand}
use Rattle.dump_lines.specs.Text.{line_of}
use Rattle.dump_lines.specs.Lines.{largest, more, totals_of, totalled, held_by_dump, fresh_dump, next_dump, told, after, printed, taking, last_line}
use Rattle.dump_lines.specs.Printed.{piece_lines, frame_pieces, refused_pieces, Printed, TakeCall, taken_by, written_by, left_by}
use Rattle.dump_lines.specs.declared.Totals.{Totals}
use Rattle.dump_lines.specs.declared.Dump.{Dump}
use Rattle.dump_lines.proofs.Along.{same_totals, after_append, printed-append}

-- ---- reads of any size, buffers of any room

pub calls_print : (d : Dump) (cs : List TakeCall) → written_by d cs ≡ printed d (taken_by d cs)
calls_print d [] = refl
calls_print d (c ∷ cs) =
    let part : List ℕ = taking d c.src c.room in
    ap (λ (t : List ℕ). printed d part ++ t) (calls_print (after d part) cs) ∙ sym (printed-append d part (taken_by (after d part) cs))

pub calls_leave : (d : Dump) (cs : List TakeCall) → left_by d cs ≡ after d (taken_by d cs)
calls_leave d [] = refl
calls_leave d (c ∷ cs) =
    let part : List ℕ = taking d c.src c.room in
    calls_leave (after d part) cs ∙ sym (after_append d part (taken_by (after d part) cs))

-- ---- along the events of a run

abbrev lines_of : ℕ → List Event → List ℕ
lines_of at [] = []
lines_of at (e ∷ es) = line_of at e ++ lines_of (more at) es

abbrev tally : Totals → List Event → Totals
tally t [] = t
tally t (e ∷ es) = tally (totalled t e) es

counted_bytes : (t : Totals) (e : Event) → (totalled t e).bytes ≡ more t.bytes
counted_bytes t silence = refl
counted_bytes t (found w) = refl
counted_bytes t (rejected r) = refl

printed_events : (d : Dump) (run : List ℕ) → printed d run ≡ lines_of d.totals.bytes (says stepped (held_by_dump d) run)
printed_events d [] = refl
printed_events d (b ∷ bs) =
    ap (λ (t : List ℕ). told d b ++ t)
    (printed_events (next_dump d b) bs
    ∙ ap (λ (at : ℕ). lines_of at (says stepped (held_by_dump (next_dump d b)) bs)) (counted_bytes d.totals (stepped (held_by_dump d) b).1))

after_events : (d : Dump) (run : List ℕ) → (after d run).totals ≡ tally d.totals (says stepped (held_by_dump d) run)
after_events d [] = refl
after_events d (b ∷ bs) = after_events (next_dump d b) bs

-- below its largest a counter counts
more_is : (n : ℕ) → n < largest → more n ≡ n + 1
more_is n h = rw (lt-ltb n largest h)

lines_quiet : (at : ℕ) (bs : List ℕ) → lines_of at (silent bs) ≡ []
lines_quiet at [] = refl
lines_quiet at (b ∷ bs) = lines_quiet (more at) bs

lines_silent : (at : ℕ) (bs : List ℕ) (es : List Event) → at + length bs ≤ largest → lines_of at (silent bs ++ es) ≡ lines_of (at + length bs) es
lines_silent at [] es h = ap (λ (i : ℕ). lines_of i es) (omega arith)
lines_silent at (b ∷ bs) es h =
    ap (λ (i : ℕ). lines_of i (silent bs ++ es)) (more_is at (omega arith)) ∙ lines_silent (at + 1) bs es (omega arith) ∙ ap (λ (i : ℕ). lines_of i es) (omega arith)

lines_dictated : (at : ℕ) (ps : List Piece) (t : List ℕ) → at + length (joined ps) ≤ largest → lines_of at (dictated ps t) ≡ piece_lines at ps
lines_dictated at [] t h = lines_quiet at t
lines_dictated at (p ∷ ps) t h =
    let k : ℕ = at + length (front p) in
    let whole : length (bytes_of p) ≡ length (front p) + 1 = length-append (front p) (last p ∷ []) in
    let both : length (joined (p ∷ ps)) ≡ length (bytes_of p) + length (joined ps) = length-append (bytes_of p) (joined ps) in
    let next' : more k ≡ at + length (bytes_of p) = more_is k (omega arith) ∙ omega arith in
    ap (lines_of at) (append_assoc (silent (front p)) (verdict p ∷ said_by ps) (silent t))
    ∙ lines_silent at (front p) (verdict p ∷ dictated ps t) (omega arith)
    ∙ ap (λ (i : ℕ). line_of k (verdict p) ++ lines_of i (dictated ps t)) next'
    ∙ ap (λ (xs : List ℕ). line_of k (verdict p) ++ xs) (lines_dictated (at + length (bytes_of p)) ps t (omega arith))

-- no counter comes to its largest where the bytes do not
tally_counts : (b f r : ℕ) (es : List Event) → f ≤ b → r ≤ b → b + length es ≤ largest → tally (totals_of b f r) es ≡ totals_of (b + length es) (f + length (gather frames_in es)) (r + length (gather refusals_in es))
tally_counts b f r [] hf hr h = same_totals (omega arith) (omega arith) (omega arith)
tally_counts b f r (silence ∷ es) hf hr h =
    ap (λ (n : ℕ). tally (totals_of n f r) es) (more_is b (omega arith)) ∙ tally_counts (b + 1) f r es (omega arith) (omega arith) (omega arith) ∙ same_totals (omega arith) refl refl
tally_counts b f r (found w ∷ es) hf hr h =
    ap₂ (λ (n m : ℕ). tally (totals_of n m r) es) (more_is b (omega arith)) (more_is f (omega arith))
    ∙ tally_counts (b + 1) (f + 1) r es (omega arith) (omega arith) (omega arith)
    ∙ same_totals (omega arith) (omega arith) refl
tally_counts b f r (rejected x ∷ es) hf hr h =
    ap₂ (λ (n m : ℕ). tally (totals_of n f m) es) (more_is b (omega arith)) (more_is r (omega arith))
    ∙ tally_counts (b + 1) f (r + 1) es (omega arith) (omega arith) (omega arith)
    ∙ same_totals (omega arith) refl (omega arith)

frames_counted : (ps : List Piece) → length (gather frames_in (map verdict ps)) ≡ frame_pieces ps
frames_counted [] = refl
frames_counted (noise b ∷ ps) = frames_counted ps
frames_counted (short_run n b ∷ ps) = frames_counted ps
frames_counted (bad_delimiter n b ∷ ps) = frames_counted ps
frames_counted (frame n w ∷ ps) = omega (arith, frames_counted ps)
frames_counted (bad_check n w c ∷ ps) = frames_counted ps

refusals_counted : (ps : List Piece) → length (gather refusals_in (map verdict ps)) ≡ refused_pieces ps
refusals_counted [] = refl
refusals_counted (noise b ∷ ps) = refusals_counted ps
refusals_counted (short_run n b ∷ ps) = refusals_counted ps
refusals_counted (bad_delimiter n b ∷ ps) = omega (arith, refusals_counted ps)
refusals_counted (frame n w ∷ ps) = refusals_counted ps
refusals_counted (bad_check n w c ∷ ps) = omega (arith, refusals_counted ps)

-- the dump of every run that a 64-bit number counts
pub printed_cut : (run : List ℕ) → Bytes run → length run < 2 ^ 64 → Printed run
printed_cut run k h =
    let d = stepped_demand run k in
    let es : List Event = says stepped (held_by_dump fresh_dump) run in
    let size : length es ≡ length run = length-says stepped (held_by_dump fresh_dump) run in
    let parts : length run ≡ length (joined d.pieces) + length d.rest = ap length d.cut.whole ∙ length-append (joined d.pieces) d.rest in
    let lines : printed fresh_dump run ≡ piece_lines 0 d.pieces = printed_events fresh_dump run ∙ ap (lines_of 0) d.events ∙ lines_dictated 0 d.pieces d.rest (omega arith) in
    let counts : (after fresh_dump run).totals ≡ totals_of (length run) (frame_pieces d.pieces) (refused_pieces d.pieces) =
    after_events fresh_dump run
    ∙ tally_counts 0 0 0 es (omega arith) (omega arith) (omega arith)
    ∙ same_totals (omega arith) (omega (arith, ap length d.frames, frames_counted d.pieces)) (omega (arith, ap length d.refusals, refusals_counted d.pieces)) in
    record {
      pieces = d.pieces;
      rest = d.rest;
      cut = d.cut;
      only = d.only;
      lines = lines;
      counts = counts;
      text = ap₂ (λ (xs ys : List ℕ). xs ++ ys) lines (ap last_line counts);
    }

-- and so of calls of `take` on a new dump, whatever they are handed: what they write is the lines of the cut of the bytes that they take,
-- and the totals that they leave are counted there
pub calls_cut : (cs : List TakeCall) (k : Bytes (taken_by fresh_dump cs)) (h : length (taken_by fresh_dump cs) < 2 ^ 64)
    → (written_by fresh_dump cs ≡ piece_lines 0 (printed_cut (taken_by fresh_dump cs) k h).pieces)
    × ((left_by fresh_dump cs).totals ≡ totals_of (length (taken_by fresh_dump cs)) (frame_pieces (printed_cut (taken_by fresh_dump cs) k h).pieces) (refused_pieces (printed_cut (taken_by fresh_dump cs) k h).pieces))
calls_cut cs k h =
    let p = printed_cut (taken_by fresh_dump cs) k h in
    (calls_print fresh_dump cs ∙ p.lines, ap (λ (d : Dump). d.totals) (calls_leave fresh_dump cs) ∙ p.counts)
