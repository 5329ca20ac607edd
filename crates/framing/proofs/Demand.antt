-- The third demand over the decoder that callers use, and over any calls of it: what `line` proves of what a decoder holds, under
-- the decoder's name.
use Prim.Native.Nat.{ℕ, ◌<◌}
use mathlib.Core.Path.{◌≡◌, refl, sym, ap, ◌∙◌}
use mathlib.Core.Bool.{true}
use mathlib.Core.List.{List, [], ◌∷◌, ◌++◌, map}
use Rattle.line.specs.Pieces.{Bytes}
use Rattle.line.specs.Events.{Event, refusal}
use Rattle.line.specs.Runs.{Demand, says, ends_in}
use Rattle.line.proofs.Machines.{renamed_says, renamed_ends}
use Rattle.line.proofs.Scan.{hunt, scan, told}
use Rattle.line.proofs.Follows.{demand}
use Rattle.line.specs.machine.Frames.{heard_of}
use Rattle.line.specs.machine.Feed.{Held, fresh}
use Rattle.line.specs.machine.Demand.{Call, feeds, resets, hears}
use Rattle.line.specs.machine.Source.{Result, source_new, returned, traced, result_of, SmallCalls, runs_of, SomeOverlong}
use Rattle.line.specs.machine.Frames.{Heard}
use Rattle.line.proofs.machine.Image.{real, follows}
use Rattle.line.proofs.machine.Demand as any
use Rattle.line.proofs.machine.Renamed.{renamed_answered, renamed_reached, renamed_along}
use Rattle.line.proofs.machine.Exact as exact
use Rattle.line.proofs.machine.Source as source
use Rattle.line.proofs.machine.SourceStops as stops
use Rattle.framing.specs.Feed.{decoder_of, held_of, fresh_decoder, decoder_reachable, renamed, feeding_decoder, fed_of, fed}
use Rattle.framing.specs.Demand.{decoder_hears, DecoderAnswered, DecoderReached, decoder_heard_along, DecoderValue}
use Rattle.framing.specs.declared.decode.Decoder.{Decoder}

-- both ways the names change and nothing else
to_decoder : (h : Held) (b : ℕ) → decoder_hears (decoder_of h) b ≡ (decoder_of (hears h b).0, (hears h b).1)
to_decoder h b = refl

to_held : (d : Decoder) (b : ℕ) → hears (held_of d) b ≡ (held_of (decoder_hears d b).0, (decoder_hears d b).1)
to_held d b = refl

pub feeding_demand : (run : List ℕ) → Bytes run → Demand feeding_decoder fresh_decoder run
feeding_demand run k = demand feeding_decoder (λ s. decoder_of (real s)) (λ s b f h. ap renamed (follows s b f h)) run k

pub answered : (run : List ℕ) → Bytes run → DecoderAnswered run
answered run k = renamed_answered hears decoder_hears decoder_of to_decoder fresh run (any.answered run k)

-- what is heard, byte by byte, is what the scanner gives: a way to compute it without a decoder's bytes
pub heard_scanned : (run : List ℕ) → Bytes run → says decoder_hears fresh_decoder run ≡ map heard_of (map told (says scan hunt run))
heard_scanned run k = renamed_says hears decoder_hears decoder_of to_decoder fresh run ∙ any.heard_scanned run k

pub ends_scanned : (run : List ℕ) → Bytes run → ends_in decoder_hears fresh_decoder run ≡ decoder_of (real (ends_in scan hunt run))
ends_scanned run k = renamed_ends hears decoder_hears decoder_of to_decoder fresh run ∙ ap decoder_of (any.ends_scanned run k)

-- calls that only feed hear what the run gives
pub fed_along : (d : Decoder) (run : List ℕ) → decoder_heard_along d (map feeds run) ≡ says decoder_hears d run
fed_along d run = any.fed_along decoder_hears fresh_decoder d run

-- a reset ends the run, and what follows it is heard as by a new decoder
pub reset_starts : (d : Decoder) (before after : List Call) → decoder_heard_along d (before ++ (resets ∷ after)) ≡ decoder_heard_along d before ++ decoder_heard_along fresh_decoder after
reset_starts d before after = any.reset_starts decoder_hears fresh_decoder d before after

-- each value that a run leads to passes the test
pub reached_reachable : (d : Decoder) → DecoderReached d → decoder_reachable d ≡ true
reached_reachable d r = exact.reached_reachable (held_of d) (renamed_reached decoder_hears hears held_of to_held fresh_decoder d r)

-- and each value of the type that passes it has a run
pub reachable_reached : (d : Decoder) → DecoderValue d → decoder_reachable d ≡ true → DecoderReached d
reachable_reached d v t =
    renamed_reached hears decoder_hears decoder_of to_decoder fresh (held_of d) (exact.reachable_reached (held_of d) v t)

-- 8 for what no run leads to, with the decoder as it was
pub unreached_eight : (d : Decoder) (b : ℕ) → DecoderValue d → (DecoderReached d → ⊥) → fed d b ≡ fed_of (d, refusal 8 [])
unreached_eight d b v never =
    ap (λ (x : Held × Event). fed_of (renamed x))
    (exact.unreached_eight (held_of d) b v (λ r. never (renamed_reached hears decoder_hears decoder_of to_decoder fresh (held_of d) r)))

-- and never for what a run leads to
pub reached_no_eight : (d : Decoder) (b : ℕ) → b < 256 → DecoderReached d → (fed d b).heard ≡ heard_of (refusal 8 []) → ⊥
reached_no_eight d b h r e = exact.reached_no_eight (held_of d) b h (renamed_reached decoder_hears hears held_of to_held fresh_decoder d r) e

-- on every sequence of feeds and resets that the Rust's decoder completes, it returns what ours is heard to answer
pub source_same : (calls : List Call) → SmallCalls calls → (rs : List Result) → traced source_new calls ≡ returned rs → map result_of (decoder_heard_along fresh_decoder calls) ≡ rs
source_same calls k rs e =
    ap (map result_of) (renamed_along hears decoder_hears decoder_of to_decoder fresh fresh calls) ∙ source.source_same calls k rs e

-- and unless a preamble in the cut of a run has 256 FF, where it stops (`source_stops` of line), it completes them all
pub source_completes : (calls : List Call) → SmallCalls calls → (SomeOverlong (runs_of calls) → ⊥) → traced source_new calls ≡ returned (map result_of (decoder_heard_along fresh_decoder calls))
source_completes calls k few =
    stops.source_completes calls k few
    ∙ ap (λ (hs : List Heard). returned (map result_of hs)) (sym (renamed_along hears decoder_hears decoder_of to_decoder fresh fresh calls))
