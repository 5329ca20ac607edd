-- The loop that lends one decoder hears what the pieces of the run's cut say aloud; and what the promises of `feed` and `reset` leave is what
-- such a loop needs of them.
use Prim.Native.Nat.{ℕ}
use mathlib.Core.Path.{◌≡◌, refl, sym, ap, ap₂, ◌∙◌}
use mathlib.Core.List.{List, [], ◌∷◌, map}
use lib.ListN.{get_or}
use contract.Monad.{fact_mono}
use Rattle.line.specs.Pieces.{Bytes}
use Rattle.line.specs.Runs.{says}
use Rattle.line.specs.Events.{Event, silence, found, rejected, dictated, gather, loud_in}
use Rattle.line.proofs.Follows.{gathered}
use Rattle.line.specs.machine.Frames.{heard_of}
use Rattle.line.specs.machine.Frames.{Heard}
use Rattle.framing.specs.declared.decode.Decoder.{Decoder}
use Rattle.framing.specs.Feed.{fresh_decoder}
use Rattle.framing.specs.Demand.{decoder_hears}
use Rattle.framing.proofs.Demand.{feeding_demand}
use Rattle.lent.specs.Listen.{quiet, soundings, listened}
use Rattle.lent.specs.Demand.{Listened, LeavesOnly}
use Rattle.lent.specs.contracts.feed as feed
use Rattle.lent.specs.contracts.reset as reset

pub listened_cut : (run : List ℕ) → Bytes run → Listened run
unfolding listened
listened_cut run k =
    let d = feeding_demand run k in
    let aloud = ap (λ (es : List Event). soundings (map heard_of es)) d.events ∙ soundings_loud (dictated d.pieces d.rest) ∙ ap (map heard_of) (gathered loud_in refl d.pieces d.rest) in
    record {
      pieces = d.pieces;
      rest = d.rest;
      cut = d.cut;
      only = d.only;
      hears = λ n. ap (λ (hs : List Heard). get_or hs n quiet) aloud;
    }
  where
    soundings_loud : (es : List Event) → soundings (map heard_of es) ≡ map heard_of (gather loud_in es)
    soundings_loud [] = refl
    soundings_loud (silence ∷ es) = soundings_loud es
    soundings_loud (found w ∷ es) = ap (λ (hs : List Heard). heard_of (found w) ∷ hs) (soundings_loud es)
    soundings_loud (rejected r ∷ es) = ap (λ (hs : List Heard). heard_of (rejected r) ∷ hs) (soundings_loud es)

-- a lent decoder that is fed a byte hears it as a run does, and is left to hear the rest of the run
pub feed_hears_on : LeavesOnly feed.ended (λ M 𝓤 𝓛. feed.clauses 𝓛) (λ κs x r y. (bs : List ℕ) → says decoder_hears x.0.now (x.1.0 ∷ bs) ≡ r ∷ says decoder_hears y.0.now bs)
feed_hears_on M 𝓤 𝓛 mem run κs a g r y =
    fact_mono 𝓤 _ _ (λ p bs. ap₂ (λ (h : Heard) (d : Decoder). h ∷ says decoder_hears d bs) (sym p.0) (sym p.1))

-- one that is reset hears every run as a new one does
pub reset_hears_anew : LeavesOnly reset.ended (λ M 𝓤 𝓛. reset.clauses 𝓛) (λ κs x r y. (bs : List ℕ) → says decoder_hears y.0.now bs ≡ says decoder_hears fresh_decoder bs)
reset_hears_anew M 𝓤 𝓛 mem run κs a g r y = fact_mono 𝓤 _ _ (λ p bs. ap (λ (d : Decoder). says decoder_hears d bs) p)
