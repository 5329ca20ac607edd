-- The test bench, of any command: what was written is heard, and read.
use Prim.Native.Nat.{ℕ, ◌-◌}
use native.Mathlib.Omega.{arith}
use mathlib.Core.Path.{◌≡◌, refl, ap, ◌∙◌}
use mathlib.Core.Logic.{◌≢◌}
use mathlib.Core.List.{List, [], ◌∷◌}
use lib.ListN.{length, replicate}
use lib.Seq.{take-append_seam}
use Rattle.refusal.specs.Outcome.{Outcome, Leaves}
use Rattle.types.specs.declared.delimiter.FrameType.TheVariants.{Request}
use Rattle.line.specs.machine.Room.{data_room}
use Rattle.framing.specs.Payload.{Reader, typed_in, typed_of, data_of}
use Rattle.framing.specs.Requests.{asked_in, asked_of}
use Rattle.framing.specs.RoundTrip.{Handed, frame_back}
use Rattle.framing.specs.Bench.{Sent, Hears, HostReads, DeviceReads}
use Rattle.framing.proofs.Payloads.{carries_exactly}
use Rattle.framing.proofs.Typed.{typed_carried}
use Rattle.framing.proofs.Requests.{asked_carried}
use Rattle.framing.proofs.RoundTrip.{written_heard}

module _ {call : List ℕ → Outcome} {h : Handed} {count : ℕ} {after : List ℕ} (sent : Sent call h count after) where
  -- the frame's data are the bytes that the call left
  sent_data : {bytes : List ℕ} → Leaves bytes call → data_of (frame_back h) ≡ bytes
  sent_data leaves = take-append_seam h.payload (replicate (data_room - length h.payload) 0) ∙ sent.hands ∙ leaves sent.buffer sent.size sent.left sent.writes

  bench_heard : Hears h count after
  bench_heard = written_heard h sent.heralded sent.addressed sent.before count after sent.encodes [] tt tt

  module _ {A : Type 0} (k : Reader A) (asked : h.command ≡ k.number) where
    -- a device's answer with a first status byte of 0: the host reads what stands behind the second, whatever that is
    pub bench_answered : (second : ℕ) (bytes : List ℕ) → Leaves (0 ∷ second ∷ bytes) call → h.frame_type ≢ Request → HostReads k bytes h count after
    unfolding typed_of
    bench_answered second bytes leaves other =
        let ds : List ℕ = 0 ∷ second ∷ bytes in
        record {
          heard = bench_heard;
          read = ap (typed_in k h.frame_type h.command) (sent_data leaves) ∙ typed_carried k h.frame_type h.command ds asked ((carries_exactly h.frame_type ds).1 (other, omega arith, refl));
        }

    -- a host's request: the device reads its data
    pub bench_asked : (bytes : List ℕ) → Leaves bytes call → h.frame_type ≡ Request → DeviceReads k bytes h count after
    unfolding asked_of
    bench_asked bytes leaves same = record {
      heard = bench_heard;
      read = ap (asked_in k h.frame_type h.command) (sent_data leaves) ∙ asked_carried k h.frame_type h.command bytes asked same;
    }
