-- What a host can rely on, whatever the frame: a device's frame gets no answer, and a refused call writes nothing; and what the host reads
-- of the answer to command 0.
use Prim.Native.Nat.{ℕ}
use native.Mathlib.Omega.{arith}
use mathlib.Core.Path.{◌≡◌, refl, sym, ap, ◌∙◌}
use mathlib.Core.Logic.{◌≢◌}
use mathlib.Core.List.{List, [], ◌∷◌, ◌++◌}
use lib.Dec.{lit<}
use lib.ListN.{length, drop, replicate}
use lib.Seq.{take-append_seam}
use Rattle.refusal.specs.Outcome.{done, refused, ends, Untouched}
use Rattle.types.specs.declared.delimiter.FrameType.{FrameType}
use Rattle.types.specs.declared.delimiter.FrameType.TheVariants.{Request, Response, Burst}
use Rattle.types.specs.Address.{Limited, Ranged}
use Rattle.line.specs.Pieces.{enough, Bytes}
use Rattle.line.specs.Encode.{encoded}
use Rattle.line.specs.declared.frame.Frame.{Frame}
use Rattle.line.proofs.Encoded.{encoded_untouched}
use Rattle.framing.specs.Payload.{data_of}
use Rattle.framing.specs.RoundTrip.{Handed, frame_back}
use Rattle.framing.specs.Bench.{Sent, Hears}
use Rattle.framing.proofs.Bench.{bench_answered}
use Rattle.response.specs.Sizes.{groups_end}
use Rattle.std.specs.Prelude.{Result}
use Rattle.refusal.specs.declared.Refusal.{Refusal}
use Rattle.commands.specs.declared.identity.DeviceIdentity.{DeviceIdentity}
use Rattle.commands.specs.Identity.{lowered_bytes, lowered, identified, identified_of, command0}
use Rattle.commands.specs.Responses.{response_data, identity_responded}
use Rattle.commands.proofs.Leaves.{identity_leaves}
use Rattle.commands.proofs.Bench.{bench_answered_0}
use Rattle.commands.proofs.read_device_id.read_response.Reads as response-0
use Rattle.device.specs.Own.{own_identity}
use Rattle.device.specs.Device.{Spoken, keeps_silent, speaks, told_to, if_request, answer_to, spoken_to, answering}
use Rattle.device.proofs.Spoken.{identity_written}

other_type : Response ≢ Request
other_type e = let z : ◌≡◌ {A = ℕ} 0 1 = cc in omega arith

module _ (f : Frame) where
  -- responses and burst frames: two devices on a line do not talk to each other
  pub devices_unanswered : f.frame_type ≢ Request → (out : List ℕ) → answering f out ≡ ends (done (0 ∷ [])) out
  unfolding answering answer_to
  devices_unanswered n out = by f.frame_type n
    where
      by : (t : FrameType) → t ≢ Request → spoken_to f (if_request t (told_to f.command (data_of f))) out ≡ ends (done (0 ∷ [])) out
      by Request k = absurd (k refl)
      by Response k = refl
      by Burst k = refl

  pub answer_untouched : Untouched (answering f)
  unfolding answering
  answer_untouched buffer number values after = by (answer_to f)
    where
      by : (s : Spoken) → spoken_to f s buffer ≡ ends (refused number values) after → after ≡ buffer
      by keeps_silent e = let z : ◌≡◌ {A = ℕ} 0 1 = cc in absurd (omega arith)
      by (speaks ds) e = encoded_untouched Response f.address f.command ds enough buffer number values after e

abbrev own_data : List ℕ
own_data = response_data 0 0 (lowered_bytes own_identity)

pub own_bytes : Bytes own_data
unfolding own_identity
own_bytes = (lit< tt, (lit< tt, (lit< tt, (lit< tt, (lit< tt, (lit< tt, (lit< tt, (lit< tt, (lit< tt, (lit< tt, (lit< tt, (lit< tt, (lit< tt, (lit< tt, tt))))))))))))))

-- nothing of it is beyond its bits
own_lowered : lowered own_identity ≡ own_identity
unfolding own_identity
own_lowered = refl

-- a request of command 0, from an address that the line has room for, that was answered
module _ (f : Frame) (asks : f.frame_type ≡ Request) (zero : f.command ≡ 0) (ranged : Ranged f.address) (limited : Limited f.address) where
  identifies_then : (out : List ℕ) → answering f out ≡ encoded Response f.address f.command own_data enough out
  unfolding answering answer_to told_to
  identifies_then out = ap (λ (s : Spoken). spoken_to f s out) (ap (λ (t : FrameType). if_request t (told_to f.command (data_of f))) asks ∙ ap (λ (n : ℕ). told_to n (data_of f)) zero)

  abbrev replied : Handed
  replied = record {
    frame_type = Response;
    address = f.address;
    command = f.command;
    payload = own_data;
    preamble_count = enough;
    address_ranged = ranged;
    command_small = omega arith;
    payload_small = own_bytes;
  }

  module _ (out : List ℕ) {count : ℕ} {after : List ℕ} (answered : answering f out ≡ ends (done (count ∷ [])) after) where
    sent : Sent (identity_responded 0 0 own_identity) replied count after
    sent =
        let room : List ℕ = replicate groups_end 0 in
        record {
          buffer = room;
          size = length own_data;
          left = own_data ++ drop (length own_data) room;
          writes = identity_written room (omega arith) own_identity;
          hands = sym (take-append_seam own_data (drop (length own_data) room));
          heralded = omega arith;
          addressed = limited;
          before = out;
          encodes = sym (identifies_then out) ∙ answered;
        }

    -- a new decoder of the host hears the response, and its `read_response` gives the device's identity
    pub answer_heard_lem : Hears replied count after
    answer_heard_lem = (bench_answered sent command0 zero 0 (lowered_bytes own_identity) (identity_leaves 0 0 own_identity) other_type).heard

    pub answer_read : (r : Result DeviceIdentity Refusal) → response-0.Post tt (frame_back replied, tt) r (frame_back replied, tt) → identified_of r ≡ identified own_identity
    answer_read r promised = bench_answered_0 replied 0 other_type own_identity sent zero r promised ∙ ap identified own_lowered
