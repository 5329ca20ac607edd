-- Document 02, 1/12: a test bench: what one side writes and hands to the encoder, the other hears and reads.
use Rattle.std.specs.Prelude.{ℕ, ◌-◌, ◌≤◌, ◌≡◌, List, [], ◌∷◌, ◌++◌, take, replicate}
use Rattle.refusal.specs.Outcome.{Outcome, ends, done}
use Rattle.types.specs.Address.{Limited}
use Rattle.line.specs.Pieces.{enough}
use Rattle.line.specs.Events.{silence}
use Rattle.line.specs.Runs.{says}
use Rattle.line.specs.machine.Frames.{heard_of}
use Rattle.framing.specs.Feed.{fresh_decoder}
use Rattle.framing.specs.Demand.{decoder_hears}
use Rattle.framing.specs.Payload.{Reader, typed_of}
use Rattle.framing.specs.Requests.{asked_of}
use Rattle.framing.specs.RoundTrip.{Handed, IsDone, frame_back, heard_back}

-- a call wrote the data into a lent buffer; the encoder wrote them in a frame, behind as many preambles as a decoder wants, with an
-- address within its limits
pub record Sent (call : List ℕ → Outcome) (h : Handed) (count : ℕ) (after : List ℕ) : Type 0 where
  pub buffer : List ℕ
  pub size : ℕ
  pub left : List ℕ
  pub writes : call buffer ≡ ends (done (size ∷ [])) left
  pub hands : h.payload ≡ take size left
  pub heralded : enough ≤ h.preamble_count
  pub addressed : Limited h.address
  pub before : List ℕ
  pub encodes : IsDone h before count after

-- a new decoder, fed what the encoder wrote, is silent up to the last byte, and there gives the frame
abbrev pub Hears : Handed → ℕ → List ℕ → Type 0
Hears h count after = says decoder_hears fresh_decoder (take count after) ≡ replicate (count - 1) (heard_of silence) ++ (heard_back h ∷ [])

-- and of it the host reads these bytes of a response, behind the status bytes
pub record HostReads {A : Type 0} (k : Reader A) (bytes : List ℕ) (h : Handed) (count : ℕ) (after : List ℕ) : Type 0 where
  pub heard : Hears h count after
  pub read : typed_of k (frame_back h) ≡ k.read bytes

-- or the device these bytes of a request
pub record DeviceReads {A : Type 0} (k : Reader A) (bytes : List ℕ) (h : Handed) (count : ℕ) (after : List ℕ) : Type 0 where
  pub heard : Hears h count after
  pub read : asked_of k (frame_back h) ≡ k.read bytes
