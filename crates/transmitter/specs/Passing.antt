-- The fixed device as a listener: its decoder goes on behind the bytes that were read, and it says its answers.
use Rattle.std.specs.Prelude.{ℕ, List, refl}
use Rattle.std.proofs.Common.{ap}
use Rattle.line.proofs.Machines.{ends-append}
use Rattle.framing.specs.Demand.{decoder_hears}
use Rattle.framing.specs.Feed.{fresh_decoder}
use Rattle.framing.specs.declared.decode.Decoder.{Decoder}
use Rattle.device.specs.Conversation.{listening, answers_along}
use Rattle.device.proofs.Runs.{answers-append}
use Rattle.streams.specs.Passing.{GoesOn}
use Rattle.transmitter.specs.declared.Device.{Device}

abbrev pub device_of : Decoder → Device
device_of d = record { decoder = d }

abbrev pub fresh_device : Device
fresh_device = device_of fresh_decoder

-- the device behind a run of bytes
abbrev pub device_after : Device → List ℕ → Device
device_after s bs = device_of (listening s.decoder bs)

-- what it says along it
abbrev pub device_said : Device → List ℕ → List ℕ
device_said s bs = answers_along s.decoder bs

pub device_goes_on : GoesOn device_after device_said
device_goes_on = record {
  after_none = λ s. refl;
  said_none = λ s. refl;
  after_append = λ s bs cs. ap device_of (ends-append decoder_hears s.decoder bs cs);
  said-append = λ s bs cs. answers-append s.decoder bs cs;
}
