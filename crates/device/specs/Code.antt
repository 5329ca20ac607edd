-- What only the code needs: what it says as long as the response's data stand in the payload.
use Rattle.std.specs.Prelude.{ℕ, List, take, Option, Some, None}
use Rattle.device.specs.Device.{Spoken, keeps_silent, speaks}

-- how many of the payload's first bytes are a response's data, if there is a response
abbrev pub spoken_by : Option ℕ → List ℕ → Spoken
spoken_by None payload = keeps_silent
spoken_by (Some n) payload = speaks (take n payload)
