-- What feeding a byte to the decoder by value comes to. A decoder is what `line` has as Held, under a name of its own.
use Rattle.std.specs.Prelude.{ℕ, Bool}
use Rattle.line.specs.Events.{Event}
use Rattle.line.specs.machine.Frames.{heard_of}
use Rattle.line.specs.machine.Feed.{Held, feeding, fresh, reachable}
use Rattle.framing.specs.declared.decode.Decoder.{Decoder}
use Rattle.framing.specs.declared.decode.Fed.{Fed}

abbrev pub decoder_of : Held → Decoder
decoder_of h = record { state = h.state; bytes = h.bytes }

abbrev pub held_of : Decoder → Held
held_of d = record { state = d.state; bytes = d.bytes }

abbrev pub fresh_decoder : Decoder
fresh_decoder = decoder_of fresh

abbrev pub decoder_reachable : Decoder → Bool
decoder_reachable d = reachable (held_of d)

-- what is held is handed on as a decoder
abbrev pub renamed : Held × Event → Decoder × Event
renamed x = (decoder_of x.0, x.1)

-- one byte into any decoder: what no run leads to gets 8 and comes back as it was
abbrev pub feeding_decoder : Decoder → ℕ → Decoder × Event
feeding_decoder d b = renamed (feeding (held_of d) b)

-- the same as callers see it
abbrev pub fed_of : Decoder × Event → Fed
fed_of x = record { heard = heard_of x.1; next = x.0 }

abbrev pub fed : Decoder → ℕ → Fed
fed d b = fed_of (feeding_decoder d b)
