-- The third demand, of the decoder by value: `line` says it of whatever hears bytes from a new one on.
use Rattle.std.specs.Prelude.{ℕ, List}
use Rattle.line.specs.machine.Demand.{Call, Answered, Reached, Value, heard_along}
use Rattle.line.specs.machine.Frames.{Heard}
use Rattle.framing.specs.Feed.{held_of, fresh_decoder, fed}
use Rattle.framing.specs.declared.decode.Decoder.{Decoder}

-- one byte fed: the decoder for the next, and what is heard
abbrev pub decoder_hears : Decoder → ℕ → Decoder × Heard
decoder_hears d b = ((fed d b).next, (fed d b).heard)

-- a new decoder answers along the run what the run's one cut dictates
abbrev pub DecoderAnswered : List ℕ → Type 0
DecoderAnswered run = Answered decoder_hears fresh_decoder run

-- some run of bytes leads a new decoder to it
abbrev pub DecoderReached : Decoder → Type 0
DecoderReached d = Reached decoder_hears fresh_decoder d

-- what is heard along any calls
abbrev pub decoder_heard_along : Decoder → List Call → List Heard
decoder_heard_along d calls = heard_along decoder_hears fresh_decoder d calls

-- each number in a decoder is in the range of its type, and its array is whole
abbrev pub DecoderValue : Decoder → Type 0
DecoderValue d = Value (held_of d)
