-- What is heard along a run of bytes, silence left out.
use Rattle.std.specs.Prelude.{ℕ, Bool, true, false, cond, List, [], ◌∷◌, map, get_or, Some, None, Ok, Err}
use Rattle.line.specs.Runs.{says}
use Rattle.line.specs.Events.{silence}
use Rattle.line.specs.machine.Frames.{Heard, heard_of}
use Rattle.framing.specs.Feed.{fresh_decoder, feeding_decoder}

abbrev pub is_silence : Heard → Bool
is_silence (Ok None) = true
is_silence (Ok (Some f)) = false
is_silence (Err r) = false

abbrev pub quiet : Heard
quiet = heard_of silence

abbrev pub soundings : List Heard → List Heard
soundings [] = []
soundings (h ∷ hs) = cond (is_silence h) (soundings hs) (h ∷ soundings hs)

-- the nth, from a new decoder on
unfoldable pub listened : List ℕ → ℕ → Heard
listened run n = get_or (soundings (map heard_of (says feeding_decoder fresh_decoder run))) n quiet
