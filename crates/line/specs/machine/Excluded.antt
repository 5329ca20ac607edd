-- Document 01, 'Promises' and 'Readings that look right': wrong decoders that the third demand excludes, and what is heard along runs that tell
-- them from a right one.
use Rattle.std.specs.Prelude.{ℕ, ◌+◌, ◌≤◌, ◌≡◌, false, List, [], ◌∷◌, ◌++◌, length, replicate, Some, None, Ok, Err}
use Rattle.refusal.specs.declared.Refusal.{Refusal}
use Rattle.refusal.specs.declared.Refusal.TheVariants.{ChecksumMismatch}
use Rattle.types.specs.declared.delimiter.FrameType.TheVariants.{Request}
use Rattle.types.specs.declared.first.MasterRole.TheVariants.{Primary}
use Rattle.types.specs.declared.address.Address.TheVariants.{Short}
use Rattle.line.specs.Layout.{preambles}
use Rattle.line.specs.Pieces.{Bytes}
use Rattle.line.specs.Runs.{says}
use Rattle.line.specs.machine.Room.{data_room}
use Rattle.line.specs.machine.Step.{preamble_cap}
use Rattle.line.specs.machine.Frames.{padded, Heard}
use Rattle.line.specs.machine.Demand.{frames_heard, Answered}

-- no frame and no refusal, and a refusal whatever it is
abbrev pub IsSilence : Heard → Type 0
IsSilence heard = heard ≡ Ok None

abbrev pub IsRefusal : Heard → Type 0
IsRefusal heard = (r : Refusal) × (heard ≡ Err r)

-- what holds of the answer at each byte
abbrev pub EachAnswer : (Heard → Type 0) → List Heard → Type 0
EachAnswer Is [] = Unit {0}
EachAnswer Is (h ∷ hs) = Is h × EachAnswer Is hs

module _ {D : Type 0} (hearing : D → ℕ → D × Heard) (new : D) where
  -- the third demand: every run of bytes is answered as its cut dictates
  abbrev pub MeetsDemand : Type 0
  MeetsDemand = (run : List ℕ) → Bytes run → Answered hearing new run

  -- a decoder that refuses always, one that is always silent, and one that finds no second frame in any run
  abbrev pub RefusesAlways : Type 0
  RefusesAlways = (run : List ℕ) → Bytes run → EachAnswer IsRefusal (says hearing new run)

  abbrev pub SilentAlways : Type 0
  SilentAlways = (run : List ℕ) → Bytes run → EachAnswer IsSilence (says hearing new run)

  abbrev pub FindsOneAtMost : Type 0
  FindsOneAtMost = (run : List ℕ) → Bytes run → length (frames_heard (says hearing new run)) ≤ 1

-- silence at so many bytes
abbrev pub silences : ℕ → List Heard
silences n = replicate n (Ok None)

-- a request of the primary master to polling address 0
abbrev pub request_heard : ℕ → List ℕ → Heard
request_heard command payload =
    Ok (Some (record {
      frame_type = Request;
      address = Short Primary false 0;
      command = command;
      «data» = padded data_room payload;
      length = length payload;
    }))

-- such a request of command 0 without data, and two with data
abbrev pub bare_request : List ℕ
bare_request = 0x02 ∷ 0x80 ∷ 0x00 ∷ 0x00 ∷ 0x82 ∷ []

abbrev pub request_of_two : List ℕ
request_of_two = 0x02 ∷ 0x80 ∷ 0x01 ∷ 0x02 ∷ 0xAA ∷ 0x55 ∷ 0x7E ∷ []

abbrev pub request_of_one : List ℕ
request_of_one = 0x02 ∷ 0x80 ∷ 0x02 ∷ 0x01 ∷ 0x33 ∷ 0xB2 ∷ []

-- one frame; and a second one behind it with fewer data and one FF more than are counted
abbrev pub one_frame : List ℕ
one_frame = preambles 5 ++ bare_request

abbrev pub two_frames : List ℕ
two_frames = preambles 5 ++ request_of_two ++ preambles (preamble_cap + 1) ++ request_of_one

-- a wrong check that is FF, and four FF behind it before what else would be a frame
abbrev pub check_before_four : List ℕ
check_before_four = preambles 5 ++ (0x02 ∷ 0x80 ∷ 0x00 ∷ 0x00 ∷ 0xFF ∷ (preambles 4 ++ bare_request))

abbrev pub refused_check : Heard
refused_check = Err (ChecksumMismatch 0x82 0xFF)
