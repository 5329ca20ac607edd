-- Document 01, 'Examples': those marked (P), as one list: packed text, what a decoder reads and what the encoder writes. Each has what the
-- definitions make of it and what document 01 says.
use Rattle.std.specs.Prelude.{ℕ, false, List, [], ◌∷◌, ◌++◌, replicate, Some, Ok}
use Rattle.refusal.specs.Outcome.{Outcome, ends, done, refused}
use Rattle.packed_string.specs.Standard.{standard_packed}
use Rattle.packed_string.specs.Text.{crate_packed, crate_unpacked}
use Rattle.types.specs.declared.delimiter.FrameType.TheVariants.{Request}
use Rattle.types.specs.declared.first.MasterRole.TheVariants.{Primary}
use Rattle.types.specs.declared.address.Address.{Address}
use Rattle.types.specs.declared.address.Address.TheVariants.{Short, Long}
use Rattle.line.specs.Layout.{preambles}
use Rattle.line.specs.Events.{silence, refusal}
use Rattle.line.specs.Runs.{ends_in, says}
use Rattle.line.specs.Encode.{encoded}
use Rattle.line.specs.machine.Frames.{padded, Heard, heard_of}
use Rattle.framing.specs.Feed.{fresh_decoder}
use Rattle.framing.specs.Demand.{decoder_hears}
use Rattle.line.specs.declared.state.State.{State}
use Rattle.line.specs.declared.state.State.TheVariants.{Hunting}

-- What an example shows: what a call comes to; or what is heard at each byte of a run, and where the decoder then stands.
pub data Shown : Type 0 where
  outcome : Outcome → Shown
  heard : List Heard → State → Shown

pub record Example : Type 0 where
  pub comes : Shown
  pub said : Shown

-- what a call leaves in its buffer
abbrev left : Outcome → List ℕ
left (ends reply buffer) = buffer

abbrev room : ℕ → List ℕ
room n = replicate n 0

-- what a long request reads as and is written as: primary, manufacturer 26h, type 0Ah, number 010203h, command 9, data 00 01
abbrev worked_long_address : Address
worked_long_address = Long Primary false 0x26 0x0A 0x010203

abbrev worked_long_bytes : List ℕ
worked_long_bytes = 0x82 ∷ 0xA6 ∷ 0x0A ∷ 0x01 ∷ 0x02 ∷ 0x03 ∷ 0x09 ∷ 0x02 ∷ 0x00 ∷ 0x01 ∷ 0x24 ∷ []

-- the shortest request, from the primary master to polling address 0: command 0 without data
abbrev worked_short_address : Address
worked_short_address = Short Primary false 0

abbrev short_bytes : List ℕ
short_bytes = 0x02 ∷ 0x80 ∷ 0x00 ∷ 0x00 ∷ 0x82 ∷ []

-- the word TEST, in each mode
abbrev test : List ℕ
test = 0x54 ∷ 0x45 ∷ 0x53 ∷ 0x54 ∷ []

abbrev test_crate : Example
test_crate = record { comes = outcome (crate_packed test (room 3)); said = outcome (ends (done (3 ∷ [])) (0xD2 ∷ 0x5C ∷ 0xF4 ∷ [])) }

abbrev test_standard : Example
test_standard = record { comes = outcome (standard_packed test (room 3)); said = outcome (ends (done (3 ∷ [])) (0x50 ∷ 0x54 ∷ 0xD4 ∷ [])) }

-- the letter a: in crate mode the very bytes that were written are read, to an exclamation mark and spaces; standard mode has no code for it
abbrev a_crate : Example
a_crate = record { comes = outcome (crate_unpacked (left (crate_packed (0x61 ∷ []) (room 3))) (room 4)); said = outcome (ends (done (4 ∷ [])) (0x21 ∷ 0x20 ∷ 0x20 ∷ 0x20 ∷ [])) }

abbrev a_standard : Example
a_standard = record { comes = outcome (standard_packed (0x61 ∷ []) (room 3)); said = outcome (ends (refused 7 (0 ∷ [])) (room 3)) }

-- a new decoder is fed a run: so many silent bytes, then what is said, and then it is hunting again
pub record Reading : Type 0 where
  pub run : List ℕ
  pub quiet : ℕ
  pub then : List Heard

abbrev pub reading : Reading → Example
reading r = record {
  comes = heard (says decoder_hears fresh_decoder r.run) (ends_in decoder_hears fresh_decoder r.run).state;
  said = heard (replicate r.quiet (heard_of silence) ++ r.then) Hunting;
}

abbrev request : Address → ℕ → List ℕ → ℕ → Heard
request address command payload n =
    Ok (Some (record {
      frame_type = Request;
      address = address;
      command = command;
      «data» = padded 255 payload;
      length = n;
    }))

abbrev request_0 : Heard
request_0 = request worked_short_address 0 [] 0

abbrev pub request_0_behind : ℕ → ℕ → Reading
request_0_behind n quiet = record { run = preambles n ++ short_bytes; quiet = quiet; then = request_0 ∷ [] }

abbrev pub wrong_check : Reading
wrong_check = record {
  run = preambles 5 ++ (0x02 ∷ 0x80 ∷ 0x00 ∷ 0x00 ∷ 0x83 ∷ []);
  quiet = 9;
  then = heard_of (refusal 5 (0x82 ∷ 0x83 ∷ [])) ∷ [];
}

abbrev pub four_preambles : Reading
four_preambles = record { run = preambles 4 ++ (0x02 ∷ []); quiet = 5; then = [] }

abbrev pub no_delimiter : Reading
no_delimiter = record { run = preambles 5 ++ (0x03 ∷ []); quiet = 5; then = heard_of (refusal 4 (0x03 ∷ [])) ∷ [] }

-- a check byte FF, and four FF behind it: no five
abbrev pub check_no_preamble : Reading
check_no_preamble = record {
  run = preambles 5 ++ (0x02 ∷ 0x80 ∷ 0x00 ∷ 0x00 ∷ 0xFF ∷ (preambles 4 ++ (0x02 ∷ [])));
  quiet = 9;
  then = heard_of (refusal 5 (0x82 ∷ 0xFF ∷ [])) ∷ replicate 5 (heard_of silence);
}

-- the same with a right check that is FF, which document 01 does not list
abbrev pub right_check_no_preamble : Reading
right_check_no_preamble = record {
  run = preambles 5 ++ (0x02 ∷ 0x80 ∷ 0x7D ∷ 0x00 ∷ 0xFF ∷ (preambles 4 ++ (0x02 ∷ [])));
  quiet = 9;
  then = request worked_short_address 0x7D [] 0 ∷ replicate 5 (heard_of silence);
}

abbrev pub long_request : Reading
long_request = record { run = preambles 5 ++ worked_long_bytes; quiet = 15; then = request worked_long_address 9 (0x00 ∷ 0x01 ∷ []) 2 ∷ [] }

-- the same frames written: bare, and behind five preamble bytes, with a byte of the buffer left over
abbrev long_written : Example
long_written = record {
  comes = outcome (encoded Request worked_long_address 9 (0x00 ∷ 0x01 ∷ []) 0 (room 11));
  said = outcome (ends (done (11 ∷ [])) worked_long_bytes);
}

abbrev short_written : Example
short_written = record {
  comes = outcome (encoded Request worked_short_address 0 [] 5 (room 11));
  said = outcome (ends (done (10 ∷ [])) (preambles 5 ++ short_bytes ++ room 1));
}

abbrev pub examples : List Example
examples =
    reading (request_0_behind 5 9)
    ∷ reading wrong_check
    ∷ reading four_preambles
    ∷ reading no_delimiter
    ∷ reading check_no_preamble
    ∷ reading right_check_no_preamble
    ∷ reading (request_0_behind 256 260)
    ∷ reading (request_0_behind 700 704)
    ∷ reading long_request
    ∷ long_written
    ∷ short_written
    ∷ test_crate
    ∷ test_standard
    ∷ a_crate
    ∷ a_standard
    ∷ []
