-- decode.rs written down, state by state and line by line, with the address reader of types.rs: to be held beside the Rust. What stops a
-- debug build stops here: a sum of u8 past 255 (the preamble count, at the 256th FF), a difference below 0, an index or a part outside
-- an array.
use Rattle.std.specs.Prelude.{ℕ, suc, ◌-◌, ◌*◌, ◌^◌, ◌<◌, ◌≡◌, ◌⊎◌, Bool, true, false, cond, ◌||◌, List, [], ◌∷◌, ◌++◌, eqb, ltb, leb, length, get_or, take, replicate, Option, Some, None, Ok, Err}
use Rattle.std.specs.Int.Bits.{bit_and, bit_or, bit_xor}
use Rattle.refusal.specs.declared.Refusal.{Refusal}
use Rattle.refusal.specs.declared.Refusal.TheVariants.{BufferTooShort, InvalidDelimiter, ChecksumMismatch}
use Rattle.refusal.specs.Table.{number_of, values_of}
use Rattle.octets.specs.Source.{Run, stops, comes, add_u8, store_at}
use Rattle.types.specs.Address.{AddressReading, address_read, address_refused}
use Rattle.types.specs.StatusSource.{has_bit}
use Rattle.types.specs.declared.delimiter.FrameType.{FrameType}
use Rattle.types.specs.declared.delimiter.FrameType.TheVariants.{Request, Response, Burst}
use Rattle.types.specs.declared.first.MasterRole.{MasterRole}
use Rattle.types.specs.declared.first.MasterRole.TheVariants.{Primary, Secondary}
use Rattle.types.specs.declared.address.Address.{Address}
use Rattle.types.specs.declared.address.Address.TheVariants.{Short, Long}
use Rattle.line.specs.Pieces.{Piece, bytes_of, Cut}
use Rattle.line.specs.machine.Frames.{Heard}
use Rattle.line.specs.machine.Demand.{Call, feeds, resets}
use Rattle.line.specs.declared.frame.Frame.{Frame}

-- `enum State`
pub data SourceState : Type 0 where
  hunting : SourceState
  preamble : ℕ → SourceState
  address : ℕ → SourceState
  command : SourceState
  byte_count : SourceState
  loading : ℕ → SourceState
  checksum : SourceState

-- `struct Decoder`; its `data`, a Vec of at most 256, is a list here
pub record SourceDecoder : Type 0 where
  pub state : SourceState
  pub frame_type : Option FrameType
  pub is_long : Bool
  pub addr_buf : List ℕ
  pub addr_len : ℕ
  pub addr_idx : ℕ
  pub command_byte : ℕ
  pub sum : ℕ
  pub payload : List ℕ

-- `struct RawFrame`
pub record RawFrame : Type 0 where
  pub frame_type : FrameType
  pub address : Address
  pub command : ℕ
  pub payload : List ℕ

-- what `feed` returns
pub data Result : Type 0 where
  ok_none : Result
  ok_some : RawFrame → Result
  err : Refusal → Result

-- what a call comes to: the decoder behind it, and what it returned
abbrev pub SourceRun : Type 0
SourceRun = Run (SourceDecoder × Result)

abbrev pub comes_to : SourceDecoder → Result → SourceRun
comes_to d r = comes (d, r)

-- a difference of u8 and a part taken, each with the rest of the run
abbrev pub sub_u8 : ℕ → ℕ → (ℕ → SourceRun) → SourceRun
sub_u8 a b rest = cond (leb b a) (rest (a - b)) stops

abbrev pub part_to : List ℕ → ℕ → (List ℕ → SourceRun) → SourceRun
part_to xs n rest = cond (leb n (length xs)) (rest (take n xs)) stops

-- `Address::decode`
pub data AddressResult : Type 0 where
  ok_address : Address → ℕ → AddressResult
  err_address : Refusal → AddressResult

abbrev pub source_master : ℕ → MasterRole
source_master b0 = cond (has_bit b0 0x80) Primary Secondary

abbrev pub source_address : List ℕ → Bool → AddressResult
source_address buf true =
    cond (ltb (length buf) 5) (err_address BufferTooShort)
    (ok_address (Long (source_master (get_or buf 0 0)) (has_bit (get_or buf 0 0) 0x40) (bit_and (get_or buf 0 0) 0x3F) (get_or buf 1 0)
    (bit_or (bit_or (get_or buf 2 0 * 2 ^ 16) (get_or buf 3 0 * 2 ^ 8)) (get_or buf 4 0))) 5)
source_address buf false =
    cond (eqb (length buf) 0) (err_address BufferTooShort)
    (ok_address (Short (source_master (get_or buf 0 0)) (has_bit (get_or buf 0 0) 0x40) (bit_and (get_or buf 0 0) 0x0F)) 1)

-- its answer in document 01's numbers
abbrev pub reading_of : AddressResult → AddressReading
reading_of (ok_address a used) = address_read a used
reading_of (err_address e) = address_refused (number_of e) (values_of e)

-- `new`; `reset` writes the same into every field
abbrev pub source_new : SourceDecoder
source_new = record {
  state = hunting;
  frame_type = None;
  is_long = false;
  addr_buf = replicate 5 0;
  addr_len = 0;
  addr_idx = 0;
  command_byte = 0;
  sum = 0;
  payload = [];
}

-- `self.state = ..`
abbrev pub goto : SourceState → SourceDecoder → SourceDecoder
goto s d = record {
  state = s;
  frame_type = d.frame_type;
  is_long = d.is_long;
  addr_buf = d.addr_buf;
  addr_len = d.addr_len;
  addr_idx = d.addr_idx;
  command_byte = d.command_byte;
  sum = d.sum;
  payload = d.payload;
}

-- `self.checksum ^= byte`, with the fields that a state writes beside it
abbrev pub mix_address : List ℕ → ℕ → ℕ → SourceDecoder → SourceDecoder
mix_address buf idx b d = record {
  state = d.state;
  frame_type = d.frame_type;
  is_long = d.is_long;
  addr_buf = buf;
  addr_len = d.addr_len;
  addr_idx = idx;
  command_byte = d.command_byte;
  sum = bit_xor d.sum b;
  payload = d.payload;
}

abbrev pub mix_other : ℕ → List ℕ → ℕ → SourceDecoder → SourceDecoder
mix_other c ds b d = record {
  state = d.state;
  frame_type = d.frame_type;
  is_long = d.is_long;
  addr_buf = d.addr_buf;
  addr_len = d.addr_len;
  addr_idx = d.addr_idx;
  command_byte = c;
  sum = bit_xor d.sum b;
  payload = ds;
}

-- `process_delimiter`
abbrev pub begin : FrameType → Bool → ℕ → SourceDecoder → SourceRun
begin t long b d =
    let n : ℕ = cond long 5 1 in
    comes_to (record {
      state = address n;
      frame_type = Some t;
      is_long = long;
      addr_buf = d.addr_buf;
      addr_len = n;
      addr_idx = 0;
      command_byte = d.command_byte;
      sum = b;
      payload = [];
    }) ok_none

abbrev pub process_delimiter : SourceDecoder → ℕ → SourceRun
process_delimiter d b =
    cond (eqb b 0x02) (begin Request false b d)
    (cond (eqb b 0x82) (begin Request true b d)
    (cond (eqb b 0x06) (begin Response false b d)
    (cond (eqb b 0x86) (begin Response true b d)
    (cond (eqb b 0x01) (begin Burst false b d)
    (cond (eqb b 0x81) (begin Burst true b d)
    (comes_to source_new (err (InvalidDelimiter b))))))))

-- `unwrap_or(FrameType::Request)`
abbrev pub unwrapped : Option FrameType → FrameType
unwrapped None = Request
unwrapped (Some t) = t

abbrev pub finished : SourceDecoder → AddressResult → SourceRun
finished d (ok_address a used) =
    comes_to source_new (ok_some (record { frame_type = unwrapped d.frame_type; address = a; command = d.command_byte; payload = d.payload }))
finished d (err_address e) = comes_to source_new (err e)

-- `Vec::push` into a full Vec changes nothing, and the error is dropped
abbrev pub pushed : List ℕ → ℕ → List ℕ
pushed ds b = cond (ltb (length ds) 256) (ds ++ (b ∷ [])) ds

-- the arms of `feed`: the state is already replaced by Hunting
abbrev pub source_arm : SourceState → SourceDecoder → ℕ → SourceRun
source_arm hunting d b = cond (eqb b 0xFF) (comes_to (goto (preamble 1) d) ok_none) (comes_to d ok_none)
source_arm (preamble count) d b =
    cond (eqb b 0xFF) (add_u8 count 1 (λ n. comes_to (goto (preamble n) d) ok_none))
    (cond (leb 5 count) (process_delimiter d b) (comes_to source_new ok_none))
source_arm (address remaining) d b =
    store_at d.addr_buf d.addr_idx b (λ buf.
    add_u8 d.addr_idx 1 (λ idx.
    let d₁ : SourceDecoder = mix_address buf idx b d in
    cond (leb d.addr_len idx) (comes_to (goto command d₁) ok_none)
    (sub_u8 d.addr_len idx (λ left. comes_to (goto (address left) d₁) ok_none))))
source_arm command d b = comes_to (goto byte_count (mix_other b d.payload b d)) ok_none
source_arm byte_count d b =
    let d₁ : SourceDecoder = mix_other d.command_byte d.payload b d in
    cond (eqb b 0) (comes_to (goto checksum d₁) ok_none) (comes_to (goto (loading b) d₁) ok_none)
source_arm (loading remaining) d b =
    let d₁ : SourceDecoder = mix_other d.command_byte (pushed d.payload b) b d in
    sub_u8 remaining 1 (λ left. cond (eqb left 0) (comes_to (goto checksum d₁) ok_none) (comes_to (goto (loading left) d₁) ok_none))
source_arm checksum d b =
    cond (eqb b d.sum) (part_to d.addr_buf d.addr_len (λ part. finished d (source_address part d.is_long)))
    (comes_to source_new (err (ChecksumMismatch d.sum b)))

unfoldable pub source_feed : SourceDecoder → ℕ → SourceRun
source_feed d b = source_arm d.state (goto hunting d) b

-- calls one after another, up to the first that stops: what each feed returned, or nothing
pub data Trace : Type 0 where
  stopped : Trace
  returned : List Result → Trace

abbrev pub before : Result → Trace → Trace
before r stopped = stopped
before r (returned rs) = returned (r ∷ rs)

abbrev pub next : SourceRun → (SourceDecoder → Trace) → Trace
next stops rest = stopped
next (comes x) rest = before x.1 (rest x.0)

abbrev pub traced : SourceDecoder → List Call → Trace
traced d [] = returned []
traced d (feeds b ∷ cs) = next (source_feed d b) (λ e. traced e cs)
traced d (resets ∷ cs) = traced source_new cs

-- our answers in the Rust's shape: the data as its Vec, the address as read
abbrev pub raw_of : Frame → RawFrame
raw_of f = record { frame_type = f.frame_type; address = f.address; command = f.command; payload = take f.length f.«data» }

abbrev pub result_of : Heard → Result
result_of (Ok None) = ok_none
result_of (Ok (Some f)) = ok_some (raw_of f)
result_of (Err r) = err r

-- what is fed is a byte
abbrev pub SmallCalls : List Call → Type 0
SmallCalls [] = Unit {0}
SmallCalls (feeds b ∷ cs) = (b < 256) × SmallCalls cs
SmallCalls (resets ∷ cs) = SmallCalls cs

-- The runs that calls feed: a reset ends one and begins the next.
abbrev pub first_run : List Call → List ℕ
first_run [] = []
first_run (feeds b ∷ cs) = b ∷ first_run cs
first_run (resets ∷ cs) = []

abbrev pub later_runs : List Call → List (List ℕ)
later_runs [] = []
later_runs (feeds b ∷ cs) = later_runs cs
later_runs (resets ∷ cs) = first_run cs ∷ later_runs cs

abbrev pub runs_of : List Call → List (List ℕ)
runs_of cs = first_run cs ∷ later_runs cs

abbrev pub last_of : List ℕ → List (List ℕ) → List ℕ
last_of run [] = run
last_of run (r ∷ rs) = last_of r rs

abbrev pub last_run : List Call → List ℕ
last_run cs = last_of (first_run cs) (later_runs cs)

-- Where the Rust stops: in a preamble of 256 FF or more, with which a piece of the run's cut begins, or its tail. FF elsewhere, as data or
-- as a check, are not counted. First the FF in front of some bytes, and whether 8 bits count them.
abbrev pub leading_ff : List ℕ → ℕ
leading_ff [] = 0
leading_ff (b ∷ bs) = cond (eqb b 0xFF) (suc (leading_ff bs)) 0

abbrev pub uncountable : List ℕ → Bool
uncountable bs = leb 256 (leading_ff bs)

abbrev pub overlong : List Piece → List ℕ → Bool
overlong [] t = uncountable t
overlong (p ∷ ps) t = uncountable (bytes_of p) || overlong ps t

pub record Overlong (run : List ℕ) : Type 0 where
  pub pieces : List Piece
  pub rest : List ℕ
  pub cut : Cut run pieces rest
  pub somewhere : overlong pieces rest ≡ true

-- one of these runs is such a run
abbrev pub SomeOverlong : List (List ℕ) → Type 0
SomeOverlong [] = ⊥
SomeOverlong (run ∷ runs) = Overlong run ⊎ SomeOverlong runs
