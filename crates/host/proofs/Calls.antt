-- The calls of a host meet the third demand: a block that they bring about is the image of a scanner, and so is what they give.
use Prim.Native.Nat.{ℕ, ◌≤◌}
use native.Mathlib.Omega.{arith}
use mathlib.Core.Path.{◌≡◌, refl, sym, ap, ap₂, subst, ◌∙◌}
use mathlib.Core.Bool.{Bool, true, false, cond}
use mathlib.Core.List.{List, [], ◌∷◌, ◌++◌, map, append-nil}
use lib.Dec.{leb}
use lib.ListN.{length, drop, length-set, length-drop, length-append}
use lib.Seq.{take-append_seam, drop-append_seam}
use Rattle.octets.specs.Digits.{digits}
use Rattle.octets.proofs.Bases.{length_digits}
use Rattle.octets.proofs.Put.{put_front}
use Rattle.line.specs.Pieces.{Bytes, joined}
use Rattle.line.specs.Events.{Event, dictated, gather}
use Rattle.line.specs.Runs.{says, ends_in}
use Rattle.line.proofs.Scan.{Scan, hunt, scan, told, Fine}
use Rattle.line.proofs.Unique.{scanned_whole}
use Rattle.line.proofs.Exists.{fine_scan}
use Rattle.line.proofs.Follows.{gathered, follows_says}
use Rattle.line.specs.machine.Room.{decoder_room}
use Rattle.line.specs.machine.Step.{moved_at, stored_at}
use Rattle.line.specs.machine.Feed.{Held, blank, settled_by, settled, stepped, feeding}
use Rattle.line.specs.declared.state.State.{State}
use Rattle.line.specs.declared.state.State.TheVariants.{
  Hunting,
  Preamble,
  Address,
  Command,
  ByteCount,
  Data,
  Checksum,
}
use Rattle.line.specs.declared.moved.Moved.{Moved}
use Rattle.line.specs.machine.Step.{Ended}
use Rattle.std.specs.Prelude.{Some, None, Ok, Err}
use Rattle.line.proofs.machine.Image.{real, reachable_real, stepped_real, follows}
use Rattle.line.proofs.machine.Small.{real_value}
use Rattle.line.proofs.machine.Demand.{feeding_demand}
use Rattle.line.proofs.machine.Settled.{settled_event}
use Rattle.host.specs.Header.{header_of}
use Rattle.host.specs.Record.{record_of, record_room}
use Rattle.host.proofs.RecordLengths.{event_short}
use Rattle.host.specs.Block.{header_size, block_size, block_of, held_in, accepted, refusing, recorded, fed_block, Cleared}
use Rattle.host.specs.Demand.{
  Lending,
  HostCall,
  with_byte,
  to_clear,
  CallResult,
  given_by,
  fed_result,
  cleared_result,
  calling,
  given_along,
  block_after,
  clear,
  run_of,
  Roomy,
  length_left,
  given_at,
  given_all,
  Called,
}
use Rattle.host.proofs.Blocks.{fed_taken, block_fresh, clear_whole}
use Rattle.host.proofs.Accepted.{stored_accepted, value_back}

-- ---- a record fits its room

stored_whole : (s : State) (bs : List ℕ) (b : ℕ) → length (stored_at s bs b) ≡ length bs
stored_whole Hunting bs b = refl
stored_whole (Preamble n) bs b = refl
stored_whole (Address h k) bs b = length-set bs k b
stored_whole (Command h) bs b = refl
stored_whole (ByteCount h c) bs b = refl
stored_whole (Data h c e n) bs b = length-set bs _ b
stored_whole (Checksum h c e) bs b = refl

pub stepped_short : (d : Held) (b : ℕ) → length d.bytes ≡ decoder_room → length (record_of (stepped d b).1) ≤ record_room
unfolding stepped
stepped_short d b e =
    let m = moved_at d.state b in
    let bs = stored_at d.state d.bytes b in
    subst (λ (x : Event). length (record_of x) ≤ record_room) (sym (settled_event m.ended m.state bs)) (event_short m.ended bs (stored_whole d.state d.bytes b ∙ e))

-- ---- one call, and calls one after another

module _ (s : Scan) (x : Lending) (f : Fine s) (h : record_room ≤ length x.room) where
  abbrev event : Event
  event = told (scan s x.byte).1

  abbrev after : List ℕ
  after = block_of (real (scan s x.byte).0)

  call_follows : calling (block_of (real s)) (with_byte x) ≡ (after, given_at event x.room)
  call_follows =
      let d = real s in
      let v = real_value s f in
      let t = reachable_real s f in
      let room = x.room in
      let bytes = record_of event in
      let step : stepped (held_in (block_of d)) x.byte ≡ (real (scan s x.byte).0, event) = ap (λ (y : Held). stepped y x.byte) (value_back d v t) ∙ stepped_real s x.byte f in
      ap fed_result (fed_taken (block_of d) room x.byte (stored_accepted d v t) h ∙ ap (λ (y : Held × Event). recorded y room) step)
      ∙ ap (λ (l : List ℕ). (after, given_by (length bytes) l)) (put_front room bytes)
      ∙ ap₂ (λ (l r : List ℕ). (after, record { number = length bytes; bytes = l; behind = r })) (take-append_seam bytes (drop (length bytes) room)) (drop-append_seam bytes (drop (length bytes) room))

  room_kept : length_left (given_at event x.room) ≡ length x.room
  room_kept =
      let short : length (record_of event) ≤ record_room = subst (λ (y : Held × Event). length (record_of y.1) ≤ record_room) (stepped_real s x.byte f) (stepped_short (real s) x.byte (real_value s f).whole) in
      omega (arith, h, short, length-drop (length (record_of event)) x.room)

calls_give : (xs : List Lending) (s : Scan) → Fine s → Bytes (run_of xs) → Roomy xs → given_along (block_of (real s)) (map with_byte xs) ≡ given_all (map told (says scan s (run_of xs))) xs
calls_give [] s f k h = refl
calls_give (x ∷ xs) s f k h =
    ap (λ (y : List ℕ × CallResult). y.1 ∷ given_along y.0 (map with_byte xs)) (call_follows s x f h.0)
    ∙ ap (λ (gs : List CallResult). given_at (event s x f h.0) x.room ∷ gs) (calls_give xs (scan s x.byte).0 (fine_scan s x.byte f k.0) k.1 h.1)

calls_end_lem : (xs : List Lending) (s : Scan) → Fine s → Bytes (run_of xs) → Roomy xs → block_after (block_of (real s)) (map with_byte xs) ≡ block_of (real (ends_in scan s (run_of xs)))
calls_end_lem [] s f k h = refl
calls_end_lem (x ∷ xs) s f k h =
    ap (λ (y : List ℕ × CallResult). block_after y.0 (map with_byte xs)) (call_follows s x f h.0)
    ∙ calls_end_lem xs (scan s x.byte).0 (fine_scan s x.byte f k.0) k.1 h.1

rooms_kept : (xs : List Lending) (s : Scan) → Fine s → Bytes (run_of xs) → Roomy xs → map length_left (given_all (map told (says scan s (run_of xs))) xs) ≡ map (λ (x : Lending). length x.room) xs
rooms_kept [] s f k h = refl
rooms_kept (x ∷ xs) s f k h =
    ap₂ (λ (n : ℕ) (ns : List ℕ). n ∷ ns) (room_kept s x f h.0) (rooms_kept xs (scan s x.byte).0 (fine_scan s x.byte f k.0) k.1 h.1)

-- the records among what must be given are those of the events, of which there is one for each call
gather_given : (xs : List Lending) (s : Scan) → let es = map told (says scan s (run_of xs)) in gather (λ (g : CallResult). g.bytes) (given_all es xs) ≡ gather record_of es
gather_given [] s = refl
gather_given (x ∷ xs) s = ap (λ (bs : List ℕ). record_of (told (scan s x.byte).1) ++ bs) (gather_given xs (scan s x.byte).0)

-- ---- the third demand

pub called : (xs : List Lending) → Bytes (run_of xs) → Roomy xs → Called xs
unfolding record_of
called xs k h =
    let run = run_of xs in
    let d = feeding_demand run k in
    let events : map told (says scan hunt run) ≡ dictated d.pieces d.rest = sym (follows_says feeding real follows hunt run tt k) ∙ d.events in
    let start : given_along clear (map with_byte xs) ≡ given_all (map told (says scan hunt run)) xs =
    ap (λ (q : List ℕ). given_along q (map with_byte xs)) (sym block_fresh) ∙ calls_give xs hunt tt k h in
    record {
      pieces = d.pieces;
      rest = d.rest;
      cut = d.cut;
      only = d.only;
      answers = start ∙ ap (λ (es : List Event). given_all es xs) events;
      kept = ap (map length_left) start ∙ rooms_kept xs hunt tt k h;
      records = ap (gather (λ (g : CallResult). g.bytes)) start ∙ gather_given xs hunt ∙ ap (gather record_of) events ∙ gathered record_of refl d.pieces d.rest;
      again = λ none.
          let whole : run ≡ joined d.pieces = d.cut.whole ∙ ap (λ (t : List ℕ). joined d.pieces ++ t) none ∙ append-nil (joined d.pieces) in
          ap (λ (q : List ℕ). block_after q (map with_byte xs)) (sym block_fresh)
          ∙ calls_end_lem xs hunt tt k h
          ∙ ap (λ (bs : List ℕ). block_of (real (ends_in scan hunt bs))) whole
          ∙ ap (λ (t : Scan). block_of (real t)) (scanned_whole d.pieces d.cut.pieces)
          ∙ block_fresh;
    }

-- ---- a clear between calls

settled_whole : (x : Ended) (s : State) (bs : List ℕ) → length bs ≡ decoder_room → length (settled_by x s bs).0.bytes ≡ decoder_room
unfolding blank
settled_whole (Ok None) s bs e = e
settled_whole (Ok (Some c)) s bs e = refl
settled_whole (Err r) s bs e = refl

-- no call changes how long a block is
call_whole : (block : List ℕ) (c : HostCall) → length block ≡ block_size → length (calling block c).0 ≡ block_size
unfolding fed_block stepped
call_whole block to_clear e = ap (λ (y : Cleared). length (cleared_result y).0) (clear_whole block e)
call_whole block (with_byte x) e = by (accepted block) (leb record_room (length x.room))
  where
    d : Held
    d = held_in block

    stored : List ℕ
    stored = stored_at d.state d.bytes x.byte

    moved : Moved
    moved = moved_at d.state x.byte

    by : (taken roomy : Bool) → length (fed_result (cond taken (cond roomy (recorded (settled moved stored) x.room) (refusing 2 block x.room)) (refusing 8 block x.room))).0 ≡ block_size
    by false roomy = e
    by true false = e
    by true true =
        let next = (settled moved stored).0 in
        let kept : length stored ≡ decoder_room = stored_whole d.state d.bytes x.byte ∙ omega (arith, length-drop header_size block) in
        omega (arith, length-append (digits 256 header_size (header_of next.state)) next.bytes, length_digits 256 header_size (header_of next.state), settled_whole moved.ended moved.state stored kept)

-- a clear ends the run, whatever was in the block: it gives 0, and what follows is given, and leaves the block, as from a cleared one
pub clear_starts : (block : List ℕ) (before after : List HostCall) → length block ≡ block_size
    → given_along block (before ++ (to_clear ∷ after)) ≡ given_along block before ++ (given_by 0 [] ∷ given_along clear after)
clear_starts block [] after e = ap (λ (y : Cleared). (cleared_result y).1 ∷ given_along (cleared_result y).0 after) (clear_whole block e)
clear_starts block (c ∷ before) after e =
    ap (λ (gs : List CallResult). (calling block c).1 ∷ gs) (clear_starts (calling block c).0 before after (call_whole block c e))

pub clear_leaves : (block : List ℕ) (before after : List HostCall) → length block ≡ block_size → block_after block (before ++ (to_clear ∷ after)) ≡ block_after clear after
clear_leaves block [] after e = ap (λ (y : Cleared). block_after (cleared_result y).0 after) (clear_whole block e)
clear_leaves block (c ∷ before) after e = clear_leaves (calling block c).0 before after (call_whole block c e)
