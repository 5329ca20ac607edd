-- What the device says along a run of bytes, a host hears: its answers are frames of a run that has one cut.
use Prim.Native.Nat.{ℕ, ◌<◌}
use native.Mathlib.Omega.{arith}
use mathlib.Core.Path.{◌≡◌, refl, sym, ap, ap₂, subst, ◌∙◌}
use mathlib.Core.Bool.{Bool, true, false}
use mathlib.Core.List.{List, [], ◌∷◌, ◌++◌, map, append-nil}
use lib.Dec.{lit<, lit≤}
use lib.ListN.{length}
use Rattle.refusal.specs.declared.Refusal.{Refusal}
use Rattle.octets.proofs.Bases.{below_at, below_take}
use Rattle.types.specs.declared.delimiter.FrameType.TheVariants.{Response}
use Rattle.types.specs.Address.{address_length, read_address, Limited, Ranged}
use Rattle.types.proofs.Addresses.{length-address}
use Rattle.line.specs.Layout.{Wire, address_of, body, check_of, preambles}
use Rattle.line.specs.Pieces.{Piece, noise, short_run, bad_delimiter, frame, bad_check, enough, bytes_of, front, Bytes, joined, AllHold, nothing}
use Rattle.line.specs.Events.{verdict, gather, frames_in, refusals_in}
use Rattle.line.specs.Runs.{says}
use Rattle.line.specs.Encode.{wire_of}
use Rattle.line.specs.machine.Frames.{frame_of}
use Rattle.line.specs.machine.Demand.{frame_heard, frames_heard, refusals_heard}
use Rattle.line.specs.declared.frame.Frame.{Frame}
use Rattle.line.proofs.Bytes.{bytes-append, bytes_left, bytes_right}
use Rattle.framing.specs.Feed.{fresh_decoder}
use Rattle.framing.specs.Demand.{decoder_hears}
use Rattle.framing.specs.Payload.{data_of}
use Rattle.framing.specs.RoundTrip.{Handed}
use Rattle.framing.proofs.Payloads.{frame_data}
use Rattle.framing.proofs.Demand.{answered}
use Rattle.framing.proofs.Responses.{joined-append, hold_append}
use Rattle.framing.proofs.RoundTrip.{layout_bytes, told_back}
use Rattle.device.specs.Device.{Spoken, keeps_silent, speaks, answer_to}
use Rattle.device.specs.Conversation.{sent_back, answer_bytes, spoken_frames, answer_frames, answers_along, Overheard}
use Rattle.device.proofs.Room.{Few, answer_few}
use Rattle.device.proofs.Small.{SmallSpoken, answer_small}
use Rattle.device.proofs.Along.{frames_answered}

-- ---- the frames that a line can bring

record Brought (f : Frame) : Type 0 where
  ranged : Ranged f.address
  limited : Limited f.address
  command : f.command < 256
  bytes : Bytes (data_of f)

address_ranged_lem : (long : Bool) (bs : List ℕ) → Bytes bs → Ranged (read_address long bs)
address_ranged_lem false bs k = omega arith
address_ranged_lem true bs k = (omega arith, below_at 256 bs k (lit< tt) 1, omega (arith, below_at 256 bs k (lit< tt) 2, below_at 256 bs k (lit< tt) 3, below_at 256 bs k (lit< tt) 4))

address_limited : (long : Bool) (bs : List ℕ) → Bytes bs → Limited (read_address long bs)
address_limited false bs k = omega arith
address_limited true bs k = (omega arith, omega (arith, below_at 256 bs k (lit< tt) 2, below_at 256 bs k (lit< tt) 3, below_at 256 bs k (lit< tt) 4))

brought : (w : Wire) → Bytes (body w) → Brought (frame_of w)
brought w k =
    let rest : List ℕ = w.command ∷ length w.payload ∷ w.payload in
    let behind : Bytes rest = bytes_right w.heading rest k.1 in
    let head : Bytes (address_of w) = below_take 256 (address_length w.opening.is_long) w.heading (bytes_left w.heading rest k.1) in
    record {
      ranged = address_ranged_lem w.opening.is_long (address_of w) head;
      limited = address_limited w.opening.is_long (address_of w) head;
      command = behind.0;
      bytes = subst Bytes (sym (frame_data w)) behind.1.1;
    }

abbrev AllBrought : List Frame → Type 0
AllBrought [] = Unit {0}
AllBrought (f ∷ fs) = Brought f × AllBrought fs

pieces_brought : (ps : List Piece) → Bytes (joined ps) → AllBrought (map frame_of (gather frames_in (map verdict ps)))
pieces_brought [] k = tt
pieces_brought (noise b ∷ ps) k = pieces_brought ps (bytes_right (bytes_of (noise b)) (joined ps) k)
pieces_brought (short_run n b ∷ ps) k = pieces_brought ps (bytes_right (bytes_of (short_run n b)) (joined ps) k)
pieces_brought (bad_delimiter n b ∷ ps) k = pieces_brought ps (bytes_right (bytes_of (bad_delimiter n b)) (joined ps) k)
pieces_brought (bad_check n w c ∷ ps) k = pieces_brought ps (bytes_right (bytes_of (bad_check n w c)) (joined ps) k)
pieces_brought (frame n w ∷ ps) k =
    let p : Piece = frame n w in (
      brought w (bytes_right (preambles n) (body w) (bytes_left (front p) (check_of w ∷ []) (bytes_left (bytes_of p) (joined ps) k))),
      pieces_brought ps (bytes_right (bytes_of p) (joined ps) k),
    )

-- ---- an answer is a piece

abbrev pieces_by : Frame → Spoken → List Piece
pieces_by f keeps_silent = []
pieces_by f (speaks ds) = frame enough (wire_of Response f.address f.command ds) ∷ []

abbrev pieces_of : Frame → List Piece
pieces_of f = pieces_by f (answer_to f)

abbrev frames_of : List Piece → List Frame
frames_of ps = map frame_of (gather frames_in (map verdict ps))

abbrev refusals_of : List Piece → List Refusal
refusals_of ps = gather refusals_in (map verdict ps)

module _ (f : Frame) where
  sent_joined : (s : Spoken) → sent_back f s ≡ joined (pieces_by f s)
  sent_joined keeps_silent = refl
  sent_joined (speaks ds) = sym (append-nil (sent_back f (speaks ds)))

  pieces_hold : (s : Spoken) → Few s → AllHold (pieces_by f s)
  pieces_hold keeps_silent few = tt
  pieces_hold (speaks ds) few = ((lit≤ tt, record { heading_fits = length-address f.address; count_fits = omega arith }), tt)

  module _ (b : Brought f) where
    abbrev handing : (ds : List ℕ) → Bytes ds → Handed
    handing ds small = record {
      frame_type = Response;
      address = f.address;
      command = f.command;
      payload = ds;
      preamble_count = enough;
      address_ranged = b.ranged;
      command_small = b.command;
      payload_small = small;
    }

    pieces_small : (s : Spoken) → Few s → SmallSpoken s → Bytes (joined (pieces_by f s))
    pieces_small keeps_silent few small = tt
    pieces_small (speaks ds) few small = subst Bytes (sent_joined (speaks ds)) (layout_bytes (handing ds small) (omega arith))

    pieces_told : (s : Spoken) → SmallSpoken s → frames_of (pieces_by f s) ≡ spoken_frames f s
    pieces_told keeps_silent small = refl
    pieces_told (speaks ds) small = ap frame_heard (told_back (handing ds small) b.limited)

-- ---- and all answers to some frames are pieces

abbrev replies : List Frame → List Piece
replies fs = gather pieces_of fs

replies_joined : (fs : List Frame) → gather answer_bytes fs ≡ joined (replies fs)
unfolding answer_bytes
replies_joined [] = refl
replies_joined (f ∷ fs) = ap₂ (λ (bs cs : List ℕ). bs ++ cs) (sent_joined f (answer_to f)) (replies_joined fs) ∙ sym (joined-append (pieces_of f) (replies fs))

replies_hold : (fs : List Frame) → AllHold (replies fs)
replies_hold [] = tt
replies_hold (f ∷ fs) = hold_append (pieces_of f) (replies fs) (pieces_hold f (answer_to f) (answer_few f)) (replies_hold fs)

replies_small : (fs : List Frame) → AllBrought fs → Bytes (joined (replies fs))
replies_small [] b = tt
replies_small (f ∷ fs) b =
    subst Bytes (sym (joined-append (pieces_of f) (replies fs)))
    (bytes-append (joined (pieces_of f)) (joined (replies fs)) (pieces_small f b.0 (answer_to f) (answer_few f) (answer_small f b.0.bytes)) (replies_small fs b.1))

frames-append : (ps qs : List Piece) → frames_of (ps ++ qs) ≡ frames_of ps ++ frames_of qs
frames-append [] qs = refl
frames-append (noise b ∷ ps) qs = frames-append ps qs
frames-append (short_run n b ∷ ps) qs = frames-append ps qs
frames-append (bad_delimiter n b ∷ ps) qs = frames-append ps qs
frames-append (bad_check n w c ∷ ps) qs = frames-append ps qs
frames-append (frame n w ∷ ps) qs = ap (λ (fs : List Frame). frame_of w ∷ fs) (frames-append ps qs)

replies_told : (fs : List Frame) → AllBrought fs → frames_of (replies fs) ≡ gather answer_frames fs
unfolding answer_frames
replies_told [] b = refl
replies_told (f ∷ fs) b =
    frames-append (pieces_of f) (replies fs)
    ∙ ap₂ (λ (gs hs : List Frame). gs ++ hs) (pieces_told f b.0 (answer_to f) (answer_small f b.0.bytes)) (replies_told fs b.1)

-- a frame is no refusal
accepted_before : (f : Frame) (s : Spoken) (qs : List Piece) → refusals_of (pieces_by f s ++ qs) ≡ refusals_of qs
accepted_before f keeps_silent qs = refl
accepted_before f (speaks ds) qs = refl

replies_accepted : (fs : List Frame) → refusals_of (replies fs) ≡ []
replies_accepted [] = refl
replies_accepted (f ∷ fs) = accepted_before f (answer_to f) (replies fs) ∙ replies_accepted fs

pub answers_overheard : (run : List ℕ) → Bytes run → Overheard run
answers_overheard run k =
    let a = answered run k in
    let fs : List Frame = frames_of a.pieces in
    let ps : List Piece = replies fs in
    let brings : AllBrought fs = pieces_brought a.pieces (bytes_left (joined a.pieces) a.rest (subst Bytes a.cut.whole k)) in
    let said : answers_along fresh_decoder run ≡ joined ps = frames_answered (says decoder_hears fresh_decoder run) ∙ ap (gather answer_bytes) a.frames ∙ replies_joined fs in
    let b = answered (joined ps) (replies_small fs brings) in
    let same : b.pieces ≡ ps = (b.only ps [] (record { pieces = replies_hold fs; rest = nothing; whole = sym (append-nil (joined ps)) })).0 in
    record {
      frames =
          ap (λ (bs : List ℕ). frames_heard (says decoder_hears fresh_decoder bs)) said
          ∙ b.frames
          ∙ ap frames_of same
          ∙ replies_told fs brings
          ∙ sym (ap (gather answer_frames) a.frames);
      refusals = ap (λ (bs : List ℕ). refusals_heard (says decoder_hears fresh_decoder bs)) said ∙ b.refusals ∙ ap refusals_of same ∙ replies_accepted fs;
    }
