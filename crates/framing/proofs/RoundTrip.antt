-- What the encoder wrote is heard: behind five preamble bytes or more, wherever whole pieces stand before it; behind fewer it is not.
-- No machine is argued about: the written bytes are the bytes of a piece, and a run has one cut.
use Prim.Native.Nat.{ℕ, ◌-◌, ◌≤◌, ◌<◌}
use native.Mathlib.Omega.{arith}
use mathlib.Core.Path.{◌≡◌, sym, ap, ap₂, subst, ◌∙◌}
use mathlib.Core.Logic.{◌≢◌}
use mathlib.Core.List.{List, [], ◌∷◌, ◌++◌, map}
use lib.Dec.{lit<}
use lib.ListN.{length, take, replicate, length-append}
use Rattle.octets.proofs.Check.{check_below}
use Rattle.types.specs.Delimiter.{delimiter}
use Rattle.types.specs.Address.{address_length, is_long, address_bytes, Limited}
use Rattle.types.proofs.Delimiters.{delimiter_small}
use Rattle.types.proofs.Addresses.{length-address, address_bytes_below, address_back, read_taken, long_read}
use Rattle.line.specs.Layout.{Wire, address_of, Fits, preambles, body, check_of}
use Rattle.line.specs.Pieces.{Piece, noise, short_run, bad_delimiter, frame, bad_check, enough, front, bytes_of, Bytes, joined, AllHold}
use Rattle.line.specs.Events.{silence, found, verdict, said_by, gather, frames_in}
use Rattle.line.specs.Runs.{says}
use Rattle.line.proofs.Layouts.{length-frame}
use Rattle.line.proofs.Bytes.{bytes-append, bytes-replicate}
use Rattle.line.specs.Encode.{layout, total}
use Rattle.line.proofs.Encoded.{length-layout, encoded_whole}
use Rattle.line.specs.machine.Room.{data_room}
use Rattle.line.specs.machine.Frames.{frame_of, heard_of}
use Rattle.framing.specs.Feed.{fresh_decoder}
use Rattle.framing.specs.Demand.{decoder_hears}
use Rattle.framing.specs.RoundTrip.{Handed, written, IsDone, heard_back, HeardBehind, Lacks, NotFound}
use Rattle.line.specs.declared.frame.Frame.{Frame}
use Rattle.line.specs.machine.Frames.{Heard}
use Rattle.framing.proofs.Demand.{answered}
use Rattle.framing.proofs.Responses.{frame_heard_lem}

-- what is written is bytes
pub layout_bytes : (h : Handed) → length h.payload ≤ data_room → Bytes (layout h.preamble_count (written h))
layout_bytes h k =
    let d : delimiter (written h).opening < 256 = omega (arith, delimiter_small (written h).opening) in
    let inner : Bytes (body (written h)) =
    (d, bytes-append (address_bytes h.address) (h.command ∷ length h.payload ∷ h.payload) (address_bytes_below h.address h.address_ranged) (h.command_small, (omega arith, h.payload_small))) in
    bytes-append (preambles h.preamble_count ++ body (written h)) (check_of (written h) ∷ [])
    (bytes-append (preambles h.preamble_count) (body (written h)) (bytes-replicate h.preamble_count 0xFF (lit< tt)) inner)
    (check_below 0 (body (written h)) (lit< tt) inner, tt)

-- the frame that a reader is handed is the one that was handed over, if its address is within its limits
pub told_back : (h : Handed) → Limited h.address → heard_of (found (written h)) ≡ heard_back h
told_back h l = rw (sym (read_taken (is_long h.address) (address_bytes h.address)), address_back h.address l)

pub written_heard : (h : Handed) → enough ≤ h.preamble_count → Limited h.address → (before : List ℕ) (count : ℕ) (after : List ℕ) → IsDone h before count after
    → (ps : List Piece) → AllHold ps → Bytes (joined ps) → HeardBehind h ps count after
written_heard h many limits before count after e ps hold small =
    let n = h.preamble_count in
    let z = encoded_whole h.frame_type h.address h.command h.payload n before count after e in
    let f = frame n (written h) in
    let fits : Fits (written h) = record { heading_fits = length-address h.address; count_fits = z.short } in
    let bytes : Bytes (joined ps ++ bytes_of f) = bytes-append (joined ps) (bytes_of f) small (layout_bytes h z.short) in
    let last : length (front f) ≡ count - 1 = omega (arith, ap length z.bytes, length-append (front f) (check_of (written h) ∷ []), length-layout h.frame_type h.address h.command n h.payload, z.totals) in
    ap (λ (bs : List ℕ). says decoder_hears fresh_decoder (joined ps ++ bs)) z.bytes
    ∙ frame_heard_lem ps n (written h) hold (many, fits) bytes
    ∙ ap₂ (λ (k : ℕ) (x : Heard). map heard_of (said_by ps) ++ (replicate k (heard_of silence) ++ (x ∷ []))) last (told_back h limits)

-- a frame of a shorter run is another one: too few bytes stand there for five preamble bytes and the same address and data
module _ (w : Wire) where
  abbrev ShortRun : List Piece → Type 0
  ShortRun ps = length (joined ps) < total enough w.opening.is_long (length w.payload)

  other_frame : (n : ℕ) (v : Wire) → enough ≤ n → Fits v → length (bytes_of (frame n v)) < total enough w.opening.is_long (length w.payload) → frame_of w ≢ frame_of v
  other_frame n v h f k e =
      let p : length w.payload ≡ length v.payload = ap (λ (g : Frame). g.length) e in
      let l : w.opening.is_long ≡ v.opening.is_long = sym (long_read w.opening.is_long (address_of w)) ∙ ap (λ (g : Frame). is_long g.address) e ∙ long_read v.opening.is_long (address_of v) in
      let a : address_length w.opening.is_long ≡ address_length v.opening.is_long = ap address_length l in
      omega (arith, length-frame n v f.heading_fits)

  shorter : (p : Piece) (ps : List Piece) → ShortRun (p ∷ ps) → ShortRun ps
  shorter p ps k = omega (arith, length-append (bytes_of p) (joined ps))

  lacks : (ps : List Piece) → AllHold ps → ShortRun ps → Lacks (frame_of w) (map frame_of (gather frames_in (map verdict ps)))
  lacks [] h k = tt
  lacks (noise b ∷ ps) h k = lacks ps h.1 (shorter (noise b) ps k)
  lacks (short_run n b ∷ ps) h k = lacks ps h.1 (shorter (short_run n b) ps k)
  lacks (bad_delimiter n b ∷ ps) h k = lacks ps h.1 (shorter (bad_delimiter n b) ps k)
  lacks (frame n v ∷ ps) h k =
      (other_frame n v h.0.0 h.0.1 (omega (arith, length-append (bytes_of (frame n v)) (joined ps))), lacks ps h.1 (shorter (frame n v) ps k))
  lacks (bad_check n v c ∷ ps) h k = lacks ps h.1 (shorter (bad_check n v c) ps k)

pub written_not_found : (h : Handed) → h.preamble_count < enough → (before : List ℕ) (count : ℕ) (after : List ℕ) → IsDone h before count after → NotFound h count after
written_not_found h few before count after e =
    let n = h.preamble_count in
    let z = encoded_whole h.frame_type h.address h.command h.payload n before count after e in
    let run = take count after in
    let bytes : Bytes run = subst Bytes (sym z.bytes) (layout_bytes h z.short) in
    let a = answered run bytes in
    let size : length run ≡ total n (is_long h.address) (length h.payload) = ap length z.bytes ∙ length-layout h.frame_type h.address h.command n h.payload in
    let short : length (joined a.pieces) < total enough (is_long h.address) (length h.payload) =
    omega (arith, ap length a.cut.whole, length-append (joined a.pieces) a.rest) in
    subst (Lacks (frame_of (written h))) (sym a.frames) (lacks (written h) a.pieces a.cut.pieces short)
