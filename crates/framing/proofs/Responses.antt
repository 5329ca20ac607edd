-- A frame behind whole pieces is heard at its last byte, and read: no machine is argued about, since a run has one cut.
use Prim.Native.Nat.{ℕ}
use mathlib.Core.Path.{◌≡◌, refl, sym, ap, ap₂, ◌∙◌}
use mathlib.Core.List.{List, [], ◌∷◌, ◌++◌, map, append_assoc, append-nil, map-append}
use lib.ListN.{length, replicate}
use Rattle.line.specs.Layout.{Wire, check_of}
use Rattle.line.specs.Pieces.{Piece, frame, Holds, front, bytes_of, Bytes, joined, AllHold, Cut, nothing}
use Rattle.line.specs.Events.{Event, silence, found, verdict, silent, said_by, dictated}
use Rattle.line.specs.Runs.{says}
use Rattle.line.proofs.Machines.{says-append}
use Rattle.line.specs.machine.Frames.{heard_of}
use Rattle.line.specs.machine.Frames.{Heard}
use Rattle.framing.specs.Feed.{fresh_decoder}
use Rattle.framing.specs.Demand.{decoder_hears}
use Rattle.framing.specs.Payload.{Reader}
use Rattle.framing.specs.Responses.{heard_at_check, HeardRead, HeardAsked}
use Rattle.framing.proofs.Demand.{answered}
use Rattle.framing.proofs.Payloads.{carries_exactly}
use Rattle.framing.proofs.Typed.{typed_carried, reads_wire}
use Rattle.framing.proofs.Requests.{asks_wire}

-- pieces joined
pub joined-append : (ps qs : List Piece) → joined (ps ++ qs) ≡ joined ps ++ joined qs
joined-append [] qs = refl
joined-append (p ∷ ps) qs = ap (λ (bs : List ℕ). bytes_of p ++ bs) (joined-append ps qs) ∙ sym (append_assoc (bytes_of p) (joined ps) (joined qs))

pub hold_append : (ps qs : List Piece) → AllHold ps → AllHold qs → AllHold (ps ++ qs)
hold_append [] qs h k = k
hold_append (p ∷ ps) qs h k = (h.0, hold_append ps qs h.1 k)

said-append : (ps qs : List Piece) → said_by (ps ++ qs) ≡ said_by ps ++ said_by qs
said-append [] qs = refl
said-append (p ∷ ps) qs =
    ap (λ (es : List Event). silent (front p) ++ (verdict p ∷ es)) (said-append ps qs)
    ∙ sym (append_assoc (silent (front p)) (verdict p ∷ said_by ps) (said_by qs))

quiet : (bs : List ℕ) → map heard_of (silent bs) ≡ replicate (length bs) (heard_of silence)
quiet [] = refl
quiet (b ∷ bs) = ap (λ (hs : List Heard). heard_of silence ∷ hs) (quiet bs)

-- what is said at the byte behind a run comes last
abbrev last_of : Heard → List Heard → Heard
last_of h [] = h
last_of h (k ∷ ks) = last_of k ks

last_behind : (h : Heard) (hs : List Heard) (k : Heard) → last_of h (hs ++ (k ∷ [])) ≡ k
last_behind h [] k = refl
last_behind h (j ∷ hs) k = last_behind j hs k

module _ (ps : List Piece) (n : ℕ) (w : Wire) (hold : AllHold ps) (holds : Holds (frame n w)) (bytes : Bytes (joined ps ++ bytes_of (frame n w))) where
  abbrev piece : Piece
  piece = frame n w

  abbrev run : List ℕ
  run = joined ps ++ bytes_of piece

  abbrev before : List Heard
  before = map heard_of (said_by ps) ++ replicate (length (front piece)) (heard_of silence)

  -- what the pieces say, then silence up to the last byte of the frame, and there the frame
  pub frame_heard_lem : says decoder_hears fresh_decoder run ≡ map heard_of (said_by ps) ++ (replicate (length (front piece)) (heard_of silence) ++ (heard_of (found w) ∷ []))
  frame_heard_lem =
      let all : List Piece = ps ++ (piece ∷ []) in
      let whole : run ≡ joined all ++ [] = ap (λ (bs : List ℕ). joined ps ++ bs) (sym (append-nil (bytes_of piece))) ∙ sym (joined-append ps (piece ∷ [])) ∙ sym (append-nil (joined all)) in
      let cut : Cut run all [] = record { pieces = hold_append ps (piece ∷ []) hold (holds, tt); rest = nothing; whole = whole } in
      let a = answered run bytes in
      let one = a.only all [] cut in
      a.answers
      ∙ ap₂ (λ (qs : List Piece) (u : List ℕ). map heard_of (dictated qs u)) one.0 one.1
      ∙ ap (map heard_of) (append-nil (said_by all) ∙ said-append ps (piece ∷ []))
      ∙ map-append heard_of (said_by ps) (silent (front piece) ++ (found w ∷ []))
      ∙ ap (λ (hs : List Heard). map heard_of (said_by ps) ++ hs)
      (map-append heard_of (silent (front piece)) (found w ∷ []) ∙ ap (λ (hs : List Heard). hs ++ (heard_of (found w) ∷ [])) (quiet (front piece)))

  pub heard_at_check_lem : heard_at_check ps n w ≡ heard_of (found w)
  heard_at_check_lem =
      let fed : List ℕ = joined ps ++ front piece in
      let said : says decoder_hears fresh_decoder fed ++ (heard_at_check ps n w ∷ []) ≡ before ++ (heard_of (found w) ∷ []) =
      sym (says-append decoder_hears fresh_decoder fed (check_of w ∷ []))
      ∙ ap (says decoder_hears fresh_decoder) (append_assoc (joined ps) (front piece) (check_of w ∷ []))
      ∙ frame_heard_lem
      ∙ sym (append_assoc (map heard_of (said_by ps)) (replicate (length (front piece)) (heard_of silence)) (heard_of (found w) ∷ [])) in
      sym (last_behind (heard_of silence) (says decoder_hears fresh_decoder fed) (heard_at_check ps n w))
      ∙ ap (last_of (heard_of silence)) said
      ∙ last_behind (heard_of silence) before (heard_of (found w))

  -- whatever a command reads, and however it refuses
  pub heard_read : {A : Type 0} (k : Reader A) → HeardRead k ps n w
  heard_read k =
      let t = w.opening.frame_type in
      let ds = w.payload in
      record {
        answer = heard_at_check_lem;
        reading = reads_wire k w;
        response = λ r. reads_wire k w ∙ typed_carried k t w.command ds r.asked ((carries_exactly t ds).1 (r.sent, r.statuses, r.clean));
      }

  -- and whatever a device reads
  pub heard_asked : {A : Type 0} (k : Reader A) → HeardAsked k ps n w
  heard_asked k = record { answer = heard_at_check_lem; asking = asks_wire k w }
