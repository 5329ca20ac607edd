-- The third demand excludes the wrong decoders that document 01 names, in whatever form a decoder comes; and what ours says along runs that
-- would show them, and other wrong readings, by computing it byte for byte.
use Prim.Native.Nat.{ℕ, ◌+◌, ◌≤◌}
use native.Mathlib.Omega.{arith}
use mathlib.Core.Path.{◌≡◌, refl, sym, ap, ap₂, ◌∙◌}
use mathlib.Core.List.{List, [], ◌∷◌, ◌++◌, map, head-eq_of_cons-eq}
use lib.ListN.{length}
use Rattle.std.specs.Prelude.{Err}
use Rattle.types.specs.Delimiter.{opening_at, delimiter_of}
use Rattle.line.specs.Layout.{Wire, most_data, Fits, preambles}
use Rattle.line.specs.Pieces.{Piece, noise, frame, Bytes, nothing, Cut}
use Rattle.line.specs.Events.{silence, verdict, dictated, gather, frames_in}
use Rattle.line.specs.Runs.{says}
use Rattle.line.proofs.Bytes.{bytes_given}
use Rattle.line.proofs.Scan.{wire}
use Rattle.line.specs.machine.Step.{preamble_cap}
use Rattle.line.specs.machine.Frames.{frame_of, Heard, heard_of}
use Rattle.line.specs.machine.Reachable.{reachable_at}
use Rattle.line.specs.machine.Feed.{blank, fresh, stepped, feeding}
use Rattle.line.specs.machine.Demand.{hears, frame_heard, frames_heard}
use Rattle.line.specs.machine.Excluded.{
  IsSilence,
  EachAnswer,
  MeetsDemand,
  RefusesAlways,
  SilentAlways,
  FindsOneAtMost,
  silences,
  request_heard,
  one_frame,
  two_frames,
  check_before_four,
  refused_check,
}
use Rattle.line.specs.declared.frame.Frame.{Frame}

-- a request of the runs, as it stands on the line
abbrev request_wire : ℕ → List ℕ → Wire
request_wire command payload = wire (opening_at 0x02) (0x80 ∷ []) command payload

request_fits : (command : ℕ) (payload : List ℕ) → length payload ≤ most_data → Fits (request_wire command payload)
request_fits command payload h = record { heading_fits = refl; count_fits = h }

one_frame_cut : Cut one_frame (frame 5 (request_wire 0 []) ∷ []) []
one_frame_cut = record { pieces = ((omega arith, request_fits 0 [] (omega arith)), tt); rest = nothing; whole = refl }

two_frames_cut : Cut two_frames (frame 5 (request_wire 1 (0xAA ∷ 0x55 ∷ [])) ∷ frame (preamble_cap + 1) (request_wire 2 (0x33 ∷ [])) ∷ []) []
two_frames_cut =
    record {
      pieces = ((omega arith, request_fits 1 (0xAA ∷ 0x55 ∷ []) (omega arith)), ((omega arith, request_fits 2 (0x33 ∷ []) (omega arith)), tt));
      rest = nothing;
      whole = refl;
    }

silence_no_frames : (hs : List Heard) → EachAnswer IsSilence hs → frames_heard hs ≡ []
silence_no_frames [] e = refl
silence_no_frames (h ∷ hs) e = ap₂ (λ (a : Heard) (fs : List Frame). frame_heard a ++ fs) e.0 (silence_no_frames hs e.1)

module _ {D : Type 0} (hearing : D → ℕ → D × Heard) (new : D) (meets : MeetsDemand hearing new) where
  -- what is found along a run with this cut
  found_along : (run : List ℕ) → Bytes run → (ps : List Piece) (t : List ℕ) → Cut run ps t → frames_heard (says hearing new run) ≡ map frame_of (gather frames_in (map verdict ps))
  found_along run k ps t c =
      let a = meets run k in a.frames ∙ ap (λ (qs : List Piece). map frame_of (gather frames_in (map verdict qs))) (a.only ps t c).0

  -- one byte of noise is no refusal
  pub refusing_excluded : RefusesAlways hearing new → ⊥
  refusing_excluded refuses =
      let run : List ℕ = 0x00 ∷ [] in
      let small : Bytes run = bytes_given run refl in
      let a = meets run small in
      let is = a.only (noise 0x00 ∷ []) [] (record { pieces = ((λ e. omega arith), tt); rest = nothing; whole = refl }) in
      let said : says hearing new run ≡ heard_of silence ∷ [] = a.answers ∙ ap₂ (λ (ps : List Piece) (t : List ℕ). map heard_of (dictated ps t)) is.0 is.1 in
      let r = (refuses run small).0 in
      let both : heard_of silence ≡ Err r.0 = sym (head-eq_of_cons-eq said) ∙ r.1 in
      let z : ◌≡◌ {A = ℕ} 0 1 = cc in
      omega arith

  -- one frame is found
  pub silent_excluded : SilentAlways hearing new → ⊥
  silent_excluded silent =
      let found : length (frames_heard (says hearing new one_frame)) ≡ 1 = ap length (found_along one_frame (bytes_given one_frame refl) _ [] one_frame_cut) in
      let none : length (frames_heard (says hearing new one_frame)) ≡ 0 = ap length (silence_no_frames (says hearing new one_frame) (silent one_frame (bytes_given one_frame refl))) in
      omega arith

  -- and a second one too
  pub first_only_excluded : FindsOneAtMost hearing new → ⊥
  first_only_excluded once =
      let found : length (frames_heard (says hearing new two_frames)) ≡ 2 = ap length (found_along two_frames (bytes_given two_frames refl) _ [] two_frames_cut) in
      omega (arith, once two_frames (bytes_given two_frames refl))

-- what ours says: of noise nothing
pub noise_silent : says hears fresh (0x00 ∷ []) ≡ silences 1
unfolding blank stepped feeding reachable_at delimiter_of
noise_silent = refl

pub one_frame_heard : says hears fresh one_frame ≡ silences 9 ++ (request_heard 0 [] ∷ [])
unfolding blank stepped feeding reachable_at delimiter_of
one_frame_heard = refl

-- nothing of the first frame is left in the second, and an FF past those that are counted changes nothing
pub two_frames_heard : says hears fresh two_frames ≡ silences 11 ++ (request_heard 1 (0xAA ∷ 0x55 ∷ []) ∷ (silences (preamble_cap + 6) ++ (request_heard 2 (0x33 ∷ []) ∷ [])))
unfolding blank stepped feeding reachable_at delimiter_of
two_frames_heard = refl

-- a check byte FF starts no preamble
pub check_starts_none : says hears fresh check_before_four ≡ silences 9 ++ (refused_check ∷ silences 9)
unfolding blank stepped feeding reachable_at delimiter_of
check_starts_none = refl

-- the byte behind four FF is passed over
pub four_too_few : says hears fresh (preambles 4 ++ (0x02 ∷ [])) ≡ silences 5
unfolding blank stepped feeding reachable_at delimiter_of
four_too_few = refl
