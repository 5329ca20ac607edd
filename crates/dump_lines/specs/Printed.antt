-- What the dump prints of a run is its cut, piece by piece: document 01, 'Examples' and 'Promises'.
use Rattle.std.specs.Prelude.{ℕ, ◌+◌, ◌≡◌, List, [], ◌∷◌, ◌++◌, length}
use Rattle.line.specs.Pieces.{Piece, noise, short_run, bad_delimiter, frame, bad_check, front, bytes_of, Cut}
use Rattle.line.specs.Events.{verdict}
use Rattle.dump_lines.specs.Text.{line_of, end_line}
use Rattle.dump_lines.specs.Lines.{totals_of, fresh_dump, after, printed, last_line, taking}
use Rattle.dump_lines.specs.declared.Dump.{Dump}

-- a piece has its line at the place of its last byte, the first piece beginning at place `at`. A tail is no piece and has none
abbrev pub piece_lines : ℕ → List Piece → List ℕ
piece_lines at [] = []
piece_lines at (p ∷ ps) = line_of (at + length (front p)) (verdict p) ++ piece_lines (at + length (bytes_of p)) ps

abbrev pub frame_pieces : List Piece → ℕ
frame_pieces [] = 0
frame_pieces (noise b ∷ ps) = frame_pieces ps
frame_pieces (short_run n b ∷ ps) = frame_pieces ps
frame_pieces (bad_delimiter n b ∷ ps) = frame_pieces ps
frame_pieces (frame n w ∷ ps) = 1 + frame_pieces ps
frame_pieces (bad_check n w c ∷ ps) = frame_pieces ps

abbrev pub refused_pieces : List Piece → ℕ
refused_pieces [] = 0
refused_pieces (noise b ∷ ps) = refused_pieces ps
refused_pieces (short_run n b ∷ ps) = refused_pieces ps
refused_pieces (bad_delimiter n b ∷ ps) = 1 + refused_pieces ps
refused_pieces (frame n w ∷ ps) = refused_pieces ps
refused_pieces (bad_check n w c ∷ ps) = 1 + refused_pieces ps

-- the run has one cut; a new dump prints the lines of its pieces; its totals are the bytes of the run, the frame pieces and the refused
-- pieces of the cut; and the whole text is those lines and the last one with these totals
pub record Printed (run : List ℕ) : Type 0 where
  pub pieces : List Piece
  pub rest : List ℕ
  pub cut : Cut run pieces rest
  pub only : (qs : List Piece) (u : List ℕ) → Cut run qs u → (pieces ≡ qs) × (rest ≡ u)
  pub lines : printed fresh_dump run ≡ piece_lines 0 pieces
  pub counts : (after fresh_dump run).totals ≡ totals_of (length run) (frame_pieces pieces) (refused_pieces pieces)
  pub text : printed fresh_dump run ++ last_line (after fresh_dump run).totals ≡ piece_lines 0 pieces ++ end_line (length run) (frame_pieces pieces) (refused_pieces pieces)

-- calls of `take`, each on the dump that the last one gave back: the bytes that a call is handed and the room that it is lent
pub record TakeCall : Type 0 where
  pub src : List ℕ
  pub room : ℕ

-- the bytes that the calls take, the lines that they write, and the dump behind them
abbrev pub taken_by : Dump → List TakeCall → List ℕ
taken_by d [] = []
taken_by d (c ∷ cs) = taking d c.src c.room ++ taken_by (after d (taking d c.src c.room)) cs

abbrev pub written_by : Dump → List TakeCall → List ℕ
written_by d [] = []
written_by d (c ∷ cs) = printed d (taking d c.src c.room) ++ written_by (after d (taking d c.src c.room)) cs

abbrev pub left_by : Dump → List TakeCall → Dump
left_by d [] = d
left_by d (c ∷ cs) = left_by (after d (taking d c.src c.room)) cs
