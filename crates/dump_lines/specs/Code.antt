-- What only the code needs, and no sentence of document 01 says: whether a byte ended nothing, and that a line is written part by
-- part.
use Rattle.std.specs.Prelude.{ℕ, ◌+◌, ◌≤◌, ◌≡◌, Bool, true, false, List, [], ◌∷◌, ◌++◌, length, Some, None, Ok, Err}
use denote.Ref.{at_last}
use Rattle.octets.specs.Put.{put}
use Rattle.octets.specs.Figures.{decimal}
use Rattle.line.specs.machine.Step.{Ended}
use Rattle.dump_lines.specs.Text.{space}
use Rattle.dump_lines.specs.declared.dump_text.Writer.{Writer}

abbrev pub goes_on : Ended → Bool
goes_on (Ok None) = true
goes_on (Ok (Some c)) = false
goes_on (Err r) = false

-- what each writer of a part does, where the part has room
pub record Writes (before : List ℕ) (at : ℕ) (text : List ℕ) (behind : ℕ) (after : List ℕ) : Type 0 where
  pub room : at + length text ≤ length before
  pub place : behind ≡ at + length text
  pub content : after ≡ put before at text

-- a writer behind some text: it has the buffer that it was lent, with the text in it
abbrev pub behind_text : Writer → List ℕ → Writer
behind_text w text = record { out = at_last w.out (put w.out.now w.at text); at = w.at + length text }

-- what a writer does, where the text has room
pub record WritesOn (before : Writer) (text : List ℕ) (after : Writer) : Type 0 where
  pub room : before.at + length text ≤ length before.out.now
  pub stands : after ≡ behind_text before text

-- how the line of a piece begins: its letter and the place
abbrev pub start : ℕ → ℕ → List ℕ
start letter place = ((letter ∷ []) ++ space) ++ (decimal place ++ space)
