-- Document 01, 'How a run of bytes is cut': the five pieces, the tail, and a cut of a run. No machine is spoken of here.
use Rattle.std.specs.Prelude.{ℕ, ◌≤◌, ◌<◌, ◌≡◌, ◌≢◌, List, [], ◌∷◌, ◌++◌}
use Rattle.octets.specs.Digits.{Below}
use Rattle.types.specs.declared.delimiter.Opening.{Opening}
use Rattle.types.specs.Delimiter.{delimiter}
use Rattle.line.specs.Layout.{Wire, Fits, preambles, body, check_of}

-- where a piece begins with preamble bytes, their number comes first
pub data Piece : Type 0 where
  noise : ℕ → Piece
  short_run : ℕ → ℕ → Piece
  bad_delimiter : ℕ → ℕ → Piece
  frame : ℕ → Wire → Piece
  bad_check : ℕ → Wire → ℕ → Piece

-- so many FF make a preamble
abbrev pub enough : ℕ
enough = 5

-- Noise is a byte that is no FF. A short run has too few FF before such a byte to make a preamble. Behind a preamble of five FF at least, a
-- byte that opens no frame is a bad delimiter, and what opens one is a frame if it ends in its own check, and a bad check if not.
abbrev pub Holds : Piece → Type 0
Holds (noise b) = b ≢ 0xFF
Holds (short_run n b) = (1 ≤ n) × (n < enough) × (b ≢ 0xFF)
Holds (bad_delimiter n b) = (enough ≤ n) × (b ≢ 0xFF) × ((o : Opening) → b ≢ delimiter o)
Holds (frame n w) = (enough ≤ n) × Fits w
Holds (bad_check n w c) = (enough ≤ n) × Fits w × (c ≢ check_of w)

-- the bytes of a piece: all but the last, and the last
abbrev pub front : Piece → List ℕ
front (noise b) = []
front (short_run n b) = preambles n
front (bad_delimiter n b) = preambles n
front (frame n w) = preambles n ++ body w
front (bad_check n w c) = preambles n ++ body w

abbrev pub last : Piece → ℕ
last (noise b) = b
last (short_run n b) = b
last (bad_delimiter n b) = b
last (frame n w) = check_of w
last (bad_check n w c) = c

abbrev pub bytes_of : Piece → List ℕ
bytes_of p = front p ++ (last p ∷ [])

-- numbers that a line can carry
abbrev pub Bytes : List ℕ → Type 0
Bytes bs = Below 256 bs

-- a tail: bytes that begin a piece, with some still missing that a line could bring
pub record Tail (t : List ℕ) : Type 0 where
  pub nonempty : t ≢ []
  pub piece : Piece
  pub holds : Holds piece
  pub missing : List ℕ
  pub lacking : missing ≢ []
  pub small : Bytes missing
  pub begins : t ++ missing ≡ bytes_of piece

-- the bytes of pieces, one piece behind the other
abbrev pub joined : List Piece → List ℕ
joined [] = []
joined (p ∷ ps) = bytes_of p ++ joined ps

abbrev pub AllHold : List Piece → Type 0
AllHold [] = Unit {0}
AllHold (p ∷ ps) = Holds p × AllHold ps

-- at most one tail
pub data Rest : List ℕ → Type 0 where
  nothing : Rest []
  tail : {t : List ℕ} → Tail t → Rest t

-- a run taken apart: these pieces, and these bytes left
pub record Cut (run : List ℕ) (ps : List Piece) (t : List ℕ) : Type 0 where
  pub pieces : AllHold ps
  pub rest : Rest t
  pub whole : run ≡ joined ps ++ t
