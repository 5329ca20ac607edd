-- Document 01's example of the dump comes out to the letter: five FF, 02 80 00 00 82, five FF, 03.
use Prim.Native.Nat.{ℕ}
use mathlib.Core.Path.{◌≡◌, refl}
use mathlib.Core.List.{List, [], ◌∷◌, ◌++◌}
use Rattle.octets.specs.Figures.{decimal}
use Rattle.types.specs.Delimiter.{delimiter_of}
use Rattle.types.specs.Address.{address_bytes}
use Rattle.line.specs.Layout.{preambles}
use Rattle.line.specs.machine.Feed.{blank, stepped}
use Rattle.dump_lines.specs.Text.{frame_line, refusal_line, end_line}
use Rattle.dump_lines.specs.Lines.{fresh_dump, after, printed, last_line}

abbrev run : List ℕ
run = preambles 5 ++ (0x02 ∷ 0x80 ∷ 0x00 ∷ 0x00 ∷ 0x82 ∷ []) ++ preambles 5 ++ (0x03 ∷ [])

-- F 9 Q 80 0 -, then D 15 03, then end 16 1 1
example : printed fresh_dump run ++ last_line (after fresh_dump run).totals ≡
    (0x46 ∷ 0x20 ∷ 0x39 ∷ 0x20 ∷ 0x51 ∷ 0x20 ∷ 0x38 ∷ 0x30 ∷ 0x20 ∷ 0x30 ∷ 0x20 ∷ 0x2D ∷ 0x0A ∷ [])
    ++ (0x44 ∷ 0x20 ∷ 0x31 ∷ 0x35 ∷ 0x20 ∷ 0x30 ∷ 0x33 ∷ 0x0A ∷ [])
    ++ (0x65 ∷ 0x6E ∷ 0x64 ∷ 0x20 ∷ 0x31 ∷ 0x36 ∷ 0x20 ∷ 0x31 ∷ 0x20 ∷ 0x31 ∷ 0x0A ∷ [])
unfolding delimiter_of decimal address_bytes blank stepped frame_line refusal_line end_line
example = refl

-- no bytes: the totals alone
empty : printed fresh_dump [] ++ last_line (after fresh_dump []).totals ≡ 0x65 ∷ 0x6E ∷ 0x64 ∷ 0x20 ∷ 0x30 ∷ 0x20 ∷ 0x30 ∷ 0x20 ∷ 0x30 ∷ 0x0A ∷ []
unfolding decimal end_line
empty = refl
