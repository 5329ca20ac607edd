-- Document 01, 'Wire layout': a frame as it is written. Its bytes are those of the piece that a reader finds, so that reading and
-- writing speak of one layout.
use Rattle.std.specs.Prelude.{ℕ, ◌+◌, ◌-◌, ◌≤◌, ◌≡◌, Bool, cond, List, [], length, take, drop, ltb}
use Rattle.refusal.specs.Outcome.{Outcome, wrote, refuses}
use Rattle.types.specs.declared.delimiter.FrameType.{FrameType}
use Rattle.types.specs.declared.delimiter.Opening.{Opening}
use Rattle.types.specs.declared.address.Address.{Address}
use Rattle.types.specs.Delimiter.{opening}
use Rattle.types.specs.Address.{address_length, is_long, address_bytes}
use Rattle.line.specs.Layout.{Wire, most_data}
use Rattle.line.specs.Pieces.{frame, bytes_of}

-- what the delimiter of a written frame says
abbrev pub opening_of : FrameType → Address → Opening
opening_of t a = opening t (is_long a)

-- what a caller hands over, as it will stand on the line
abbrev pub wire_of : FrameType → Address → ℕ → List ℕ → Wire
wire_of t a c ds = record {
  opening = opening_of t a;
  heading = address_bytes a;
  command = c;
  payload = ds;
}

-- behind N preamble bytes, however few
abbrev pub layout : ℕ → Wire → List ℕ
layout n w = bytes_of (frame n w)

-- how many bytes that is, with n preamble bytes and k of data
abbrev pub total : ℕ → Bool → ℕ → ℕ
total n long k = n + 5 + address_length long - 1 + k

-- 1 for too much data, then 2 for a buffer that the frame does not fit
unfoldable pub encoded : FrameType → Address → ℕ → List ℕ → ℕ → List ℕ → Outcome
encoded t a c ds n buffer =
    cond (ltb most_data (length ds)) (refuses 1 [] buffer)
    (cond (ltb (length buffer) (total n (is_long a) (length ds))) (refuses 2 [] buffer)
    (wrote (layout n (wire_of t a c ds)) buffer))

-- what a call that is done has done: its count is the total, that many bytes are the frame, and those past them stay as they were
pub record Whole (t : FrameType) (a : Address) (c : ℕ) (ds : List ℕ) (n : ℕ) (before : List ℕ) (count : ℕ) (after : List ℕ) : Type 0 where
  pub short : length ds ≤ most_data
  pub fits : count ≤ length before
  pub totals : count ≡ total n (is_long a) (length ds)
  pub bytes : take count after ≡ layout n (wire_of t a c ds)
  pub untouched : drop count after ≡ drop count before
