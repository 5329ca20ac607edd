-- `open_frame`, data at the place that it gives, and `seal_frame` make a frame.
use Prim.Native.Nat.{ℕ, ◌+◌, ◌-◌, ◌≤◌}
use native.Mathlib.Omega.{arith}
use mathlib.Core.Path.{◌≡◌, ap, ◌∙◌}
use mathlib.Core.List.{List, [], ◌∷◌, ◌++◌}
use lib.ListN.{length, take, drop, length-append}
use borrow.Author.Tests.{le-ltb}
use Rattle.octets.specs.Check.{check}
use Rattle.octets.specs.Put.{put, put_if_fits}
use Rattle.octets.proofs.Put.{length-put, put-put, put_fitting}
use Rattle.types.specs.declared.delimiter.FrameType.{FrameType}
use Rattle.types.specs.declared.address.Address.{Address}
use Rattle.types.specs.Address.{is_long}
use Rattle.line.specs.Layout.{preambles, body, check_of}
use Rattle.line.specs.Encode.{wire_of, layout, total}
use Rattle.framing.specs.Code.{head, data_place, sealed}
use Rattle.line.proofs.Layouts.{length-preambles}
use Rattle.framing.proofs.Heads.{past_preambles, length-body, data_put}

module _ (t : FrameType) (a : Address) (c n : ℕ) (ds l : List ℕ) (room : total n (is_long a) (length ds) ≤ length l) where
  pub frame_sealed : sealed (put (put l 0 (head t a c (length ds) n)) (data_place a n) ds) n (data_place a n + length ds) ≡ put l 0 (layout n (wire_of t a c ds))
  unfolding sealed
  frame_sealed =
      let w = wire_of t a c ds in
      let to = data_place a n + length ds in
      let written = preambles n ++ body w in
      let behind : n + length (body w) ≡ to = length-body t a c n ds in
      let size : length written ≡ to = length-append (preambles n) (body w) ∙ ap (λ (k : ℕ). k + length (body w)) (length-preambles n) ∙ behind in
      let checked : check (take (to - n) (drop n (put l 0 written))) ≡ check_of w = ap check (past_preambles l n (body w) (to - n) (omega arith) (omega arith)) in
      rw (data_put t a c n ds l (omega arith), le-ltb to n (omega arith))
      (ap (λ (x : ℕ). put_if_fits (put l 0 written) to (x ∷ [])) checked
      ∙ put_fitting (put l 0 written) to (check_of w ∷ []) (omega (arith, length-put l 0 written (omega arith)))
      ∙ put-put l 0 written (check_of w ∷ []) to (omega arith) (omega arith))
