-- The head that was written, the data that were copied behind it, and the check of both.
use Prim.Native.Nat.{ℕ, ◌+◌, ◌-◌, ◌≤◌}
use native.Mathlib.Omega.{arith}
use mathlib.Core.Path.{◌≡◌, refl, sym, ap, ap₂, ◌∙◌}
use mathlib.Core.List.{List, [], ◌∷◌, ◌++◌, append_assoc}
use lib.ListN.{length, set, take, drop, length-append}
use Rattle.octets.specs.Check.{check, check_from}
use Rattle.octets.specs.Put.{put, put_if_fits}
use Rattle.octets.proofs.Check.{check-append}
use Rattle.octets.proofs.Put.{length-put, put-snoc, put_fitting}
use Rattle.types.specs.declared.delimiter.FrameType.{FrameType}
use Rattle.types.specs.declared.address.Address.{Address}
use Rattle.types.specs.Delimiter.{delimiter}
use Rattle.types.specs.Address.{is_long, address_bytes}
use Rattle.line.specs.Layout.{preambles, body, check_of}
use Rattle.line.specs.Encode.{opening_of, wire_of, layout, total}
use Rattle.framing.specs.Code.{head, data_place}
use Rattle.line.proofs.Layouts.{length-preambles}
use Rattle.framing.proofs.Heads.{past_preambles, length-head, length-body, data_put}
use Rattle.framing.proofs.encode.write_frame.Goals as goal

module _ (t : FrameType) (a : Address) (c n : ℕ) where
  -- head, data that are copied, and check
  layout_made : (ds l : List ℕ) {h d : List ℕ} (at to k : ℕ) → at ≡ data_place a n → h ≡ put l 0 (head t a c (length ds) n) → d ≡ put_if_fits h at ds → to ≡ at + length ds
      → k ≡ check_from (check (take (at - n) (drop n h))) ds → total n (is_long a) (length ds) ≤ length l → set d to k ≡ put l 0 (layout n (wire_of t a c ds))
  layout_made ds l {h} {d} at to k ea eh ed et ek room =
      let w = wire_of t a c ds in
      let hd = head t a c (length ds) n in
      let front = delimiter (opening_of t a) ∷ (address_bytes a ++ (c ∷ length ds ∷ [])) in
      let lh : length hd ≡ data_place a n = length-head t a c n (length ds) in
      let lp : length (preambles n) ≡ n = length-preambles n in
      let lb : length (preambles n ++ body w) ≡ to = omega (arith, length-append (preambles n) (body w), length-body t a c n ds) in
      let size : length front ≡ at - n = omega (arith, length-append (preambles n) front) in
      let part : take (at - n) (drop n h) ≡ front = ap (λ (q : List ℕ). take (at - n) (drop n q)) eh ∙ past_preambles l n front (at - n) (omega arith) size in
      let checked : k ≡ check_of w =
      ek ∙ ap (λ (q : List ℕ). check_from (check q) ds) part ∙ sym (check-append 0 front ds) ∙ ap check (append_assoc (delimiter (opening_of t a) ∷ address_bytes a) (c ∷ length ds ∷ []) ds) in
      let both : d ≡ put l 0 (preambles n ++ body w) =
      ed
      ∙ ap₂ (λ (q : List ℕ) (i : ℕ). put_if_fits q i ds) eh ea
      ∙ put_fitting (put l 0 hd) (data_place a n) ds (omega (arith, length-put l 0 hd (omega arith)))
      ∙ data_put t a c n ds l (omega arith) in
      ap (λ (q : List ℕ). set q to k) both
      ∙ put-snoc l 0 (preambles n ++ body w) k to (omega arith) (omega arith)
      ∙ ap (λ (x : ℕ). put l 0 ((preambles n ++ body w) ++ (x ∷ []))) checked

pub returns : goal.returns
returns c =
    let a = c.args in
    let ds = a.«data».now in
    let n = a.front.preamble_count in
    let h = c.write_head-at in
    let checked = c.checksum_from-checksum.ensures ∙ ap (λ (k : ℕ). check_from k ds) c.check_of_head.ensures in
    layout_made a.front.frame_type a.front.address a.front.command n ds a.buf.now h.result (h.result + length ds) c.checksum_from-checksum.result h.ensures.0 h.ensures.1 c.copy_into.ensures refl checked (omega arith)
