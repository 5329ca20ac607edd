-- The head of a frame that is written: how long it is, what it makes with the data, and what stands behind the preamble.
use Prim.Native.Nat.{ℕ, ◌+◌, ◌≤◌}
use native.Mathlib.Omega.{arith}
use mathlib.Core.Path.{◌≡◌, sym, ap, ◌∙◌}
use mathlib.Core.List.{List, [], ◌∷◌, ◌++◌, append_assoc}
use lib.ListN.{length, take, drop, length-append}
use Rattle.octets.specs.Put.{put}
use Rattle.octets.proofs.Put.{length-put, put-put, part_put}
use Rattle.types.specs.declared.delimiter.FrameType.{FrameType}
use Rattle.types.specs.declared.address.Address.{Address}
use Rattle.types.specs.Delimiter.{delimiter}
use Rattle.types.specs.Address.{address_bytes}
use Rattle.types.proofs.Addresses.{length-address}
use Rattle.line.specs.Layout.{preambles, body}
use Rattle.line.specs.Encode.{opening_of, wire_of}
use Rattle.line.proofs.Layouts.{length-preambles}
use Rattle.framing.specs.Code.{head, data_place}

-- the bytes behind the preamble of what was put at the front
pub past_preambles : (l : List ℕ) (n : ℕ) (bs : List ℕ) (k : ℕ) → n + length bs ≤ length l → length bs ≡ k → take k (drop n (put l 0 (preambles n ++ bs))) ≡ bs
past_preambles l n bs k h e =
    let pre = put l 0 (preambles n) in
    let size : length (preambles n) ≡ n = length-preambles n in
    ap (λ (q : List ℕ). take k (drop n q)) (sym (put-put l 0 (preambles n) bs n (omega arith) (omega arith)))
    ∙ part_put pre n bs k (omega (arith, length-put l 0 (preambles n) (omega arith))) e

module _ (t : FrameType) (a : Address) (c n : ℕ) where
  pub length-head : (k : ℕ) → length (head t a c k n) ≡ data_place a n
  length-head k =
      omega (
        arith,
        length-append (preambles n) (delimiter (opening_of t a) ∷ (address_bytes a ++ (c ∷ k ∷ []))),
        length-preambles n,
        length-append (address_bytes a) (c ∷ k ∷ []),
        length-address a,
      )

  -- head and data are preamble and body
  pub head_body : (ds : List ℕ) → head t a c (length ds) n ++ ds ≡ preambles n ++ body (wire_of t a c ds)
  head_body ds =
      append_assoc (preambles n) (delimiter (opening_of t a) ∷ (address_bytes a ++ (c ∷ length ds ∷ []))) ds
      ∙ ap (λ (xs : List ℕ). preambles n ++ (delimiter (opening_of t a) ∷ xs)) (append_assoc (address_bytes a) (c ∷ length ds ∷ []) ds)

  pub length-body : (ds : List ℕ) → n + length (body (wire_of t a c ds)) ≡ data_place a n + length ds
  length-body ds =
      let w = wire_of t a c ds in
      omega (arith, ap length (head_body ds), length-append (head t a c (length ds) n) ds, length-head (length ds), length-append (preambles n) (body w), length-preambles n)

  -- the head put at the front, and the data at their place
  pub data_put : (ds l : List ℕ) → data_place a n ≤ length l → put (put l 0 (head t a c (length ds) n)) (data_place a n) ds ≡ put l 0 (preambles n ++ body (wire_of t a c ds))
  data_put ds l h =
      let hd = head t a c (length ds) n in
      let size : length hd ≡ data_place a n = length-head (length ds) in
      put-put l 0 hd ds (data_place a n) (omega arith) (omega arith) ∙ ap (put l 0) (head_body ds)
