-- Bytes that are looked at in whole strides: some of them twice, some past those that were read.
use Prim.Native.Nat.{ℕ, zero, suc, ◌+◌, ◌*◌, ◌-◌, ◌≤◌}
use native.Mathlib.Omega.{arith}
use mathlib.Core.Path.{◌≡◌, refl, sym, ap, ◌∙◌}
use mathlib.Core.Bool.{Bool, true, false, ◌&&◌, and_assoc}
use mathlib.Core.List.{List, [], ◌∷◌, ◌++◌}
use lib.Bits.{bit_xor}
use lib.Dec.{eqb}
use lib.ListN.{length, take, drop}
use lib.Seq.{take-take, take-add, drop-drop}
use Rattle.octets.specs.Check.{check_from}
use Rattle.octets.proofs.Check.{check-append, check_zeros, check_swap}
use Rattle.octets.proofs.Tests.{and_first, and_second}
use Rattle.types.specs.Address.{head_room}
use Rattle.line.specs.machine.Room.{decoder_room}
use Rattle.line.specs.machine.Reachable.{all_zero, is_clear}
use Rattle.line.specs.declared.claim.Claim.{Claim}
use Rattle.line.proofs.machine.Zeros.{zeros_list}

-- how many at a time, and what four strides leave of a decoder's bytes, as the code has them
abbrev pub stride : ℕ
stride = 64

abbrev pub odd : ℕ
odd = decoder_room - 4 * stride

and_twice : (z a b : Bool) → a && b ≡ b → (z && a) && (z && b) ≡ z && b
and_twice true a b e = e
and_twice false a b e = refl

-- a front that is looked at too changes nothing
zeros_front : (s : ℕ) (l : List ℕ) → all_zero (take s l) && all_zero l ≡ all_zero l
zeros_front zero l = refl
zeros_front (suc s) [] = refl
zeros_front (suc s) (x ∷ l) = and_twice (eqb x 0) (all_zero (take s l)) (all_zero l) (zeros_front s l)

-- all is zero if the first s are, and those from a place among these on
pub zeros_overlap : (k s : ℕ) (l : List ℕ) → k ≤ s → all_zero (take s l) && all_zero (drop k l) ≡ all_zero l
zeros_overlap zero s l h = zeros_front s l
zeros_overlap (suc k) zero l h = absurd (omega arith)
zeros_overlap (suc k) (suc s) [] h = refl
zeros_overlap (suc k) (suc s) (x ∷ l) h =
    and_assoc (eqb x 0) (all_zero (take s l)) (all_zero (drop k l)) ∙ ap (λ (t : Bool). eqb x 0 && t) (zeros_overlap k s l (omega arith))

-- zeros past what was read leave a check as it is
check_unread : (running r : ℕ) (l : List ℕ) → all_zero l ≡ true → check_from running (take r l) ≡ running
check_unread running r l e =
    ap (check_from running) (zeros_list (take r l) (and_first (all_zero (take r l)) (all_zero l) (zeros_front r l ∙ e))) ∙ check_zeros running (length (take r l))

check_past : (running n r : ℕ) (l : List ℕ) → n ≤ r → all_zero (drop n l) ≡ true → check_from running (take r l) ≡ check_from running (take n l)
check_past running n r l h e =
    let more : n + (r - n) ≡ r = omega arith in
    ap (λ (k : ℕ). check_from running (take k l)) (sym more)
    ∙ ap (check_from running) (take-add n (r - n) l)
    ∙ check-append running (take n l) (take (r - n) (drop n l))
    ∙ check_unread (check_from running (take n l)) (r - n) (drop n l) e

-- where nothing stands past what was read, the check over more bytes, command and count first, is that of what was read
pub check_strides : (q : Claim) (bs : List ℕ) (end : ℕ) → q.address ≤ head_room → head_room + q.loaded ≤ end → is_clear q bs ≡ true
    → check_from (bit_xor (bit_xor q.start q.command) q.count) (take end bs) ≡ check_from q.start (take q.address bs ++ (q.command ∷ q.count ∷ take q.loaded (drop head_room bs)))
check_strides q bs end h k z =
    let seed = bit_xor (bit_xor q.start q.command) q.count in
    let unread = all_zero (drop q.address (take head_room bs)) in
    let past = all_zero (drop q.loaded (drop head_room bs)) in
    let rest = take q.loaded (drop head_room bs) in
    let none : all_zero (drop (head_room + q.loaded) bs) ≡ true = ap all_zero (sym (drop-drop q.loaded head_room bs)) ∙ and_second unread past z in
    let first : check_from q.start (take head_room bs) ≡ check_from q.start (take q.address bs) =
    ap (check_from q.start) (sym (take-take head_room head_room bs (omega arith)))
    ∙ check_past q.start q.address head_room (take head_room bs) h (and_first unread past z)
    ∙ ap (check_from q.start) (take-take q.address head_room bs h) in
    let moved : check_from seed (take head_room bs) ≡ bit_xor (bit_xor (check_from q.start (take q.address bs)) q.command) q.count =
    check_swap (bit_xor q.start q.command) q.count (take head_room bs)
    ∙ ap (λ (x : ℕ). bit_xor x q.count) (check_swap q.start q.command (take head_room bs))
    ∙ ap (λ (x : ℕ). bit_xor (bit_xor x q.command) q.count) first in
    check_past seed (head_room + q.loaded) end bs k none
    ∙ ap (check_from seed) (take-add head_room q.loaded bs)
    ∙ check-append seed (take head_room bs) rest
    ∙ ap (λ (x : ℕ). check_from x rest) moved
    ∙ sym (check-append q.start (take q.address bs) (q.command ∷ q.count ∷ rest))
