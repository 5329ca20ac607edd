-- packed_string.rs never stops, and does what document 01 says of the crate's mode: on every call its lines (specs/Source.antt) come to
-- the outcome that specs/Text.antt gives.
use Prim.Native.Nat.{ℕ, zero, suc, ◌+◌, ◌*◌, ◌-◌, ◌/◌, ◌%◌, ◌^◌, ◌≤◌, ◌<◌, min}
use native.Mathlib.Nat.{zero-mul, suc-mul, mod-eq_of_lt, le-div_iff_mul-le, div-lt_iff_lt-mul}
use native.Mathlib.Omega.{arith}
use mathlib.Core.Path.{◌≡◌, refl, sym, ap, ◌∙◌}
use mathlib.Core.Bool.{Bool, true, false, cond}
use mathlib.Core.List.{List, [], ◌∷◌, map}
use lib.ListN.{length, get_or, set, length-set}
use lib.Bits.{bit_and, bit_or, and_mask, or_shifted}
use lib.Dec.{ltb, lit<}
use borrow.Author.Tests.{ltb-true, ltb-false, lt-ltb}
use Rattle.refusal.specs.Outcome.{Outcome, ends, done, wrote}
use Rattle.octets.specs.Digits.{Below}
use Rattle.octets.specs.Put.{put, first_parts}
use Rattle.octets.specs.Source.{Run, comes, shift_right, as_u8, shift_left}
use Rattle.octets.proofs.Bases.{below_at}
use Rattle.octets.proofs.Put.{length-put, put-wrote, stores_put}
use Rattle.octets.proofs.Parts.{length_parts, parts_start, parts_turn}
use Rattle.packed_string.specs.declared.text_group.Mode.TheVariants.{Crate}
use Rattle.packed_string.specs.Group.{code_of, char_of, pack_group, unpack_group}
use Rattle.packed_string.proofs.Group.{code_below, pack_group_lem, unpack_group_lem}
use Rattle.packed_string.specs.Groups.{packed_group, unpacked_group, groups}
use Rattle.packed_string.proofs.Groups.{packed_sized, unpacked_sized}
use Rattle.packed_string.specs.Text.{crate_packed, crate_unpacked}
use Rattle.packed_string.specs.Source.{div_ceil, group_loop, source_code, store_bytes, encode_turn, source_encoded, store_chars, decode_group, decode_turn, source_decoded}
use Rattle.packed_string.proofs.Calls.{crate_packs, crate_unpacks}

-- The loop, for groups of any size, of which there are n: it writes as many as there are, or as fit.
module _ (size : ℕ)
    (positive : 0 < size)
    (n : ℕ)
    (turn : ℕ → ℕ → List ℕ → (List ℕ → Run Outcome) → Run Outcome)
    (group : ℕ → List ℕ)
    (sized : (g : ℕ) → length (group g) ≡ size)
    (turned : (g : ℕ) (dst : List ℕ) (rest : List ℕ → Run Outcome) → g < n → g * size + size ≤ length dst → turn g (g * size) dst rest ≡ rest (put dst (g * size) (group g))) where
  loop_comes : (turns g : ℕ) (dst d : List ℕ) → d ≡ put dst 0 (first_parts group g) → g * size ≤ length dst → g + turns ≡ n
      → group_loop size turn turns g (g * size) d ≡ comes (wrote (first_parts group (min n (length dst / size))) dst)
  loop_comes zero g dst d e h k =
      let fits : g ≤ length dst / size = (le-div_iff_mul-le positive).1 h in
      let count : min n (length dst / size) ≡ g = omega arith in
      ap comes (put-wrote dst (first_parts group g) e (sym (length_parts group size sized g)) ∙ ap (λ (m : ℕ). wrote (first_parts group m) dst) (sym count))
  loop_comes (suc turns) g dst d e h k = by (loop_comes turns (suc g) dst) (ltb (length d) (g * size + size)) refl
    where
      same : length d ≡ length dst
      same = ap length e ∙ length-put dst 0 (first_parts group g) (omega (arith, length_parts group size sized g))

      by : ((b : List ℕ) → b ≡ put dst 0 (first_parts group (suc g)) → suc g * size ≤ length dst → suc g + turns ≡ n → group_loop size turn turns (suc g) (suc g * size) b ≡ comes (wrote (first_parts group (min n (length dst / size))) dst))
          → (t : Bool) → ltb (length d) (g * size + size) ≡ t
          → cond t (comes (ends (done (g * size ∷ [])) d)) (turn g (g * size) d (group_loop size turn turns (suc g) (g * size + size))) ≡ comes (wrote (first_parts group (min n (length dst / size))) dst)
      by more true t =
          let full : length dst < suc g * size = rw suc-mul (omega (arith, ltb-true (length d) (g * size + size) t, same)) in
          let most : length dst / size < suc g = (div-lt_iff_lt-mul positive).1 full in
          let least : g ≤ length dst / size = (le-div_iff_mul-le positive).1 h in
          let count : min n (length dst / size) ≡ g = omega arith in
          ap comes (put-wrote dst (first_parts group g) e (sym (length_parts group size sized g)) ∙ ap (λ (m : ℕ). wrote (first_parts group m) dst) (sym count))
      by more false t =
          let next : g * size + size ≡ suc g * size = sym (suc-mul g size) in
          let room : g * size + size ≤ length d = ltb-false (length d) (g * size + size) t in
          let put-here : put d (g * size) (group g) ≡ put dst 0 (first_parts group (suc g)) = parts_turn group size sized dst g e refl h in
          turned g d (group_loop size turn turns (suc g) (g * size + size)) (omega arith) room
          ∙ ap (λ (m : ℕ). group_loop size turn turns (suc g) m (put d (g * size) (group g))) next
          ∙ more _ put-here (omega (arith, same)) (omega arith)

  loop_from_start : (dst : List ℕ) → group_loop size turn n 0 0 dst ≡ comes (wrote (first_parts group (min n (length dst / size))) dst)
  loop_from_start dst =
      ap (λ (m : ℕ). group_loop size turn n 0 m dst) (sym (zero-mul size)) ∙ loop_comes n 0 dst dst (parts_start group dst) (rw zero-mul (omega arith)) (omega arith)

-- a value shifted left in a u16, a lower one beside it, and of both the low byte
low_byte : (x k y : ℕ) → x * 2 ^ k < 65536 → y < 2 ^ k → as_u8 (bit_or (shift_left 16 x k) y) ≡ (x * 2 ^ k + y) % 256
low_byte x k y h low = ap as_u8 (ap (λ (z : ℕ). bit_or z y) (mod-eq_of_lt h) ∙ or_shifted x k y low)

store_bytes_lem : (a b c d at : ℕ) (dst : List ℕ) (rest : List ℕ → Run Outcome) → a < 64 → b < 64 → c < 64 → d < 64 → at + 3 ≤ length dst → store_bytes a b c d at dst rest ≡ rest (put dst at (pack_group (a ∷ b ∷ c ∷ d ∷ [])))
store_bytes_lem a b c d at dst rest ha hb hc hd h =
    let v0 = as_u8 (bit_or (shift_left 16 a 2) (shift_right b 4)) in
    let v1 = as_u8 (bit_or (shift_left 16 b 4) (shift_right c 2)) in
    let v2 = as_u8 (bit_or (shift_left 16 c 6) d) in
    let e0 : v0 ≡ a * 4 + b / 16 = low_byte a 2 (b / 16) (omega arith) (omega arith) ∙ omega arith in
    let e1 : v1 ≡ b % 16 * 16 + c / 4 = low_byte b 4 (c / 4) (omega arith) (omega arith) ∙ omega arith in
    let e2 : v2 ≡ c % 4 * 64 + d = low_byte c 6 d (omega arith) (omega arith) ∙ omega arith in
    let dst₁ = set dst at v0 in
    let l₁ : length dst₁ ≡ length dst = length-set dst at v0 in
    let dst₂ = set dst₁ (at + 1) v1 in
    let l₂ : length dst₂ ≡ length dst = length-set dst₁ (at + 1) v1 ∙ l₁ in
    rw (lt-ltb at (length dst) (omega arith), lt-ltb (at + 1) (length dst₁) (omega arith), lt-ltb (at + 2) (length dst₂) (omega arith))
    (ap rest (stores_put dst at v0 (v1 ∷ v2 ∷ []) (omega arith) ∙ ap (put dst at) (rw (e0, e1, e2) (pack_group_lem a b c d ha hb hc hd))))

store_chars_lem : (a b c d at : ℕ) (dst : List ℕ) (rest : List ℕ → Run Outcome) → as_u8 a < 64 → as_u8 b < 64 → as_u8 c < 64 → as_u8 d < 64 → at + 4 ≤ length dst → store_chars a b c d at dst rest ≡ rest (put dst at (map (char_of Crate) (as_u8 a ∷ as_u8 b ∷ as_u8 c ∷ as_u8 d ∷ [])))
store_chars_lem a b c d at dst rest ha hb hc hd h =
    let v0 = as_u8 a + 0x20 in
    let v1 = as_u8 b + 0x20 in
    let v2 = as_u8 c + 0x20 in
    let v3 = as_u8 d + 0x20 in
    let dst₁ = set dst at v0 in
    let l₁ : length dst₁ ≡ length dst = length-set dst at v0 in
    let dst₂ = set dst₁ (at + 1) v1 in
    let l₂ : length dst₂ ≡ length dst = length-set dst₁ (at + 1) v1 ∙ l₁ in
    let dst₃ = set dst₂ (at + 2) v2 in
    let l₃ : length dst₃ ≡ length dst = length-set dst₂ (at + 2) v2 ∙ l₂ in
    rw (
      lt-ltb v0 256 (omega arith),
      lt-ltb v1 256 (omega arith),
      lt-ltb v2 256 (omega arith),
      lt-ltb v3 256 (omega arith),
      lt-ltb at (length dst) (omega arith),
      lt-ltb (at + 1) (length dst₁) (omega arith),
      lt-ltb (at + 2) (length dst₂) (omega arith),
      lt-ltb (at + 3) (length dst₃) (omega arith),
    ) (ap rest (stores_put dst at v0 (v1 ∷ v2 ∷ v3 ∷ []) (omega arith)))

decode_group_lem : (a b c at : ℕ) (dst : List ℕ) (rest : List ℕ → Run Outcome) → a < 256 → b < 256 → c < 256 → at + 4 ≤ length dst → decode_group a b c at dst rest ≡ rest (put dst at (map (char_of Crate) (unpack_group (a ∷ b ∷ c ∷ []))))
decode_group_lem a b c at dst rest ha hb hc h =
    let c0 = shift_right a 2 in
    let c1 = bit_or (shift_left 16 (bit_and a 0x03) 4) (shift_right b 4) in
    let c2 = bit_or (shift_left 16 (bit_and b 0x0F) 2) (shift_right c 6) in
    let c3 = bit_and c 0x3F in
    let e0 : as_u8 c0 ≡ a / 4 = omega arith in
    let e1 : as_u8 c1 ≡ a % 4 * 16 + b / 16 = ap (λ (k : ℕ). as_u8 (bit_or (shift_left 16 k 4) (shift_right b 4))) (and_mask a 2) ∙ low_byte (a % 4) 4 (b / 16) (omega arith) (omega arith) ∙ omega arith in
    let e2 : as_u8 c2 ≡ b % 16 * 4 + c / 64 = ap (λ (k : ℕ). as_u8 (bit_or (shift_left 16 k 2) (shift_right c 6))) (and_mask b 4) ∙ low_byte (b % 16) 2 (c / 64) (omega arith) (omega arith) ∙ omega arith in
    let e3 : as_u8 c3 ≡ c % 64 = ap as_u8 (and_mask c 6) ∙ omega arith in
    let codes : as_u8 c0 ∷ as_u8 c1 ∷ as_u8 c2 ∷ as_u8 c3 ∷ [] ≡ unpack_group (a ∷ b ∷ c ∷ []) = rw (e0, e1, e2, e3) (unpack_group_lem a b c ha hb hc) in
    store_chars_lem c0 c1 c2 c3 at dst rest (rw e0 (omega arith)) (rw e1 (omega arith)) (rw e2 (omega arith)) (rw e3 (omega arith)) h
    ∙ ap (λ (l : List ℕ). rest (put dst at (map (char_of Crate) l))) codes

div_ceil_lem : (n : ℕ) → div_ceil n 4 ≡ groups n
div_ceil_lem n = by (ltb 0 (n % 4)) refl
  where
    by : (t : Bool) → ltb 0 (n % 4) ≡ t → cond t (n / 4 + 1) (n / 4) ≡ groups n
    by true e = omega (arith, ltb-true 0 (n % 4) e)
    by false e = omega (arith, ltb-false 0 (n % 4) e)

source_code_lem : (src : List ℕ) (i : ℕ) → source_code src i ≡ code_of Crate (get_or src i 0x20)
source_code_lem src i = and_mask (get_or src i 0x20 - 0x20) 6

pub encode_is_source : (src dst : List ℕ) → source_encoded src dst ≡ comes (crate_packed src dst)
encode_is_source src dst =
    let n = div_ceil (length src) 4 in
    let turned : (g : ℕ) (d : List ℕ) (rest : List ℕ → Run Outcome) → g < n → g * 3 + 3 ≤ length d → encode_turn src g (g * 3) d rest ≡ rest (put d (g * 3) (packed_group Crate src g)) =
    λ g d rest l h. rw (source_code_lem src (g * 4), source_code_lem src (g * 4 + 1), source_code_lem src (g * 4 + 2), source_code_lem src (g * 4 + 3)) (store_bytes_lem _ _ _ _ (g * 3) d rest (code_below Crate _) (code_below Crate _) (code_below Crate _) (code_below Crate _) h) in
    loop_from_start 3 (lit< tt) n (encode_turn src) (packed_group Crate src) (packed_sized Crate src) turned dst
    ∙ ap comes (sym (crate_packs src dst (ap (λ (m : ℕ). min m (length dst / 3)) (sym (div_ceil_lem (length src))))))

pub decode_is_source : (src dst : List ℕ) → Below 256 src → source_decoded src dst ≡ comes (crate_unpacked src dst)
decode_is_source src dst bytes =
    let n = length src / 3 in
    let byte : (i : ℕ) → get_or src i 0 < 256 = below_at 256 src bytes (lit< tt) in
    let turned : (g : ℕ) (d : List ℕ) (rest : List ℕ → Run Outcome) → g < n → g * 4 + 4 ≤ length d → decode_turn src g (g * 4) d rest ≡ rest (put d (g * 4) (unpacked_group Crate src g)) =
    λ g d rest l h.
    rw (lt-ltb (g * 3) (length src) (omega arith), lt-ltb (g * 3 + 1) (length src) (omega arith), lt-ltb (g * 3 + 2) (length src) (omega arith)) (decode_group_lem _ _ _ (g * 4) d rest (byte (g * 3)) (byte (g * 3 + 1)) (byte (g * 3 + 2)) h) in
    loop_from_start 4 (lit< tt) n (decode_turn src) (unpacked_group Crate src) (unpacked_sized Crate src) turned dst
    ∙ ap comes (sym (crate_unpacks src dst refl))
