-- The Rust's lines of commands/mod.rs come to what the definitions say, wherever they do not stop; the identity's never do.
use Prim.Native.Nat.{ℕ, ◌+◌, ◌*◌, ◌/◌, ◌%◌, ◌^◌, ◌≤◌, ◌<◌}
use native.Mathlib.Nat.{mod-eq_of_lt}
use native.Mathlib.Omega.{arith}
use mathlib.Core.Path.{◌≡◌, refl, sym, ap, ap₂, ◌∙◌}
use mathlib.Core.Bool.{Bool, true, false}
use mathlib.Core.List.{List, [], ◌∷◌}
use lib.ListN.{length, get_or, set, take, drop, length-set, length-drop}
use lib.Seq.{get_or-take, get_or-drop, length-take-le}
use lib.Bits.{bit_and, bit_or, or_shifted, and_mask}
use lib.Dec.{ltb, lit<}
use borrow.Author.Tests.{lt-ltb, le-leb, ltb-true, ltb-false}
use Rattle.refusal.specs.Outcome.{ends, done}
use Rattle.octets.specs.Digits.{Below, digits, from_digits}
use Rattle.octets.specs.Put.{put}
use Rattle.octets.specs.Source.{comes, Run, as_u8, shift_right, shift_left}
use Rattle.octets.proofs.Bases.{below_at}
use Rattle.octets.proofs.Put.{stores_put}
use Rattle.commands.specs.Identity.{identified, identity}
use Rattle.response.specs.Sizes.{identity_size}
use Rattle.commands.specs.IdentitySource.{source_decoded_u24, source_encoded_u24, source_identity}
use Rattle.commands.proofs.Identities.{identity_short, identity_with, identity_made}

-- `|` under a byte that was shifted past it
u16_same : (h l : ℕ) → h < 256 → l < 256 → bit_or (shift_left 16 h 8) l ≡ from_digits 256 (h ∷ l ∷ [])
u16_same h l hh hl =
    let high : shift_left 16 h 8 ≡ h * 2 ^ 8 = mod-eq_of_lt (omega arith) in
    ap (λ (x : ℕ). bit_or x l) high ∙ or_shifted h 8 l hl ∙ omega arith

u24_same : (h m l : ℕ) → h < 256 → m < 256 → l < 256 → bit_or (bit_or (shift_left 32 h 16) (shift_left 32 m 8)) l ≡ from_digits 256 (h ∷ m ∷ l ∷ [])
u24_same h m l hh hm hl =
    let high : shift_left 32 h 16 ≡ h * 2 ^ 16 = mod-eq_of_lt (omega arith) in
    let middle : shift_left 32 m 8 ≡ m * 2 ^ 8 = mod-eq_of_lt (omega arith) in
    let whole : h * 2 ^ 16 + m * 2 ^ 8 ≡ (h * 2 ^ 8 + m) * 2 ^ 8 = omega arith in
    ap (λ (x : ℕ). bit_or x l) (ap₂ bit_or high middle ∙ or_shifted h 16 (m * 2 ^ 8) (omega arith) ∙ whole) ∙ or_shifted (h * 2 ^ 8 + m) 8 l hl ∙ omega arith

u24_run : {A : Type 0} (bs : List ℕ) (rest : ℕ → Run A) → ((i : ℕ) → i < 3 → get_or bs i 0 < 256) → 3 ≤ length bs
    → source_decoded_u24 bs rest ≡ rest (from_digits 256 (get_or bs 0 0 ∷ get_or bs 1 0 ∷ get_or bs 2 0 ∷ []))
u24_run bs rest byte h =
    rw (lt-ltb 0 (length bs) (omega arith), lt-ltb 1 (length bs) (omega arith), lt-ltb 2 (length bs) (omega arith))
    (ap rest (u24_same (get_or bs 0 0) (get_or bs 1 0) (get_or bs 2 0) (byte 0 (lit< tt)) (byte 1 (lit< tt)) (byte 2 (lit< tt))))

-- `decode_u24_be` of three bytes or more
pub decode_u24_is_source : (bs : List ℕ) → Below 256 bs → 3 ≤ length bs → source_decoded_u24 bs comes ≡ comes (from_digits 256 (get_or bs 0 0 ∷ get_or bs 1 0 ∷ get_or bs 2 0 ∷ []))
decode_u24_is_source bs b h = u24_run bs comes (λ i k. below_at 256 bs b (lit< tt) i) h

-- `encode_u24_be` into three bytes or more
low_byte : (x : ℕ) → as_u8 (bit_and x 0xFF) ≡ x % 256
low_byte x = ap as_u8 (and_mask x 8) ∙ omega arith

pub encode_u24_is_source : (value : ℕ) (buf : List ℕ) → 3 ≤ length buf → source_encoded_u24 value buf ≡ comes (ends (done []) (put buf 0 (digits 256 3 value)))
encode_u24_is_source value buf h =
    let high : as_u8 (bit_and (shift_right value 16) 0xFF) ≡ value / 256 / 256 % 256 = low_byte (value / 2 ^ 16) ∙ omega arith in
    let b0 = set buf 0 (value / 256 / 256 % 256) in
    let b1 = set b0 1 (value / 256 % 256) in
    rw (
      high,
      low_byte (value / 2 ^ 8),
      low_byte value,
      lt-ltb 0 (length buf) (omega arith),
      lt-ltb 1 (length b0) (omega (arith, length-set buf 0 (value / 256 / 256 % 256))),
      lt-ltb 2 (length b1) (omega (arith, length-set buf 0 (value / 256 / 256 % 256), length-set b0 1 (value / 256 % 256))),
    )
    (ap (λ (b : List ℕ). comes (ends (done []) b)) (stores_put buf 0 (value / 256 / 256 % 256) (value / 256 % 256 ∷ value % 256 ∷ []) h))

pub identity_is_source : (bs : List ℕ) → Below 256 bs → source_identity bs ≡ comes (identity bs)
identity_is_source bs b = by (ltb (length bs) identity_size) refl
  where
    by : (short : Bool) → ltb (length bs) identity_size ≡ short → source_identity bs ≡ comes (identity bs)
    by true e = rw e (ap comes (sym (identity_short bs (ltb-true (length bs) identity_size e))))
    by false e =
        let h : identity_size ≤ length bs = ltb-false (length bs) identity_size e in
        let part = take 3 (drop 9 bs) in
        let at : (i : ℕ) → i < identity_size → ltb i (length bs) ≡ true = λ i k. lt-ltb i (length bs) (omega arith) in
        let byte : (i : ℕ) → get_or bs i 0 < 256 = below_at 256 bs b (lit< tt) in
        let three : length part ≡ 3 = length-take-le 3 (drop 9 bs) (omega (arith, length-drop 9 bs)) in
        let same : (i : ℕ) → i < 3 → get_or part i 0 ≡ get_or bs (9 + i) 0 = λ i k. get_or-take 3 (drop 9 bs) i 0 k ∙ get_or-drop 9 bs i 0 in
        let number : from_digits 256 (get_or part 0 0 ∷ get_or part 1 0 ∷ get_or part 2 0 ∷ []) ≡ from_digits 256 (get_or bs 9 0 ∷ get_or bs 10 0 ∷ get_or bs 11 0 ∷ []) = rw (same 0 (lit< tt), same 1 (lit< tt), same 2 (lit< tt)) in
        rw (e, at 7 (lit< tt), at 0 (lit< tt), at 1 (lit< tt), at 2 (lit< tt), at 3 (lit< tt), at 4 (lit< tt), at 5 (lit< tt), at 6 (lit< tt), at 8 (lit< tt), le-leb identity_size (length bs) h)
        (u24_run part (λ number. comes (identified (identity_with bs (bit_or (shift_left 16 (get_or bs 1 0) 8) (get_or bs 2 0)) (bit_and (get_or bs 7 0) 0x07) number))) (λ i k. rw (same i k) (byte (9 + i))) (omega arith)
        ∙ ap comes (identity_made bs (u16_same (get_or bs 1 0) (get_or bs 2 0) (byte 1) (byte 2)) (and_mask (get_or bs 7 0) 3) number h))
