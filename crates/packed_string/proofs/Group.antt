-- A group: its bytes and codes as the code works them out, and that these undo one another.
use Prim.Native.Nat.{ℕ, ◌+◌, ◌*◌, ◌/◌, ◌%◌, ◌<◌}
use native.Mathlib.Omega.{arith}
use mathlib.Core.Path.{◌≡◌, sym, ap, ◌∙◌}
use mathlib.Core.List.{List, [], ◌∷◌}
use lib.Dec.{lit<}
use lib.ListN.{length, get_or}
use lib.Seq.{take_all}
use Rattle.octets.proofs.Places.{taken}
use Rattle.octets.specs.Digits.{Below, from_digits, digits}
use Rattle.octets.proofs.Bases.{from_digits_whole, from_below, digits_below, digits_from}
use Rattle.packed_string.specs.declared.text_group.Mode.{Mode}
use Rattle.packed_string.specs.declared.text_group.Mode.TheVariants.{Crate, Standard}
use Rattle.packed_string.specs.Group.{code_of, pack_group, unpack_group}

-- an array of three or of four, as the places of it that the code names
pub three : (l : List ℕ) → length l ≡ 3 → l ≡ get_or l 0 0 ∷ get_or l 1 0 ∷ get_or l 2 0 ∷ []
three l e = sym (take_all 3 l (omega arith)) ∙ taken l 0 0 3 (omega arith)

pub four : (l : List ℕ) → length l ≡ 4 → l ≡ get_or l 0 0 ∷ get_or l 1 0 ∷ get_or l 2 0 ∷ get_or l 3 0 ∷ []
four l e = sym (take_all 4 l (omega arith)) ∙ taken l 0 0 4 (omega arith)

-- three digits base 256 of four digits base 64, byte by byte
pub pack_group_lem : (a b c d : ℕ) → a < 64 → b < 64 → c < 64 → d < 64 → (a * 4 + b / 16) ∷ (b % 16 * 16 + c / 4) ∷ (c % 4 * 64 + d) ∷ [] ≡ pack_group (a ∷ b ∷ c ∷ d ∷ [])
unfolding pack_group
pack_group_lem a b c d ha hb hc hd =
    let n = from_digits 64 (a ∷ b ∷ c ∷ d ∷ []) in
    let high : a * 4 + b / 16 ≡ n / 256 / 256 % 256 = omega arith in
    let middle : b % 16 * 16 + c / 4 ≡ n / 256 % 256 = omega arith in
    let low : c % 4 * 64 + d ≡ n % 256 = omega arith in
    rw (high, middle, low)

-- four digits base 64 of three digits base 256, code by code
pub unpack_group_lem : (a b c : ℕ) → a < 256 → b < 256 → c < 256 → (a / 4) ∷ (a % 4 * 16 + b / 16) ∷ (b % 16 * 4 + c / 64) ∷ (c % 64) ∷ [] ≡ unpack_group (a ∷ b ∷ c ∷ [])
unfolding unpack_group
unpack_group_lem a b c ha hb hc =
    let n = from_digits 256 (a ∷ b ∷ c ∷ []) in
    let first : a / 4 ≡ n / 64 / 64 / 64 % 64 = omega arith in
    let second : a % 4 * 16 + b / 16 ≡ n / 64 / 64 % 64 = omega arith in
    let third : b % 16 * 4 + c / 64 ≡ n / 64 % 64 = omega arith in
    let fourth : c % 64 ≡ n % 64 = omega arith in
    rw (first, second, third, fourth)

-- a group's number is below 2^24, so three bytes hold it whole and its codes come back
pub group_back : (a b c d : ℕ) → a < 64 → b < 64 → c < 64 → d < 64 → unpack_group (pack_group (a ∷ b ∷ c ∷ d ∷ [])) ≡ a ∷ b ∷ c ∷ d ∷ []
unfolding pack_group unpack_group
group_back a b c d ha hb hc hd =
    let codes = a ∷ b ∷ c ∷ d ∷ [] in
    let below : Below 64 codes = (ha, (hb, (hc, (hd, tt)))) in
    ap (digits 64 4) (from_digits_whole 256 3 (from_digits 64 codes) (lit< tt) (from_below 64 codes below)) ∙ digits_from 64 codes below

pub code_below : (m : Mode) (c : ℕ) → code_of m c < 64
code_below Crate c = omega arith
code_below Standard c = omega arith

pub unpacked_below : (bytes : List ℕ) → Below 64 (unpack_group bytes)
unfolding unpack_group
unpacked_below bytes = digits_below 64 4 (from_digits 256 bytes) (lit< tt)
