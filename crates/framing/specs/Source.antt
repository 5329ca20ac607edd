-- encode.rs written down, and of types.rs the writing of an address: with the Rust's own operators and names, in its order, to be held
-- beside it. What stops a debug build stops here: an index outside a slice, and a part that begins past its end.
use Rattle.std.specs.Prelude.{ℕ, zero, suc, ◌+◌, Bool, true, false, cond, List, [], ◌∷◌, ◌++◌, ltb, leb, length, take, drop}
use Rattle.std.specs.Int.Bits.{bit_and, bit_or, bit_xor}
use Rattle.refusal.specs.Outcome.{Outcome, ends, done, refuses}
use Rattle.octets.specs.Source.{Run, stops, comes, read_at, store_at, shift_right, as_u8}
use Rattle.types.specs.declared.delimiter.FrameType.{FrameType}
use Rattle.types.specs.declared.delimiter.FrameType.TheVariants.{Request, Response, Burst}
use Rattle.types.specs.declared.first.MasterRole.{MasterRole}
use Rattle.types.specs.declared.first.MasterRole.TheVariants.{Primary, Secondary}
use Rattle.types.specs.declared.address.Address.{Address}
use Rattle.types.specs.declared.address.Address.TheVariants.{Short, Long}
use Rattle.types.specs.Address.{is_long}

-- `*master == MasterRole::Primary`
abbrev pub is_primary : MasterRole → Bool
is_primary Primary = true
is_primary Secondary = false

-- the first byte, made of a masked field by `|=`
abbrev pub marked : ℕ → MasterRole → Bool → ℕ
marked byte master burst =
    let b : ℕ = cond (is_primary master) (bit_or byte 0x80) byte in
    cond burst (bit_or b 0x40) b

-- `Address::encode`, with the rest of the run, which is told how many bytes were written
abbrev pub source_address_into : Address → List ℕ → (ℕ → List ℕ → Run Outcome) → Run Outcome
source_address_into (Short master burst polling) buf rest = store_at buf 0 (marked (bit_and polling 0x0F) master burst) (rest 1)
source_address_into (Long master burst manufacturer device number) buf rest =
    store_at buf 0 (marked (bit_and manufacturer 0x3F) master burst) (λ buf₁.
    store_at buf₁ 1 device (λ buf₂.
    store_at buf₂ 2 (as_u8 (bit_and (shift_right number 16) 0xFF)) (λ buf₃.
    store_at buf₃ 3 (as_u8 (bit_and (shift_right number 8) 0xFF)) (λ buf₄.
    store_at buf₄ 4 (as_u8 (bit_and number 0xFF)) (rest 5)))))

-- called by itself
abbrev pub source_address_written : Address → List ℕ → Run Outcome
source_address_written a buf = source_address_into a buf (λ written buf₁. comes (ends (done (written ∷ [])) buf₁))

-- `compute_delimiter`
abbrev pub compute_delimiter : FrameType → Bool → ℕ
compute_delimiter Request false = 0x02
compute_delimiter Request true = 0x82
compute_delimiter Response false = 0x06
compute_delimiter Response true = 0x86
compute_delimiter Burst false = 0x01
compute_delimiter Burst true = 0x81

-- `for _ in 0..preamble_count`
abbrev pub preamble_loop : ℕ → ℕ → List ℕ → (ℕ → List ℕ → Run Outcome) → Run Outcome
preamble_loop zero pos buf rest = rest pos buf
preamble_loop (suc left) pos buf rest = store_at buf pos 0xFF (λ buf₁. preamble_loop left (pos + 1) buf₁ rest)

-- `&mut buf[pos..]` lent: what comes back stands in its place
abbrev pub lent_from : List ℕ → ℕ → (List ℕ → (List ℕ → List ℕ) → Run Outcome) → Run Outcome
lent_from buf pos rest = cond (leb pos (length buf)) (rest (drop pos buf) (λ part. take pos buf ++ part)) stops

-- `for i in 0..written`, from i on
abbrev pub sum_loop : ℕ → ℕ → ℕ → ℕ → List ℕ → (ℕ → Run Outcome) → Run Outcome
sum_loop zero i pos sum buf rest = rest sum
sum_loop (suc left) i pos sum buf rest = read_at buf (pos + i) (λ b. sum_loop left (i + 1) pos (bit_xor sum b) buf rest)

-- `for &b in data`
abbrev pub data_loop : List ℕ → ℕ → ℕ → List ℕ → (ℕ → ℕ → List ℕ → Run Outcome) → Run Outcome
data_loop [] pos sum buf rest = rest pos sum buf
data_loop (b ∷ bs) pos sum buf rest = store_at buf pos b (λ buf₁. data_loop bs (pos + 1) (bit_xor sum b) buf₁ rest)

-- `encode_frame`, from the command on
abbrev pub source_tail : ℕ → List ℕ → ℕ → ℕ → List ℕ → Run Outcome
source_tail command ds pos sum buf =
    store_at buf pos command (λ buf₁.
    let count : ℕ = as_u8 (length ds) in
    store_at buf₁ (pos + 1) count (λ buf₂.
    data_loop ds (pos + 1 + 1) (bit_xor (bit_xor sum command) count) buf₂ (λ pos₁ sum₁ buf₃.
    store_at buf₃ pos₁ sum₁ (λ buf₄. comes (ends (done ((pos₁ + 1) ∷ [])) buf₄)))))

-- and from the delimiter on
abbrev pub source_body : FrameType → Address → ℕ → List ℕ → ℕ → List ℕ → Run Outcome
source_body t a command ds pos buf =
    let delim : ℕ = compute_delimiter t (is_long a) in
    store_at buf pos delim (λ buf₁.
    lent_from buf₁ (pos + 1) (λ part back.
    source_address_into a part (λ written part₁.
    let buf₂ : List ℕ = back part₁ in
    sum_loop written 0 (pos + 1) delim buf₂ (λ sum. source_tail command ds (pos + 1 + written) sum buf₂))))

abbrev pub source_frame : FrameType → Address → ℕ → List ℕ → ℕ → List ℕ → Run Outcome
source_frame t a command ds preamble_count buf =
    cond (ltb 255 (length ds)) (comes (refuses 1 [] buf))
    (let total : ℕ = preamble_count + 1 + cond (is_long a) 5 1 + 1 + 1 + length ds + 1 in
    cond (ltb (length buf) total) (comes (refuses 2 [] buf)) (preamble_loop preamble_count 0 buf (source_body t a command ds)))
