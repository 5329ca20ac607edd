-- read_device_vars.rs never stops, and does what document 01 says of the crate's mode: its lines (specs/VariablesSource.antt) come to what
-- specs/Variables.antt gives, the float of a variable by its bits. But for a NaN's value: there the bits alone are the same.
use Prim.Native.Nat.{ℕ, zero, suc, ◌+◌, ◌*◌, ◌-◌, ◌≤◌}
use native.Mathlib.Omega.{arith}
use mathlib.Core.Path.{◌≡◌, refl, sym, ap, ◌∙◌}
use mathlib.Core.Bool.{Bool, true, false, cond}
use mathlib.Core.List.{List, [], ◌∷◌, ◌++◌, map, append-nil, map-append}
use lib.ListN.{length, get_or, replicate, length-append, length-map}
use lib.Seq.{append_snoc}
use lib.Dec.{ltb}
use borrow.Author.Tests.{ltb-true, ltb-false, lt-ltb, le-ltb}
use Rattle.refusal.specs.Outcome.{Outcome, ends, done, refuses}
use Rattle.octets.specs.Digits.{from_digits, Below}
use Rattle.octets.specs.Put.{put}
use Rattle.octets.specs.Source.{Run, comes}
use Rattle.octets.proofs.Put.{put-nil, length-put, put-snoc, put-wrote}
use Rattle.packed_string.specs.declared.text_group.Mode.TheVariants.{Crate}
use Rattle.framing.specs.Payload.{carries}
use Rattle.commands.specs.declared.read_device_vars.DeviceVariable.{DeviceVariable}
use Rattle.commands.specs.Variables.{codes_requested, variable, variable_at, groups_of, first_variables, no_variable, reads_variables, variables_read}
use Rattle.response.specs.Sizes.{most_variables, group_size}
use Rattle.commands.specs.VariablesSource.{
  code_loop,
  source_codes,
  SourceVariable,
  from_be_bytes,
  push,
  group_at,
  variable_loop,
  source_variables,
  source_variable,
  response_of,
  HasBits,
  AllHaveBits,
}
use Rattle.commands.proofs.read_device_vars.Calls.{requests_no_room, requests, crate_reads}
use Rattle.commands.proofs.read_device_vars.Groups.{length_first}
use Rattle.commands.proofs.read_device_vars.RoundTrip.{value_keeps_bits}
use Rattle.commands.proofs.Worths.{nan_value}

code_loop_lem : (codes bs l : List ℕ) (i : ℕ) (rest : List ℕ → Run Outcome) → length bs ≡ i → i + length codes ≤ length l → code_loop codes i (put l 0 bs) rest ≡ rest (put l 0 (bs ++ codes))
code_loop_lem [] bs l i rest e h = ap (λ (r : List ℕ). rest (put l 0 r)) (sym (append-nil bs))
code_loop_lem (code ∷ codes) bs l i rest e h =
    let same : length (put l 0 bs) ≡ length l = length-put l 0 bs (omega arith) in
    rw (lt-ltb i (length (put l 0 bs)) (omega arith), put-snoc l 0 bs code i (omega arith) (omega arith))
    (code_loop_lem codes (bs ++ (code ∷ [])) l (i + 1) rest (omega (arith, length-append bs (code ∷ []))) (omega arith)
    ∙ ap (λ (r : List ℕ). rest (put l 0 r)) (append_snoc bs code codes))

pub encode_is_source : (codes buffer : List ℕ) → length codes ≤ most_variables → source_codes codes buffer ≡ comes (codes_requested codes buffer)
encode_is_source codes buffer few = by (ltb (length buffer) (length codes)) refl
  where
    end : List ℕ → Run Outcome
    end buf = comes (ends (done (length codes ∷ [])) buf)

    by : (small : Bool) → ltb (length buffer) (length codes) ≡ small → cond small (comes (refuses 2 [] buffer)) (code_loop codes 0 buffer end) ≡ comes (codes_requested codes buffer)
    by true t = ap comes (sym (requests_no_room codes buffer few (ltb-true (length buffer) (length codes) t)))
    by false t =
        let room : length codes ≤ length buffer = ltb-false (length buffer) (length codes) t in
        ap (λ (b : List ℕ). code_loop codes 0 b end) (sym (put-nil buffer 0))
        ∙ code_loop_lem codes [] buffer 0 end refl (omega arith)
        ∙ ap comes (put-wrote buffer codes refl refl ∙ sym (requests codes buffer few room))

bytes_number : (a b c d : ℕ) → from_be_bytes a b c d ≡ from_digits 256 (a ∷ b ∷ c ∷ d ∷ [])
bytes_number a b c d = omega arith

group_at_lem : (bs : List ℕ) (base : ℕ) (rest : SourceVariable → Run (List SourceVariable)) → base + group_size ≤ length bs → group_at bs base rest ≡ rest (source_variable (variable_at bs base))
group_at_lem bs base rest h =
    rw (
      lt-ltb base (length bs) (omega arith),
      lt-ltb (base + 1) (length bs) (omega arith),
      lt-ltb (base + 2) (length bs) (omega arith),
      lt-ltb (base + 3) (length bs) (omega arith),
      lt-ltb (base + 4) (length bs) (omega arith),
      lt-ltb (base + 5) (length bs) (omega arith),
      lt-ltb (base + 6) (length bs) (omega arith),
      lt-ltb (base + 7) (length bs) (omega arith),
    )
    (ap (λ (n : ℕ). rest (source_variable (variable (get_or bs base 0) (get_or bs (base + 1) 0) (get_or bs (base + 2) 0) n (get_or bs (base + 7) 0))))
    (bytes_number (get_or bs (base + 3) 0) (get_or bs (base + 4) 0) (get_or bs (base + 5) 0) (get_or bs (base + 6) 0)))

-- the first k variables, as the Rust has them
abbrev first_source : List ℕ → ℕ → List SourceVariable
first_source bs k = map source_variable (first_variables bs k)

length_source : (bs : List ℕ) (k : ℕ) → length (first_source bs k) ≡ k
length_source bs k = length-map (first_variables bs k) source_variable ∙ length_first bs k

-- no group of the loop is cut off, and none is pushed as the ninth
group_loop_lem : (bs : List ℕ) (turns i n : ℕ) → i + turns ≡ n → n * group_size ≤ length bs → n ≤ most_variables → variable_loop bs turns i (first_source bs i) ≡ comes (first_source bs n)
group_loop_lem bs zero i n e h k = let same : i ≡ n = omega arith in ap (λ (m : ℕ). comes (first_source bs m)) same
group_loop_lem bs (suc turns) i n e h k =
    let next : SourceVariable → Run (List SourceVariable) = λ v. variable_loop bs turns (suc i) (push (first_source bs i) v) in
    let room : ltb (length (first_source bs i)) most_variables ≡ true = lt-ltb (length (first_source bs i)) most_variables (omega (arith, length_source bs i)) in
    let one : first_source bs i ++ (source_variable (variable_at bs (i * group_size)) ∷ []) ≡ first_source bs (suc i) = sym (map-append source_variable (first_variables bs i) (variable_at bs (i * group_size) ∷ [])) in
    ap (λ (t : Bool). cond t (comes (first_source bs i)) (group_at bs (i * group_size) next)) (le-ltb (length bs) (i * group_size + group_size) (omega arith))
    ∙ group_at_lem bs (i * group_size) next (omega arith)
    ∙ ap (λ (t : Bool). variable_loop bs turns (suc i) (cond t (first_source bs i ++ (source_variable (variable_at bs (i * group_size)) ∷ [])) (first_source bs i))) room
    ∙ ap (variable_loop bs turns (suc i)) one
    ∙ group_loop_lem bs turns (suc i) n (omega arith) h k

-- the Rust's Vec is our variables with each float by its bits, and our response is these variables
pub decode_is_source : (bs : List ℕ) → let vs = first_variables bs (groups_of (length bs)) in (source_variables bs ≡ comes (map source_variable vs)) × (variables_read Crate bs ≡ response_of vs)
decode_is_source bs =
    let n = groups_of (length bs) in (
      group_loop_lem bs n 0 n (omega arith) (omega arith) (omega arith),
      crate_reads bs ∙ ap (λ (k : ℕ). reads_variables carries k (first_variables bs n ++ replicate (most_variables - k) no_variable)) (sym (length_first bs n)),
    )

-- and off the NaNs our floats have those bits
bits_snoc : (vs : List DeviceVariable) (v : DeviceVariable) → AllHaveBits vs → HasBits v → AllHaveBits (vs ++ (v ∷ []))
bits_snoc [] v a b = (b, tt)
bits_snoc (w ∷ vs) v a b = (a.0, bits_snoc vs v a.1 b)

first_bits : (bs : List ℕ) (k : ℕ) → Below 256 bs → AllHaveBits (first_variables bs k)
first_bits bs zero small = tt
first_bits bs (suc k) small =
    let v = variable_at bs (k * group_size) in
    bits_snoc (first_variables bs k) v (first_bits bs k small) (refl, value_keeps_bits bs (k * group_size) small, nan_value v.bits)

pub values_have_bits : (bs : List ℕ) → Below 256 bs → AllHaveBits (first_variables bs (groups_of (length bs)))
values_have_bits bs small = first_bits bs (groups_of (length bs)) small
