-- read_device_vars.rs written down: its two functions with the Rust's own operators and names, in its order, to be held beside it. What
-- stops a debug build stops here: an index outside a slice. A unit stays its byte: units.rs, which gives it a name, is left out.
use Rattle.std.specs.Prelude.{ℕ, zero, suc, ◌+◌, ◌*◌, ◌-◌, ◌/◌, ◌^◌, min, ◌≡◌, true, false, cond, List, [], ◌∷◌, ◌++◌, length, replicate, ltb}
use Rattle.std.specs.Float.{nan, binary32}
use Rattle.std.specs.Float.Ieee.{to_bits, nan_bits}
use Rattle.refusal.specs.Outcome.{Outcome, ends, done, refuses}
use Rattle.octets.specs.Source.{Run, comes, store_at, read_at}
use Rattle.framing.specs.Payload.{carries}
use Rattle.commands.specs.declared.read_device_vars.DeviceVariable.{DeviceVariable}
use Rattle.commands.specs.Worth.{float_of}
use Rattle.commands.specs.Variables.{no_variable, Variables, reads_variables}

-- `for (i, &code) in self.slot_codes.iter().enumerate()`, from i on
abbrev pub code_loop : List ℕ → ℕ → List ℕ → (List ℕ → Run Outcome) → Run Outcome
code_loop [] i buf rest = rest buf
code_loop (code ∷ codes) i buf rest = store_at buf i code (λ buf₁. code_loop codes (i + 1) buf₁ rest)

-- `encode_data`; `slot_codes` is a Vec with room for 8, so that there are calls with at most 8 codes
abbrev pub source_codes : List ℕ → List ℕ → Run Outcome
source_codes slotCodes buf =
    let len : ℕ = length slotCodes in
    cond (ltb (length buf) len) (comes (refuses 2 [] buf)) (code_loop slotCodes 0 buf (λ buf₁. comes (ends (done (len ∷ [])) buf₁)))

-- `struct DeviceVariable`. An f32 is its 32 bits here, so that one NaN is told from another, as the Rust's float does.
pub record SourceVariable : Type 0 where
  pub device_var_code : ℕ
  pub classification : ℕ
  pub unit : ℕ
  pub value : ℕ
  pub status : ℕ

-- `f32::from_be_bytes`
abbrev pub from_be_bytes : ℕ → ℕ → ℕ → ℕ → ℕ
from_be_bytes b0 b1 b2 b3 = b0 * 2 ^ 24 + b1 * 2 ^ 16 + b2 * 2 ^ 8 + b3

-- `let _ = variables.push(..)`: a Vec of 8 takes no ninth, and nobody hears of it
abbrev pub push : List SourceVariable → SourceVariable → List SourceVariable
push variables v = cond (ltb (length variables) 8) (variables ++ (v ∷ [])) variables

-- the group at `base`, with the rest of the run
abbrev pub group_at : List ℕ → ℕ → (SourceVariable → Run (List SourceVariable)) → Run (List SourceVariable)
group_at bs base rest =
    read_at bs base (λ code.
    read_at bs (base + 1) (λ class.
    read_at bs (base + 2) (λ unit.
    read_at bs (base + 3) (λ b0.
    read_at bs (base + 4) (λ b1.
    read_at bs (base + 5) (λ b2.
    read_at bs (base + 6) (λ b3.
    read_at bs (base + 7) (λ status. rest (record {
      device_var_code = code;
      classification = class;
      unit = unit;
      value = from_be_bytes b0 b1 b2 b3;
      status = status;
    })))))))))

-- `for i in 0..n_vars`, from i on
abbrev pub variable_loop : List ℕ → ℕ → ℕ → List SourceVariable → Run (List SourceVariable)
variable_loop bs zero i variables = comes variables
variable_loop bs (suc turns) i variables =
    let base : ℕ = i * 8 in
    cond (ltb (length bs) (base + 8)) (comes variables) (group_at bs base (λ v. variable_loop bs turns (suc i) (push variables v)))

-- `decode_data`
abbrev pub source_variables : List ℕ → Run (List SourceVariable)
source_variables bs =
    let nVars : ℕ = length bs / 8 in
    let nVars₁ : ℕ = min nVars 8 in
    variable_loop bs nVars₁ 0 []

-- our variable in the Rust's shape: the bits of its float are `bits`
abbrev pub source_variable : DeviceVariable → SourceVariable
source_variable v = record { device_var_code = v.device_var_code; classification = v.classification; unit = v.unit; value = v.bits; status = v.status }

-- our response with these variables in it, which the Rust has in a Vec
abbrev pub response_of : List DeviceVariable → Variables
response_of vs = reads_variables carries (length vs) (vs ++ replicate (8 - length vs) no_variable)

-- Our float beside those bits: it is theirs, and it has them where they are no NaN's. At a NaN it is the language's one NaN, which has lost
-- the pattern that the Rust's float keeps: there the bits alone are the same.
abbrev pub HasBits : DeviceVariable → Type 0
HasBits v = (v.value ≡ float_of v.bits) × (nan_bits binary32 v.bits ≡ false → to_bits binary32 v.value ≡ v.bits) × (nan_bits binary32 v.bits ≡ true → v.value ≡ nan)

abbrev pub AllHaveBits : List DeviceVariable → Type 0
AllHaveBits [] = Unit {0}
AllHaveBits (v ∷ vs) = HasBits v × AllHaveBits vs
