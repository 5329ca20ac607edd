-- A variable from its parts, and the places that variables are put into one by one.
use Prim.Native.Nat.{ℕ, zero, suc, ◌+◌, ◌*◌, ◌-◌, ◌<◌}
use native.Mathlib.Numerals.{add-one}
use native.Mathlib.Omega.{arith}
use mathlib.Core.Path.{◌≡◌, refl, sym, ap, ◌∙◌}
use mathlib.Core.List.{List, [], ◌∷◌, ◌++◌}
use lib.ListN.{length, set, replicate, length-append}
use lib.Seq.{set_at, append_snoc}
use lib.Ieee.{Float}
use Rattle.commands.specs.Worth.{float_of}
use Rattle.commands.specs.declared.read_device_vars.DeviceVariable.{DeviceVariable}
use Rattle.commands.specs.Variables.{variable, variable_at, first_variables, no_variable}
use Rattle.response.specs.Sizes.{most_variables, group_size}

abbrev made : ℕ → ℕ → ℕ → Float → ℕ → ℕ → DeviceVariable
made code class unit value bits status = record {
  device_var_code = code;
  classification = class;
  unit = unit;
  value = value;
  bits = bits;
  status = status;
}

pub variable_made : (code class unit status : ℕ) {value : Float} {bits b : ℕ} → value ≡ float_of bits → bits ≡ b → made code class unit value bits status ≡ variable code class unit b status
variable_made code class unit status {value} {bits} v e =
    ap (λ (x : Float). made code class unit x bits status) v ∙ ap (λ (n : ℕ). variable code class unit n status) e

pub length_first : (bs : List ℕ) (k : ℕ) → length (first_variables bs k) ≡ k
length_first bs zero = refl
length_first bs (suc k) = omega (arith, length-append (first_variables bs k) (variable_at bs (k * group_size) ∷ []), length_first bs k)

-- the first k variables, and nothing in the other places
abbrev pub placed : List ℕ → ℕ → List DeviceVariable
placed bs k = first_variables bs k ++ replicate (most_variables - k) no_variable

-- one variable more
pub placed_turn : (bs : List ℕ) (k : ℕ) {vs : List DeviceVariable} {v : DeviceVariable} → vs ≡ placed bs k → v ≡ variable_at bs (k * group_size) → k < most_variables → set vs k v ≡ placed bs (k + 1)
placed_turn bs k {vs} {v} e f h =
    let front = first_variables bs k in
    let left : most_variables - k ≡ suc (most_variables - suc k) = omega arith in
    ap (λ (l : List DeviceVariable). set l k v) e
    ∙ ap (λ (n : ℕ). set (front ++ replicate n no_variable) k v) left
    ∙ set_at front no_variable (replicate (most_variables - suc k) no_variable) v k (length_first bs k)
    ∙ sym (append_snoc front v (replicate (most_variables - suc k) no_variable))
    ∙ ap (λ (x : DeviceVariable). front ++ (x ∷ []) ++ replicate (most_variables - suc k) no_variable) f
    ∙ ap (placed bs) (sym (add-one k))
