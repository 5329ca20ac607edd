-- Document 01, 'Commands': command 9; and document 02, 1/12: its request as a device reads it.
use Rattle.std.specs.Prelude.{ℕ, zero, suc, ◌+◌, ◌*◌, ◌-◌, ◌/◌, min, cond, List, [], ◌∷◌, ◌++◌, length, get_or, take, drop, replicate, ltb, Result, Ok, Err}
use Rattle.refusal.specs.declared.Refusal.{Refusal}
use Rattle.refusal.specs.Table.{number_of, values_of}
use Rattle.refusal.specs.Outcome.{Outcome, wrote, refuses}
use Rattle.octets.specs.Digits.{digits, from_digits}
use Rattle.packed_string.specs.declared.text_group.Mode.{Mode}
use Rattle.packed_string.specs.declared.text_group.Mode.TheVariants.{Crate, Standard}
use Rattle.framing.specs.Payload.{Judgement, carries, withheld, Reader}
use Rattle.line.specs.machine.Frames.{padded}
use Rattle.response.specs.Sizes.{most_variables, group_size}
use Rattle.commands.specs.Worth.{float_of}
use Rattle.commands.specs.declared.read_device_vars.DeviceVariable.{DeviceVariable}
use Rattle.commands.specs.declared.read_device_vars.ReadDeviceVarsRequest.{ReadDeviceVarsRequest}
use Rattle.commands.specs.declared.read_device_vars.ReadDeviceVarsResponse.{ReadDeviceVarsResponse}

-- The request is 0 to 8 codes: more get 1, and after that a buffer with fewer bytes than codes gets 2.
unfoldable pub codes_requested : List ℕ → List ℕ → Outcome
codes_requested codes buffer =
    cond (ltb most_variables (length codes)) (refuses 1 [] buffer)
    (cond (ltb (length buffer) (length codes)) (refuses 2 [] buffer)
    (wrote codes buffer))

-- a variable's code, class, unit, the bits of its float and its status; the value is the float of those bits
abbrev pub variable : ℕ → ℕ → ℕ → ℕ → ℕ → DeviceVariable
variable code class unit bits status = record {
  device_var_code = code;
  classification = class;
  unit = unit;
  value = float_of bits;
  bits = bits;
  status = status;
}

-- the group of eight bytes at a place: code, class, unit, the float high byte first, status
abbrev pub variable_at : List ℕ → ℕ → DeviceVariable
variable_at bs base =
    variable (get_or bs base 0) (get_or bs (base + 1) 0) (get_or bs (base + 2) 0)
    (from_digits 256 (get_or bs (base + 3) 0 ∷ get_or bs (base + 4) 0 ∷ get_or bs (base + 5) 0 ∷ get_or bs (base + 6) 0 ∷ []))
    (get_or bs (base + 7) 0)

-- the same layout from a variable to its bytes
abbrev pub group_bytes : DeviceVariable → List ℕ
group_bytes v = (v.device_var_code ∷ v.classification ∷ v.unit ∷ digits 256 4 v.bits) ++ (v.status ∷ [])

-- the whole groups in n bytes, of which no more than eight are read
abbrev pub groups_of : ℕ → ℕ
groups_of n = min (n / group_size) most_variables

abbrev pub first_variables : List ℕ → ℕ → List DeviceVariable
first_variables bs zero = []
first_variables bs (suc k) = first_variables bs k ++ (variable_at bs (k * group_size) ∷ [])

-- what stands where there is no variable
abbrev pub no_variable : DeviceVariable
no_variable = variable 0 0 0 0 0

-- what reading a response comes to: carried or refused, how many variables, and eight of them
pub data Variables : Type 0 where
  reads_variables : Judgement → ℕ → List DeviceVariable → Variables

abbrev pub groups_read : List ℕ → Variables
groups_read bs = let n = groups_of (length bs) in reads_variables carries n (first_variables bs n ++ replicate (most_variables - n) no_variable)

abbrev pub no_variables_read : Judgement → Variables
no_variables_read judgement = reads_variables judgement 0 (replicate most_variables no_variable)

abbrev pub variables_refused : ℕ → List ℕ → Variables
variables_refused number values = no_variables_read (withheld number values)

abbrev pub variables_of : Result ReadDeviceVarsResponse Refusal → Variables
variables_of (Ok r) = reads_variables carries r.count r.variables
variables_of (Err r) = variables_refused (number_of r) (values_of r)

-- In the Rust's reading the groups begin at the first byte, and nothing is refused. In the standard one they begin behind a byte of
-- extended status, and a payload that has not even this byte is refused with 3.
unfoldable pub variables_read : Mode → List ℕ → Variables
variables_read Crate bs = groups_read bs
variables_read Standard bs = cond (ltb (length bs) 1) (variables_refused 3 []) (groups_read (drop 1 bs))

abbrev pub command9 : Mode → Reader Variables
command9 mode = record { number = 9; read = variables_read mode; refuse = variables_refused }

-- what reading a request comes to: carried or refused, how many codes, and eight bytes of them, zeros behind the last
pub data Codes : Type 0 where
  reads_codes : Judgement → ℕ → List ℕ → Codes

abbrev pub no_codes_read : Judgement → Codes
no_codes_read judgement = reads_codes judgement 0 (replicate most_variables 0)

abbrev pub codes_refused : ℕ → List ℕ → Codes
codes_refused number values = no_codes_read (withheld number values)

abbrev pub codes_of : Result ReadDeviceVarsRequest Refusal → Codes
codes_of (Ok r) = reads_codes carries r.count r.codes
codes_of (Err r) = codes_refused (number_of r) (values_of r)

-- 3 without a code; the first eight count
unfoldable pub codes_read : List ℕ → Codes
codes_read bs = cond (ltb (length bs) 1) (codes_refused 3 []) (reads_codes carries (min most_variables (length bs)) (padded most_variables (take most_variables bs)))

abbrev pub request9 : Reader Codes
request9 = record { number = 9; read = codes_read; refuse = codes_refused }
