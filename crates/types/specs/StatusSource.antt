-- `ResponseStatus` of types.rs written down, with the Rust's own operators and names, in its order, to be held beside it. An index outside
-- an array stops a debug build, and nothing else here could.
use Rattle.std.specs.Prelude.{ℕ, Bool, not, ◌≡◌, List, eqb}
use Rattle.std.specs.Int.Bits.{bit_and}
use contract.Lifetimes.{Lfts}
use denote.Triple.Clauses.{AtExit}
use borrow.Fn.Kinds.{ParamKind, ResultKind, Dens, ended_of, Out, res_t}
use Rattle.octets.specs.Source.{Run, comes, read_at}
use Rattle.types.specs.declared.status.ResponseStatus.{ResponseStatus}

-- `!=`, and `byte & mask != 0`
abbrev pub differs : ℕ → ℕ → Bool
differs a b = not (eqb a b)

abbrev pub has_bit : ℕ → ℕ → Bool
has_bit byte mask = differs (bit_and byte mask) 0

abbrev pub source_from_bytes : List ℕ → Run ResponseStatus
source_from_bytes bytes = read_at bytes 0 (λ first. read_at bytes 1 (λ second. comes (record { byte0 = first; byte1 = second })))

abbrev pub source_has_error : ResponseStatus → Bool
source_has_error self = differs self.byte0 0

abbrev pub source_device_malfunction : ResponseStatus → Bool
source_device_malfunction self = has_bit self.byte1 0x80

abbrev pub source_config_changed : ResponseStatus → Bool
source_config_changed self = has_bit self.byte1 0x40

abbrev pub source_cold_start : ResponseStatus → Bool
source_cold_start self = has_bit self.byte1 0x20

abbrev pub source_more_status_available : ResponseStatus → Bool
source_more_status_available self = has_bit self.byte1 0x10

abbrev pub source_pv_out_of_limits : ResponseStatus → Bool
source_pv_out_of_limits self = has_bit self.byte1 0x08

-- whatever a contract allows a function to answer is what the Rust's function answers of the same arguments
abbrev pub AnswersAs : (n : ℕ) (ps : List (ParamKind n)) (r : ResultKind n) → Out n ps r → ((κs : Lfts n) → Dens κs ps → (res_t r κs).Denot) → Type 0
AnswersAs n ps r post source =
    (κs : Lfts n) (arguments : Dens κs ps) (answer : (res_t r κs).Denot) (exit : AtExit (ended_of n ps r) κs) → post κs arguments answer exit → answer ≡ source κs arguments
