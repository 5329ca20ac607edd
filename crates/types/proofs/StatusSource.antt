-- The Rust's lines of the response status answer what ours promise. Each statement is of the contract in status.rt itself: whatever answer
-- it allows is the one that the Rust's function gives of the same status, for bytes and any other numbers.
use Prim.Native.Nat.{ℕ, zero, suc, ◌+◌, ◌*◌, ◌-◌, ◌/◌, ◌%◌, ◌^◌, ◌<◌}
use native.Mathlib.Omega.{arith}
use native.Mathlib.Nat.{mod-lt}
use mathlib.Core.Path.{◌≡◌, sym, ap, ◌∙◌}
use mathlib.Core.Bool.{not}
use lib.Bits.{and_high}
use lib.Pow.{pow_pos, pow-add}
use lib.Dec.{eqb, lit<}
use lib.ListN.{length}
use borrow.Author.Tests.{eq-eqb, ne_eqb, lt-ltb}
use contract.Lifetimes.{Lfts}
use denote.Triple.Clauses.{AtExit}
use borrow.Fn.Kinds.{Dens, ended_of}
use Rattle.octets.specs.Bit.{bit}
use Rattle.octets.specs.Source.{comes}
use Rattle.types.specs.declared.status.ResponseStatus.{ResponseStatus}
use Rattle.types.specs.StatusSource.{
  has_bit,
  source_from_bytes,
  source_has_error,
  source_device_malfunction,
  source_config_changed,
  source_cold_start,
  source_more_status_available,
  source_pv_out_of_limits,
  AnswersAs,
}
use Rattle.types.proofs.status.ResponseStatus.from_bytes.Kinds as from-bytes-kinds
use Rattle.types.proofs.status.ResponseStatus.from_bytes.Reads as from-bytes-reads
use Rattle.types.proofs.status.ResponseStatus.has_error.Kinds as has-error-kinds
use Rattle.types.proofs.status.ResponseStatus.has_error.Reads as has-error-reads
use Rattle.types.proofs.status.ResponseStatus.device_malfunction.Kinds as device-malfunction-kinds
use Rattle.types.proofs.status.ResponseStatus.device_malfunction.Reads as device-malfunction-reads
use Rattle.types.proofs.status.ResponseStatus.config_changed.Kinds as config-changed-kinds
use Rattle.types.proofs.status.ResponseStatus.config_changed.Reads as config-changed-reads
use Rattle.types.proofs.status.ResponseStatus.cold_start.Kinds as cold-start-kinds
use Rattle.types.proofs.status.ResponseStatus.cold_start.Reads as cold-start-reads
use Rattle.types.proofs.status.ResponseStatus.more_status_available.Kinds as more-status-available-kinds
use Rattle.types.proofs.status.ResponseStatus.more_status_available.Reads as more-status-available-reads
use Rattle.types.proofs.status.ResponseStatus.pv_out_of_limits.Kinds as pv-out-of-limits-kinds
use Rattle.types.proofs.status.ResponseStatus.pv_out_of_limits.Reads as pv-out-of-limits-reads

one_bit : (m p : ℕ) → m < 2 → 0 < p → not (eqb (m * p) 0) ≡ eqb m 1
one_bit zero p h k = rw (eq-eqb (0 * p) 0 (omega arith))
one_bit (suc zero) p h k = rw (ne_eqb (1 * p) 0 (omega arith))
one_bit (suc (suc m)) p h k = absurd (omega arith)

-- `b & mask != 0`, with a mask of bit k alone, asks for bit k
pub masked_bit : (k b : ℕ) → has_bit b (2 ^ k) ≡ bit k b
masked_bit k b =
    let alone : 2 ^ (1 + k) - 2 ^ k ≡ 2 ^ k = omega (arith, pow-add 2 1 k) in
    ap (has_bit b) (sym alone) ∙ rw (and_high b 1 k) (one_bit (b / 2 ^ k % 2) (2 ^ k) (mod-lt (b / 2 ^ k) (lit< tt)) (pow_pos k))

pub from_bytes_is_source : (κs : Lfts 0) (arguments : Dens κs from-bytes-kinds.ps) (answer : ResponseStatus) (exit : AtExit (ended_of 0 from-bytes-kinds.ps from-bytes-kinds.r) κs)
    → length arguments.0 ≡ 2 → from-bytes-reads.Post κs arguments answer exit → source_from_bytes arguments.0 ≡ comes answer
from_bytes_is_source κs arguments answer exit two post =
    rw (lt-ltb 0 (length arguments.0) (omega (arith, two)), lt-ltb 1 (length arguments.0) (omega (arith, two))) (ap comes (sym post))

pub has_error_is_source : AnswersAs 0 has-error-kinds.ps has-error-kinds.r has-error-reads.Post (λ κs arguments. source_has_error arguments.0)
has_error_is_source κs arguments answer exit post = post

pub device_malfunction_is_source : AnswersAs 0 device-malfunction-kinds.ps device-malfunction-kinds.r device-malfunction-reads.Post (λ κs arguments. source_device_malfunction arguments.0)
device_malfunction_is_source κs arguments answer exit post = post ∙ sym (masked_bit 7 arguments.0.byte1)

pub config_changed_is_source : AnswersAs 0 config-changed-kinds.ps config-changed-kinds.r config-changed-reads.Post (λ κs arguments. source_config_changed arguments.0)
config_changed_is_source κs arguments answer exit post = post ∙ sym (masked_bit 6 arguments.0.byte1)

pub cold_start_is_source : AnswersAs 0 cold-start-kinds.ps cold-start-kinds.r cold-start-reads.Post (λ κs arguments. source_cold_start arguments.0)
cold_start_is_source κs arguments answer exit post = post ∙ sym (masked_bit 5 arguments.0.byte1)

pub more_status_available_is_source : AnswersAs 0 more-status-available-kinds.ps more-status-available-kinds.r more-status-available-reads.Post (λ κs arguments. source_more_status_available arguments.0)
more_status_available_is_source κs arguments answer exit post = post ∙ sym (masked_bit 4 arguments.0.byte1)

pub pv_out_of_limits_is_source : AnswersAs 0 pv-out-of-limits-kinds.ps pv-out-of-limits-kinds.r pv-out-of-limits-reads.Post (λ κs arguments. source_pv_out_of_limits arguments.0)
pv_out_of_limits_is_source κs arguments answer exit post = post ∙ sym (masked_bit 3 arguments.0.byte1)
