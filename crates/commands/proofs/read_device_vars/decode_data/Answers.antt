-- `decode_data` meets its contract.
use native.Mathlib.Omega.{arith}
use mathlib.Core.Path.{◌≡◌, sym, ap, ◌∙◌}
use lib.ListN.{length, drop}
use Rattle.std.specs.Prelude.{Option, None, Result, Err, ok_or}
use Rattle.std.specs.Result.{result_ok}
use Rattle.std.specs.List.{IsFirstAndRest}
use Rattle.std.proofs.lemmas.Option.{MatchOption-at_some, MatchOption-at_none}
use Rattle.std.proofs.lemmas.Result.{err_from_is_err_and}
use Rattle.refusal.specs.declared.Refusal.{Refusal}
use Rattle.refusal.specs.declared.Refusal.TheVariants.{BufferTooShort}
use Rattle.refusal.specs.Table.{number_of, values_of}
use Rattle.packed_string.specs.declared.text_group.Mode.{Mode}
use Rattle.commands.specs.Variables.{variables_refused, groups_read, variables_read}
use Rattle.commands.proofs.read_device_vars.Calls.{crate_reads, standard_reads_none, standard_reads}
use Rattle.commands.proofs.read_device_vars.decode_data.Goals as goal

pub returns-in-Crate : goal.returns-in-Crate
returns-in-Crate c =
    let bs = c.args.«data».now in
    c.decode_groups.ensures ∙ sym (crate_reads bs) ∙ ap (λ (m : Mode). variables_read m bs) (sym c.in-Crate.is)

given_error : {A : Type 0} {o : Option A} {r : Result A Refusal} {d e : Refusal} → r ≡ ok_or o e → o ≡ None → r ≡ Err d → d ≡ e
given_error value none was = cc

pub returns-in_err-groups-in-Standard : goal.returns-in_err-groups-in-Standard
returns-in_err-groups-in-Standard c =
    let bs = c.args.«data».now in
    let o = c.in_err-groups-in-Standard in
    let none : c.split_first.result ≡ None = c.ok_or.ensures.ok_part ∙ ap result_ok o.was in
    let empty : length bs ≡ 0 = MatchOption-at_none _ _ none c.split_first.ensures.cases in
    let short : o.field-0.0 ≡ BufferTooShort = given_error c.ok_or.ensures.value none o.was in
    let p = err_from_is_err_and c.from_residual.result c.from_residual.ensures.1 in
    rw (p.1, p.2)
    (ap (λ (r : Refusal). variables_refused (number_of r) (values_of r)) short
    ∙ sym (standard_reads_none bs (omega arith))
    ∙ ap (λ (m : Mode). variables_read m bs) (sym c.in-Standard.is))

pub returns-in_ok-groups-in-Standard : goal.returns-in_ok-groups-in-Standard
returns-in_ok-groups-in-Standard c =
    let bs = c.args.«data».now in
    let o = c.in_ok-groups-in-Standard in
    let some = c.ok_or.ensures.ok_part ∙ ap result_ok o.was in
    let split : IsFirstAndRest bs _ o.groups.now = MatchOption-at_some _ _ _ some c.split_first.ensures.cases in
    c.decode_groups-in-Standard.ensures
    ∙ ap groups_read (sym (ap (drop 1) split.0))
    ∙ sym (standard_reads bs (omega arith))
    ∙ ap (λ (m : Mode). variables_read m bs) (sym c.in-Standard.is)
