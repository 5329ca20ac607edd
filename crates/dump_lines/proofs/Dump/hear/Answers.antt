-- The step as it settles, with what it ended.
use Prim.Native.Nat.{ℕ}
use native.Mathlib.Omega.{arith}
use mathlib.Core.Path.{◌≡◌, sym, ap, ◌∙◌}
use mathlib.Core.List.{List, []}
use Rattle.line.specs.Events.{Event, silence}
use Rattle.line.specs.declared.state.State.{State}
use Rattle.line.specs.declared.state.State.TheVariants.{Hunting}
use Rattle.line.specs.machine.Feed.{Held, holding, blank, stepped, fresh}
use Rattle.dump_lines.specs.Text.{line_of}
use Rattle.line.specs.machine.Feed.{event_of}
use Rattle.dump_lines.specs.Lines.{totalled, dump, dump_of, next_dump, told}
use Rattle.dump_lines.specs.declared.Totals.{Totals}
use Rattle.dump_lines.proofs.Words.{reworded_on, unwritten_on}
use Rattle.dump_lines.proofs.Along.{still_open, is_over, open_silent}
use Rattle.dump_lines.proofs.Dump.hear.Goals as goal

-- the dump and the line at a byte, from what the byte gives the decoder
module _ (s : State) (bs : List ℕ) (t : Totals) (b : ℕ) {h : Held} {e : Event} (gives : stepped (holding s bs) b ≡ (h, e)) where
  next_is : dump_of h (totalled t e) ≡ next_dump (dump s bs t) b
  next_is = sym (ap (λ (y : Held × Event). dump_of y.0 (totalled t y.1)) gives)

  told_is : line_of t.bytes e ≡ told (dump s bs t) b
  told_is = sym (ap (λ (y : Held × Event). line_of t.bytes y.1) gives)

pub returns-then-goes_on : goal.returns-then-goes_on
returns-then-goes_on c =
    let d = c.args.self.now in
    let st = c.step-moved in
    let open_yet = sym c.goes_on.ensures ∙ c.if-goes_on.true in
    let is : stepped (holding d.state d.bytes) c.args.byte ≡ (holding st.result.state st.new.bytes, silence) = still_open d.state d.bytes c.args.byte st.ensures.value st.ensures.bytes_after open_yet in
    let totals : c.count.new.self ≡ totalled d.totals silence = c.count.ensures [] ∙ ap (totalled d.totals) (open_silent st.result.ended [] open_yet) in
    record {
      dump_after = ap (dump st.result.state st.new.bytes) totals ∙ next_is d.state d.bytes d.totals c.args.byte is;
      writes = reworded_on (told_is d.state d.bytes d.totals c.args.byte is) (unwritten_on c.args.writer.now (omega arith));
    }

pub returns : goal.returns
unfolding blank
returns c =
    let d = c.args.self.now in
    let st = c.step-moved in
    let e : Event = event_of st.result.ended st.new.bytes in
    let is : stepped (holding d.state d.bytes) c.args.byte ≡ (fresh, e) = is_over d.state d.bytes c.args.byte st.ensures.value st.ensures.bytes_after (sym c.goes_on.ensures ∙ c.if-goes_on.false) in
    record {
      dump_after = ap (dump Hunting blank) (c.count.ensures st.new.bytes) ∙ next_is d.state d.bytes d.totals c.args.byte is;
      writes = reworded_on (told_is d.state d.bytes d.totals c.args.byte is) c.line.ensures;
    }
