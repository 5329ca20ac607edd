-- A turn takes a byte while the longest line has room. Where the loop stops, all that is to be taken is taken.
use Rattle.std.proofs.Common.{◌+◌, length, refl, sym, ◌∙◌, arith, rules}
use borrow.Author.Tests.{leb-true, leb-false}
use Rattle.dump_lines.specs.Text.{line_max}
use Rattle.dump_lines.proofs.Along.{took_more, took_all, took_dump, took_text}
use Rattle.dump_lines.proofs.Dump.take.Goals as goal

pub returns-then-not-has_room-clause-value : goal.returns-then-not-has_room-clause-value
returns-then-not-has_room-clause-value c =
    let l = c.loop-used in
    took_all l.invariant refl (λ h. leb-false (l.writer.at + line_max) (length l.writer.out.now) (sym c.has_room.ensures ∙ c.if-not-has_room.true))

pub returns-then-not-has_room-clause-dump_after : goal.returns-then-not-has_room-clause-dump_after
returns-then-not-has_room-clause-dump_after c =
    let l = c.loop-used in
    took_dump l.invariant refl (λ h. leb-false (l.writer.at + line_max) (length l.writer.out.now) (sym c.has_room.ensures ∙ c.if-not-has_room.true))

pub returns-then-not-has_room-clause-out_after : goal.returns-then-not-has_room-clause-out_after
returns-then-not-has_room-clause-out_after c =
    let l = c.loop-used in
    let text = took_text l.invariant refl (λ h. leb-false (l.writer.at + line_max) (length l.writer.out.now) (sym c.has_room.ensures ∙ c.if-not-has_room.true)) in
    search (rules, text)

pub loop-used-preserved : goal.loop-used-preserved
loop-used-preserved c =
    let l = c.loop-used in
    took_more l.invariant (omega arith) (leb-true (l.writer.at + line_max) (length l.writer.out.now) (sym c.has_room.ensures ∙ c.if-not-has_room.false)) c.hear.ensures.dump_after c.hear.ensures.writes
