-- A refusal by its test, and the fields by what the two calls unpack.
use native.Mathlib.Omega.{arith}
use mathlib.Core.Path.{sym, ap₂, ◌∙◌}
use mathlib.Core.List.{List}
use Prim.Native.Nat.{ℕ}
use lib.ListN.{get_or}
use Rattle.framing.specs.Payload.{carries}
use Rattle.commands.specs.TagDescriptorDate.{day_at, month_at, year_at, reads_fields}
use Rattle.commands.proofs.tag_descriptor_date.Layouts.{read_short, read_whole}
use Rattle.commands.proofs.tag_descriptor_date.read_layout.Goals as goal

pub returns-then-data-lt-LAYOUT_SIZE : goal.returns-then-data-lt-LAYOUT_SIZE
returns-then-data-lt-LAYOUT_SIZE c = sym (read_short c.args.mode c.args.«data».now (omega arith))

pub returns : goal.returns
returns c =
    let a = c.args in
    let bs = a.«data».now in
    ap₂ (λ (x y : List ℕ). reads_fields carries x y (get_or bs day_at 0) (get_or bs month_at 0) (get_or bs year_at 0)) c.unpacked.ensures c.unpacked-2.ensures
    ∙ sym (read_whole a.mode bs (omega arith))
