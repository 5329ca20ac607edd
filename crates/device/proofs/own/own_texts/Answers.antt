-- The tag is the device's, and the rest is the definition's.
use mathlib.Core.Path.{ap}
use mathlib.Core.List.{List}
use Prim.Native.Nat.{ℕ}
use Rattle.commands.specs.declared.tag_descriptor_date.TagDescriptorDate.{TagDescriptorDate}
use Rattle.device.specs.Own.{own_descriptor, own_day, own_month, own_year}
use Rattle.device.proofs.own.own_texts.Goals as goal

texts_of : List ℕ → TagDescriptorDate
texts_of tag = record { tag = tag; descriptor = own_descriptor; day = own_day; month = own_month; year = own_year }

pub returns : goal.returns
unfolding own_descriptor texts_of
returns c = ap texts_of c.own_tag.ensures
