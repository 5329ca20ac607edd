-- read_tag_descriptor_date.rs never stops, and does what document 02 says of command 13 in crate mode: its lines (specs/ReadSource.antt)
-- come to a request without data and to command 18's layout.
use Prim.Native.Nat.{ℕ}
use mathlib.Core.Path.{◌≡◌, refl}
use mathlib.Core.List.{List, []}
use Rattle.refusal.specs.Outcome.{wrote}
use Rattle.octets.specs.Digits.{Below}
use Rattle.octets.specs.Source.{comes}
use Rattle.packed_string.specs.declared.text_group.Mode.TheVariants.{Crate}
use Rattle.commands.specs.TagDescriptorDate.{fields_read}
use Rattle.commands.specs.ReadSource.{source_no_data, source_texts_read}
use Rattle.commands.proofs.write_tag_descriptor_date.Source as writing

pub encode_is_source : (buf : List ℕ) → source_no_data buf ≡ comes (wrote [] buf)
encode_is_source buf = refl

pub decode_is_source : (bs : List ℕ) → Below 256 bs → source_texts_read bs ≡ comes (fields_read Crate bs)
decode_is_source bs b = writing.decode_is_source bs b
