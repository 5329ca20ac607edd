-- read_device_id.rs never stops, and does what document 02 says of command 0: its lines (specs/ReadSource.antt) come to a request without
-- data and to the identity.
use Prim.Native.Nat.{ℕ}
use mathlib.Core.Path.{◌≡◌, refl}
use mathlib.Core.List.{List, []}
use Rattle.refusal.specs.Outcome.{wrote}
use Rattle.octets.specs.Digits.{Below}
use Rattle.octets.specs.Source.{comes}
use Rattle.commands.specs.Identity.{identity}
use Rattle.commands.specs.ReadSource.{source_no_data, source_device_id}
use Rattle.commands.proofs.read_unique_id_by_tag.Source as by-tag

pub encode_is_source : (buf : List ℕ) → source_no_data buf ≡ comes (wrote [] buf)
encode_is_source buf = refl

pub decode_is_source : (bs : List ℕ) → Below 256 bs → source_device_id bs ≡ comes (identity bs)
decode_is_source bs b = by-tag.decode_is_source bs b
