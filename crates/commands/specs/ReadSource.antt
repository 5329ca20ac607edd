-- read_device_id.rs and read_tag_descriptor_date.rs written down, with the Rust's own names, to be held beside them. Their lines that read
-- a response are, but for the struct's name, those of read_unique_id_by_tag.rs and write_tag_descriptor_date.rs, and so are given by
-- what stands for these.
use Rattle.std.specs.Prelude.{ℕ, List, [], ◌∷◌}
use Rattle.refusal.specs.Outcome.{Outcome, ends, done}
use Rattle.octets.specs.Source.{Run, comes}
use Rattle.commands.specs.Identity.{Identified}
use Rattle.commands.specs.IdentitySource.{source_identity}
use Rattle.commands.specs.TagSource.{passed_up}
use Rattle.commands.specs.TagDescriptorDate.{Fields}
use Rattle.commands.specs.TagDescriptorDateSource.{source_read}

-- `encode_data` of both: `Ok(0)`
abbrev pub source_no_data : List ℕ → Run Outcome
source_no_data buf = comes (ends (done (0 ∷ [])) buf)

-- `decode_data` of read_device_id.rs: the identity's ten fields, each copied
abbrev pub source_device_id : List ℕ → Run Identified
source_device_id «data» = passed_up (source_identity «data»)

-- `decode_data` of read_tag_descriptor_date.rs
abbrev pub source_texts_read : List ℕ → Run Fields
source_texts_read «data» = source_read «data»
