-- read_unique_id_by_tag.rs written down: its three functions with the Rust's own names, in its order, to be held beside it; the lines that
-- read an identity are in IdentitySource.antt. What stops a debug build stops here: an index or a range outside a slice. The Rust's
-- BufferTooSmall is document 01's 2.
use Rattle.std.specs.Prelude.{ℕ, cond, List, [], ◌∷◌, length, replicate, ltb}
use Rattle.refusal.specs.Outcome.{Outcome, ends, done, refuses}
use Rattle.octets.specs.Source.{Run, comes, lent_to, stops, after_call}
use Rattle.packed_string.specs.Source.{source_encoded, source_decoded}
use Rattle.commands.specs.Identity.{Identified, identified, unidentified}
use Rattle.commands.specs.IdentitySource.{source_identity}

-- `encode_data`
abbrev pub source_tag_requested : List ℕ → List ℕ → Run Outcome
source_tag_requested tag buf =
    cond (ltb (length buf) 6) (comes (refuses 2 [] buf)) (lent_to buf 0 6 (source_encoded tag) (λ buf₁. comes (ends (done (6 ∷ [])) buf₁)))

-- the response is the identity's ten fields, each copied; an error is passed on by `?`
abbrev pub copied : Identified → Identified
copied (identified id) = identified record {
  expansion_code = id.expansion_code;
  expanded_device_type = id.expanded_device_type;
  min_preamble_count = id.min_preamble_count;
  hart_revision = id.hart_revision;
  device_revision = id.device_revision;
  software_revision = id.software_revision;
  hardware_revision = id.hardware_revision;
  physical_signaling = id.physical_signaling;
  flags = id.flags;
  device_id = id.device_id;
}
copied (unidentified number values) = unidentified number values

-- `decode_data`
abbrev pub passed_up : Run Identified → Run Identified
passed_up stops = stops
passed_up (comes read) = comes (copied read)

abbrev pub source_response : List ℕ → Run Identified
source_response «data» = passed_up (source_identity «data»)

-- `decode_tag`
abbrev pub source_tag : List ℕ → Run (List ℕ)
source_tag packed = after_call (source_decoded packed (replicate 8 0x20)) comes
