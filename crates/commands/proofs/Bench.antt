-- The test bench, command by command: what one side's call wrote is encoded, heard by a new decoder of the other side, and whatever its
-- reader may answer by its contract, asked for the frame that was heard, is the fields that were written. The first status byte is 0; the
-- second and the extended one may be any.
use Prim.Native.Nat.{ℕ, ◌-◌, ◌≤◌}
use mathlib.Core.Path.{◌≡◌, ◌∙◌}
use mathlib.Core.Logic.{◌≢◌}
use mathlib.Core.List.{List, [], ◌∷◌, ◌++◌}
use lib.ListN.{length, take, replicate}
use Rattle.refusal.specs.Outcome.{wrote}
use Rattle.refusal.proofs.Leaves.{leaves_wrote}
use Rattle.packed_string.specs.declared.text_group.Mode.{Mode}
use Rattle.packed_string.specs.declared.text_group.Mode.TheVariants.{Standard}
use Rattle.packed_string.specs.Modes.{packed_text}
use Rattle.packed_string.specs.Plain.{Plain}
use Rattle.types.specs.declared.delimiter.FrameType.TheVariants.{Request}
use Rattle.line.specs.machine.Frames.{padded}
use Rattle.line.specs.declared.frame.Frame.{Frame}
use Rattle.std.specs.Prelude.{Result}
use Rattle.refusal.specs.declared.Refusal.{Refusal}
use Rattle.framing.specs.Payload.{carries, judgement_of}
use Rattle.framing.specs.Requests.{no_data}
use Rattle.framing.specs.RoundTrip.{Handed, frame_back}
use Rattle.framing.specs.Bench.{Sent}
use Rattle.framing.proofs.Bench.{bench_answered, bench_asked}
use Rattle.response.specs.Sizes.{tag_length, descriptor_length, most_variables}
use Rattle.commands.specs.declared.identity.DeviceIdentity.{DeviceIdentity}
use Rattle.commands.specs.declared.read_device_vars.DeviceVariable.{DeviceVariable}
use Rattle.commands.specs.declared.read_device_vars.ReadDeviceVarsRequest.{ReadDeviceVarsRequest}
use Rattle.commands.specs.declared.read_device_vars.ReadDeviceVarsResponse.{ReadDeviceVarsResponse}
use Rattle.commands.specs.declared.read_unique_id_by_tag.ReadUniqueIdByTagRequest.{ReadUniqueIdByTagRequest}
use Rattle.commands.specs.declared.tag_descriptor_date.TagDescriptorDate.{TagDescriptorDate}
use Rattle.commands.specs.Identity.{lowered_bytes, lowered, identified, identified_of, command0}
use Rattle.commands.specs.Tag.{tag_requested, command11, reads_tag, tagged_of, request11}
use Rattle.commands.specs.TagDescriptorDate.{tag_descriptor_date_layout, tag_descriptor_date_requested, reads_fields, fields_of, command13, command18}
use Rattle.commands.specs.Variables.{no_variable, codes_requested, reads_variables, variables_of, command9, reads_codes, codes_of, request9}
use Rattle.commands.specs.Responses.{identity_responded, groups_bytes, variables_responded, tag_descriptor_date_responded, AllLined}
use Rattle.commands.proofs.Leaves.{codes_leaves, tag_leaves, identity_leaves, variables_leaves, date_leaves, texts_leaves}
use Rattle.commands.proofs.ReadBack.{request_read_9, request_read_11, texts_read, identity_read_lowered, response_read_9}
use Rattle.commands.proofs.read_device_id.read_request.Reads as request_0
use Rattle.commands.proofs.read_device_id.read_response.Reads as response-0
use Rattle.commands.proofs.read_device_vars.read_request.Reads as request-9
use Rattle.commands.proofs.read_device_vars.read_response.Reads as response-9
use Rattle.commands.proofs.read_unique_id_by_tag.read_request.Reads as request-11
use Rattle.commands.proofs.read_unique_id_by_tag.read_response.Reads as response-11
use Rattle.commands.proofs.read_tag_descriptor_date.read_request.Reads as request-13
use Rattle.commands.proofs.read_tag_descriptor_date.read_response.Reads as response-13
use Rattle.commands.proofs.write_tag_descriptor_date.read_request.Reads as request-18
use Rattle.commands.proofs.write_tag_descriptor_date.read_response.Reads as response-18

module _ (h : Handed) where
  abbrev frame : Frame
  frame = frame_back h

  module _ {count : ℕ} {after : List ℕ} where
    -- the device answers, and the host reads
    module _ (second : ℕ) (other : h.frame_type ≢ Request) where
      module _ (i : DeviceIdentity) (sent : Sent (identity_responded 0 second i) h count after) where
        pub bench_answered_0 : h.command ≡ 0 → (r : Result DeviceIdentity Refusal) → response-0.Post tt (frame, tt) r (frame, tt) → identified_of r ≡ identified (lowered i)
        bench_answered_0 asked r promised = promised ∙ (bench_answered sent command0 asked second (lowered_bytes i) (identity_leaves 0 second i) other).read ∙ identity_read_lowered i

        pub bench_answered_11 : h.command ≡ 11 → (r : Result DeviceIdentity Refusal) → response-11.Post tt (frame, tt) r (frame, tt) → identified_of r ≡ identified (lowered i)
        bench_answered_11 asked r promised = promised ∙ (bench_answered sent command11 asked second (lowered_bytes i) (identity_leaves 0 second i) other).read ∙ identity_read_lowered i

      pub bench_answered_9 : (extended : ℕ) (vs : List DeviceVariable) (n : ℕ) → n ≤ length vs → n ≤ most_variables → AllLined vs n → Sent (variables_responded 0 second extended vs n) h count after → h.command ≡ 9
          → (r : Result ReadDeviceVarsResponse Refusal) → response-9.Post tt (Standard, (frame, tt)) r (Standard, (frame, tt)) → variables_of r ≡ reads_variables carries n (take n vs ++ replicate (most_variables - n) no_variable)
      bench_answered_9 extended vs n there few lined sent asked r promised =
          promised ∙ (bench_answered sent (command9 Standard) asked second (extended ∷ groups_bytes vs n) (variables_leaves 0 second extended vs n) other).read ∙ response_read_9 vs extended n there few lined

      module _ (mode : Mode) (tag descriptor : List ℕ) (day month year : ℕ) (t : length tag ≡ tag_length) (d : length descriptor ≡ descriptor_length) (p : Plain tag) (q : Plain descriptor)
          (sent : Sent (tag_descriptor_date_responded mode 0 second tag descriptor day month year) h count after) where
        abbrev layout : List ℕ
        layout = tag_descriptor_date_layout mode tag descriptor day month year

        pub bench_answered_13 : h.command ≡ 13 → (r : Result TagDescriptorDate Refusal) → response-13.Post tt (mode, (frame, tt)) r (mode, (frame, tt)) → fields_of r ≡ reads_fields carries tag descriptor day month year
        bench_answered_13 asked r promised =
            promised ∙ (bench_answered sent (command13 mode) asked second layout (texts_leaves mode tag descriptor day month year 0 second) other).read ∙ texts_read mode tag descriptor day month year t d p q

        pub bench_answered_18 : h.command ≡ 18 → (r : Result TagDescriptorDate Refusal) → response-18.Post tt (mode, (frame, tt)) r (mode, (frame, tt)) → fields_of r ≡ reads_fields carries tag descriptor day month year
        bench_answered_18 asked r promised =
            promised ∙ (bench_answered sent (command18 mode) asked second layout (texts_leaves mode tag descriptor day month year 0 second) other).read ∙ texts_read mode tag descriptor day month year t d p q

    -- the host asks, and the device reads
    module _ (same : h.frame_type ≡ Request) where
      module _ (sent : Sent (wrote []) h count after) where
        pub bench_asked_0 : h.command ≡ 0 → (r : Result (Unit {0}) Refusal) → request_0.Post tt (frame, tt) r (frame, tt) → judgement_of r ≡ carries
        bench_asked_0 asked r promised = promised ∙ (bench_asked sent (no_data 0) asked [] (leaves_wrote []) same).read

        pub bench_asked_13 : h.command ≡ 13 → (r : Result (Unit {0}) Refusal) → request-13.Post tt (frame, tt) r (frame, tt) → judgement_of r ≡ carries
        bench_asked_13 asked r promised = promised ∙ (bench_asked sent (no_data 13) asked [] (leaves_wrote []) same).read

      pub bench_asked_9 : (codes : List ℕ) → 1 ≤ length codes → length codes ≤ most_variables → Sent (codes_requested codes) h count after → h.command ≡ 9
          → (r : Result ReadDeviceVarsRequest Refusal) → request-9.Post tt (frame, tt) r (frame, tt) → codes_of r ≡ reads_codes carries (length codes) (padded most_variables codes)
      bench_asked_9 codes some few sent asked r promised = promised ∙ (bench_asked sent request9 asked codes (codes_leaves codes) same).read ∙ request_read_9 codes some few

      pub bench_asked_11 : (mode : Mode) (tag : List ℕ) → length tag ≡ tag_length → Plain tag → Sent (tag_requested mode tag) h count after → h.command ≡ 11
          → (r : Result ReadUniqueIdByTagRequest Refusal) → request-11.Post tt (mode, (frame, tt)) r (mode, (frame, tt)) → tagged_of r ≡ reads_tag carries tag
      bench_asked_11 mode tag t p sent asked r promised = promised ∙ (bench_asked sent (request11 mode) asked (packed_text mode tag) (tag_leaves mode tag) same).read ∙ request_read_11 mode tag t p

      pub bench_asked_18 : (mode : Mode) (tag descriptor : List ℕ) (day month year : ℕ) → length tag ≡ tag_length → length descriptor ≡ descriptor_length → Plain tag → Plain descriptor
          → Sent (tag_descriptor_date_requested mode tag descriptor day month year) h count after → h.command ≡ 18
          → (r : Result TagDescriptorDate Refusal) → request-18.Post tt (mode, (frame, tt)) r (mode, (frame, tt)) → fields_of r ≡ reads_fields carries tag descriptor day month year
      bench_asked_18 mode tag descriptor day month year t d p q sent asked r promised =
          promised
          ∙ (bench_asked sent (command18 mode) asked (tag_descriptor_date_layout mode tag descriptor day month year) (date_leaves mode tag descriptor day month year) same).read
          ∙ texts_read mode tag descriptor day month year t d p q
