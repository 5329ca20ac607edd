-- From the bytes of a line to the fields of each command: a frame stands behind whole pieces, and is heard and read, by the host or by a
-- device.
use Prim.Native.Nat.{ℕ}
use mathlib.Core.Path.{◌≡◌, sym, ap, ◌∙◌}
use mathlib.Core.List.{List, ◌++◌}
use lib.ListN.{drop}
use Rattle.std.specs.Prelude.{Some, Result, Ok}
use Rattle.refusal.specs.declared.Refusal.{Refusal}
use Rattle.packed_string.specs.declared.text_group.Mode.{Mode}
use Rattle.line.specs.Layout.{Wire}
use Rattle.line.specs.Pieces.{Piece, frame, Holds, bytes_of, Bytes, joined, AllHold}
use Rattle.types.specs.declared.delimiter.FrameType.{FrameType}
use Rattle.line.specs.machine.Frames.{frame_of, Heard}
use Rattle.line.specs.declared.frame.Frame.{Frame}
use Rattle.framing.specs.Payload.{Reader, typed_of, judgement_of}
use Rattle.framing.specs.Requests.{asked, asked_in, asked_of, no_data}
use Rattle.framing.specs.Responses.{heard_at_check, Responds}
use Rattle.commands.specs.Identity.{identity, identified_of, command0}
use Rattle.commands.specs.Tag.{command11, tagged_of, request11}
use Rattle.commands.specs.Variables.{variables_read, variables_of, command9, codes_of, request9}
use Rattle.commands.specs.TagDescriptorDate.{fields_read, fields_of, command13, command18}
use Rattle.commands.specs.declared.identity.DeviceIdentity.{DeviceIdentity}
use Rattle.commands.specs.declared.read_device_vars.ReadDeviceVarsResponse.{ReadDeviceVarsResponse}
use Rattle.commands.specs.declared.tag_descriptor_date.TagDescriptorDate.{TagDescriptorDate}
use Rattle.commands.specs.declared.read_device_vars.ReadDeviceVarsRequest.{ReadDeviceVarsRequest}
use Rattle.commands.specs.declared.read_unique_id_by_tag.ReadUniqueIdByTagRequest.{ReadUniqueIdByTagRequest}
use Rattle.framing.proofs.Requests.{asked_alone}
use Rattle.framing.proofs.Responses.{heard_at_check_lem, heard_read, heard_asked}
use Rattle.commands.proofs.read_device_id.read_response.Reads as device-id-contract
use Rattle.commands.proofs.read_tag_descriptor_date.read_response.Reads as texts-contract
use Rattle.commands.proofs.read_device_id.read_request.Reads as device-id-request
use Rattle.commands.proofs.read_tag_descriptor_date.read_request.Reads as texts-request
use Rattle.commands.proofs.read_device_vars.read_request.Reads as variables-request
use Rattle.commands.proofs.read_unique_id_by_tag.read_request.Reads as identity-request
use Rattle.commands.proofs.write_tag_descriptor_date.read_request.Reads as fields-request
use Rattle.commands.proofs.read_device_vars.read_response.Reads as variables-contract
use Rattle.commands.proofs.read_unique_id_by_tag.read_response.Reads as identity-contract
use Rattle.commands.proofs.write_tag_descriptor_date.read_response.Reads as fields-contract

-- whatever `read_response` may answer by its contract, asked for the frame that was heard: of a response, the fields on the line
module _ (ps : List Piece) (n : ℕ) (w : Wire) (hold : AllHold ps) (holds : Holds (frame n w)) (bytes : Bytes (joined ps ++ bytes_of (frame n w))) (f : Frame) (heard : heard_at_check ps n w ≡ Ok (Some f)) where
  same : f ≡ frame_of w
  same = let e : ◌≡◌ {A = Heard} (Ok (Some f)) (Ok (Some (frame_of w))) = sym heard ∙ heard_at_check_lem ps n w hold holds bytes in cc

  -- what the line's frame reads as, this one does
  module _ {A : Type 0} (k : Reader A) where
    read_so : Responds k.number w → typed_of k f ≡ k.read (drop 2 w.payload)
    read_so r = ap (typed_of k) same ∙ (heard_read ps n w hold holds bytes k).response r

    asked_so : asked_of k f ≡ asked_in k w.opening.frame_type w.command w.payload
    asked_so = ap (asked_of k) same ∙ (heard_asked ps n w hold holds bytes k).asking

  pub variables_answered : (mode : Mode) (r : Result ReadDeviceVarsResponse Refusal) → Responds (command9 mode).number w → variables-contract.Post tt (mode, (f, tt)) r (mode, (f, tt)) → variables_of r ≡ variables_read mode (drop 2 w.payload)
  variables_answered mode r k promised = promised ∙ read_so (command9 mode) k

  pub identity_answered : (r : Result DeviceIdentity Refusal) → Responds command11.number w → identity-contract.Post tt (f, tt) r (f, tt) → identified_of r ≡ identity (drop 2 w.payload)
  identity_answered r k promised = promised ∙ read_so command11 k

  pub device_id_answered : (r : Result DeviceIdentity Refusal) → Responds command0.number w → device-id-contract.Post tt (f, tt) r (f, tt) → identified_of r ≡ identity (drop 2 w.payload)
  device_id_answered r k promised = promised ∙ read_so command0 k

  pub texts_answered : (mode : Mode) (r : Result TagDescriptorDate Refusal) → Responds (command13 mode).number w → texts-contract.Post tt (mode, (f, tt)) r (mode, (f, tt)) → fields_of r ≡ fields_read mode (drop 2 w.payload)
  texts_answered mode r k promised = promised ∙ read_so (command13 mode) k

  pub fields_answered : (mode : Mode) (r : Result TagDescriptorDate Refusal) → Responds (command18 mode).number w → fields-contract.Post tt (mode, (f, tt)) r (mode, (f, tt)) → fields_of r ≡ fields_read mode (drop 2 w.payload)
  fields_answered mode r k promised = promised ∙ read_so (command18 mode) k

  -- whatever `read_request` may answer by its contract: of a request, what it carries, and 6 of anything else
  abbrev t : FrameType
  t = w.opening.frame_type

  pub device_id_asked : (r : Result (Unit {0}) Refusal) → device-id-request.Post tt (f, tt) r (f, tt) → judgement_of r ≡ asked 0 t w.command
  device_id_asked r promised = promised ∙ asked_so (no_data 0) ∙ asked_alone 0 t w.command w.payload

  pub texts_asked : (r : Result (Unit {0}) Refusal) → texts-request.Post tt (f, tt) r (f, tt) → judgement_of r ≡ asked 13 t w.command
  texts_asked r promised = promised ∙ asked_so (no_data 13) ∙ asked_alone 13 t w.command w.payload

  pub variables_asked : (r : Result ReadDeviceVarsRequest Refusal) → variables-request.Post tt (f, tt) r (f, tt) → codes_of r ≡ asked_in request9 t w.command w.payload
  variables_asked r promised = promised ∙ asked_so request9

  pub identity_asked : (mode : Mode) (r : Result ReadUniqueIdByTagRequest Refusal) → identity-request.Post tt (mode, (f, tt)) r (mode, (f, tt)) → tagged_of r ≡ asked_in (request11 mode) t w.command w.payload
  identity_asked mode r promised = promised ∙ asked_so (request11 mode)

  pub fields_asked : (mode : Mode) (r : Result TagDescriptorDate Refusal) → fields-request.Post tt (mode, (f, tt)) r (mode, (f, tt)) → fields_of r ≡ asked_in (command18 mode) t w.command w.payload
  fields_asked mode r promised = promised ∙ asked_so (command18 mode)
