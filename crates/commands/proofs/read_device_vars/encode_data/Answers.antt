-- The codes are copied to the front of the buffer.
use native.Mathlib.Omega.{arith}
use mathlib.Core.Path.{refl, sym, ◌∙◌}
use Rattle.octets.proofs.Put.{put_fitting, put-wrote}
use Rattle.commands.proofs.read_device_vars.Calls.{requests_too_many, requests_no_room, requests}
use Rattle.commands.proofs.read_device_vars.encode_data.Goals as goal

pub returns-then-slot_codes-gt-MAX_DEVICE_VARS : goal.returns-then-slot_codes-gt-MAX_DEVICE_VARS
returns-then-slot_codes-gt-MAX_DEVICE_VARS c = let a = c.args in sym (requests_too_many a.slot_codes.now a.buf.now (omega arith))

pub returns-then-buf-slot_codes : goal.returns-then-buf-slot_codes
returns-then-buf-slot_codes c = let a = c.args in sym (requests_no_room a.slot_codes.now a.buf.now (omega arith) (omega arith))

pub returns : goal.returns
returns c =
    let a = c.args in
    let codes = a.slot_codes.now in
    let l = a.buf.now in
    put-wrote l codes (c.copy_into.ensures ∙ put_fitting l 0 codes (omega arith)) refl
    ∙ sym (requests codes l (omega arith) (omega arith))
