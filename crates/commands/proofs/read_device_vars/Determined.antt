-- Each promise of this module leaves one outcome.
use mathlib.Core.Path.{◌≡◌, refl, sym, ap, ◌∙◌}
use Rattle.refusal.specs.Outcome.{reply_of}
use Rattle.refusal.specs.Determined.{Determined}
use Rattle.refusal.proofs.Known.{agree, agree_alone, refusal_known, written_known}
use Rattle.std.specs.Prelude.{Result, Ok, Err}
use Rattle.refusal.specs.declared.Refusal.{Refusal}
use Rattle.commands.proofs.Determined.{worth_known}
use Rattle.commands.specs.declared.read_device_vars.ReadDeviceVarsResponse.{ReadDeviceVarsResponse}
use Rattle.commands.specs.Variables.{Variables, reads_variables, variables_of, Codes, reads_codes, codes_of}
use Rattle.commands.proofs.read_device_vars.DeviceVariable.reading.Kinds as device-variable-reading-kinds
use Rattle.commands.proofs.read_device_vars.DeviceVariable.reading.Reads as device-variable-reading-reads
use Rattle.commands.proofs.read_device_vars.encode_data.Kinds as encode-data-kinds
use Rattle.commands.proofs.read_device_vars.encode_data.Reads as encode-data-reads
use Rattle.commands.proofs.read_device_vars.decode_data.Kinds as decode-data-kinds
use Rattle.commands.proofs.read_device_vars.decode_data.Reads as decode-data-reads
use Rattle.commands.proofs.read_device_vars.read_frame.Kinds as read-frame-kinds
use Rattle.commands.proofs.read_device_vars.read_frame.Reads as read-frame-reads
use Rattle.commands.proofs.read_device_vars.read_response.Kinds as read-response-kinds
use Rattle.commands.proofs.read_device_vars.read_response.Reads as read-response-reads
use Rattle.commands.proofs.read_device_vars.read_request_frame.Kinds as read-request-frame-kinds
use Rattle.commands.proofs.read_device_vars.read_request_frame.Reads as read-request-frame-reads
use Rattle.commands.proofs.read_device_vars.read_request.Kinds as read-request-kinds
use Rattle.commands.proofs.read_device_vars.read_request.Reads as read-request-reads
use Rattle.commands.proofs.read_device_vars.encode_response.Kinds as encode-response-kinds
use Rattle.commands.proofs.read_device_vars.encode_response.Reads as encode-response-reads
use Rattle.commands.proofs.read_device_vars.DeviceVariable.encode.Kinds as device-variable-encode-kinds
use Rattle.commands.proofs.read_device_vars.DeviceVariable.encode.Reads as device-variable-encode-reads
use Rattle.commands.specs.declared.read_device_vars.ReadDeviceVarsRequest.{ReadDeviceVarsRequest}

abbrev response : Variables → ReadDeviceVarsResponse
response (reads_variables judgement count variables) = record { count = count; variables = variables }

-- a reading of a response is known by its variables
pub response_known : (r s : Result ReadDeviceVarsResponse Refusal) → variables_of r ≡ variables_of s → r ≡ s
response_known (Ok r) (Ok s) e = ap (λ (v : Variables). Ok (response v)) e
response_known (Ok r) (Err s) e = cc
response_known (Err r) (Ok s) e = cc
response_known (Err r) (Err s) e = ap Err (refusal_known r s (cc) (cc))

abbrev request : Codes → ReadDeviceVarsRequest
request (reads_codes judgement count codes) = record { count = count; codes = codes }

-- and one of a request by its codes
request_known : (r s : Result ReadDeviceVarsRequest Refusal) → codes_of r ≡ codes_of s → r ≡ s
request_known (Ok r) (Ok s) e = ap (λ (c : Codes). Ok (request c)) e
request_known (Ok r) (Err s) e = cc
request_known (Err r) (Ok s) e = cc
request_known (Err r) (Err s) e = ap Err (refusal_known r s (cc) (cc))

pub device_variable_reading : Determined 0 device-variable-reading-kinds.ps device-variable-reading-kinds.r device-variable-reading-reads.Post (λ κs x. tt {0})
device_variable_reading κs a r s x y = λ p q. (worth_known r s (p ∙ sym q), refl)

pub encode_data : Determined 2 encode-data-kinds.ps encode-data-kinds.r encode-data-reads.Post (λ κs x. x.1.0.now)
encode_data κs a r s x y = agree reply_of written_known

pub decode_data : Determined 1 decode-data-kinds.ps decode-data-kinds.r decode-data-reads.Post (λ κs x. tt {0})
decode_data κs a r s x y = λ p q. (response_known r s (p ∙ sym q), refl)

pub read_frame : Determined 1 read-frame-kinds.ps read-frame-kinds.r read-frame-reads.Post (λ κs x. tt {0})
read_frame κs a r s x y = λ p q. (response_known r s (p ∙ sym q), refl)

pub read_response : Determined 0 read-response-kinds.ps read-response-kinds.r read-response-reads.Post (λ κs x. tt {0})
read_response κs a r s x y = λ p q. (response_known r s (p ∙ sym q), refl)

pub device_variable_encode : Determined 0 device-variable-encode-kinds.ps device-variable-encode-kinds.r device-variable-encode-reads.Post (λ κs x. tt {0})
device_variable_encode κs a r s x y = agree_alone

pub read_request_frame : Determined 1 read-request-frame-kinds.ps read-request-frame-kinds.r read-request-frame-reads.Post (λ κs x. tt {0})
read_request_frame κs a r s x y = λ p q. (request_known r s (p ∙ sym q), refl)

pub read_request : Determined 0 read-request-kinds.ps read-request-kinds.r read-request-reads.Post (λ κs x. tt {0})
read_request κs a r s x y = λ p q. (request_known r s (p ∙ sym q), refl)

pub encode_response : Determined 1 encode-response-kinds.ps encode-response-kinds.r encode-response-reads.Post (λ κs x. x.1.1.1.1.1.0.now)
encode_response κs a r s x y = agree reply_of written_known
