-- Each promise of this module leaves one outcome.
use mathlib.Core.Path.{refl, sym, ◌∙◌}
use Rattle.refusal.specs.Outcome.{reply_of}
use Rattle.refusal.specs.Determined.{Determined}
use Rattle.refusal.proofs.Known.{agree, written_known}
use Rattle.framing.proofs.Determined.{verdict_known}
use Rattle.commands.proofs.Determined.{fields_known}
use Rattle.commands.proofs.read_tag_descriptor_date.encode_data.Kinds as encode-data-kinds
use Rattle.commands.proofs.read_tag_descriptor_date.encode_data.Reads as encode-data-reads
use Rattle.commands.proofs.read_tag_descriptor_date.decode_data.Kinds as decode-data-kinds
use Rattle.commands.proofs.read_tag_descriptor_date.decode_data.Reads as decode-data-reads
use Rattle.commands.proofs.read_tag_descriptor_date.read_frame.Kinds as read-frame-kinds
use Rattle.commands.proofs.read_tag_descriptor_date.read_frame.Reads as read-frame-reads
use Rattle.commands.proofs.read_tag_descriptor_date.read_response.Kinds as read-response-kinds
use Rattle.commands.proofs.read_tag_descriptor_date.read_response.Reads as read-response-reads
use Rattle.commands.proofs.read_tag_descriptor_date.read_request_frame.Kinds as read-request-frame-kinds
use Rattle.commands.proofs.read_tag_descriptor_date.read_request_frame.Reads as read-request-frame-reads
use Rattle.commands.proofs.read_tag_descriptor_date.read_request.Kinds as read-request-kinds
use Rattle.commands.proofs.read_tag_descriptor_date.read_request.Reads as read-request-reads
use Rattle.commands.proofs.read_tag_descriptor_date.encode_response.Kinds as encode-response-kinds
use Rattle.commands.proofs.read_tag_descriptor_date.encode_response.Reads as encode-response-reads

pub encode_data : Determined 1 encode-data-kinds.ps encode-data-kinds.r encode-data-reads.Post (λ κs x. x.0.now)
encode_data κs a r s x y = agree reply_of written_known

pub decode_data : Determined 1 decode-data-kinds.ps decode-data-kinds.r decode-data-reads.Post (λ κs x. tt {0})
decode_data κs a r s x y = λ p q. (fields_known r s (p ∙ sym q), refl)

pub read_frame : Determined 1 read-frame-kinds.ps read-frame-kinds.r read-frame-reads.Post (λ κs x. tt {0})
read_frame κs a r s x y = λ p q. (fields_known r s (p ∙ sym q), refl)

pub read_response : Determined 0 read-response-kinds.ps read-response-kinds.r read-response-reads.Post (λ κs x. tt {0})
read_response κs a r s x y = λ p q. (fields_known r s (p ∙ sym q), refl)

pub read_request_frame : Determined 0 read-request-frame-kinds.ps read-request-frame-kinds.r read-request-frame-reads.Post (λ κs x. tt {0})
read_request_frame κs a r s x y = λ p q. (verdict_known r s (p ∙ sym q), refl)

pub read_request : Determined 0 read-request-kinds.ps read-request-kinds.r read-request-reads.Post (λ κs x. tt {0})
read_request κs a r s x y = λ p q. (verdict_known r s (p ∙ sym q), refl)

pub encode_response : Determined 1 encode-response-kinds.ps encode-response-kinds.r encode-response-reads.Post (λ κs x. x.1.1.1.1.0.now)
encode_response κs a r s x y = agree reply_of written_known
