-- Each promise of this crate leaves one outcome: the answer, the payload and the place reached.
use mathlib.Core.Path.{◌≡◌, refl, sym, ap, ap₂, ◌∙◌}
use mathlib.Core.List.{List}
use Prim.Native.Nat.{ℕ}
use denote.Ref.{MutBor}
use Rattle.refusal.specs.Determined.{Determined, DeterminedLent}
use Rattle.std.specs.Prelude.{Result, Ok, Err}
use Rattle.refusal.specs.declared.Refusal.{Refusal}
use Rattle.refusal.specs.Outcome.{reply_of}
use Rattle.refusal.proofs.Known.{refusal_known, written_known, agree, agree_alone, agree_lent}
use Rattle.response.specs.Field.{Placing, placing}
use Rattle.response.proofs.field.Field.status.Kinds as field-status-kinds
use Rattle.response.proofs.field.Field.status.Reads as field-status-reads
use Rattle.response.proofs.field.Field.extended_status.Kinds as field-extended-status-kinds
use Rattle.response.proofs.field.Field.extended_status.Reads as field-extended-status-reads
use Rattle.response.proofs.field.Field.group.Kinds as field-group-kinds
use Rattle.response.proofs.field.Field.group.Reads as field-group-reads
use Rattle.response.proofs.field.Field.identity.Kinds as field-identity-kinds
use Rattle.response.proofs.field.Field.identity.Reads as field-identity-reads
use Rattle.response.proofs.field.Field.tag.Kinds as field-tag-kinds
use Rattle.response.proofs.field.Field.tag.Reads as field-tag-reads
use Rattle.response.proofs.field.Field.descriptor.Kinds as field-descriptor-kinds
use Rattle.response.proofs.field.Field.descriptor.Reads as field-descriptor-reads
use Rattle.response.proofs.field.Field.date.Kinds as field-date-kinds
use Rattle.response.proofs.field.Field.date.Reads as field-date-reads
use Rattle.response.proofs.writer.ResponseFields.new.Kinds as response-fields-new-kinds
use Rattle.response.proofs.writer.ResponseFields.new.Reads as response-fields-new-reads
use Rattle.response.proofs.writer.ResponseFields.with.Kinds as response-fields-with-kinds
use Rattle.response.proofs.writer.ResponseFields.with.Reads as response-fields-with-reads
use Rattle.response.proofs.field.put_field.Kinds as put-field-kinds
use Rattle.response.proofs.field.put_field.Reads as put-field-reads
use Rattle.response.proofs.whole.write_response.Kinds as write-response-kinds
use Rattle.response.proofs.whole.write_response.Reads as write-response-reads
use Rattle.response.specs.contracts.writer.ResponseWriter.new as response-writer-new-contract
use Rattle.response.specs.contracts.writer.ResponseWriter.push as response-writer-push-contract

pub field_status : Determined 0 field-status-kinds.ps field-status-kinds.r field-status-reads.Post (λ κs x. tt {0})
field_status κs a r s x y = agree_alone

pub field_extended_status : Determined 0 field-extended-status-kinds.ps field-extended-status-kinds.r field-extended-status-reads.Post (λ κs x. tt {0})
field_extended_status κs a r s x y = agree_alone

pub field_group : Determined 0 field-group-kinds.ps field-group-kinds.r field-group-reads.Post (λ κs x. tt {0})
field_group κs a r s x y = agree_alone

pub field_identity : Determined 0 field-identity-kinds.ps field-identity-kinds.r field-identity-reads.Post (λ κs x. tt {0})
field_identity κs a r s x y = agree_alone

pub field_tag : Determined 0 field-tag-kinds.ps field-tag-kinds.r field-tag-reads.Post (λ κs x. tt {0})
field_tag κs a r s x y = agree_alone

pub field_descriptor : Determined 0 field-descriptor-kinds.ps field-descriptor-kinds.r field-descriptor-reads.Post (λ κs x. tt {0})
field_descriptor κs a r s x y = agree_alone

pub field_date : Determined 0 field-date-kinds.ps field-date-kinds.r field-date-reads.Post (λ κs x. tt {0})
field_date κs a r s x y = agree_alone

pub response_fields_new : Determined 0 response-fields-new-kinds.ps response-fields-new-kinds.r response-fields-new-reads.Post (λ κs x. tt {0})
response_fields_new κs a r s x y = agree_alone

pub response_fields_with : Determined 0 response-fields-with-kinds.ps response-fields-with-kinds.r response-fields-with-reads.Post (λ κs x. tt {0})
response_fields_with κs a r s x y = agree_alone

-- an answer is known by what it comes to at the place that was given
placed_known : (at : ℕ) (r s : Result ℕ Refusal) {b c : List ℕ} {o : Placing} → placing at r b ≡ o → placing at s c ≡ o → (r ≡ s) × (b ≡ c)
placed_known at (Ok m) (Ok n) p q = (cc, cc)
placed_known at (Ok m) (Err s) p q = cc
placed_known at (Err r) (Ok n) p q = cc
placed_known at (Err r) (Err s) p q = (ap Err (refusal_known r s (cc) (cc)), cc)

pub put_field : Determined 1 put-field-kinds.ps put-field-kinds.r put-field-reads.Post (λ κs x. x.0.now)
put_field κs a r s x y p q = placed_known _ r s p.0 q.0

pub response_writer_new : DeterminedLent response-writer-new-contract.ended (λ M 𝓤 𝓛. response-writer-new-contract.clauses 𝓛) (λ κs x. tt {0})
response_writer_new M 𝓤 𝓛 mem run κs a g r s x y =
    agree_lent 𝓤 _ _ _ (λ p q. (ap₂ (λ (z : MutBor (List ℕ)) (n : ℕ). record { payload = z; at = n }) (p.0 ∙ sym q.0) (p.1 ∙ sym q.1), refl))

pub response_writer_push : DeterminedLent response-writer-push-contract.ended (λ M 𝓤 𝓛. response-writer-push-contract.clauses 𝓛) (λ κs x. x.0.now)
response_writer_push M 𝓤 𝓛 mem run κs a g r s x y =
    agree_lent 𝓤 _ _ _ (λ p q. (written_known r s (p.0 ∙ sym q.0), p.1 ∙ sym q.1))

pub write_response : Determined 1 write-response-kinds.ps write-response-kinds.r write-response-reads.Post (λ κs x. x.1.0.now)
write_response κs a r s x y = agree reply_of written_known
