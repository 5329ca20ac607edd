-- Each promise of this crate, beside those of the commands, leaves one outcome: one answer, and one content of each lent buffer.
use mathlib.Core.Path.{◌≡◌, refl, sym, ap, ◌∙◌}
use Rattle.refusal.specs.Determined.{Determined}
use Rattle.refusal.proofs.Known.{refusal_known, agree_alone}
use Rattle.std.specs.Prelude.{Result, Ok, Err}
use Rattle.refusal.specs.declared.Refusal.{Refusal}
use Rattle.commands.specs.declared.identity.DeviceIdentity.{DeviceIdentity}
use Rattle.commands.specs.Identity.{identified_of}
use Rattle.commands.specs.declared.reading.Reading.{Reading}
use Rattle.commands.specs.declared.reading.Reading.TheVariants.{Good, Poor, Fixed, Bad, Absent}
use Rattle.commands.specs.Worth.{Worth, good, poor, fixed, bad, absent, worth_of}
use Rattle.commands.specs.declared.tag_descriptor_date.TagDescriptorDate.{TagDescriptorDate}
use Rattle.commands.specs.TagDescriptorDate.{Fields, reads_fields, fields_of}
use Rattle.commands.proofs.identity.DeviceIdentity.decode.Kinds as device-identity-decode-kinds
use Rattle.commands.proofs.identity.DeviceIdentity.decode.Reads as device-identity-decode-reads
use Rattle.commands.proofs.identity.DeviceIdentity.encode.Kinds as device-identity-encode-kinds
use Rattle.commands.proofs.identity.DeviceIdentity.encode.Reads as device-identity-encode-reads
use Rattle.commands.proofs.reading.value_of.Kinds as value-of-kinds
use Rattle.commands.proofs.reading.value_of.Reads as value-of-reads
use Rattle.commands.proofs.reading.Reading.of.Kinds as reading-of-kinds
use Rattle.commands.proofs.reading.Reading.of.Reads as reading-of-reads

-- an answer is known by what it says
pub identity_known : (r s : Result DeviceIdentity Refusal) → identified_of r ≡ identified_of s → r ≡ s
identity_known (Ok i) (Ok j) e = ap Ok (cc)
identity_known (Ok i) (Err s) e = cc
identity_known (Err r) (Ok j) e = cc
identity_known (Err r) (Err s) e = ap Err (refusal_known r s (cc) (cc))

pub device_identity_decode : Determined 1 device-identity-decode-kinds.ps device-identity-decode-kinds.r device-identity-decode-reads.Post (λ κs x. tt {0})
device_identity_decode κs a r s x y = λ p q. (identity_known r s (p ∙ sym q), refl)

pub device_identity_encode : Determined 0 device-identity-encode-kinds.ps device-identity-encode-kinds.r device-identity-encode-reads.Post (λ κs x. tt {0})
device_identity_encode κs a r s x y = agree_alone

abbrev reading_of : Worth → Reading
reading_of (good value) = Good value
reading_of (poor value) = Poor value
reading_of (fixed value) = Fixed value
reading_of bad = Bad
reading_of absent = Absent

reading_back : (r : Reading) → reading_of (worth_of r) ≡ r
reading_back (Good value) = refl
reading_back (Poor value) = refl
reading_back (Fixed value) = refl
reading_back Bad = refl
reading_back Absent = refl

-- a reading is known by what it is worth
pub worth_known : (r s : Reading) → worth_of r ≡ worth_of s → r ≡ s
worth_known r s e = sym (reading_back r) ∙ ap reading_of e ∙ reading_back s

-- the tag, descriptor and date that fields hold
abbrev read_in : Fields → TagDescriptorDate
read_in (reads_fields judgement tag descriptor day month year) = record { tag = tag; descriptor = descriptor; day = day; month = month; year = year }

-- and a reading is known by its fields
pub fields_known : (r s : Result TagDescriptorDate Refusal) → fields_of r ≡ fields_of s → r ≡ s
fields_known (Ok r) (Ok s) e = ap (λ (f : Fields). Ok (read_in f)) e
fields_known (Ok r) (Err s) e = cc
fields_known (Err r) (Ok s) e = cc
fields_known (Err r) (Err s) e = ap Err (refusal_known r s (cc) (cc))

pub value_of : Determined 0 value-of-kinds.ps value-of-kinds.r value-of-reads.Post (λ κs x. tt {0})
value_of κs a r s x y = agree_alone

pub reading_of_lem : Determined 0 reading-of-kinds.ps reading-of-kinds.r reading-of-reads.Post (λ κs x. tt {0})
reading_of_lem κs a r s x y = λ p q. (worth_known r s (p ∙ sym q), refl)
