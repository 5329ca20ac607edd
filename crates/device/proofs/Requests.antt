-- What the device reads of a request, and what follows for the answer.
use Prim.Native.Nat.{ℕ, min, ◌≤◌}
use native.Mathlib.Omega.{arith}
use mathlib.Core.Path.{◌≡◌, sym, ap, ◌∙◌}
use mathlib.Core.Bool.{Bool, true, false, cond}
use mathlib.Core.List.{List, [], ◌++◌}
use lib.Dec.{ltb}
use lib.ListN.{length, take, drop}
use Rattle.refusal.specs.declared.Refusal.{Refusal}
use Rattle.packed_string.specs.declared.text_group.Mode.TheVariants.{Standard}
use Rattle.packed_string.specs.Modes.{unpacked_text, bad_in}
use Rattle.types.specs.declared.delimiter.FrameType.TheVariants.{Request}
use Rattle.line.specs.declared.frame.Frame.{Frame}
use Rattle.line.specs.machine.Frames.{padded}
use Rattle.std.specs.Prelude.{None, Result, Ok, Err}
use Rattle.std.specs.Result.{result_ok}
use Rattle.framing.specs.Payload.{Judgement, carries, judgement_of, Reader, data_of}
use Rattle.framing.specs.Requests.{asked_of, no_data}
use Rattle.framing.proofs.Requests.{asked_carried}
use Rattle.response.specs.Sizes.{tag_size, descriptor_size, most_variables}
use Rattle.commands.specs.declared.tag_descriptor_date.TagDescriptorDate.{TagDescriptorDate}
use Rattle.commands.specs.TagDescriptorDate.{layout_size, fields_of, fields_at, fields_refused, fields_read}
use Rattle.commands.specs.Variables.{reads_codes, codes_refused, codes_read}
use Rattle.device.specs.Device.{Spoken}
use Rattle.device.proofs.Texts.{texts_good}

-- a request of the command that its reader is for: its data are read
pub request_read : {A : Type 0} (k : Reader A) (f : Frame) {x : A} → f.frame_type ≡ Request → f.command ≡ k.number → x ≡ asked_of k f → x ≡ k.read (data_of f)
unfolding asked_of
request_read k f t n e = e ∙ asked_carried k f.frame_type f.command (data_of f) n t

-- of a command without data there is nothing to refuse
pub never_refused : (number : ℕ) (f : Frame) (v : Result (Unit {0}) Refusal) → f.frame_type ≡ Request → f.command ≡ number → judgement_of v ≡ asked_of (no_data number) f → result_ok v ≡ None → ⊥
never_refused number f v t n e told = by v (request_read (no_data number) f t n e) told
  where
    by : (w : Result (Unit {0}) Refusal) → judgement_of w ≡ carries → result_ok w ≡ None → ⊥
    by (Ok _) carried none = cc
    by (Err r) carried none = cc

-- what is said of a reading, by whether there is one
pub said_of : {A B : Type 0} (reading : Result A Refusal → B) (says : B → Spoken) {r s : Result A Refusal} {b : B} → reading r ≡ b → r ≡ s → says (reading s) ≡ says b
said_of reading says e told = ap says (ap reading (sym told) ∙ e)

-- no more than eight codes are counted
pub codes_few : (ds : List ℕ) {judgement : Judgement} {n : ℕ} {codes : List ℕ} → reads_codes judgement n codes ≡ codes_read ds → n ≤ most_variables
unfolding codes_read
codes_few ds {judgement} {n} {codes} = by (ltb (length ds) 1)
  where
    by : (none : Bool) → reads_codes judgement n codes ≡ cond none (codes_refused 3 []) (reads_codes carries (min most_variables (length ds)) (padded most_variables (take most_variables ds))) → n ≤ most_variables
    by true e = let z : n ≡ 0 = cc in omega arith
    by false e = let z : n ≡ min most_variables (length ds) = cc in omega arith

-- what was unpacked has a code for each character
pub fields_good : (ds : List ℕ) (r : TagDescriptorDate) → fields_of (Ok r) ≡ fields_read Standard ds → length (r.tag ++ r.descriptor) ≤ bad_in Standard (r.tag ++ r.descriptor)
unfolding fields_read
fields_good ds r = by (ltb (length ds) layout_size)
  where
    by : (short : Bool) → fields_of (Ok r) ≡ cond short (fields_refused 3 []) (fields_at Standard ds) → length (r.tag ++ r.descriptor) ≤ bad_in Standard (r.tag ++ r.descriptor)
    by true f = let z : ◌≡◌ {A = ℕ} 0 1 = cc in absurd (omega arith)
    by false f =
        let t : r.tag ≡ unpacked_text Standard (take tag_size ds) = cc in
        let d : r.descriptor ≡ unpacked_text Standard (take descriptor_size (drop tag_size ds)) = cc in
        rw (t, d) (texts_good (take tag_size ds) (take descriptor_size (drop tag_size ds)))
