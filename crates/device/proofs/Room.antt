-- No answer is longer than that of command 9 with eight variables, so a buffer with room for it is never refused.
use Prim.Native.Nat.{ℕ, ◌*◌, min, ◌≤◌}
use native.Mathlib.Omega.{arith}
use mathlib.Core.Path.{◌≡◌, refl, sym, ◌∙◌}
use mathlib.Core.Bool.{Bool, true, false, cond}
use mathlib.Core.List.{List, [], ◌∷◌, ◌++◌, map}
use lib.Dec.{eqb, ltb, lit≤}
use lib.ListN.{length, get_or, take, drop, length-append, length-drop}
use lib.Seq.{length-take-le}
use borrow.Author.Tests.{ltb-false}
use Rattle.refusal.specs.Outcome.{refused, ends, wrote}
use Rattle.octets.proofs.Parts.{length_parts}
use Rattle.packed_string.specs.declared.text_group.Mode.TheVariants.{Standard}
use Rattle.packed_string.specs.Modes.{packed_text, unpacked_text}
use Rattle.packed_string.proofs.Groups.{length-unpacked}
use Rattle.packed_string.proofs.Texts.{packed_text_size}
use Rattle.types.specs.declared.delimiter.FrameType.{FrameType}
use Rattle.types.specs.declared.delimiter.FrameType.TheVariants.{Request, Response, Burst}
use Rattle.types.specs.Address.{address_length, is_long}
use Rattle.line.specs.Pieces.{enough}
use Rattle.line.specs.declared.frame.Frame.{Frame}
use Rattle.line.specs.machine.Frames.{padded}
use Rattle.line.proofs.Encoded.{length-layout, encoded_fits}
use Rattle.framing.specs.Payload.{carries, data_of}
use Rattle.response.specs.Sizes.{tag_length, tag_size, descriptor_length, descriptor_size, group_size, most_variables, groups_end}
use Rattle.commands.specs.Responses.{response_data, groups_bytes}
use Rattle.commands.specs.Tag.{reads_tag, tag_refused, tag_read}
use Rattle.commands.specs.TagDescriptorDate.{layout_size, tag_descriptor_date_layout, fields_at, fields_refused, fields_read}
use Rattle.commands.specs.Variables.{group_bytes, no_variable, reads_codes, codes_refused, codes_read}
use Rattle.device.specs.Own.{own_tag, own_descriptor, own_day, own_month, own_year, own_variable}
use Rattle.device.specs.Device.{Spoken, keeps_silent, speaks, same_text, identifies, measures, recognizes, describes, rewrites, told_to, if_request, answer_to, spoken_to, answering}
use Rattle.device.specs.Conversation.{answer_room, sent_back, answer_bytes}

abbrev pub Few : Spoken → Type 0
Few keeps_silent = Unit {0}
Few (speaks ds) = length ds ≤ groups_end

either_few : (test : Bool) (s t : Spoken) → Few s → Few t → Few (cond test s t)
either_few true s t p q = p
either_few false s t p q = q

measures_few : (ds : List ℕ) → Few (measures (codes_read ds))
unfolding codes_read
measures_few ds = by (ltb (length ds) 1)
  where
    by : (none : Bool) → Few (measures (cond none (codes_refused 3 []) (reads_codes carries (min most_variables (length ds)) (padded most_variables (take most_variables ds)))))
    by true = lit≤ tt
    by false =
        let vs = map own_variable (padded most_variables (take most_variables ds)) in
        let n : ℕ = min most_variables (length ds) in
        let size : length (groups_bytes vs n) ≡ n * group_size = length_parts (λ (k : ℕ). group_bytes (get_or vs k no_variable)) group_size (λ k. refl) n in
        omega arith

recognizes_few : (ds : List ℕ) → Few (recognizes (tag_read Standard ds))
unfolding tag_read
recognizes_few ds = by (ltb (length ds) tag_size)
  where
    by : (short : Bool) → Few (recognizes (cond short (tag_refused 3 []) (reads_tag carries (unpacked_text Standard (take tag_size ds)))))
    by true = lit≤ tt
    by false = either_few (same_text (unpacked_text Standard (take tag_size ds)) own_tag) identifies keeps_silent (lit≤ tt) tt

texts_few : (tag descriptor : List ℕ) (day month year : ℕ) → length tag ≡ tag_length → length descriptor ≡ descriptor_length → length (response_data 0 0 (tag_descriptor_date_layout Standard tag descriptor day month year)) ≤ groups_end
texts_few tag descriptor day month year t d =
    let p = packed_text Standard tag in
    let q = packed_text Standard descriptor in
    omega (arith, length-append (p ++ q) (day ∷ month ∷ year ∷ []), length-append p q, packed_text_size Standard tag t, packed_text_size Standard descriptor d)

describes_few : Few describes
unfolding own_tag own_descriptor
describes_few = texts_few own_tag own_descriptor own_day own_month own_year refl refl

rewrites_few : (ds : List ℕ) → Few (rewrites (fields_read Standard ds))
unfolding fields_read
rewrites_few ds = by (ltb (length ds) layout_size) refl
  where
    by : (short : Bool) → ltb (length ds) layout_size ≡ short → Few (rewrites (cond short (fields_refused 3 []) (fields_at Standard ds)))
    by true e = lit≤ tt
    by false e =
        let long : layout_size ≤ length ds = ltb-false (length ds) layout_size e in
        let first = take tag_size ds in
        let second = take descriptor_size (drop tag_size ds) in
        let one : length first ≡ tag_size = length-take-le tag_size ds (omega arith) in
        let two : length second ≡ descriptor_size = length-take-le descriptor_size (drop tag_size ds) (omega (arith, length-drop tag_size ds)) in
        texts_few (unpacked_text Standard first) (unpacked_text Standard second) _ _ _ (length-unpacked Standard first _ ∙ omega arith) (length-unpacked Standard second _ ∙ omega arith)

told_few : (command : ℕ) (ds : List ℕ) → Few (told_to command ds)
unfolding told_to
told_few command ds =
    either_few (eqb command 0) _ _ (lit≤ tt)
    (either_few (eqb command 9) _ _ (measures_few ds)
    (either_few (eqb command 11) _ _ (recognizes_few ds)
    (either_few (eqb command 13) _ _ describes_few
    (either_few (eqb command 18) _ _ (rewrites_few ds) (lit≤ tt)))))

pub answer_few : (f : Frame) → Few (answer_to f)
unfolding answer_to
answer_few f = by f.frame_type
  where
    by : (t : FrameType) → Few (if_request t (told_to f.command (data_of f)))
    by Request = told_few f.command (data_of f)
    by Response = tt
    by Burst = tt

address_short : (long : Bool) → address_length long ≤ address_length true
address_short true = omega arith
address_short false = lit≤ tt

module _ (f : Frame) where
  sent_short : (s : Spoken) → Few s → length (sent_back f s) ≤ answer_room
  sent_short keeps_silent few = omega arith
  sent_short (speaks ds) few = omega (arith, length-layout Response f.address f.command enough ds, address_short (is_long f.address))

  pub answer_short : length (answer_bytes f) ≤ answer_room
  unfolding answer_bytes
  answer_short = sent_short (answer_to f) (answer_few f)

  -- with so much room the answer is written
  pub answer_fits : (out : List ℕ) → answer_room ≤ length out → answering f out ≡ wrote (answer_bytes f) out
  unfolding answering answer_bytes
  answer_fits out room = by (answer_to f) (answer_few f)
    where
      by : (s : Spoken) → Few s → spoken_to f s out ≡ wrote (sent_back f s) out
      by keeps_silent few = refl
      by (speaks ds) few = encoded_fits Response f.address f.command ds enough out (omega arith) (omega (arith, address_short (is_long f.address)))

  pub never_too_long : (out : List ℕ) → answer_room ≤ length out → (number : ℕ) (values after : List ℕ) → answering f out ≡ ends (refused number values) after → ⊥
  never_too_long out room number values after e = let k = sym (answer_fits out room) ∙ e in let z : ◌≡◌ {A = ℕ} 0 1 = cc in omega arith
