-- What the device says to a frame of bytes is bytes.
use Prim.Native.Nat.{ℕ, zero, suc, ◌-◌, min, ◌<◌}
use native.Mathlib.Omega.{arith}
use mathlib.Core.Path.{◌≡◌, refl, sym, subst}
use mathlib.Core.Bool.{Bool, true, false, cond}
use mathlib.Core.List.{List, [], ◌∷◌, ◌++◌, map}
use lib.Dec.{eqb, ltb, lit<}
use lib.ListN.{length, get_or, take, replicate}
use borrow.Author.Tests.{ltb-false}
use Rattle.octets.specs.Put.{first_parts}
use Rattle.octets.specs.Digits.{digits}
use Rattle.octets.proofs.Bases.{below_take}
use Rattle.octets.proofs.Parts.{parts_zero, parts_suc}
use Rattle.packed_string.specs.declared.text_group.Mode.TheVariants.{Standard}
use Rattle.packed_string.specs.Group.{pack_group}
use Rattle.packed_string.specs.Groups.{packed_group, groups}
use Rattle.packed_string.specs.Modes.{packed_text, unpacked_text}
use Rattle.types.specs.declared.delimiter.FrameType.{FrameType}
use Rattle.types.specs.declared.delimiter.FrameType.TheVariants.{Request, Response, Burst}
use Rattle.line.specs.Pieces.{Bytes}
use Rattle.line.specs.machine.Frames.{padded}
use Rattle.line.specs.declared.frame.Frame.{Frame}
use Rattle.line.proofs.Bytes.{bytes-append, bytes-replicate}
use Rattle.framing.specs.Payload.{carries, data_of}
use Rattle.response.specs.Sizes.{tag_size, most_variables}
use Rattle.commands.specs.declared.read_device_vars.DeviceVariable.{DeviceVariable}
use Rattle.commands.specs.Responses.{response_data}
use Rattle.commands.specs.Tag.{reads_tag, tag_refused, tag_read}
use Rattle.commands.specs.TagDescriptorDate.{layout_size, fields_at, fields_refused, fields_read}
use Rattle.commands.specs.Variables.{group_bytes, no_variable, reads_codes, codes_refused, codes_read}
use Rattle.device.specs.Own.{own_tag, own_descriptor, own_variable}
use Rattle.device.specs.Device.{Spoken, keeps_silent, speaks, same_text, identifies, measures, recognizes, describes, rewrites, told_to, if_request, answer_to}
use Rattle.device.proofs.Conversation.{own_bytes}
use Rattle.device.proofs.Echo.{echo_same}

abbrev pub SmallSpoken : Spoken → Type 0
SmallSpoken keeps_silent = Unit {0}
SmallSpoken (speaks ds) = Bytes ds

either_small : (test : Bool) (s t : Spoken) → SmallSpoken s → SmallSpoken t → SmallSpoken (cond test s t)
either_small true s t p q = p
either_small false s t p q = q

digits_small : (count n : ℕ) → Bytes (digits 256 count n)
digits_small zero n = tt
digits_small (suc count) n = bytes-append (digits 256 count _) _ (digits_small count _) (omega arith, tt)

parts_small : (part : ℕ → List ℕ) → ((k : ℕ) → Bytes (part k)) → (n : ℕ) → Bytes (first_parts part n)
parts_small part each zero = subst Bytes (sym (parts_zero part)) tt
parts_small part each (suc n) = subst Bytes (sym (parts_suc part n)) (bytes-append (first_parts part n) (part n) (parts_small part each n) (each n))

-- variables
record SmallVariable (v : DeviceVariable) : Type 0 where
  code : v.device_var_code < 256
  class : v.classification < 256
  unit : v.unit < 256
  status : v.status < 256

either_variable : (test : Bool) (u v : DeviceVariable) → SmallVariable u → SmallVariable v → SmallVariable (cond test u v)
either_variable true u v p q = p
either_variable false u v p q = q

variable_small : (code : ℕ) → code < 256 → SmallVariable (own_variable code)
unfolding own_variable
variable_small code h =
    either_variable (eqb code 0) _ _ (record { code = lit< tt; class = lit< tt; unit = lit< tt; status = lit< tt })
    (either_variable (eqb code 1) _ _ (record { code = lit< tt; class = lit< tt; unit = lit< tt; status = lit< tt })
    (either_variable (eqb code 2) _ _ (record { code = lit< tt; class = lit< tt; unit = lit< tt; status = lit< tt })
    (either_variable (eqb code 3) _ _ (record { code = lit< tt; class = lit< tt; unit = lit< tt; status = lit< tt })
    (record { code = h; class = lit< tt; unit = lit< tt; status = lit< tt }))))

variables_small : (codes : List ℕ) → Bytes codes → (k : ℕ) → SmallVariable (get_or (map own_variable codes) k no_variable)
variables_small [] b k = record { code = lit< tt; class = lit< tt; unit = lit< tt; status = lit< tt }
variables_small (c ∷ codes) b zero = variable_small c b.0
variables_small (c ∷ codes) b (suc k) = variables_small codes b.1 k

group_small : (v : DeviceVariable) → SmallVariable v → Bytes (group_bytes v)
group_small v s = bytes-append (v.device_var_code ∷ v.classification ∷ v.unit ∷ digits 256 4 v.bits) (v.status ∷ []) (s.code, (s.class, (s.unit, digits_small 4 v.bits))) (s.status, tt)

codes_small : (ds : List ℕ) → Bytes ds → Bytes (padded most_variables (take most_variables ds))
codes_small ds b =
    let codes : List ℕ = take most_variables ds in
    let n : ℕ = most_variables - length codes in
    bytes-append codes (replicate n 0) (below_take 256 most_variables ds b) (bytes-replicate n 0 (lit< tt))

-- the answers, by their commands
few_small : (code : ℕ) → code < 256 → Bytes (response_data code 0 [])
few_small code h = (h, (lit< tt, tt))

measures_small : (ds : List ℕ) → Bytes ds → SmallSpoken (measures (codes_read ds))
unfolding codes_read
measures_small ds b = by (ltb (length ds) 1)
  where
    by : (none : Bool) → SmallSpoken (measures (cond none (codes_refused 3 []) (reads_codes carries (min most_variables (length ds)) (padded most_variables (take most_variables ds)))))
    by true = few_small 5 (lit< tt)
    by false =
        let codes = padded most_variables (take most_variables ds) in
        (lit< tt, (lit< tt, (lit< tt, parts_small (λ (k : ℕ). group_bytes (get_or (map own_variable codes) k no_variable)) (λ k. group_small _ (variables_small codes (codes_small ds b) k)) _)))

recognizes_small : (ds : List ℕ) → SmallSpoken (recognizes (tag_read Standard ds))
unfolding tag_read
recognizes_small ds = by (ltb (length ds) tag_size)
  where
    by : (short : Bool) → SmallSpoken (recognizes (cond short (tag_refused 3 []) (reads_tag carries (unpacked_text Standard (take tag_size ds)))))
    by true = few_small 5 (lit< tt)
    by false = either_small (same_text (unpacked_text Standard (take tag_size ds)) own_tag) identifies keeps_silent own_bytes tt

text_small : (text : List ℕ) → Bytes (packed_text Standard text)
unfolding pack_group
text_small text = parts_small (packed_group Standard text) (λ g. digits_small 3 _) (groups (length text))

describes_small : SmallSpoken describes
describes_small =
    let tag = packed_text Standard own_tag in
    let descriptor = packed_text Standard own_descriptor in
    (lit< tt, (lit< tt, bytes-append (tag ++ descriptor) _ (bytes-append tag descriptor (text_small own_tag) (text_small own_descriptor)) (lit< tt, (lit< tt, (lit< tt, tt)))))

rewrites_small : (ds : List ℕ) → Bytes ds → SmallSpoken (rewrites (fields_read Standard ds))
unfolding fields_read
rewrites_small ds b = by (ltb (length ds) layout_size) refl
  where
    by : (short : Bool) → ltb (length ds) layout_size ≡ short → SmallSpoken (rewrites (cond (ltb (length ds) layout_size) (fields_refused 3 []) (fields_at Standard ds)))
    by true e = rw e (few_small 5 (lit< tt))
    by false e = subst SmallSpoken (sym (echo_same ds b (ltb-false (length ds) layout_size e))) (lit< tt, (lit< tt, below_take 256 layout_size ds b))

told_small : (command : ℕ) (ds : List ℕ) → Bytes ds → SmallSpoken (told_to command ds)
unfolding told_to
told_small command ds b =
    either_small (eqb command 0) _ _ own_bytes
    (either_small (eqb command 9) _ _ (measures_small ds b)
    (either_small (eqb command 11) _ _ (recognizes_small ds)
    (either_small (eqb command 13) _ _ describes_small
    (either_small (eqb command 18) _ _ (rewrites_small ds b) (few_small 64 (lit< tt))))))

pub answer_small : (f : Frame) → Bytes (data_of f) → SmallSpoken (answer_to f)
unfolding answer_to
answer_small f b = by f.frame_type
  where
    by : (t : FrameType) → SmallSpoken (if_request t (told_to f.command (data_of f)))
    by Request = told_small f.command (data_of f) b
    by Response = tt
    by Burst = tt
