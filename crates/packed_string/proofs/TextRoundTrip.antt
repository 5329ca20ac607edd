-- A text of whole groups, written and read: each character comes back as `read_back` says, and one of 0x20 to 0x5F as itself.
use Prim.Native.Nat.{ℕ, ◌*◌, ◌-◌, ◌/◌}
use native.Mathlib.Omega.{arith}
use mathlib.Core.Path.{◌≡◌, ap, ◌∙◌}
use mathlib.Core.List.{List, ◌++◌, map, append-nil}
use lib.ListN.{length, replicate}
use Rattle.packed_string.specs.declared.text_group.Mode.{Mode}
use Rattle.packed_string.specs.Groups.{groups, unpacked}
use Rattle.packed_string.specs.Plain.{Plain}
use Rattle.packed_string.specs.Text.{read_back}
use Rattle.packed_string.proofs.RoundTrip.{text_back, plain_back}
use Rattle.packed_string.specs.Modes.{packed_text, unpacked_text}
use Rattle.packed_string.proofs.Texts.{length-packed_text}

module _ (mode : Mode) (text : List ℕ) (whole : groups (length text) * 4 ≡ length text) where
  pub whole_back : unpacked_text mode (packed_text mode text) ≡ map (read_back mode) text
  whole_back =
      let g = groups (length text) in
      let count : length (packed_text mode text) / 3 ≡ g = omega (arith, length-packed_text mode text) in
      let full : g * 4 - length text ≡ 0 = omega arith in
      ap (λ (n : ℕ). unpacked mode (packed_text mode text) n) count
      ∙ text_back mode text
      ∙ ap (λ (n : ℕ). map (read_back mode) (text ++ replicate n 0x20)) full
      ∙ ap (map (read_back mode)) (append-nil text)

  pub whole_plain_back : Plain text → unpacked_text mode (packed_text mode text) ≡ text
  whole_plain_back plain = whole_back ∙ plain_back mode text plain
