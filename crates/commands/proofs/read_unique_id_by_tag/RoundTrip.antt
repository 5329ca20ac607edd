-- A tag that was packed reads back, and so does one that a request wrote: each character as `read_back` says, and one of 0x20 to 0x5F as
-- itself.
use Prim.Native.Nat.{ℕ}
use native.Mathlib.Omega.{arith}
use mathlib.Core.Path.{◌≡◌, ap, ◌∙◌}
use mathlib.Core.List.{List, map}
use lib.ListN.{length, take, drop}
use lib.Seq.{take_at}
use Rattle.refusal.specs.Outcome.{done, ends}
use Rattle.packed_string.specs.declared.text_group.Mode.{Mode}
use Rattle.packed_string.specs.Plain.{Plain}
use Rattle.packed_string.specs.Text.{read_back}
use Rattle.packed_string.specs.Modes.{packed_text, unpacked_text}
use Rattle.response.specs.Sizes.{tag_length, tag_size}
use Rattle.packed_string.proofs.Texts.{packed_text_size, fields_done}
use Rattle.packed_string.proofs.TextRoundTrip.{whole_back, whole_plain_back}
use Rattle.commands.specs.Tag.{tag_requested}

module _ (mode : Mode) (tag : List ℕ) (t : length tag ≡ tag_length) where
  pub tag_back : unpacked_text mode (packed_text mode tag) ≡ map (read_back mode) tag
  tag_back = whole_back mode tag (omega arith)

  pub plain_tag_back : Plain tag → unpacked_text mode (packed_text mode tag) ≡ tag
  plain_tag_back = whole_plain_back mode tag (omega arith)

  pub request_back : (buffer : List ℕ) {values left : List ℕ} → tag_requested mode tag buffer ≡ ends (done values) left → unpacked_text mode (take tag_size left) ≡ map (read_back mode) tag
  unfolding tag_requested
  request_back buffer e =
      let p = packed_text mode tag in
      ap (λ (l : List ℕ). unpacked_text mode (take tag_size l)) (fields_done mode tag_size _ p buffer e)
      ∙ ap (unpacked_text mode) (take_at p (drop (length p) buffer) tag_size (packed_text_size mode tag t))
      ∙ tag_back
