-- read_unique_id_by_tag.rs never stops, and does what document 01 says of command 11 in crate mode: its lines (specs/Source.antt) come to
-- what specs/Tag.antt, the identity and crate mode give.
use Prim.Native.Nat.{ℕ, ◌≤◌}
use native.Mathlib.Omega.{arith}
use mathlib.Core.Path.{◌≡◌, refl, sym, ap, ◌∙◌}
use mathlib.Core.Bool.{Bool, true, false, cond}
use mathlib.Core.List.{List, [], ◌∷◌}
use lib.ListN.{length, replicate}
use lib.Dec.{ltb}
use borrow.Author.Tests.{ltb-true, ltb-false}
use Rattle.refusal.specs.Outcome.{Outcome, ends, done, refuses}
use Rattle.octets.specs.Digits.{Below}
use Rattle.octets.specs.Source.{Run, comes, lent_to}
use Rattle.octets.proofs.Put.{put-wrote}
use Rattle.packed_string.specs.declared.text_group.Mode.TheVariants.{Crate}
use Rattle.packed_string.specs.Source.{source_encoded}
use Rattle.commands.specs.Identity.{Identified, identified, unidentified, identity}
use Rattle.commands.proofs.IdentitySource.{identity_is_source}
use Rattle.packed_string.specs.Modes.{packed_text, unpacked_text}
use Rattle.response.specs.Sizes.{tag_length, tag_size}
use Rattle.packed_string.proofs.Texts.{packed_text_size, crate_good}
use Rattle.packed_string.proofs.TextSource.{source_lent, source_filled}
use Rattle.commands.specs.Tag.{tag_requested}
use Rattle.commands.specs.TagSource.{source_tag_requested, copied, passed_up, source_response, source_tag}
use Rattle.commands.proofs.read_unique_id_by_tag.Tags.{tag_small, tag_fits}

pub encode_is_source : (tag buf : List ℕ) → length tag ≡ tag_length → source_tag_requested tag buf ≡ comes (tag_requested Crate tag buf)
encode_is_source tag buf t = by (ltb (length buf) tag_size) refl
  where
    whole : List ℕ → Run Outcome
    whole b = comes (ends (done (tag_size ∷ [])) b)

    by : (small : Bool) → ltb (length buf) tag_size ≡ small → cond small (comes (refuses 2 [] buf)) (lent_to buf 0 tag_size (source_encoded tag) whole) ≡ comes (tag_requested Crate tag buf)
    by true e = ap comes (sym (tag_small Crate tag buf (ltb-true (length buf) tag_size e)))
    by false e =
        let room : tag_size ≤ length buf = ltb-false (length buf) tag_size e in
        source_lent tag buf 0 tag_size whole (omega arith) room
        ∙ ap comes (put-wrote buf (packed_text Crate tag) refl (sym (packed_text_size Crate tag t)) ∙ sym (tag_fits Crate tag buf room (crate_good tag)))

copied_same : (r : Identified) → copied r ≡ r
copied_same (identified id) = refl
copied_same (unidentified number values) = refl

pub decode_is_source : (bs : List ℕ) → Below 256 bs → source_response bs ≡ comes (identity bs)
decode_is_source bs b = ap passed_up (identity_is_source bs b) ∙ ap comes (copied_same (identity bs))

pub tag_is_source : (packed : List ℕ) → length packed ≡ tag_size → Below 256 packed → source_tag packed ≡ comes (unpacked_text Crate packed)
tag_is_source packed e b = source_filled packed (replicate tag_length 0x20) comes b (omega arith) (omega arith)
