-- Each example of the list of specs/Paper.antt comes out as document 01 says: one statement over the list. Text and frames that are written
-- are computed as they stand; what a decoder hears is computed through the law that it hears what the scanner of the crate line gives.
use mathlib.Core.Path.{◌≡◌, refl, ap, ap₂, ◌∙◌}
use mathlib.Core.Bool.{true}
use mathlib.Core.List.{List, ◌∷◌, ◌++◌, map}
use lib.ListN.{replicate}
use Rattle.octets.specs.Put.{first_parts}
use Rattle.packed_string.specs.Group.{pack_group, unpack_group}
use Rattle.packed_string.specs.Plain.{bad_place}
use Rattle.packed_string.specs.Standard.{standard_packed}
use Rattle.packed_string.specs.Text.{crate_packed, crate_unpacked}
use Rattle.types.specs.Delimiter.{delimiter_of}
use Rattle.types.specs.Address.{address_bytes}
use Rattle.line.specs.Events.{silence}
use Rattle.line.specs.Runs.{says, ends_in}
use Rattle.line.proofs.Bytes.{all_small, bytes_given}
use Rattle.line.proofs.Scan.{Scan, hunt, scan_within, scan, told}
use Rattle.line.specs.Encode.{encoded}
use Rattle.line.specs.machine.Frames.{Heard, heard_of}
use Rattle.line.proofs.machine.Image.{real}
use Rattle.framing.specs.Feed.{decoder_of}
use Rattle.framing.proofs.Demand.{heard_scanned, ends_scanned}
use Rattle.framing.specs.declared.decode.Decoder.{Decoder}
use Rattle.paper.specs.Paper.{
  Shown,
  heard,
  Example,
  Reading,
  reading,
  request_0_behind,
  wrong_check,
  four_preambles,
  no_delimiter,
  check_no_preamble,
  right_check_no_preamble,
  long_request,
  examples,
}

-- an example of reading, by what the scanner gives
reads : (r : Reading) → all_small r.run ≡ true → map heard_of (map told (says scan hunt r.run)) ≡ replicate r.quiet (heard_of silence) ++ r.then → ends_in scan hunt r.run ≡ hunt
    → (reading r).comes ≡ (reading r).said
reads r k h e =
    let s = bytes_given r.run k in
    ap₂ (λ (hs : List Heard) (d : Decoder). heard hs d.state) (heard_scanned r.run s ∙ h) (ends_scanned r.run s ∙ ap (λ (c : Scan). decoder_of (real c)) e)

both : (x y : Shown) (xs ys : List Shown) → x ≡ y → xs ≡ ys → x ∷ xs ≡ y ∷ ys
both x y xs ys e es = ap₂ (λ (z : Shown) (zs : List Shown). z ∷ zs) e es

pub examples_hold : map (λ (e : Example). e.comes) examples ≡ map (λ (e : Example). e.said) examples
unfolding first_parts pack_group unpack_group bad_place crate_packed crate_unpacked standard_packed delimiter_of scan scan_within address_bytes encoded
examples_hold =
    both _ _ _ _ (reads (request_0_behind 5 9) refl refl refl)
    (both _ _ _ _ (reads wrong_check refl refl refl)
    (both _ _ _ _ (reads four_preambles refl refl refl)
    (both _ _ _ _ (reads no_delimiter refl refl refl)
    (both _ _ _ _ (reads check_no_preamble refl refl refl)
    (both _ _ _ _ (reads right_check_no_preamble refl refl refl)
    (both _ _ _ _ (reads (request_0_behind 256 260) refl refl refl)
    (both _ _ _ _ (reads (request_0_behind 700 704) refl refl refl)
    (both _ _ _ _ (reads long_request refl refl refl) refl))))))))
