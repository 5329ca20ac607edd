-- Command 18: the fields of a request, read in standard mode and written again, are its first bytes as they were sent.
use Prim.Native.Nat.{ℕ, ◌+◌, ◌≤◌}
use native.Mathlib.Omega.{arith}
use mathlib.Core.Path.{◌≡◌, sym, ap, ap₂, ◌∙◌}
use mathlib.Core.List.{List, [], ◌∷◌, ◌++◌}
use lib.ListN.{length, get_or, take, drop, length-drop}
use lib.Seq.{take-add, length-take-le}
use borrow.Author.Tests.{le-ltb}
use Rattle.octets.proofs.Bases.{below_take, below_drop}
use Rattle.octets.proofs.Places.{taken}
use Rattle.packed_string.specs.declared.text_group.Mode.TheVariants.{Standard}
use Rattle.packed_string.specs.Groups.{groups}
use Rattle.packed_string.specs.Modes.{packed_text, unpacked_text}
use Rattle.packed_string.proofs.BytesRoundTrip.{bytes_text_back}
use Rattle.line.specs.Pieces.{Bytes}
use Rattle.response.specs.Sizes.{tag_length, tag_size, descriptor_length, descriptor_size}
use Rattle.commands.specs.TagDescriptorDate.{day_at, layout_size, fields_at, fields_read}
use Rattle.commands.specs.Responses.{response_data}
use Rattle.device.specs.Device.{speaks, rewrites}

read_whole : (ds : List ℕ) → layout_size ≤ length ds → fields_read Standard ds ≡ fields_at Standard ds
unfolding fields_read
read_whole ds h = rw (le-ltb (length ds) layout_size h)

pub echo_same : (ds : List ℕ) → Bytes ds → layout_size ≤ length ds → rewrites (fields_read Standard ds) ≡ speaks (response_data 0 0 (take layout_size ds))
echo_same ds bytes h =
    let first = take tag_size ds in
    let second = take descriptor_size (drop tag_size ds) in
    let one : packed_text Standard (unpacked_text Standard first) ≡ first = bytes_text_back first (below_take 256 tag_size ds bytes) (groups tag_length) (length-take-le tag_size ds (omega arith)) in
    let two : packed_text Standard (unpacked_text Standard second) ≡ second = bytes_text_back second (below_take 256 descriptor_size (drop tag_size ds) (below_drop 256 tag_size ds bytes)) (groups descriptor_length) (length-take-le descriptor_size (drop tag_size ds) (omega (arith, length-drop tag_size ds))) in
    let date = get_or ds day_at 0 ∷ get_or ds (day_at + 1) 0 ∷ get_or ds (day_at + 2) 0 ∷ [] in
    ap rewrites (read_whole ds h)
    ∙ ap₂ (λ (t d : List ℕ). speaks (response_data 0 0 (t ++ d ++ date))) one two
    ∙ ap₂ (λ (t d : List ℕ). speaks (response_data 0 0 (t ++ d))) (sym (take-add tag_size descriptor_size ds)) (sym (taken ds day_at 0 3 (omega arith)))
    ∙ ap (λ (l : List ℕ). speaks (response_data 0 0 l)) (sym (take-add day_at 3 ds))
