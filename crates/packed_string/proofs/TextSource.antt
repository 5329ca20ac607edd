-- The Rust's calls of packed text as the commands make them: a text into a part of just its size, and bytes into an array that their
-- characters just fill. They come to what crate mode promises.
use Prim.Native.Nat.{ℕ, ◌+◌, ◌*◌, ◌-◌, ◌/◌, ◌%◌, ◌≤◌}
use native.Mathlib.Nat.{min-eq_left}
use native.Mathlib.Omega.{arith}
use mathlib.Core.Path.{◌≡◌, refl, sym, ap, ◌∙◌}
use mathlib.Core.List.{List, ◌++◌, append_assoc}
use lib.ListN.{length, take, drop, length-take, length-drop}
use borrow.Author.Tests.{le-leb}
use borrow.Rule.Slice.PartMut.{mid_of, put_mid, Post-is}
use Rattle.refusal.specs.Outcome.{Outcome, wrote}
use Rattle.octets.specs.Digits.{Below}
use Rattle.octets.specs.Put.{put}
use Rattle.octets.specs.Source.{Run, comes, after_call, lent_to}
use Rattle.octets.proofs.Put.{lent_part}
use Rattle.packed_string.specs.declared.text_group.Mode.TheVariants.{Crate}
use Rattle.packed_string.specs.Groups.{groups}
use Rattle.packed_string.specs.Source.{source_encoded, source_decoded}
use Rattle.packed_string.proofs.Calls.{crate_packs}
use Rattle.packed_string.proofs.Source.{encode_is_source, decode_is_source}
use Rattle.packed_string.specs.Modes.{packed_text, unpacked_text, packed_size, unpacked_in}
use Rattle.packed_string.proofs.Texts.{length-packed_text, unpacks_full}

-- a part lent to a call that wrote `bs` to its front
lent_to_lem : (dst : List ℕ) (from to : ℕ) (bs : List ℕ) (call rest : List ℕ → Run Outcome) → from + length bs ≤ to → to ≤ length dst
    → call (mid_of from (to - from) dst) ≡ comes (wrote bs (mid_of from (to - from) dst)) → lent_to dst from to call rest ≡ rest (put dst from bs)
lent_to_lem dst from to bs call rest h k e =
    let part = bs ++ drop (length bs) (mid_of from (to - from) dst) in
    let back : take from dst ++ part ++ drop to dst ≡ put_mid from (to - from) dst part = append_assoc (take from dst) part (drop to dst) ∙ ap (λ (r : List ℕ). take from dst ++ (part ++ r)) (sym (Post-is from to dst (omega arith))) in
    rw (le-leb from to (omega arith), le-leb to (length dst) k)
    (ap (λ (r : Run Outcome). after_call r (λ p. rest (take from dst ++ p ++ drop to dst))) e
    ∙ ap rest (back ∙ lent_part dst from (to - from) bs (omega arith) (omega arith) refl))

pub source_lent : (text dst : List ℕ) (from to : ℕ) (rest : List ℕ → Run Outcome) → from + packed_size (length text) ≡ to → to ≤ length dst
    → lent_to dst from to (source_encoded text) rest ≡ rest (put dst from (packed_text Crate text))
source_lent text dst from to rest e h =
    let part = mid_of from (to - from) dst in
    let room : groups (length text) ≤ length part / 3 = omega (arith, length-take (to - from) (drop from dst), length-drop from dst) in
    lent_to_lem dst from to (packed_text Crate text) (source_encoded text) rest (omega (arith, length-packed_text Crate text)) h
    (encode_is_source text part ∙ ap comes (crate_packs text part (min-eq_left room)))

pub source_filled : {A : Type 0} (bytes buffer : List ℕ) (rest : List ℕ → Run A) → Below 256 bytes → length bytes % 3 ≡ 0 → length bytes / 3 * 4 ≡ length buffer
    → after_call (source_decoded bytes buffer) rest ≡ rest (unpacked_text Crate bytes)
unfolding unpacked_in
source_filled bytes buffer rest b e h = ap (λ (r : Run Outcome). after_call r rest) (decode_is_source bytes buffer b ∙ ap comes (unpacks_full Crate bytes buffer e h))
