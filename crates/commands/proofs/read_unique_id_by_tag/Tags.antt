-- What a request comes to, case by case, and by way of the part that is lent for the tag; and what a device reads of one.
use Prim.Native.Nat.{ℕ, ◌≤◌, ◌<◌}
use native.Mathlib.Omega.{arith}
use mathlib.Core.Path.{◌≡◌, refl, sym, ap, ◌∙◌}
use mathlib.Core.Bool.{Bool, true, false, cond}
use mathlib.Core.List.{List, [], ◌∷◌, ◌++◌}
use lib.ListN.{length, take, drop, take-append-drop}
use lib.Seq.{length-take-le}
use lib.Dec.{ltb}
use borrow.Author.Tests.{lt-ltb, le-ltb}
use Rattle.refusal.specs.Outcome.{Reply, done, refused, Outcome, ends, wrote, refuses}
use Rattle.octets.proofs.Put.{put_front, lent_part}
use Rattle.packed_string.specs.declared.text_group.Mode.{Mode}
use Rattle.packed_string.specs.Modes.{packed_text, unpacked_text, packed_in, bad_in}
use Rattle.response.specs.Sizes.{tag_length, tag_size}
use Rattle.packed_string.proofs.Texts.{packed_text_size, with_room, packs_in, fields_small, fields_in, fields_fit}
use Rattle.framing.specs.Payload.{carries}
use Rattle.commands.specs.Tag.{tag_requested, reads_tag, tag_refused, tag_read}

module _ (mode : Mode) (tag buffer : List ℕ) where
  pub tag_small : length buffer < tag_size → tag_requested mode tag buffer ≡ refuses 2 [] buffer
  unfolding tag_requested
  tag_small h = fields_small mode tag_size _ _ buffer h

  module _ (room : tag_size ≤ length buffer) where
    tag_in : tag_requested mode tag buffer ≡ with_room mode tag (packed_text mode tag) buffer
    unfolding tag_requested
    tag_in = fields_in mode tag_size tag (packed_text mode tag) buffer room

    pub tag_fits : length tag ≤ bad_in mode tag → tag_requested mode tag buffer ≡ wrote (packed_text mode tag) buffer
    unfolding tag_requested
    tag_fits h = fields_fit mode tag_size tag (packed_text mode tag) buffer room h

    -- a tag packed into the first bytes, and the rest behind them again
    pub tag_lent : {r : Reply} {part : List ℕ} → length tag ≡ tag_length → ends r part ≡ packed_in mode tag (take tag_size buffer) → ends r (part ++ drop tag_size buffer) ≡ tag_requested mode tag buffer
    tag_lent t e =
        let size : length (take tag_size buffer) ≡ tag_size = length-take-le tag_size buffer room in
        ap whole (e ∙ packs_in mode tag (take tag_size buffer) (omega arith)) ∙ by (ltb (bad_in mode tag) (length tag)) ∙ sym tag_in
      where
        p : List ℕ
        p = packed_text mode tag

        whole : Outcome → Outcome
        whole (ends r part) = ends r (part ++ drop tag_size buffer)

        by : (bad : Bool) → whole (cond bad (refuses 7 (bad_in mode tag ∷ []) (take tag_size buffer)) (wrote p (take tag_size buffer))) ≡ cond bad (refuses 7 (bad_in mode tag ∷ []) buffer) (wrote p buffer)
        by true = ap (ends (refused 7 (bad_in mode tag ∷ []))) (take-append-drop tag_size buffer)
        by false =
            let size : length p ≡ tag_size = packed_text_size mode tag t in
            ap (ends (done (length p ∷ []))) (lent_part buffer 0 tag_size p (omega arith) (omega arith) refl ∙ put_front buffer p)

module _ (mode : Mode) (bs : List ℕ) where
  pub tag_read_short : length bs < tag_size → tag_read mode bs ≡ tag_refused 3 []
  unfolding tag_read
  tag_read_short h = rw (lt-ltb (length bs) tag_size h)

  pub tag_read_whole : tag_size ≤ length bs → tag_read mode bs ≡ reads_tag carries (unpacked_text mode (take tag_size bs))
  unfolding tag_read
  tag_read_whole h = rw (le-ltb (length bs) tag_size h)
