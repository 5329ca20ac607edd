-- A field's bytes, and what putting it comes to, case by case.
use Prim.Native.Nat.{ℕ, zero, suc, ◌+◌, ◌*◌, ◌≤◌, ◌<◌}
use native.Mathlib.Omega.{arith}
use mathlib.Core.Path.{◌≡◌, refl, ◌∙◌}
use mathlib.Core.Bool.{Bool, true, false, cond}
use mathlib.Core.List.{List, [], ◌∷◌}
use lib.ListN.{length}
use lib.Dec.{ltb}
use borrow.Author.Tests.{lt-ltb, le-ltb, ltb-true, ltb-false}
use Rattle.std.specs.Prelude.{Option, Some, None}
use Rattle.refusal.specs.Outcome.{ends, done}
use Rattle.line.specs.Layout.{most_data}
use Rattle.octets.specs.Put.{put}
use Rattle.octets.proofs.Put.{length-put}
use Rattle.packed_string.proofs.Texts.{length-packed_text}
use Rattle.response.specs.declared.field.Kind.{Kind}
use Rattle.response.specs.declared.field.Kind.TheVariants.{Bytes, Group, Text}
use Rattle.response.specs.declared.field.Field.{Field}
use Rattle.response.specs.Sizes.{group_size, most_variables, status_size, extended_size}
use Rattle.response.specs.Field.{contents, bytes_in, size_in, characters_in, bad_of, latest_of, leads, stays, pushed_in}
use Rattle.response.specs.Writer.{behind, in_turn}

pub length-bytes : (kind : Kind) (cs : List ℕ) → length (bytes_in kind cs) ≡ size_in kind (length cs)
length-bytes Bytes cs = refl
length-bytes Group cs = refl
length-bytes (Text mode) cs = length-packed_text mode cs

pub latest_small : (kind : Kind) → latest_of kind ≤ most_data
latest_small Bytes = omega arith
latest_small Group = omega arith
latest_small (Text mode) = omega arith

-- a place among so many characters, if it is one
pub some_below : (place characters : ℕ) {found : ℕ} → Some found ≡ cond (ltb place characters) (Some place) None → (found ≡ place) × (place < characters)
some_below place characters {found} e = by (ltb place characters) refl e
  where
    by : (b : Bool) → ltb place characters ≡ b → Some found ≡ cond b (Some place) None → (found ≡ place) × (place < characters)
    by true t e = (cc, ltb-true place characters t)
    by false t e = cc

pub none_below : (place characters : ℕ) → None ≡ cond (ltb place characters) (Some place) None → characters ≤ place
none_below place characters e = by (ltb place characters) refl e
  where
    by : (b : Bool) → ltb place characters ≡ b → ◌≡◌ {A = Option ℕ} None (cond b (Some place) None) → characters ≤ place
    by true t e = cc
    by false t e = ltb-false place characters t

module _ (kind : Kind) (cs payload : List ℕ) (at : ℕ) where
  pub pushed_late : latest_of kind < at + size_in kind (length cs) → pushed_in kind cs payload at ≡ stays 1 [] payload at
  unfolding pushed_in
  pushed_late h = rw (lt-ltb _ _ h)

  pub pushed_fits : at + size_in kind (length cs) ≤ latest_of kind → at + size_in kind (length cs) ≤ length payload → characters_in kind (length cs) ≤ bad_of kind cs
      → pushed_in kind cs payload at ≡ leads (ends (done (size_in kind (length cs) ∷ [])) (put payload at (bytes_in kind cs))) (at + size_in kind (length cs))
  unfolding pushed_in
  pushed_fits timely roomy good = rw (le-ltb _ _ timely, le-ltb _ _ roomy, le-ltb _ _ good)

-- document 02, 1/12: eight groups count, so that behind two status bytes, the extended one and eight groups of eight bytes there is no ninth
pub ninth_group : (group payload : List ℕ) → let end : ℕ = status_size + extended_size + most_variables * group_size in length group ≡ group_size → pushed_in Group group payload end ≡ stays 1 [] payload end
ninth_group group payload e = pushed_late Group group payload _ (omega (arith, e))

-- putting a field keeps the payload's length
module _ (kind : Kind) (cs payload : List ℕ) (at end : ℕ) (e : end ≡ at + size_in kind (length cs)) where
  kept : (late small : Bool) → ltb (length payload) end ≡ small → (bad : Bool)
      → length (behind (cond late (stays 1 [] payload at) (cond small (stays 2 [] payload at) (cond bad (stays 7 (bad_of kind cs ∷ []) payload at)
      (leads (ends (done (size_in kind (length cs) ∷ [])) (put payload at (bytes_in kind cs))) end))))).0 ≡ length payload
  kept true small f bad = refl
  kept false true f bad = refl
  kept false false f true = refl
  kept false false f false = length-put payload at (bytes_in kind cs) (omega (arith, ltb-false (length payload) end f, length-bytes kind cs))

pushed_length : (kind : Kind) (cs payload : List ℕ) (at : ℕ) → length (behind (pushed_in kind cs payload at)).0 ≡ length payload
unfolding pushed_in
pushed_length kind cs payload at =
    let end : ℕ = at + size_in kind (length cs) in
    kept kind cs payload at end refl (ltb (latest_of kind) end) (ltb (length payload) end) refl (ltb (bad_of kind cs) (characters_in kind (length cs)))

pub in_turn_length : (field : ℕ → Field) (n : ℕ) (x : List ℕ × ℕ) → length (in_turn field n x).0 ≡ length x.0
in_turn_length field zero x = refl
in_turn_length field (suc n) x =
    let y : List ℕ × ℕ = in_turn field n x in
    pushed_length (field n).kind (contents (field n)) y.0 y.1 ∙ in_turn_length field n x
