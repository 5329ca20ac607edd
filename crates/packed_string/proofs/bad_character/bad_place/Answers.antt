use mathlib.Core.Path.{ap, ◌∙◌}
use Prim.Native.Nat.{ℕ}
use lib.ListN.{length}
use Rattle.std.specs.Prelude.{Option, unwrap_or}
use Rattle.packed_string.proofs.BadPlace.{found_or_length}
use Rattle.packed_string.proofs.bad_character.bad_place.Goals as goal

pub returns : goal.returns
returns c =
    let s = c.args.src.now in
    c.unwrap_or.ensures ∙ ap (λ (o : Option ℕ). unwrap_or o (length s)) c.first_bad.ensures ∙ found_or_length s
