-- Document 01, 'What comes back': a refused call writes nothing. Crate mode refuses nothing.
use Prim.Native.Nat.{ℕ, ◌/◌, ◌%◌}
use mathlib.Core.Bool.{not}
use mathlib.Core.List.{List, [], ◌∷◌}
use lib.Dec.{ltb, eqb}
use lib.ListN.{length}
use Rattle.refusal.specs.Outcome.{Untouched}
use Rattle.refusal.proofs.Untouched.{untouched_refuses, untouched_wrote, untouched_either}
use Rattle.packed_string.specs.declared.text_group.Mode.TheVariants.{Standard}
use Rattle.packed_string.specs.Groups.{groups, packed, unpacked}
use Rattle.packed_string.specs.Plain.{bad_place}
use Rattle.packed_string.specs.Standard.{standard_packed, standard_unpacked}

pub standard_packed_untouched : (text : List ℕ) → Untouched (standard_packed text)
unfolding standard_packed
standard_packed_untouched text =
    untouched_either (λ buffer. ltb (length buffer / 3) (groups (length text))) (untouched_refuses 2 [])
    (untouched_either (λ buffer. ltb (bad_place text) (length text)) (untouched_refuses 7 (bad_place text ∷ []))
    (untouched_wrote (packed Standard text (groups (length text)))))

pub standard_unpacked_untouched : (bytes : List ℕ) → Untouched (standard_unpacked bytes)
unfolding standard_unpacked
standard_unpacked_untouched bytes =
    untouched_either (λ buffer. not (eqb (length bytes % 3) 0)) (untouched_refuses 3 [])
    (untouched_either (λ buffer. ltb (length buffer / 4) (length bytes / 3)) (untouched_refuses 2 [])
    (untouched_wrote (unpacked Standard bytes (length bytes / 3))))
