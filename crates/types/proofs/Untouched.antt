-- Document 01, 'What comes back': a refused call writes nothing.
use mathlib.Core.List.{[]}
use lib.Dec.{ltb}
use lib.ListN.{length}
use Rattle.refusal.specs.Outcome.{Untouched}
use Rattle.refusal.proofs.Untouched.{untouched_refuses, untouched_wrote, untouched_either}
use Rattle.types.specs.declared.address.Address.{Address}
use Rattle.types.specs.Address.{address_length, is_long, address_bytes, address_written}

pub address_untouched : (a : Address) → Untouched (address_written a)
unfolding address_written
address_untouched a = untouched_either (λ buffer. ltb (length buffer) (address_length (is_long a))) (untouched_refuses 2 []) (untouched_wrote (address_bytes a))
