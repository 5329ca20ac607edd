-- What each call comes to, case by case: callers cite these laws and not the definitions' text.
use Prim.Native.Nat.{ℕ, min, ◌≤◌, ◌<◌}
use mathlib.Core.Path.{◌≡◌, refl}
use mathlib.Core.List.{List, []}
use lib.ListN.{length, take, drop}
use borrow.Author.Tests.{lt-ltb, le-ltb}
use Rattle.refusal.specs.Outcome.{wrote, refuses}
use Rattle.packed_string.specs.declared.text_group.Mode.TheVariants.{Crate, Standard}
use Rattle.commands.specs.Variables.{codes_requested, groups_read, variables_refused, variables_read, reads_codes, codes_refused, codes_read}
use Rattle.framing.specs.Payload.{carries}
use Rattle.line.specs.machine.Frames.{padded}
use Rattle.response.specs.Sizes.{most_variables}

module _ (codes buffer : List ℕ) where
  pub requests_too_many : most_variables < length codes → codes_requested codes buffer ≡ refuses 1 [] buffer
  unfolding codes_requested
  requests_too_many h = rw (lt-ltb most_variables (length codes) h)

  pub requests_no_room : length codes ≤ most_variables → length buffer < length codes → codes_requested codes buffer ≡ refuses 2 [] buffer
  unfolding codes_requested
  requests_no_room h k = rw (le-ltb most_variables (length codes) h, lt-ltb (length buffer) (length codes) k)

  pub requests : length codes ≤ most_variables → length codes ≤ length buffer → codes_requested codes buffer ≡ wrote codes buffer
  unfolding codes_requested
  requests h k = rw (le-ltb most_variables (length codes) h, le-ltb (length buffer) (length codes) k)

module _ (bs : List ℕ) where
  pub crate_reads : variables_read Crate bs ≡ groups_read bs
  unfolding variables_read
  crate_reads = refl

  pub standard_reads_none : length bs < 1 → variables_read Standard bs ≡ variables_refused 3 []
  unfolding variables_read
  standard_reads_none h = rw (lt-ltb (length bs) 1 h)

  pub standard_reads : 1 ≤ length bs → variables_read Standard bs ≡ groups_read (drop 1 bs)
  unfolding variables_read
  standard_reads h = rw (le-ltb (length bs) 1 h)

  pub codes_none : length bs < 1 → codes_read bs ≡ codes_refused 3 []
  unfolding codes_read
  codes_none h = rw (lt-ltb (length bs) 1 h)

  pub codes_some : 1 ≤ length bs → codes_read bs ≡ reads_codes carries (min most_variables (length bs)) (padded most_variables (take most_variables bs))
  unfolding codes_read
  codes_some h = rw (le-ltb (length bs) 1 h)
