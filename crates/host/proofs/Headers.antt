-- A header says the state that it was made of, if each number fits its field; and it says none whose numbers are no bytes.
use Prim.Native.Nat.{ℕ, ◌≤◌, ◌<◌}
use native.Mathlib.Omega.{arith}
use mathlib.Core.Path.{◌≡◌, refl, ap, ◌∙◌}
use mathlib.Core.Bool.{Bool, true, false, cond}
use lib.Dec.{eqb, lit<}
use lib.ListN.{get_or}
use Rattle.types.specs.declared.delimiter.FrameType.{FrameType}
use Rattle.types.specs.declared.delimiter.FrameType.TheVariants.{Request, Response, Burst}
use Rattle.types.specs.Delimiter.{type_number}
use Rattle.line.specs.machine.Demand.{SmallState}
use Rattle.types.specs.Address.{head_room}
use Rattle.line.specs.machine.Step.{preamble_cap}
use Rattle.line.specs.declared.state.Head.{Head}
use Rattle.line.specs.declared.state.State.{State}
use Rattle.line.specs.declared.state.State.TheVariants.{
  Hunting,
  Preamble,
  Address,
  Command,
  ByteCount,
  Data,
  Checksum,
}
use Rattle.host.specs.Bits.{apart}
use Rattle.host.specs.Header.{header_widths, long_bit, without_head, with_head, header_fields, header_of, type_numbered, head_said, state_by, state_at}
use Rattle.host.specs.Code.{header_end}
use Rattle.host.proofs.Packed.{Fit, packed_small, packed_field}

pub type_small : (t : FrameType) → type_number t < 4
type_small Request = lit< tt
type_small Response = lit< tt
type_small Burst = lit< tt

pub long_small : (l : Bool) → long_bit l < 2
long_small false = lit< tt
long_small true = lit< tt

type_said : (t : FrameType) → type_numbered (type_number t) ≡ t
type_said Request = refl
type_said Response = refl
type_said Burst = refl

long_said : (l : Bool) → eqb (long_bit l) 1 ≡ l
long_said false = refl
long_said true = refl

head_said_lem : (h : Head) → head_said (type_number h.frame_type) (long_bit h.is_long) h.check ≡ h
head_said_lem h = rw (type_said h.frame_type, long_said h.is_long)

fields_said : (s : State) → state_by (header_fields s) ≡ s
fields_said Hunting = refl
fields_said (Preamble n) = refl
fields_said (Address h k) = ap (λ (x : Head). Address x k) (head_said_lem h)
fields_said (Command h) = ap Command (head_said_lem h)
fields_said (ByteCount h c) = ap (λ (x : Head). ByteCount x c) (head_said_lem h)
fields_said (Data h c e n) = ap (λ (x : Head). Data x c e n) (head_said_lem h)
fields_said (Checksum h c e) = ap (λ (x : Head). Checksum x c e) (head_said_lem h)

-- each number of a state fits its field
abbrev pub Fitting : State → Type 0
Fitting s = Fit header_widths (header_fields s)

pub state_back : (s : State) → Fitting s → state_at (header_of s) ≡ s
unfolding header_of state_at
state_back s f = ap state_by (packed_field header_widths (header_fields s) f) ∙ fields_said s

pub header_small : (s : State) → Fitting s → header_of s < header_end
unfolding header_of
header_small s f = packed_small header_widths (header_fields s) f

-- so do a phase and a preamble count before a delimiter
pub without_fits : (phase preambles : ℕ) → phase ≤ 6 → preambles ≤ preamble_cap → Fit header_widths (without_head phase preambles)
without_fits phase preambles p n = omega arith

-- and a phase, an address's bytes and bytes behind one
pub with_fits : (phase : ℕ) (h : Head) (address expected received command : ℕ) → phase ≤ 6 → h.check < 256 → address ≤ head_room → expected < 256 → received < 256 → command < 256
    → Fit header_widths (with_head phase h address expected received command)
with_fits phase h address expected received command p k a e r c = omega (arith, type_small h.frame_type, long_small h.is_long)

either : (t : Bool) (x y : State) → SmallState x → SmallState y → SmallState (cond t x y)
either true x y a b = a
either false x y a b = b

-- whatever the bits are, the numbers in the state that they say are bytes
pub state_small : (n : ℕ) → SmallState (state_at n)
unfolding state_at
state_small n =
    let phase = get_or (apart header_widths n) 0 0 in
    either (eqb phase 1) _ _ (omega arith)
    (either (eqb phase 2) _ _ (omega arith, omega arith)
    (either (eqb phase 3) _ _ (omega arith)
    (either (eqb phase 4) _ _ (omega arith, omega arith)
    (either (eqb phase 5) _ _ (omega arith, omega arith, omega arith, omega arith)
    (either (eqb phase 6) _ _ (omega arith, omega arith, omega arith) tt)))))
