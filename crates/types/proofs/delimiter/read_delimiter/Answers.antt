-- `read_delimiter` meets its contract.
use native.Mathlib.Omega.{arith}
use mathlib.Core.Path.{◌≡◌, sym, ap, ◌∙◌}
use mathlib.Core.Bool.{Bool, true, false}
use Prim.Native.Nat.{ℕ}
use Rattle.types.specs.declared.delimiter.FrameType.{FrameType}
use Rattle.types.specs.declared.delimiter.FrameType.TheVariants.{Request, Response, Burst}
use Rattle.std.specs.Prelude.{Some}
use Rattle.types.specs.Delimiter.{opening, delimiter, delimiter_of}
use Rattle.types.proofs.Delimiters.{delimiter_back, delimiter_none}
use Rattle.types.proofs.delimiter.read_delimiter.Goals as goal

-- a byte that is some delimiter
found : (t : FrameType) (long : Bool) {b : ℕ} → b ≡ delimiter (opening t long) → Some (opening t long) ≡ delimiter_of b
found t long e = sym (ap delimiter_of e ∙ delimiter_back (opening t long))

pub returns-in-2 : goal.returns-in-2
returns-in-2 c = found Request false c.in-2.is

pub returns-in-130 : goal.returns-in-130
returns-in-130 c = found Request true c.in-130.is

pub returns-in-6 : goal.returns-in-6
returns-in-6 c = found Response false c.in-6.is

pub returns-in-134 : goal.returns-in-134
returns-in-134 c = found Response true c.in-134.is

pub returns-in-1 : goal.returns-in-1
returns-in-1 c = found Burst false c.in-1.is

pub returns-in-129 : goal.returns-in-129
returns-in-129 c = found Burst true c.in-129.is

pub returns-in_default : goal.returns-in_default
returns-in_default c =
    sym (delimiter_none c.args.byte (λ e. omega (arith, e)) (λ e. omega (arith, e)) (λ e. omega (arith, e)) (λ e. omega (arith, e)) (λ e. omega (arith, e)) (λ e. omega (arith, e)))
