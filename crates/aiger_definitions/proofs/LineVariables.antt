-- Laws of the variables on a line (specs/Blocks.antt): as they are read, how large they are, and which fault they make. No contract
-- cites this file.
use Prim.Native.Nat.{ℕ, ◌/◌, ◌^◌, ◌≤◌, ◌<◌}
use mathlib.Core.Path.{◌≡◌, refl}
use mathlib.Core.Bool.{false, cond}
use mathlib.Core.List.{List}
use native.Mathlib.Omega.{arith}
use lib.ListN.{get_or}
use borrow.Author.Tests.{ne_eqb}
use Rattle.model.specs.Search.{any_below, seen}
use Rattle.aiger_lines.specs.Parts.{numbers_on_line, counts_in, part_at, defines, malformed_at}
use Rattle.aiger_lines.specs.Steps.{first_five}
use Rattle.aiger_lines.specs.declared.Part.{Part}
use Rattle.aiger_lines.specs.declared.Part.TheVariants.{Header, Input, Latch, Output, Gate}
use Rattle.aiger_lines.proofs.FirstFive.{five-value}
use Rattle.aiger_lines.proofs.Parts.{well-few}
use Rattle.aiger_lines.proofs.Written.{numbers_on_line-fit}
use Rattle.aiger_definitions.specs.Definitions.{defined_at}
use Rattle.aiger_definitions.specs.Blocks.{variables_of, variables_at, uses_of, fault_in}
use Rattle.aiger_definitions.specs.declared.Variables.{Variables}
use Rattle.aiger_definitions.specs.declared.Look.{Look}
use Rattle.aiger_definitions.specs.declared.Look.TheVariants.{Repeats, Operands, Others}

-- the variables are those of the numbers that are read
variables-same : (part : Part) (xs ys : List ℕ) → ((k : ℕ) → get_or xs k 0 ≡ get_or ys k 0) → variables_of part xs ≡ variables_of part ys
variables-same Header xs ys e = refl
variables-same Input xs ys e = rw (e 0)
variables-same Latch xs ys e = rw (e 0, e 1)
variables-same Output xs ys e = rw (e 0)
variables-same Gate xs ys e = rw (e 0, e 1, e 2)

pub variables-read : (s : List ℕ) (p : ℕ) → malformed_at s p ≡ false
    → variables_of (part_at (counts_in s) p) (first_five (numbers_on_line s p)).values ≡ variables_at s p
unfolding variables_at malformed_at
variables-read s p h =
    variables-same (part_at (counts_in s) p) (first_five (numbers_on_line s p)).values (numbers_on_line s p)
    (λ k. five-value (numbers_on_line s p) k (well-few (counts_in s) (part_at (counts_in s) p) (numbers_on_line s p) h))

-- the one that is defined
pub defined-is : (s : List ℕ) (p : ℕ) → (variables_at s p).defined ≡ defined_at s p
unfolding variables_at defined_at
defined-is s p = at (part_at (counts_in s) p)
  where
    at : (part : Part) → (variables_of part (numbers_on_line s p)).defined ≡ cond (defines part) (get_or (numbers_on_line s p) 0 0 / 2) 0
    at Header = refl
    at Input = refl
    at Latch = refl
    at Output = refl
    at Gate = refl

-- what no line is, and the header, define nothing
pub nothing-defined : (s : List ℕ) (v : ℕ) → 1 ≤ v → seen (defined_at s) 2 v ≡ false
unfolding seen any_below defined_at part_at
nothing-defined s v l = rw (ne_eqb 0 v (λ e. omega arith))

-- and the header has no fault
pub header-faultless : (look : Look) (s : List ℕ) (lines v : ℕ) → 1 ≤ v → fault_in look s lines 0 v ≡ false
unfolding fault_in variables_at part_at
header-faultless Repeats s lines v l = rw (ne_eqb 0 v (λ e. omega arith))
header-faultless Operands s lines v l = rw (ne_eqb 0 v (λ e. omega arith))
header-faultless Others s lines v l = rw (ne_eqb 0 v (λ e. omega arith))

-- every variable is below 2^32
record Small (v : Variables) : Type 0 where
  defined-small : v.defined < 4294967296
  left-small : v.left < 4294967296
  right-small : v.right < 4294967296
  other-small : v.other < 4294967296

variables-small : (part : Part) (xs : List ℕ) → ((k : ℕ) → get_or xs k 0 < 2 ^ 32) → Small (variables_of part xs)
variables-small Header xs h = record { defined-small = omega arith; left-small = omega arith; right-small = omega arith; other-small = omega arith }
variables-small Input xs h =
    record { defined-small = omega (arith, h 0); left-small = omega arith; right-small = omega arith; other-small = omega arith }
variables-small Latch xs h =
    record { defined-small = omega (arith, h 0); left-small = omega arith; right-small = omega arith; other-small = omega (arith, h 1) }
variables-small Output xs h =
    record { defined-small = omega arith; left-small = omega arith; right-small = omega arith; other-small = omega (arith, h 0) }
variables-small Gate xs h =
    record { defined-small = omega (arith, h 0); left-small = omega (arith, h 1); right-small = omega (arith, h 2); other-small = omega arith }

pub uses-small : (look : Look) (s : List ℕ) (p : ℕ)
    → ((uses_of look (variables_at s p)).first < 4294967296) × ((uses_of look (variables_at s p)).second < 4294967296)
unfolding variables_at
uses-small look s p = at look (variables-small (part_at (counts_in s) p) (numbers_on_line s p) (numbers_on_line-fit s p))
  where
    at : (look : Look) {v : Variables} → Small v → ((uses_of look v).first < 4294967296) × ((uses_of look v).second < 4294967296)
    at Repeats h = (h.defined-small, h.defined-small)
    at Operands h = (h.left-small, h.right-small)
    at Others h = (h.other-small, h.other-small)
