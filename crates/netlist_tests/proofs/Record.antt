-- Laws of the test of all lines for a fault (specs/Record.antt): as a loop over the places meets it, and when it passes.
-- No contract cites this file.
use Prim.Native.Nat.{ℕ, ◌+◌, ◌-◌, ◌≤◌}
use mathlib.Core.Path.{◌≡◌, sym, ◌∙◌, ap, subst}
use mathlib.Core.Bool.{Bool, true, false}
use mathlib.Core.Logic.{◌↔◌}
use native.Mathlib.Numerals.{add-one}
use Rattle.refusals.specs.Verdict.{Passed, refuse}
use native.Mathlib.Omega.{arith}
use Rattle.refusals.specs.Tests.{in_order}
use Rattle.refusals.specs.declared.Refusal.{Refusal}
use Rattle.refusals.proofs.Tests.{refuse_if-passes, in_order-suc, in_order-kept, in_order-passes, in_order-same}
use Rattle.model.specs.Netlist.{Netlist}
use Rattle.netlist.specs.Places.{control_line, line_at}
use Rattle.netlist_tests.specs.Record.{test_line, test_lines}
use Rattle.netlist.specs.declared.Line.{Line}
use Rattle.netlist.specs.declared.Line.TheVariants.{Sizes, Memory}
use Rattle.netlist_scan.specs.AnyLine.{any_line}
use Rattle.netlist.proofs.Places.{EveryLine, every-place}
use Rattle.netlist.proofs.Faults.{Without}
use Rattle.netlist_scan.proofs.AnyLine.{none-in-lines}

module _ (c : Netlist) (r : Refusal) (fault : Netlist → Line → Bool) where
  -- the lines up to place p have no fault
  abbrev pub PassedTo : ℕ → Type 0
  PassedTo p = in_order (test_line c r fault) p ≡ Passed

  -- one line more without a fault
  pub passed-next : (p : ℕ) → PassedTo p → fault c (line_at c (p + 1)) ≡ false → PassedTo (p + 1)
  passed-next p h e = rw (add-one, in_order-suc (test_line c r fault) p h, ← add-one p, e)

  -- the next line has the fault, and so is the first that has
  pub refused-next : (p : ℕ) → PassedTo p → fault c (line_at c (p + 1)) ≡ true → p + 1 ≤ control_line c
      → test_lines c r fault ≡ refuse r (p + 1)
  unfolding test_lines
  refused-next p h e l = in_order-kept (test_line c r fault) (p + 1) (control_line c) l at_next
    where
      at_next : in_order (test_line c r fault) (p + 1) ≡ refuse r (p + 1)
      at_next = rw (add-one, in_order-suc (test_line c r fault) p h, ← add-one p, e)

  -- no line has the fault
  pub passed-all : (p : ℕ) → p ≡ control_line c → PassedTo p → test_lines c r fault ≡ Passed
  unfolding test_lines
  passed-all p e h = ap (in_order (test_line c r fault)) (sym e) ∙ h

  -- the test of all lines for a fault passes where no line has it
  pub test_lines-passes : (test_lines c r fault ≡ Passed) ↔ EveryLine c (Without fault c)
  unfolding test_lines
  test_lines-passes = (
    λ e. (every-place c (Without fault c)).1 (λ p l h. (refuse_if-passes (fault c (line_at c p)) r p).0 (tests.0 e p l h)),
    λ q. tests.1 (λ p l h. (refuse_if-passes (fault c (line_at c p)) r p).1 ((every-place c (Without fault c)).0 q p l h)),
  )
    where
      tests : (in_order (test_line c r fault) (control_line c) ≡ Passed) ↔ ((p : ℕ) → 1 ≤ p → p ≤ control_line c → test_line c r fault p ≡ Passed)
      tests = in_order-passes (test_line c r fault) (control_line c)

  -- nor where none is found in a pass over the lists, and lines N and M never have it
  pub passed-quick : Without fault c Sizes → Without fault c Memory → any_line c fault ≡ false → test_lines c r fault ≡ Passed
  passed-quick sizes memory e = test_lines-passes.1 (none-in-lines c fault sizes memory e)

-- two netlists with the same lines and the same faults have the same verdict
pub test_lines-same : (c d : Netlist) (r : Refusal) (fault : Netlist → Line → Bool) → ((x : Line) → fault c x ≡ fault d x)
    → ((p : ℕ) → line_at c p ≡ line_at d p) → control_line c ≡ control_line d → test_lines c r fault ≡ test_lines d r fault
unfolding test_lines
test_lines-same c d r fault same lines e =
    in_order-same (λ p. rw (lines p, same (line_at d p))) (control_line c) ∙ ap (in_order (test_line d r fault)) e

-- the same as a loop from place 1 on meets it, which comes to place p where the lines before it have no fault
module _ (c : Netlist) (r : Refusal) (fault : Netlist → Line → Bool) (p : ℕ) (counted : 1 ≤ p) (before : PassedTo c r fault (p - 1)) where
  last : p - 1 + 1 ≡ p
  last = omega arith

  next : p - 1 + 1 ≡ p + 1 - 1
  next = omega arith

  pub passed-place : fault c (line_at c p) ≡ false → PassedTo c r fault (p + 1 - 1)
  passed-place e = subst (PassedTo c r fault) next (passed-next c r fault (p - 1) before (rw last e))

  pub refused-place : fault c (line_at c p) ≡ true → p ≤ control_line c → test_lines c r fault ≡ refuse r p
  refused-place e l = rw last at (refused-next c r fault (p - 1) before (rw last e) (rw last l))

  pub passed-last : fault c (line_at c p) ≡ false → p ≡ control_line c → test_lines c r fault ≡ Passed
  passed-last e l = passed-all c r fault (p + 1 - 1) (omega arith) (passed-place e)
