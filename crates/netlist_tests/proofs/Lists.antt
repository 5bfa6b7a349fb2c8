-- What the lists of a record have no part in, of the tests: sizes and ties in neither list, memory loops in the latches. No contract cites
-- this file.
use Prim.Native.Nat.{ℕ, ◌/◌}
use mathlib.Core.Path.{◌≡◌, refl}
use mathlib.Core.Bool.{Bool}
use mathlib.Core.List.{List, []}
use Rattle.refusals.specs.declared.Refusal.TheVariants.{Size, MemoryLoop, TiedAddress}
use Rattle.netlist.specs.NetOf.{code_of, net_of, alone}
use Rattle.netlist.specs.Places.{line_at}
use Rattle.netlist.specs.Faults.{size_fault, tie_fault, loop_fault_by, loop_fault}
use Rattle.netlist.specs.declared.Line.{Line}
use Rattle.netlist.specs.declared.Line.TheVariants.{Sizes, Memory, Latch, Gate, Address, WriteData, SecondAddress, SecondEnable, Control}
use Rattle.netlist.specs.declared.Netlist.{Netlist}
use Rattle.netlist.proofs.NetOf.{line_at-lists, size_fault-lists, depends-latches}
use Rattle.netlist_scan.specs.AnyLine.{any_line}
use Rattle.netlist_tests.specs.Record.{test_lines, test_ports}
use Rattle.netlist_tests.proofs.Record.{test_lines-same}

module _ (r : Netlist) (latches gates : List ℕ) where
  -- the tests of sizes
  pub test-sizes-lists : test_lines (alone r) Size size_fault ≡ test_lines (net_of r latches gates) Size size_fault
  unfolding net_of
  test-sizes-lists =
      test_lines-same (alone r) (net_of r latches gates) Size size_fault (size_fault-lists r latches gates) (line_at-lists r latches gates) refl

  -- the tests of ties
  pub test-ties-lists : test_lines (alone r) TiedAddress tie_fault ≡ test_lines (net_of r latches gates) TiedAddress tie_fault
  unfolding net_of line_at tie_fault
  test-ties-lists = test_lines-same (alone r) (net_of r latches gates) TiedAddress tie_fault same (λ p. refl) refl
    where
      same : (x : Line) → tie_fault (alone r) x ≡ tie_fault (net_of r latches gates) x
      same Sizes = refl
      same Memory = refl
      same (Latch l) = refl
      same (Gate g) = refl
      same (Address t) = refl
      same (WriteData t) = refl
      same (SecondAddress t) = refl
      same SecondEnable = refl
      same Control = refl

  -- the tests of memory loops
  test-loops-latches : test_lines (net_of r [] gates) MemoryLoop loop_fault ≡ test_lines (net_of r latches gates) MemoryLoop loop_fault
  unfolding net_of line_at loop_fault_by
  test-loops-latches = test_lines-same (net_of r [] gates) (net_of r latches gates) MemoryLoop loop_fault same (λ p. refl) refl
    where
      same : (x : Line) → loop_fault (net_of r [] gates) x ≡ loop_fault (net_of r latches gates) x
      same Sizes = refl
      same Memory = refl
      same (Latch l) = refl
      same (Gate g) = refl
      same (Address t) = depends-latches r latches gates (code_of r.address t / 2)
      same (WriteData t) = refl
      same (SecondAddress t) = depends-latches r latches gates (code_of r.address2 t / 2)
      same SecondEnable = depends-latches r latches gates (r.re2.0 / 2)
      same Control = depends-latches r latches gates (r.re.0 / 2)

  -- the pass over the lists that looks for memory loops
  pub any-loop-lists : (d : ℕ → Bool) → any_line (alone r) (loop_fault_by d) ≡ any_line (net_of r latches gates) (loop_fault_by d)
  unfolding net_of loop_fault_by any_line
  any-loop-lists d = refl

-- so the tests of the ports
pub test-ports-latches : (r : Netlist) (latches gates : List ℕ) → test_ports (net_of r [] gates) ≡ test_ports (net_of r latches gates)
test-ports-latches r latches gates = rw (← test-ties-lists r [] gates, test-ties-lists r latches gates, test-loops-latches r latches gates)
