-- Laws of specs/LinesPassed.antt: what lines that have passed say of the record and the lists.
use Prim.Native.Nat.{ℕ, ◌≤◌}
use mathlib.Core.Path.{◌≡◌, refl, sym, ◌∙◌, ap, subst}
use mathlib.Core.List.{List, []}
use native.Mathlib.Omega.{arith}
use Rattle.refusals.specs.Verdict.{Passed}
use Rattle.refusals.specs.Tests.{in_order}
use Rattle.model.specs.Netlist as M
use Rattle.model.specs.Acceptance.{SizesFit, WithinLimits}
use Rattle.netlist.specs.NetOf.{net_of}
use Rattle.netlist.specs.Places.{control_line}
use Rattle.netlist.specs.Faults.{code_fault}
use Rattle.netlist.specs.declared.Netlist.{Netlist}
use Rattle.netlist.proofs.NetOf.{sizes-lists, limits-without-latches}
use Rattle.netlist.proofs.Places.{every-place}
use Rattle.netlist.proofs.Faults.{Without, codes-fit}
use Rattle.sheet_parse.specs.Files.{line_count, net_in}
use Rattle.sheet_parse.specs.FileTests.{test_line_in}
use Rattle.sheet_parse.proofs.LineTests.{line-passed, sizes-passed}
use Rattle.sheet_tests.specs.LinesPassed.{LinesPassed}

-- the last line's place has nothing to do with the latches' codes
control_line-lists : (r : Netlist) (latches gates : List ℕ) → control_line (net_of r [] gates) ≡ control_line (net_of r latches gates)
unfolding net_of
control_line-lists r latches gates = refl

-- what lines that have passed say of the netlist in the record and the lists
pub lines-passed : (file : List ℕ) (r : Netlist) (latches gates : List ℕ) → in_order (test_line_in (net_in file) file) (line_count file) ≡ Passed
    → net_of r latches gates ≡ net_in file → LinesPassed (net_of r [] gates) (line_count file)
lines-passed file r latches gates passed is =
    record {
      sizes = λ h. sizes-lists r latches gates [] gates (subst SizesFit (sym is) (sizes-passed file (line_count file) passed (omega arith)));
      limits = λ h. limits-without-latches r latches gates (subst WithinLimits (sym is) (limits (rw ends at h)));
    }
  where
    ends : control_line (net_of r [] gates) ≡ control_line (net_in file)
    ends = control_line-lists r latches gates ∙ ap (λ (c : M.Netlist). control_line c) is

    limits : control_line (net_in file) ≤ line_count file → WithinLimits (net_in file)
    limits h =
        record {
          sizes = sizes-passed file (line_count file) passed (omega arith);
          codes = (codes-fit (net_in file)).0 ((every-place (net_in file) (Without code_fault (net_in file))).1 (λ p l b. (line-passed file (line_count file) passed p l (omega arith)).code));
        }
