-- Laws of specs/Printed.antt: lists of 600 records are long enough, and 5 does not occur. Cited by `write_import`.
use Prim.Native.Nat.{ℕ, ◌≤◌}
use mathlib.Core.Path.{◌≡◌, refl}
use mathlib.Core.Bool.{false}
use native.Mathlib.Omega.{arith}
use Rattle.std.specs.Prelude.{Ok, Err}
use Rattle.refusals.specs.Verdict.{Verdict, Passed}
use Rattle.model.specs.Netlist.{Netlist}
use Rattle.refusals.specs.Tests.{◌then◌}
use Rattle.refusals.specs.declared.Refusal.TheVariants.{Size}
use Rattle.netlist.specs.Faults.{size_fault}
use Rattle.netlist.proofs.Faults.{sizes-fit}
use Rattle.netlist_tests.specs.Record.{test_lines, lists_short}
use Rattle.netlist_tests.proofs.Record.{test_lines-passes}
use Rattle.netlist_tests.proofs.Acceptance.{lists-long}
use Rattle.aiger_netlist.specs.TextNetlist.{aag_net}
use Rattle.aiger_netlist.specs.ImportVerdict.{import_verdict}
use Rattle.aiger_netlist.proofs.Codes.{no-code-fault}
use Rattle.aiger_netlist.proofs.Verdict.{well-defined, fits-interface}
use Rattle.program_import.specs.Printed.{ImportRoomSuffices, NoCodeOutside}

-- where the sizes pass, no list of so many records is short
long-enough : (c : Netlist) (latch_room gate_room : ℕ) → 600 ≤ latch_room → 600 ≤ gate_room → test_lines c Size size_fault ≡ Passed
    → lists_short c latch_room gate_room ≡ false
long-enough c latch_room gate_room l g e =
    let sizes = (sizes-fit c).0 ((test_lines-passes c Size size_fault).0 e) in
    (lists-long c latch_room gate_room).1 (omega (arith, sizes.latches-fit), omega (arith, sizes.gates-fit))

pub room-suffices : ImportRoomSuffices
unfolding import_verdict ◌then◌
room-suffices s m n word unknown second latch_room gate_room l g = by-sizes (test_lines (aag_net s m n word unknown second) Size size_fault) refl
  where
    by-sizes : (v : Verdict) → test_lines (aag_net s m n word unknown second) Size size_fault ≡ v → import_verdict s m n word unknown second 600 600 ≡ import_verdict s m n word unknown second latch_room gate_room
    by-sizes (Ok _) e =
        rw (long-enough (aag_net s m n word unknown second) 600 600 (omega arith) (omega arith) e, long-enough (aag_net s m n word unknown second) latch_room gate_room l g e)
    by-sizes (Err f) e = rw e

-- and a text that passes its own tests has no code outside
pub no-code-outside : NoCodeOutside
no-code-outside s m n word unknown second e = no-code-fault s (well-defined s m n second e) m n word unknown second (fits-interface s m n second e)
