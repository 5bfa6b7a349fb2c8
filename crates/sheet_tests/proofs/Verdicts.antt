-- Laws of the verdict on a sheet (specs/Sheet.antt), by which of its tests refuses. No contract cites this file.
use Prim.Native.Nat.{ℕ, ◌+◌, ◌≤◌, ◌<◌}
use mathlib.Core.Path.{◌≡◌}
use mathlib.Core.Bool.{true, false}
use mathlib.Core.List.{List, []}
use borrow.Author.Tests.{lt-ltb, le-ltb}
use Rattle.refusals.specs.Verdict.{Passed, refuse}
use Rattle.refusals.specs.Tests.{in_order, ◌then◌}
use Rattle.refusals.specs.declared.Refusal.{Refusal}
use Rattle.refusals.specs.declared.Refusal.TheVariants.{Ragged, OutOfOrder}
use Rattle.model.specs.Netlist as M
use Rattle.netlist.specs.NetOf.{net_of}
use Rattle.netlist.specs.Places.{control_line}
use Rattle.netlist_tests.specs.Record.{test_ports}
use Rattle.netlist.specs.declared.Netlist.{Netlist}
use Rattle.netlist_tests.proofs.Lists.{test-ports-latches}
use Rattle.sheet_parse.specs.Files.{line_count, net_in}
use Rattle.sheet_parse.specs.FileTests.{ragged, test_line_in}
use Rattle.sheet_tests.specs.Sheet.{end_verdict, file_verdict}

-- behind the last line: one is missing, or none is
pub end-missing : (c : M.Netlist) (count : ℕ) → count < control_line c → end_verdict c count ≡ refuse OutOfOrder (count + 1)
unfolding end_verdict ◌then◌
end-missing c count h = rw (lt-ltb count (control_line c) h)

pub end_whole : (c : M.Netlist) (count : ℕ) → control_line c ≤ count → end_verdict c count ≡ test_ports c
unfolding end_verdict ◌then◌
end_whole c count h = rw (le-ltb count (control_line c) h)

-- the latches have no part in it
pub end-latches : (r : Netlist) (latches gates : List ℕ) (count : ℕ) → end_verdict (net_of r [] gates) count ≡ end_verdict (net_of r latches gates) count
unfolding end_verdict net_of ◌then◌
end-latches r latches gates count = rw (test-ports-latches r latches gates)

-- the file is ragged, or a line is refused, or all lines pass
module _ (file : List ℕ) where
  pub file-ragged : ragged file ≡ true → file_verdict file ≡ refuse Ragged 0
  unfolding file_verdict ◌then◌
  file-ragged e = rw e

  pub file-refused : {r : Refusal} {p : ℕ} → ragged file ≡ false → in_order (test_line_in (net_in file) file) (line_count file) ≡ refuse r p
      → file_verdict file ≡ refuse r p
  unfolding file_verdict ◌then◌
  file-refused e h = rw (e, h)

  pub file-lines : ragged file ≡ false → in_order (test_line_in (net_in file) file) (line_count file) ≡ Passed
      → file_verdict file ≡ end_verdict (net_in file) (line_count file)
  unfolding file_verdict ◌then◌
  file-lines e h = rw (e, h)
