-- What a reader returns and leaves in its own lists (specs/Codes.antt), by which of its tests refuses. Cited by the reader.
use Prim.Native.Nat.{ℕ, ◌+◌, ◌≤◌}
use mathlib.Core.Path.{◌≡◌, ◌∙◌, ap}
use mathlib.Core.Bool.{Bool, true, false}
use mathlib.Core.List.{List}
use native.Mathlib.Omega.{arith}
use lib.Dec.{ltb}
use borrow.Author.Tests.{ltb-false}
use Rattle.refusals.specs.Verdict.{Passed, refuse}
use Rattle.refusals.specs.Tests.{refuse_if, ◌then◌, in_order}
use Rattle.refusals.specs.declared.Refusal.{Refusal}
use Rattle.refusals.specs.declared.Refusal.TheVariants.{Ragged, OutOfOrder, NoRoom}
use Rattle.refusals.proofs.Tests.{refuse_if-passes, then-passes, passed_then}
use Rattle.model.specs.Netlist as M
use Rattle.model.specs.Acceptance.{Accepted}
use Rattle.netlist.specs.NetOf.{net_of}
use Rattle.netlist.specs.Places.{control_line}
use Rattle.netlist.specs.Faults.{code_fault}
use Rattle.netlist.specs.declared.Netlist.{Netlist}
use Rattle.netlist.proofs.Places.{every-place}
use Rattle.netlist.proofs.Faults.{Without, codes-fit}
use Rattle.netlist_tests.specs.Record.{test_ports, lists_short}
use Rattle.netlist_tests.proofs.Acceptance.{lists-long, ports-pass}
use Rattle.sheet_steps.specs.Lists.{Holds}
use Rattle.sheet_steps.proofs.Records.{holds}
use Rattle.sheet_parse.specs.Files.{line_count, net_in}
use Rattle.sheet_parse.specs.FileTests.{ragged, test_line_in}
use Rattle.sheet_parse.proofs.LineTests.{line-passed, sizes-passed}
use Rattle.sheet_tests.specs.Sheet.{end_verdict, file_verdict, sheet_verdict}

-- the file's netlist, where all tests of the file pass
module _ (file : List ℕ) (passed : file_verdict file ≡ Passed) where
  pub lines-pass : in_order (test_line_in (net_in file) file) (line_count file) ≡ Passed
  unfolding file_verdict ◌then◌
  lines-pass =
      ((then-passes (in_order (test_line_in (net_in file) file) (line_count file)) (end_verdict (net_in file) (line_count file))).0
      ((then-passes (refuse_if (ragged file) Ragged 0)
      (in_order (test_line_in (net_in file) file) (line_count file) then end_verdict (net_in file) (line_count file))).0 passed).1).0

  pub end-passes : (control_line (net_in file) ≤ line_count file) × (test_ports (net_in file) ≡ Passed)
  unfolding file_verdict end_verdict ◌then◌
  end-passes =
      let missing = refuse_if (ltb (line_count file) (control_line (net_in file))) OutOfOrder (line_count file + 1) in
      let port = test_ports (net_in file) in
      let lines = in_order (test_line_in (net_in file) file) (line_count file) in
      let end = ((then-passes lines (missing then port)).0
      ((then-passes (refuse_if (ragged file) Ragged 0) (lines then missing then port)).0 passed).1).1 in
      let parts = (then-passes missing port).0 end in (
        ltb-false (line_count file) (control_line (net_in file))
            ((refuse_if-passes (ltb (line_count file) (control_line (net_in file))) OutOfOrder (line_count file + 1)).0 parts.0),
        parts.1,
      )

  pub accepted-in : Accepted (net_in file)
  accepted-in =
      let whole = end-passes.0 in
      record {
        limits =
            record {
              sizes = sizes-passed file (line_count file) lines-pass (omega arith);
              codes =
                  (codes-fit (net_in file)).0
                  ((every-place (net_in file) (Without code_fault (net_in file))).1
                  (λ p l b. (line-passed file (line_count file) lines-pass p l (omega arith)).code));
            };
        no_tie = ((ports-pass (net_in file)).0 end-passes.1).0;
        no_loop = ((ports-pass (net_in file)).0 end-passes.1).1;
      }

-- the list sizes in a record
pub sizes-held : (r : Netlist) (latches gates : List ℕ) {c : M.Netlist} → Holds r latches gates c
    → (r.latches ≡ c.latches) × (r.gates ≡ c.gates)
unfolding net_of
sizes-held r latches gates holds = (
  ap (λ (c : M.Netlist). c.latches) holds.net-is,
  ap (λ (c : M.Netlist). c.gates) holds.net-is,
)

module _ (file : List ℕ) (latch_room gate_room : ℕ) where
  -- whether a list has too little room
  abbrev pub short : Bool
  short = lists_short (net_in file) latch_room gate_room

  -- the verdict, where the file is refused, where a list has too little room, and where neither is so
  pub sheet-refused : {r : Refusal} {p : ℕ} → file_verdict file ≡ refuse r p → sheet_verdict file latch_room gate_room ≡ refuse r p
  unfolding sheet_verdict ◌then◌
  sheet-refused e = rw e

  by-room : file_verdict file ≡ Passed → sheet_verdict file latch_room gate_room ≡ refuse_if short NoRoom 0
  unfolding sheet_verdict
  by-room e = rw (e, passed_then _)

  pub sheet-short : file_verdict file ≡ Passed → short ≡ true → sheet_verdict file latch_room gate_room ≡ refuse NoRoom 0
  sheet-short e h = by-room e ∙ rw h

  pub sheet-passed : file_verdict file ≡ Passed → short ≡ false → sheet_verdict file latch_room gate_room ≡ Passed
  sheet-passed e h = by-room e ∙ rw h

  -- what the verdict Passed says
  pub passed-file : sheet_verdict file latch_room gate_room ≡ Passed → file_verdict file ≡ Passed
  unfolding sheet_verdict
  passed-file e = ((then-passes (file_verdict file) _).0 e).0

  pub passed-sheet : sheet_verdict file latch_room gate_room ≡ Passed
      → Accepted (net_in file) × ((net_in file).latches ≤ latch_room) × ((net_in file).gates ≤ gate_room)
  unfolding sheet_verdict
  passed-sheet e =
      let parts = (then-passes (file_verdict file) _).0 e in
      let long = (lists-long (net_in file) latch_room gate_room).0 ((refuse_if-passes short NoRoom 0).0 parts.1) in
      (accepted-in file parts.0, long.0, long.1)
