-- The sheet of an accepted netlist passes every test of sheets, and is read as a netlist that agrees (specs/WriteCall.antt). No contract cites
-- this file.
use Prim.Native.Nat.{ℕ, ◌%◌, ◌≤◌}
use mathlib.Core.Path.{◌≡◌, ◌∙◌}
use mathlib.Core.Bool.{false}
use mathlib.Core.List.{List}
use native.Mathlib.Omega.{arith}
use lib.ListN.{length}
use borrow.Author.Tests.{eq-eqb, ne_eqb, le-ltb}
use Rattle.refusals.specs.Verdict.{Passed}
use Rattle.model.specs.Netlist.{Netlist}
use Rattle.model.specs.Acceptance.{Accepted}
use Rattle.model.specs.Agree.{Agree}
use Rattle.model.proofs.Agree.{accepted-same, latches-same, gates-same}
use Rattle.refusals.specs.Tests.{in_order}
use Rattle.refusals.proofs.Tests.{passed_then, in_order-passes}
use Rattle.netlist.specs.Places.{control_line, line_at}
use Rattle.netlist.specs.Faults.{size_fault, code_fault}
use Rattle.netlist.proofs.Places.{every-place}
use Rattle.netlist.proofs.Faults.{Without, sizes-fit, codes-fit}
use Rattle.netlist_tests.proofs.Acceptance.{lists-long, ports-pass}
use Rattle.call_unpacked.proofs.Calls.{lines-most}
use Rattle.sheet_steps.specs.LineFaults.{faults_at}
use Rattle.sheet_steps.proofs.Places.{line_at-known}
use Rattle.sheet_parse.specs.Files.{line_count, net_in}
use Rattle.sheet_parse.specs.FileTests.{ragged, test_line_in}
use Rattle.sheet_parse.proofs.LineTests.{test-due}
use Rattle.sheet_tests.specs.Sheet.{end_verdict, file_verdict, sheet_verdict}
use Rattle.sheet_tests.proofs.Verdicts.{file-lines, end_whole}
use Rattle.sheet_tests.proofs.Codes.{sheet-passed}
use Rattle.sheet_text.specs.SheetText.{sheet_text}
use Rattle.sheet_text.proofs.SheetText.{read_as, is-due, length-sheet_text, line-in, agrees-read, ends_same}

module _ (c : Netlist) (accepted : Accepted c) where
  abbrev file : List ℕ
  file = sheet_text c

  abbrev read : Netlist
  read = net_in (sheet_text c)

  agree : Agree c read
  agree = agrees-read c accepted.limits

  pub read-accepted : Accepted read
  read-accepted = accepted-same c read agree accepted

  -- both have the same lines, as many as the file
  ends : control_line c ≡ control_line read
  ends = ends_same c read agree

  count : line_count file ≡ control_line c
  count = omega (arith, length-sheet_text c accepted.limits)

  due : (p : ℕ) → line_at c p ≡ line_at read p
  due p = line_at-known c read p (λ h. agree.sizes-same)

  not-ragged : ragged file ≡ false
  unfolding ragged
  not-ragged =
      let long = length-sheet_text c accepted.limits in
      let sizes = accepted.limits.sizes in
      rw (
        ne_eqb (length file) 0 (λ e. omega arith),
        eq-eqb (length file % 32) 0 (omega arith),
        le-ltb 20064 (length file) (omega (arith, lines-most c sizes)),
      )

  -- no line is refused
  line-passes : (p : ℕ) → 1 ≤ p → p ≤ control_line c → test_line_in read file p ≡ Passed
  unfolding test_line_in faults_at
  line-passes p l b =
      let within : p ≤ control_line read = rw (← ends) b in
      rw (
        line-in c accepted.limits p l b,
        test-due read p (read_as c (line_at c p)) within (rw (← due p) (is-due c (line_at c p))),
        (every-place read (Without size_fault read)).0 ((sizes-fit read).1 read-accepted.limits.sizes) p l within,
        (every-place read (Without code_fault read)).0 ((codes-fit read).1 read-accepted.limits.codes) p l within,
      )
      (simp passed_then)

  lines-pass : in_order (test_line_in read file) (line_count file) ≡ Passed
  lines-pass = (in_order-passes (test_line_in read file) (line_count file)).1 (λ p l b. line-passes p l (rw count at b))

  -- nor what stands behind the last
  end-passes : end_verdict read (line_count file) ≡ Passed
  end-passes =
      end_whole read (line_count file) (rw (count, ends) (omega arith))
      ∙ (ports-pass read).1 (read-accepted.no_tie, read-accepted.no_loop)

  file-passes : file_verdict file ≡ Passed
  file-passes = file-lines file not-ragged lines-pass ∙ end-passes

  -- into lists with room
  pub sheet-passes : (latch_room gate_room : ℕ) → c.latches ≤ latch_room → c.gates ≤ gate_room → sheet_verdict file latch_room gate_room ≡ Passed
  sheet-passes latch_room gate_room long-latches long-gates =
      sheet-passed file latch_room gate_room file-passes
      ((lists-long read latch_room gate_room).1 (rw (← latches-same c read agree) long-latches, rw (← gates-same c read agree) long-gates))
