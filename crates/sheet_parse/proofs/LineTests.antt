-- The test of a line in the whole file (specs/FileTests.antt) is the test of it in the netlist as far as it is read (`step_verdict`).
-- No contract cites this file.
use Prim.Native.Nat.{ℕ, ◌+◌, ◌≤◌}
use mathlib.Core.Path.{◌≡◌, refl, sym, ◌∙◌, subst}
use mathlib.Core.Bool.{Bool, true, false, not, ◌||◌, false≢true}
use mathlib.Core.Logic.{by_cases}
use mathlib.Core.List.{List, []}
use native.Mathlib.Decide.{dec_lt}
use native.Mathlib.Numerals.{add-one}
use native.Mathlib.Omega.{arith}
use lib.Dec.{ltb}
use borrow.Author.Tests.{lt-ltb, le-ltb, ltb-false, not-false}
use Rattle.refusals.specs.Verdict.{Verdict, Passed, refuse}
use Rattle.refusals.specs.Tests.{refuse_if, ◌then◌, in_order}
use Rattle.refusals.specs.declared.Refusal.{Refusal}
use Rattle.refusals.specs.declared.Refusal.TheVariants.{OutOfOrder, Size, CodeOutside}
use Rattle.refusals.specs.declared.Refusal.TheVariants as Word
use Rattle.refusals.proofs.Tests.{refused-not-passed, refuse_if-passes, then-passes, in_order-suc, in_order-kept, in_order-passes}
use Rattle.model.specs.Netlist as M
use Rattle.model.specs.Acceptance.{SizesFit}
use Rattle.model.proofs.Agree.{sizes_fit-same}
use Rattle.model.proofs.Booleans.{neither-true}
use Rattle.netlist.specs.NetOf.{net_of, alone}
use Rattle.netlist.specs.Places.{control_line, line_at}
use Rattle.netlist.specs.Faults.{size_fault, code_fault}
use Rattle.netlist.specs.declared.Line.{Line}
use Rattle.netlist.specs.declared.Netlist.{Netlist}
use Rattle.netlist.proofs.NetOf.{sizes-lists}
use Rattle.netlist.proofs.Places.{at-sizes, at-memory}
use Rattle.netlist.proofs.Faults.{sizes-fit}
use Rattle.sheet_lines.specs.declared.Kind.{Kind}
use Rattle.sheet_lines.specs.declared.ParsedLine.{ParsedLine}
use Rattle.sheet_lines.specs.declared.ParsedLine.TheVariants as ParsedLine
use Rattle.sheet_steps.specs.declared.SheetAnswer.{SheetAnswer}
use Rattle.sheet_parse.specs.Files.{line_in, sizes_in, net_in}
use Rattle.sheet_steps.specs.Due.{is_due}
use Rattle.sheet_parse.specs.FileTests.{test_read, test_line_in}
use Rattle.sheet_steps.specs.LineFaults.{faults_at}
use Rattle.sheet_steps.specs.Steps.{step_net, step_verdict, SizesKnown, Outcome}
use Rattle.sheet_steps.specs.Lists.{Holds}
use Rattle.sheet_steps.proofs.Places.{place_of, place-line_at}
use Rattle.sheet_steps.proofs.Records.{outcome-same}
use Rattle.sheet_parse.proofs.Files.{net_to, ports-in, stored_next, line_at-in, control_line-in, sizes-to, due-to, past_to, size_fault-to, code_fault-to}

-- whether a line that is read is the line due
abbrev pub is_line : Line → ParsedLine → Bool
is_line due ParsedLine.Misprint = false
is_line due (ParsedLine.Read kind x y z e) = is_due due kind

-- one that is, and not behind the last, is tested for faults
pub test-due : (c : M.Netlist) (q : ℕ) (line : ParsedLine) → q ≤ control_line c → is_line (line_at c q) line ≡ true
    → test_read c q line ≡ faults_at c (line_at c q) q
unfolding test_read ◌then◌
test-due c q ParsedLine.Misprint b h = absurd (false≢true h)
test-due c q (ParsedLine.Read kind x y z u) b h = rw (le-ltb (control_line c) q b, h)

-- a misprinted line
pub test-misprint : (c : M.Netlist) (file : List ℕ) (q : ℕ) → line_in file q ≡ ParsedLine.Misprint → test_line_in c file q ≡ refuse Word.Misprint q
unfolding test_line_in test_read
test-misprint c file q e = rw e

-- a printed line
test-printed : (c : M.Netlist) (file : List ℕ) (q : ℕ) (kind : Kind) (x y z u : ℕ) → line_in file q ≡ ParsedLine.Read kind x y z u
    → test_line_in c file q ≡ (refuse_if (ltb (control_line c) q || not (is_due (line_at c q) kind)) OutOfOrder q then faults_at c (line_at c q) q)
unfolding test_line_in test_read
test-printed c file q kind x y z u e = rw e

module _ (file : List ℕ) (p : ℕ) (kind : Kind) (x y z u : ℕ) (e : line_in file (p + 1) ≡ ParsedLine.Read kind x y z u) where
  -- a line not behind the last puts its numbers into the netlist
  pub step_net-next : p + 1 ≤ control_line (net_in file) → step_net (net_to file p) kind x y z u (p + 1) ≡ net_to file (p + 1)
  unfolding step_net
  step_net-next b = rw (due-to file p, ← line_at-in file (p + 1)) (rw e at (stored_next file p (rw (control_line-in file) b) kind (rw e)))

  -- its faults are those in the whole file
  faults-next : p + 1 ≤ control_line (net_in file) → faults_at (net_to file (p + 1)) (line_at (net_in file) (p + 1)) (p + 1) ≡ faults_at (net_in file) (line_at (net_in file) (p + 1)) (p + 1)
  unfolding faults_at ◌then◌
  faults-next b = rw (size_fault-to file (p + 1) (line_at (net_in file) (p + 1)) read, code_fault-to file (p + 1) (line_at (net_in file) (p + 1)) read)
    where
      read : place_of (sizes_in file) (line_at (net_in file) (p + 1)) ≤ p + 1
      read = rw (← line_at-in file (p + 1)) (omega (arith, place-line_at (sizes_in file) (ports-in file) (p + 1) (omega arith) (rw (control_line-in file) b)))

  -- so is its verdict
  pub step-next : step_verdict (net_to file p) kind x y z u (p + 1) ≡ test_line_in (net_in file) file (p + 1)
  unfolding step_verdict ◌then◌
  step-next =
      rw (past_to file p, due-to file p, test-printed (net_in file) file (p + 1) kind x y z u e)
      (by_cases (dec_lt (control_line (net_in file)) (p + 1))
      (λ h. rw (lt-ltb (control_line (net_in file)) (p + 1) h))
      (λ h. rw (step_net-next (omega arith), faults-next (omega arith))))

-- a line that passes is the line due, and has none of the faults
pub record NoFault (c : M.Netlist) (file : List ℕ) (q : ℕ) : Type 0 where
  pub kind : Kind
  pub x : ℕ
  pub y : ℕ
  pub z : ℕ
  pub empty : ℕ
  pub read : line_in file q ≡ ParsedLine.Read kind x y z empty
  pub within : q ≤ control_line c
  pub due : is_due (line_at c q) kind ≡ true
  pub size : size_fault c (line_at c q) ≡ false
  pub code : code_fault c (line_at c q) ≡ false

no-fault : (c : M.Netlist) (file : List ℕ) (q : ℕ) → test_line_in c file q ≡ Passed → NoFault c file q
unfolding faults_at
no-fault c file q e = by-line (line_in file q) refl
  where
    by-line : (line : ParsedLine) → line_in file q ≡ line → NoFault c file q
    by-line ParsedLine.Misprint is = absurd (refused-not-passed (sym (test-misprint c file q is) ∙ e))
    by-line (ParsedLine.Read kind x y z u) is =
        let wrong = ltb (control_line c) q || not (is_due (line_at c q) kind) in
        let size = refuse_if (size_fault c (line_at c q)) Size q in
        let code = refuse_if (code_fault c (line_at c q)) CodeOutside q in
        let b = (then-passes (refuse_if wrong OutOfOrder q) (size then code)).0 (sym (test-printed c file q kind x y z u is) ∙ e) in
        let order = (neither-true (ltb (control_line c) q) (not (is_due (line_at c q) kind))).0 ((refuse_if-passes wrong OutOfOrder q).0 b.0) in
        let d = (then-passes size code).0 b.1 in
        record {
          kind = kind;
          x = x;
          y = y;
          z = z;
          empty = u;
          read = is;
          within = ltb-false (control_line c) q order.0;
          due = not-false _ order.1;
          size = (refuse_if-passes (size_fault c (line_at c q)) Size q).0 d.0;
          code = (refuse_if-passes (code_fault c (line_at c q)) CodeOutside q).0 d.1;
        }

-- what has passed up to a place
module _ (file : List ℕ) (p : ℕ) (passed : in_order (test_line_in (net_in file) file) p ≡ Passed) where
  -- each line is without a fault
  pub line-passed : (q : ℕ) → 1 ≤ q → q ≤ p → NoFault (net_in file) file q
  line-passed q l b = no-fault (net_in file) file q ((in_order-passes (test_line_in (net_in file) file) p).0 passed q l b)

  -- the sizes are within their limits
  pub sizes-passed : 2 ≤ p → SizesFit (net_in file)
  unfolding size_fault
  sizes-passed h =
      (sizes-fit (net_in file)).0
      (record {
        of-sizes = subst (λ x. size_fault (net_in file) x ≡ false) (at-sizes (net_in file) 1 (omega arith)) (line-passed 1 (omega arith) (omega arith)).size;
        of-memory = subst (λ x. size_fault (net_in file) x ≡ false) (at-memory (net_in file) 2 refl) (line-passed 2 (omega arith) h).size;
        of-latch = λ l b. refl;
        of-gate = λ g b. refl;
        of-address = λ t b. refl;
        of-data = λ t b. refl;
        of-second-address = λ some t b. refl;
        of-second-enable = λ some. refl;
        of-control = refl;
      })

-- the lines up to place p have passed, and what they say is in the record and the lists
pub record ReadTo (file : List ℕ) (p : ℕ) (r : Netlist) (latches gates : List ℕ) : Type 0 where
  pub passed : in_order (test_line_in (net_in file) file) p ≡ Passed
  pub holds : Holds r latches gates (net_to file p)

-- so are those of the record as far as it is read
pub sizes_known-to : (file : List ℕ) (p : ℕ) (r : Netlist) (latches gates : List ℕ) → ReadTo file p r latches gates → SizesKnown (alone r) (p + 1)
sizes_known-to file p r latches gates read h =
    sizes-lists r latches gates [] []
    (subst SizesFit (sym read.holds.net-is) (sizes_fit-same (net_in file) (net_to file p) (sym (sizes-to file p (omega arith))) (sizes-passed file p read.passed (omega arith))))

-- a line that passes is not behind the last
pub within-last : (c : M.Netlist) (file : List ℕ) (q : ℕ) → test_line_in c file q ≡ Passed → q ≤ control_line c
within-last c file q e = (no-fault c file q e).within

-- what a line does to the record and the lists as far as they are read is what it does in the whole file
pub outcome-next : (file : List ℕ) (p : ℕ) (r : Netlist) (latches gates : List ℕ) → ReadTo file p r latches gates
    → (kind : Kind) (x y z u : ℕ) → line_in file (p + 1) ≡ ParsedLine.Read kind x y z u → (sheet : SheetAnswer) (new_latches new_gates : List ℕ)
    → Outcome sheet new_latches new_gates (step_verdict (net_of r latches gates) kind x y z u (p + 1)) (step_net (net_of r latches gates) kind x y z u (p + 1))
    → Outcome sheet new_latches new_gates (test_line_in (net_in file) file (p + 1)) (net_to file (p + 1))
outcome-next file p r latches gates read kind x y z u e sheet new_latches new_gates o =
    outcome-same (test_line_in (net_in file) file (p + 1)) (step-next file p kind x y z u e)
    (λ passed. step_net-next file p kind x y z u e (within-last (net_in file) file (p + 1) passed)) (rw read.holds.net-is at o)

-- the tests of places in their order, one place more
module _ (test : ℕ → Verdict) (p : ℕ) (h : in_order test p ≡ Passed) where
  one_more : in_order test (p + 1) ≡ test (p + 1)
  one_more = rw (add-one, in_order-suc test p h)

  pub next-passes : test (p + 1) ≡ Passed → in_order test (p + 1) ≡ Passed
  next-passes e = one_more ∙ e

  pub next-refuses : (n : ℕ) {r : Refusal} {q : ℕ} → p + 1 ≤ n → test (p + 1) ≡ refuse r q → in_order test n ≡ refuse r q
  next-refuses n l e = in_order-kept test (p + 1) n l (one_more ∙ e)
