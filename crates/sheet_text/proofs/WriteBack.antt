-- A sheet that is accepted is the sheet of the netlist that it is read as (specs/SheetText.antt). No contract cites this file.
use Prim.Native.Nat.{ℕ, ◌+◌, ◌-◌, ◌*◌, ◌≤◌, ◌<◌}
use mathlib.Core.Path.{◌≡◌, refl, sym, ◌∙◌, ap}
use mathlib.Core.Bool.{Bool, true, false, ◌&&◌, ◌||◌, false≢true}
use mathlib.Core.List.{List}
use native.Mathlib.Nat.{add-zero}
use native.Mathlib.Omega.{arith}
use lib.Dec.{eqb}
use lib.ListN.{get_or, length, take, drop}
use borrow.Author.Tests.{eqb-true, ne_eqb, lt-ltb}
use Rattle.refusals.specs.Verdict.{Passed}
use Rattle.model.proofs.Gather.{gathers_same}
use Rattle.refusals.specs.declared.Refusal.TheVariants.{Ragged}
use Rattle.refusals.proofs.Tests.{refuse_if-passes, first_passes, in_order-passes}
use Rattle.netlist.specs.Places.{control_line, line_at, HasLine}
use Rattle.netlist.specs.declared.Line.{Line}
use Rattle.netlist.specs.declared.Line.TheVariants as Due
use Rattle.netlist.proofs.Places.{has-line_at}
use Rattle.sheet_lines.specs.Letters.{kinds, row_of, second_port_of, content_of}
use Rattle.sheet_lines.specs.Lines.{line_text}
use Rattle.sheet_lines.specs.declared.Kind.{Kind}
use Rattle.sheet_lines.specs.declared.Kind.TheVariants.{Sizes, Memory, TwoPorts, Latch, Gate, Address, WriteData, SecondAddress, SecondEnable, Control, Unknown}
use Rattle.sheet_lines.specs.declared.ParsedLine.TheVariants.{Read}
use Rattle.sheet_lines.proofs.Letters.{kind-at-row}
use Rattle.sheet_lines.proofs.Lines.{lines-as-written}
use Rattle.sheet_steps.specs.Due.{kind_due, is_due}
use Rattle.sheet_steps.proofs.Places.{place_of, second-address, place-line_at}
use Rattle.sheet_parse.specs.Files.{line_count, line_in, sizes_in, net_of_lines, net_in}
use Rattle.sheet_parse.specs.FileTests.{ragged, test_line_in}
use Rattle.sheet_parse.proofs.Files.{ports-in, whole-lines}
use Rattle.sheet_parse.proofs.LineTests.{line-passed, within-last}
use Rattle.sheet_tests.specs.Sheet.{file_verdict}
use Rattle.sheet_tests.proofs.Codes.{lines-pass, end-passes}
use Rattle.sheet_text.specs.SheetText.{sheet_text}
use Rattle.sheet_text.specs.PrintedAt.{memory_kind, printed_at}
use Rattle.sheet_text.proofs.Parts.{parts-gather}
use Rattle.sheet_text.proofs.Placed.{line_behind, placed}

-- a kind is known by its row
row-one-kind : (k l : Kind) → row_of k ≡ row_of l → k ≡ l
row-one-kind k l e = sym (kind-at-row k) ∙ ap (λ row. get_or kinds row Unknown) e ∙ kind-at-row l

-- the kind of a line that is due, and that of the second line
kind-due : (due : Line) (k : Kind) → (row_of (kind_due due) ≡ 1 → ⊥) → is_due due k ≡ true → k ≡ kind_due due
kind-due due k other h =
    row-one-kind k (kind_due due)
    (eqb-true (row_of k) (row_of (kind_due due)) (first (eqb (row_of k) (row_of (kind_due due))) (eqb (row_of k) 2) (rw (ne_eqb (row_of (kind_due due)) 1 other) at h)))
  where
    first : (x y : Bool) → (x || (y && false)) ≡ true → x ≡ true
    first true y h = refl
    first false true h = h
    first false false h = h

second-kind : (k : Kind) → is_due Due.Memory k ≡ true → memory_kind (second_port_of k) ≡ k
second-kind Sizes h = absurd (false≢true h)
second-kind Memory h = refl
second-kind TwoPorts h = refl
second-kind Latch h = absurd (false≢true h)
second-kind Gate h = absurd (false≢true h)
second-kind Address h = absurd (false≢true h)
second-kind WriteData h = absurd (false≢true h)
second-kind SecondAddress h = absurd (false≢true h)
second-kind SecondEnable h = absurd (false≢true h)
second-kind Control h = absurd (false≢true h)
second-kind Unknown h = absurd (false≢true h)

module _ (file : List ℕ) where
  -- a line's text is that of the numbers that are read there: what stands in an empty field does not show
  text-of-line : (due : Line) → HasLine (net_in file) due → (k : Kind) → is_due due k ≡ true → (x y z empty : ℕ) → line_in file (place_of (net_in file) due) ≡ Read k x y z empty
      → printed_at (net_in file) due ≡ line_text k x y z empty
  unfolding printed_at net_in net_of_lines sizes_in line_text content_of
  text-of-line Due.Sizes h k is x y z empty e = rw (kind-due Due.Sizes k (λ q. omega arith) is, e)
  text-of-line Due.Memory h k is x y z empty e = rw (e, second-kind k is)
  text-of-line (Due.Latch l) h k is x y z empty e = rw (kind-due (Due.Latch l) k (λ q. omega arith) is, lt-ltb l _ h, e)
  text-of-line (Due.Gate g) h k is x y z empty e = rw (kind-due (Due.Gate g) k (λ q. omega arith) is, lt-ltb g _ h, e)
  text-of-line (Due.Address t) h k is x y z empty e = rw (kind-due (Due.Address t) k (λ q. omega arith) is, lt-ltb t _ h, e)
  text-of-line (Due.WriteData t) h k is x y z empty e = rw (kind-due (Due.WriteData t) k (λ q. omega arith) is, lt-ltb t _ h, e)
  text-of-line (Due.SecondAddress t) h k is x y z empty e =
      rw (kind-due (Due.SecondAddress t) k (λ q. omega arith) is, lt-ltb t _ ((second-address (sizes_in file) (ports-in file) t).1 h), e)
  text-of-line Due.SecondEnable h k is x y z empty e =
      rw (kind-due Due.SecondEnable k (λ q. omega arith) is, lt-ltb 0 _ h, simp add-zero at e)
  text-of-line Due.Control h k is x y z empty e =
      let place : control_line (net_in file) + 0 ≡ control_line (net_in file) = add-zero _ in
      rw (kind-due Due.Control k (λ q. omega arith) is, sym (ap (line_in file) place) ∙ e)

  one-port-more : (net_in file).second_port ≤ 1
  unfolding net_in net_of_lines sizes_in
  one-port-more = ports-in file

  module _ (passed : file_verdict file ≡ Passed) where
    whole : length file ≡ 32 * line_count file
    unfolding file_verdict
    whole = (whole-lines file ((refuse_if-passes (ragged file) Ragged 0).0 (first_passes _ _ passed))).whole

    some : 1 ≤ line_count file
    unfolding file_verdict
    some = omega (arith, whole, (whole-lines file ((refuse_if-passes (ragged file) Ragged 0).0 (first_passes _ _ passed))).some)

    ends : control_line (net_in file) ≡ line_count file
    ends =
        let last = (in_order-passes (test_line_in (net_in file) file) (line_count file)).0 (lines-pass file passed) (line_count file) some (omega arith) in
        omega (arith, within-last (net_in file) file (line_count file) last, (end-passes file passed).0)

    -- the line at a place, as it is printed
    line-text : (p : ℕ) → p < control_line (net_in file) → printed_at (net_in file) (line_at (net_in file) (p + 1)) ≡ take 32 (drop (32 * p) file)
    unfolding line_in
    line-text p b =
        let c = net_in file in
        let back : p + 1 - 1 ≡ p = omega arith in
        let line = line-passed file (line_count file) (lines-pass file passed) (p + 1) (omega arith) (omega (arith, ends)) in
        let place : place_of c (line_at c (p + 1)) ≡ p + 1 = place-line_at c one-port-more (p + 1) (omega arith) (omega arith) in
        text-of-line (line_at c (p + 1)) (has-line_at c (p + 1)) line.kind line.due line.x line.y line.z line.empty (ap (line_in file) place ∙ line.read)
        ∙ sym (lines-as-written.read→text (take 32 (drop (32 * (p + 1 - 1)) file)) line.kind line.x line.y line.z line.empty line.read)
        ∙ ap (λ q. take 32 (drop (32 * q) file)) back

    pub written_back : sheet_text (net_in file) ≡ file
    written_back =
        placed (net_in file) one-port-more
        ∙ gathers_same {f = line_behind (net_in file)} {h = λ p. take 32 (drop (32 * p) file)} ends line-text
        ∙ parts-gather 32 (line_count file) file whole
