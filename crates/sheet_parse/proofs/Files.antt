-- The netlist as far as a line and the netlist of the whole file (specs/Files.antt): one line more, the faults
-- of the last line, and the last line of all. No contract cites this file.
use Prim.Native.Nat.{ℕ, ◌+◌, ◌-◌, ◌*◌, ◌%◌, ◌≤◌, ◌<◌}
use mathlib.Core.Path.{◌≡◌, refl, sym, ◌∙◌, ap, subst, fun_ext}
use mathlib.Core.Bool.{Bool, true, false, cond, not, ◌||◌}
use mathlib.Core.Logic.{by_cases}
use mathlib.Core.List.{List}
use native.Mathlib.Decide.{ℕ_discrete, dec_lt, dec_le}
use native.Mathlib.Nat.{add-zero}
use native.Mathlib.Omega.{arith}
use lib.Dec.{eqb, ltb, leb}
use lib.ListN.{length, drop_of_length-le}
use borrow.Author.Tests.{ltb-false, eqb-true, eqb-false, not-false, lt-ltb, le-ltb, le-leb, lt-leb}
use Rattle.model.specs.Netlist.{Netlist}
use Rattle.model.specs.Agree.{SameSizes}
use Rattle.model.proofs.Booleans.{neither-true}
use Rattle.netlist.specs.Places.{latch_line, gate_line, address_line, data_line, second_address_line, second_enable_line, control_line, line_at}
use Rattle.netlist.specs.Faults.{size_fault, code_fault}
use Rattle.netlist.specs.declared.Line as Due
use Rattle.netlist.specs.declared.Line.TheVariants.{Sizes, Memory, Latch, Gate, Address, WriteData, SecondAddress, SecondEnable, Control}
use Rattle.sheet_lines.specs.Letters.{row_of, second_port_of}
use Rattle.sheet_lines.specs.Lines.{line_of}
use Rattle.sheet_lines.specs.declared.Kind.{Kind}
use Rattle.sheet_lines.specs.declared.ParsedLine.{ParsedLine}
use Rattle.sheet_lines.specs.declared.ParsedLine.TheVariants.{Misprint, Read}
use Rattle.sheet_parse.specs.Files.{line_count, line_in, column_of, empty_third, second_port_in, sizes_in, net_of_lines, net_in}
use Rattle.sheet_parse.specs.FileTests.{ragged}
use Rattle.sheet_steps.specs.LineIndex.{line_index}
use Rattle.sheet_steps.specs.Steps.{number_after, stored}
use Rattle.sheet_steps.proofs.Places.{row_of_line, size_of_row, place_of, InRow, same_line-here, same_line-elsewhere, same_line-none, line_at-known, past-known}

-- the lines up to place p; those behind say nothing yet
abbrev pub lines_to : List ℕ → ℕ → ℕ → ParsedLine
lines_to file p q = cond (leb q p) (line_in file q) Misprint

-- the netlist as far as line p
unfoldable pub net_to : List ℕ → ℕ → Netlist
net_to file p = net_of_lines (sizes_in file) (lines_to file p)

-- a letter says at most one port more
second-most : (line : ParsedLine) → second_port_in line ≤ 1
second-most Misprint = omega arith
second-most (Read k x y z e) = by-letter (eqb (row_of k) 2)
  where
    by-letter : (b : Bool) → cond b 1 0 ≤ 1
    by-letter true = omega arith
    by-letter false = omega arith

module _ (file : List ℕ) where
  -- so a file has one port or two
  pub ports-in : (sizes_in file).second_port ≤ 1
  unfolding sizes_in net_of_lines
  ports-in = second-most (line_in file 2)

  -- a line that is read, and one that is not yet
  pub lines_to-read : (p q : ℕ) → q ≤ p → lines_to file p q ≡ line_in file q
  lines_to-read p q h = rw (le-leb q p h)

  pub lines_to-unread : (p q : ℕ) → p < q → lines_to file p q ≡ Misprint
  lines_to-unread p q h = rw (lt-leb q p h)

  -- one line more: a number f of the line x, which stands where the sizes have it, or is 0 past them
  module _ (p : ℕ) (b : p + 1 ≤ control_line (sizes_in file)) (f : ParsedLine → ℕ) (x : Due.Line) where
    here : InRow (sizes_in file) x → p + 1 ≡ place_of (sizes_in file) x → number_after (line_at (sizes_in file) (p + 1)) x (f (line_in file (p + 1))) (f (lines_to file p (place_of (sizes_in file) x))) ≡ f (lines_to file (p + 1) (place_of (sizes_in file) x))
    here r e =
        rw (same_line-here (sizes_in file) ports-in (p + 1) (omega arith) b x r e, lines_to-read (p + 1) (place_of (sizes_in file) x) (omega arith), ← e)

    elsewhere : (p + 1 ≡ place_of (sizes_in file) x → ⊥) → number_after (line_at (sizes_in file) (p + 1)) x (f (line_in file (p + 1))) (f (lines_to file p (place_of (sizes_in file) x))) ≡ f (lines_to file (p + 1) (place_of (sizes_in file) x))
    elsewhere n =
        rw (same_line-elsewhere (sizes_in file) ports-in (p + 1) (omega arith) b x n)
        (by_cases (dec_le (place_of (sizes_in file) x) p)
        (λ h. rw (lines_to-read p (place_of (sizes_in file) x) h, lines_to-read (p + 1) (place_of (sizes_in file) x) (omega arith)))
        (λ h. rw (lines_to-unread p (place_of (sizes_in file) x) (omega arith), lines_to-unread (p + 1) (place_of (sizes_in file) x) (omega arith))))

    number-next : number_after (line_at (sizes_in file) (p + 1)) x (f (line_in file (p + 1))) (cond (ltb (line_index x) (size_of_row (sizes_in file) (row_of_line x))) (f (lines_to file p (place_of (sizes_in file) x))) 0) ≡ cond (ltb (line_index x) (size_of_row (sizes_in file) (row_of_line x))) (f (lines_to file (p + 1) (place_of (sizes_in file) x))) 0
    number-next =
        by_cases (dec_lt (line_index x) (size_of_row (sizes_in file) (row_of_line x)))
        (λ r. rw (lt-ltb (line_index x) (size_of_row (sizes_in file) (row_of_line x)) r)
        (by_cases (ℕ_discrete (p + 1) (place_of (sizes_in file) x)) (here r) elsewhere))
        (λ r. rw (le-ltb (line_index x) (size_of_row (sizes_in file) (row_of_line x)) (omega arith), same_line-none (sizes_in file) ports-in (p + 1) (omega arith) b x r))

  -- the same of the second RE and of the last line, each alone of its kind
  enable-next : (p : ℕ) (b : p + 1 ≤ control_line (sizes_in file)) (f : ParsedLine → ℕ)
      → number_after (line_at (sizes_in file) (p + 1)) SecondEnable (f (line_in file (p + 1))) (cond (ltb 0 (sizes_in file).second_port) (f (lines_to file p (second_enable_line (sizes_in file)))) 0) ≡ cond (ltb 0 (sizes_in file).second_port) (f (lines_to file (p + 1) (second_enable_line (sizes_in file)))) 0
  enable-next p b f = simp add-zero at (number-next p b f SecondEnable)

  control-next : (p : ℕ) (b : p + 1 ≤ control_line (sizes_in file)) (f : ParsedLine → ℕ)
      → number_after (line_at (sizes_in file) (p + 1)) Control (f (line_in file (p + 1))) (f (lines_to file p (control_line (sizes_in file)))) ≡ f (lines_to file (p + 1) (control_line (sizes_in file)))
  control-next p b f =
      subst (λ (q : ℕ). number_after (line_at (sizes_in file) (p + 1)) Control (f (line_in file (p + 1))) (f (lines_to file p q)) ≡ f (lines_to file (p + 1) q))
      (add-zero (control_line (sizes_in file))) (number-next p b f Control)

  -- one line more puts its numbers into the netlist
  pub stored_next : (p : ℕ) → p + 1 ≤ control_line (sizes_in file)
      → (kind : Kind) → second_port_of kind ≡ second_port_in (line_in file (p + 1))
      → stored (net_to file p) (line_at (sizes_in file) (p + 1)) kind (column_of 0 (line_in file (p + 1))) (column_of 1 (line_in file (p + 1))) (column_of 2 (line_in file (p + 1))) (empty_third (line_in file (p + 1))) ≡ net_to file (p + 1)
  unfolding stored net_to net_of_lines
  stored_next p b kind second =
      λ i. record {
        inputs = number-next p b (column_of 0) Sizes i;
        latches = number-next p b (column_of 1) Sizes i;
        gates = number-next p b (column_of 2) Sizes i;
        m = number-next p b (column_of 0) Memory i;
        n = number-next p b (column_of 1) Memory i;
        initial_word = number-next p b (column_of 2) Memory i;
        unknown_start = number-next p b empty_third Memory i;
        second_port = (ap (λ (s : ℕ). number_after (line_at (sizes_in file) (p + 1)) Memory s (second_port_in (lines_to file p 2))) second ∙ number-next p b second_port_in Memory) i;
        next = λ l. number-next p b (column_of 0) (Latch l) i;
        reset = λ l. number-next p b (column_of 1) (Latch l) i;
        left = λ g. number-next p b (column_of 0) (Gate g) i;
        right = λ g. number-next p b (column_of 1) (Gate g) i;
        address = λ t. number-next p b (column_of 0) (Address t) i;
        write_data = λ t. number-next p b (column_of 0) (WriteData t) i;
        WE = control-next p b (column_of 0) i;
        RE = control-next p b (column_of 1) i;
        P = control-next p b (column_of 2) i;
        address2 = λ t. number-next p b (column_of 0) (SecondAddress t) i;
        RE2 = enable-next p b (column_of 0) i;
      }

  -- the lines of the file's netlist are where its sizes have them
  pub line_at-in : (p : ℕ) → line_at (sizes_in file) p ≡ line_at (net_in file) p
  unfolding sizes_in net_in net_of_lines line_at
  line_at-in p = refl

  pub control_line-in : control_line (sizes_in file) ≡ control_line (net_in file)
  unfolding sizes_in net_in net_of_lines
  control_line-in = refl

  -- from line 2 on they are known
  pub sizes-to : (p : ℕ) → 2 ≤ p → SameSizes (net_to file p) (net_in file)
  unfolding net_to net_in net_of_lines
  sizes-to p h = rw (lines_to-read p 1 (omega arith), lines_to-read p 2 h)

  -- so is the line due next, in any case, and whether it is behind the last
  pub due-to : (p : ℕ) → line_at (net_to file p) (p + 1) ≡ line_at (net_in file) (p + 1)
  due-to p = line_at-known (net_to file p) (net_in file) (p + 1) (λ h. sizes-to p (omega arith))

  pub past_to : (p : ℕ) → ltb (control_line (net_to file p)) (p + 1) ≡ ltb (control_line (net_in file)) (p + 1)
  past_to p = past-known (net_to file p) (net_in file) (p + 1) (λ h. sizes-to p (omega arith))

  -- the faults of a line that is read are those in the whole file
  pub size_fault-to : (p : ℕ) (x : Due.Line) → place_of (sizes_in file) x ≤ p → size_fault (net_to file p) x ≡ size_fault (net_in file) x
  unfolding net_to net_in net_of_lines size_fault
  size_fault-to p Sizes h = rw (lines_to-read p 1 h)
  size_fault-to p Memory h = rw (lines_to-read p 1 (omega arith), lines_to-read p 2 h)
  size_fault-to p (Latch l) h = refl
  size_fault-to p (Gate g) h = refl
  size_fault-to p (Address t) h = refl
  size_fault-to p (WriteData t) h = refl
  size_fault-to p (SecondAddress t) h = refl
  size_fault-to p SecondEnable h = refl
  size_fault-to p Control h = refl

  pub code_fault-to : (p : ℕ) (x : Due.Line) → place_of (sizes_in file) x ≤ p → code_fault (net_to file p) x ≡ code_fault (net_in file) x
  unfolding net_to net_in net_of_lines code_fault
  code_fault-to p Sizes h = refl
  code_fault-to p Memory h = refl
  code_fault-to p (Latch l) h =
      rw (lines_to-read p 1 (omega arith), lines_to-read p 2 (omega arith), lines_to-read p (latch_line (sizes_in file) l) h)
  code_fault-to p (Gate g) h =
      rw (lines_to-read p 1 (omega arith), lines_to-read p 2 (omega arith), lines_to-read p (gate_line (sizes_in file) g) h)
  code_fault-to p (Address t) h =
      rw (lines_to-read p 1 (omega arith), lines_to-read p 2 (omega arith), lines_to-read p (address_line (sizes_in file) t) h)
  code_fault-to p (WriteData t) h =
      rw (lines_to-read p 1 (omega arith), lines_to-read p 2 (omega arith), lines_to-read p (data_line (sizes_in file) t) h)
  code_fault-to p (SecondAddress t) h =
      rw (lines_to-read p 1 (omega arith), lines_to-read p 2 (omega arith), lines_to-read p (second_address_line (sizes_in file) t) h)
  code_fault-to p SecondEnable h =
      rw (lines_to-read p 1 (omega arith), lines_to-read p 2 (omega arith), lines_to-read p (second_enable_line (sizes_in file)) (omega arith))
  code_fault-to p Control h =
      rw (lines_to-read p 1 (omega arith), lines_to-read p 2 (omega arith), lines_to-read p (control_line (sizes_in file)) (omega arith))

  -- behind the last line of the file there is nothing to read
  line_in-past : (q : ℕ) → length file ≤ 32 * (q - 1) → line_in file q ≡ Misprint
  unfolding line_in line_of
  line_in-past q h = rw (drop_of_length-le file h)

  -- as far as the last line of a file of whole lines, the netlist is that of the file
  pub net_to-all : length file ≡ 32 * line_count file → net_to file (line_count file) ≡ net_in file
  unfolding net_to net_in
  net_to-all whole = ap (net_of_lines (sizes_in file)) (fun_ext same)
    where
      same : (q : ℕ) → lines_to file (line_count file) q ≡ line_in file q
      same q =
          by_cases (dec_le q (line_count file))
          (λ h. lines_to-read (line_count file) q h)
          (λ h. lines_to-unread (line_count file) q (omega arith) ∙ sym (line_in-past q (omega arith)))

-- a file that is not ragged: whole lines, at least one and at most 627
pub record WholeLines (file : List ℕ) : Type 0 where
  pub some : 1 ≤ length file
  pub whole : length file ≡ 32 * line_count file
  pub most : length file ≤ 20064

pub whole-lines : (file : List ℕ) → ragged file ≡ false → WholeLines file
unfolding ragged
whole-lines file e =
    let long = (neither-true (eqb (length file) 0 || not (eqb (length file % 32) 0)) (ltb 20064 (length file))).0 e in
    let part = (neither-true (eqb (length file) 0) (not (eqb (length file % 32) 0))).0 long.0 in
    let none : length file ≡ 0 → ⊥ = eqb-false (length file) 0 part.0 in
    let rest : length file % 32 ≡ 0 = eqb-true (length file % 32) 0 (not-false (eqb (length file % 32) 0) part.1) in
    record { some = omega arith; whole = omega arith; most = ltb-false 20064 (length file) long.1 }
