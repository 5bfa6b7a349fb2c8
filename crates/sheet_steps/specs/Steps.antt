-- What one line more does: its numbers put into the netlist read so far, and its tests there. Cited by the functions that take one
-- line more, by those that read a whole file, sheet_parse/specs/Progress and sheet_tests/specs/LinesPassed.
use Rattle.std.specs.Prelude.{ℕ, ◌≤◌, ◌≡◌, cond, not, ◌||◌, List, ltb}
use Rattle.refusals.specs.Verdict.{Verdict}
use Rattle.refusals.specs.Tests.{refuse_if, ◌then◌}
use Rattle.refusals.specs.declared.Refusal.TheVariants.{OutOfOrder}
use Rattle.model.specs.Netlist.{Netlist}
use Rattle.model.specs.Acceptance.{SizesFit}
use Rattle.netlist.specs.NetOf.{net_of}
use Rattle.netlist.specs.Places.{line_at, control_line}
use Rattle.netlist.specs.declared.Netlist as R
use Rattle.netlist.specs.declared.Line.{Line}
use Rattle.netlist.specs.declared.Line.TheVariants.{Sizes, Memory, Latch, Gate, Address, WriteData, SecondAddress, SecondEnable, Control}
use Rattle.sheet_lines.specs.Letters.{second_port_of}
use Rattle.sheet_lines.specs.declared.Kind.{Kind}
use Rattle.sheet_steps.specs.declared.SheetAnswer.{SheetAnswer}
use Rattle.sheet_steps.specs.Due.{is_due}
use Rattle.sheet_steps.specs.LineIndex.{same_line}
use Rattle.sheet_steps.specs.LineFaults.{faults_at}
use Rattle.sheet_steps.specs.Records.{sheet_answer}
use Rattle.sheet_steps.specs.Lists.{FullLength, Holds, ListsBeside}

-- a number that stands in line `at`, where line `due` is read: the new one if it is that line, else the old one
abbrev pub number_after : Line → Line → ℕ → ℕ → ℕ
number_after due at new old = cond (same_line due at) new old

-- a netlist with the numbers of line `due` put where that line has them, e saying whether its third field is left empty, and its kind
-- which letter line 2 has
unfoldable pub stored : Netlist → Line → Kind → ℕ → ℕ → ℕ → ℕ → Netlist
stored c due kind x y z e =
    record {
      inputs = number_after due Sizes x c.inputs;
      latches = number_after due Sizes y c.latches;
      gates = number_after due Sizes z c.gates;
      m = number_after due Memory x c.m;
      n = number_after due Memory y c.n;
      initial_word = number_after due Memory z c.initial_word;
      unknown_start = number_after due Memory e c.unknown_start;
      second_port = number_after due Memory (second_port_of kind) c.second_port;
      next = λ l. number_after due (Latch l) x (c.next l);
      reset = λ l. number_after due (Latch l) y (c.reset l);
      left = λ g. number_after due (Gate g) x (c.left g);
      right = λ g. number_after due (Gate g) y (c.right g);
      address = λ t. number_after due (Address t) x (c.address t);
      write_data = λ t. number_after due (WriteData t) x (c.write_data t);
      WE = number_after due Control x c.WE;
      RE = number_after due Control y c.RE;
      P = number_after due Control z c.P;
      address2 = λ t. number_after due (SecondAddress t) x (c.address2 t);
      RE2 = number_after due SecondEnable x c.RE2;
    }

-- the record r is the old one with the numbers of line `due` put in, whatever the lists
abbrev pub StoredIn : R.Netlist → R.Netlist → Line → Kind → ℕ → ℕ → ℕ → ℕ → Type 0
StoredIn r old due kind x y z e =
    (latches gates : List ℕ) → FullLength old latches gates → Holds r latches gates (stored (net_of old latches gates) due kind x y z e)

-- the netlist c of the lines before place p, with the numbers of the line at p
unfoldable pub step_net : Netlist → Kind → ℕ → ℕ → ℕ → ℕ → ℕ → Netlist
step_net c kind x y z e p = stored c (line_at c p) kind x y z e

-- RULES T53, "3, then 4 or 5", at place p: a line of this kind and with these numbers
unfoldable pub step_verdict : Netlist → Kind → ℕ → ℕ → ℕ → ℕ → ℕ → Verdict
step_verdict c kind x y z e p =
    refuse_if (ltb (control_line c) p || not (is_due (line_at c p) kind)) OutOfOrder p
    then faults_at (step_net c kind x y z e p) (line_at c p) p

-- the answer with verdict v and netlist c, and the lists beside it
pub record Outcome (sheet : SheetAnswer) (latches gates : List ℕ) (v : Verdict) (c : Netlist) : Type 0 where
  pub answer-is : sheet ≡ sheet_answer v c
  pub lists-are : ListsBeside v sheet.net latches gates c

-- from line 3 on the sizes are known to be within their limits
abbrev pub SizesKnown : Netlist → ℕ → Type 0
SizesKnown c p = 3 ≤ p → SizesFit c
