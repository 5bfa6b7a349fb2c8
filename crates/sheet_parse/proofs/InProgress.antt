-- How far a file is read, as the loop over its lines keeps it (`ReadTo`, `InProgress`): before the first line nothing is read and every
-- entry is 0; one answer more; and behind the last line the answer is the file's. No contract cites this file.
use Prim.Native.Nat.{ℕ, zero, suc, ◌+◌, ◌-◌, ◌*◌, ◌≤◌, ◌<◌}
use mathlib.Core.Path.{◌≡◌, refl, sym, ◌∙◌, ap, subst}
use mathlib.Core.Bool.{Bool, true, false, cond, false≢true}
use mathlib.Core.List.{List}
use native.Mathlib.Omega.{arith}
use lib.Dec.{ltb}
use lib.ListN.{get_or, replicate, length-replicate}
use Rattle.std.specs.Prelude.{Ok, Err}
use Rattle.refusals.specs.Verdict.{Verdict, Passed}
use Rattle.refusals.specs.Tests.{in_order, ◌then◌}
use Rattle.refusals.specs.declared.Refusal.TheVariants as Word
use Rattle.model.specs.Gather.{gather}
use Rattle.model.specs.Acceptance.{SizesFit}
use Rattle.literals.specs.declared.Code.{Code}
use Rattle.netlist.specs.NetOf.{code_of, net_of, alone}
use Rattle.netlist.specs.Places.{latch_line, gate_line, address_line, data_line, second_address_line, second_enable_line, control_line}
use Rattle.netlist.specs.RecordOf.{record_of, no_netlist, up_to}
use Rattle.netlist.specs.declared.Netlist.{Netlist}
use Rattle.sheet_lines.specs.declared.ParsedLine.{ParsedLine}
use Rattle.sheet_lines.specs.declared.ParsedLine.TheVariants.{Misprint, Read}
use Rattle.sheet_steps.specs.Records.{record_beside}
use Rattle.sheet_steps.specs.Steps.{Outcome, SizesKnown}
use Rattle.sheet_steps.proofs.Records.{verdict-is, holds, outcome-kept, outcome-same}
use Rattle.sheet_parse.specs.Files.{line_count, line_in, column_of, sizes_in, net_of_lines, net_in}
use Rattle.sheet_parse.specs.FileTests.{test_line_in}
use Rattle.sheet_parse.specs.LineAnswers.{has_line, lines_read_of}
use Rattle.sheet_parse.specs.Progress.{no_codes, no_progress, passes, answer_verdict, answer_net, more_after, line_after}
use Rattle.sheet_parse.specs.declared.LineAnswer.TheVariants as Answer
use Rattle.sheet_parse.specs.declared.LineAfter.{LineAfter}
use Rattle.sheet_parse.specs.declared.Progress.{Progress}
use Rattle.sheet_parse.proofs.Files.{lines_to, net_to, lines_to-unread, net_to-all, WholeLines}
use Rattle.sheet_parse.proofs.LineAnswers.{line-there, line-none, after_none, after-misprint, after_read}
use Rattle.sheet_parse.proofs.LineTests.{ReadTo, test-misprint, sizes_known-to, outcome-next, next-passes, next-refuses}

-- a list of one value has it everywhere, past its end too
get_or-one : {A : Type 0} (n j : ℕ) (d : A) → get_or (replicate n d) j d ≡ d
get_or-one zero j d = refl
get_or-one (suc n) zero d = refl
get_or-one (suc n) (suc j) d = get_or-one n j d

pub no_code : (j : ℕ) → get_or no_codes j 0 ≡ 0
unfolding no_codes
no_code j = get_or-one 1200 j 0

pub no-code-of : {xs : List Code} (n t : ℕ) → xs ≡ replicate n (record { 0 = 0 }) → code_of xs t ≡ 0
unfolding code_of
no-code-of n t e = rw e (ap (λ (k : Code). k.0) (get_or-one {A = Code} n t (record { 0 = 0 })))

-- either way 0
either-zero : (b : Bool) → cond b 0 0 ≡ zero
either-zero true = refl
either-zero false = refl

-- before the first line nothing is read, and every entry is 0
module _ (file : List ℕ) where
  unread : (size : ℕ) (f : ParsedLine → ℕ) (place : ℕ → ℕ) → f Misprint ≡ 0 → ((x : ℕ) → 1 ≤ place x) → (x : ℕ) → up_to size (λ y. f (lines_to file 0 (place y))) x ≡ 0
  unread size f place none later x = rw (lines_to-unread file 0 (place x) (later x), none) (either-zero (ltb x size))

  unread-last : (f : ParsedLine → ℕ) → f Misprint ≡ 0 → f (lines_to file 0 (control_line (sizes_in file))) ≡ 0
  unread-last f none = rw (lines_to-unread file 0 (control_line (sizes_in file)) (omega arith)) none

  none_read : net_of (record_of no_netlist) no_codes no_codes ≡ net_to file 0
  unfolding net_of record_of gather net_to net_of_lines
  none_read =
      let s = sizes_in file in
      λ i. record {
        inputs = 0;
        latches = 0;
        gates = 0;
        m = 0;
        n = 0;
        initial_word = 0;
        unknown_start = 0;
        second_port = 0;
        next = λ l. (no_code (2 * l) ∙ sym (unread s.latches (column_of 0) (latch_line s) refl (λ x. omega arith) l)) i;
        reset = λ l. (no_code (2 * l + 1) ∙ sym (unread s.latches (column_of 1) (latch_line s) refl (λ x. omega arith) l)) i;
        left = λ g. (no_code (2 * g) ∙ sym (unread s.gates (column_of 0) (gate_line s) refl (λ x. omega arith) g)) i;
        right = λ g. (no_code (2 * g + 1) ∙ sym (unread s.gates (column_of 1) (gate_line s) refl (λ x. omega arith) g)) i;
        address = λ t. (no-code-of 12 t refl ∙ sym (unread s.m (column_of 0) (address_line s) refl (λ x. omega arith) t)) i;
        write_data = λ t. (no-code-of 32 t refl ∙ sym (unread s.n (column_of 0) (data_line s) refl (λ x. omega arith) t)) i;
        WE = sym (unread-last (column_of 0) refl) i;
        RE = sym (unread-last (column_of 1) refl) i;
        P = sym (unread-last (column_of 2) refl) i;
        address2 = λ t. (no-code-of 12 t refl ∙ sym (unread (s.second_port * s.m) (column_of 0) (second_address_line s) refl (λ x. omega arith) t)) i;
        RE2 = sym (unread s.second_port (column_of 0) (λ x. second_enable_line s) refl (λ x. omega arith) 0) i;
      }

  read_none : ReadTo file 0 (record_of no_netlist) no_codes no_codes
  unfolding in_order record_of gather no_codes ◌then◌
  read_none =
      record {
        passed = refl;
        holds =
            record {
              full =
                  record {
                    address-codes = refl;
                    data-codes = refl;
                    second-codes = refl;
                    latch-codes = length-replicate {A = ℕ} 1200 0;
                    gate-codes = length-replicate {A = ℕ} 1200 0;
                  };
              net-is = none_read;
            };
      }

-- the loop's state behind p lines: where there may be one more, what the lines say is in the record and the lists; else the answer is
-- the file's
pub record InProgress (file : List ℕ) (p : ℕ) (at : Progress) (latches gates : List ℕ) : Type 0 where
  pub going : at.more ≡ true → (p ≤ line_count file) × ReadTo file p at.sheet.net latches gates
  pub ended : at.more ≡ false
      → Outcome at.sheet latches gates (in_order (test_line_in (net_in file) file) (line_count file)) (net_in file)

-- how many answers are left, at most
abbrev pub answers_left : List ℕ → ℕ → Progress → ℕ
answers_left file p at = cond at.more (line_count file + 1 - p) 0

-- one less is left, where there may be one more
pub one_less : (more : Bool) (n m : ℕ) → more ≡ true → n < m → n < cond more m 0
one_less more n m e h = rw e h

-- before the first line
pub starts : (file : List ℕ) → InProgress file 0 no_progress no_codes no_codes
unfolding record_beside no_progress
starts file = record { going = λ _. (omega arith, read_none file); ended = λ e. absurd (false≢true (sym e)) }

-- one answer more
module _ (file : List ℕ) (whole : WholeLines file) (p : ℕ) (r : Netlist) (latches gates : List ℕ) (before : p ≤ line_count file)
    (read : ReadTo file p r latches gates) where
  -- what `take_answer` asks
  pub sizes-next : SizesKnown (alone r) (lines_read_of file p)
  unfolding lines_read_of
  sizes-next h = by-line (has_line file p) h
    where
      by-line : (b : Bool) → 3 ≤ cond b (p + 1) p → SizesFit (alone r)
      by-line true h = sizes_known-to file p r latches gates read h
      by-line false h = sizes_known-to file p r latches gates read (omega arith)

  -- the state behind it, and one answer less is left
  abbrev Behind : LineAfter → Progress → List ℕ → List ℕ → Type 0
  Behind a at new_latches new_gates =
      InProgress file a.lines_read at new_latches new_gates × (answers_left file a.lines_read at < line_count file + 1 - p)

  module _ (at : Progress) (new_latches new_gates : List ℕ) where
    -- from an answer a that was taken
    abbrev Taken : LineAfter → Type 0
    Taken a =
        Outcome at.sheet new_latches new_gates (answer_verdict (net_of r latches gates) a.line a.lines_read)
        (answer_net (net_of r latches gates) a.line a.lines_read) × (at.more ≡ more_after a.line at.sheet.verdict)

    no_more : (q : ℕ) → at.more ≡ false
        → Outcome at.sheet new_latches new_gates (in_order (test_line_in (net_in file) file) (line_count file)) (net_in file)
        → InProgress file q at new_latches new_gates × (answers_left file q at < line_count file + 1 - p)
    no_more q e o =
        (record { going = λ t. absurd (false≢true (sym e ∙ t)); ended = λ _. o }, rw e (omega arith))

    -- the line at p + 1, by its verdict
    module _ (there : p + 1 ≤ line_count file) where
      by-verdict : (v : Verdict) → at.sheet.verdict ≡ v → at.more ≡ passes v
          → Outcome at.sheet new_latches new_gates (test_line_in (net_in file) file (p + 1)) (net_to file (p + 1))
          → InProgress file (p + 1) at new_latches new_gates × (answers_left file (p + 1) at < line_count file + 1 - p)
      by-verdict (Ok _) e m o =
          let passed : test_line_in (net_in file) file (p + 1) ≡ Passed = sym (verdict-is o) ∙ e in
          let on : ReadTo file (p + 1) at.sheet.net new_latches new_gates =
          record { passed = next-passes (test_line_in (net_in file) file) p read.passed passed; holds = holds o passed } in
          (record { going = λ _. (there, on); ended = λ t. absurd (false≢true (sym t ∙ m)) }, rw m (omega arith))
      by-verdict (Err f) e m o =
          no_more (p + 1) m
          (outcome-kept new_latches new_gates (net_in file) o e
          (next-refuses (test_line_in (net_in file) file) p read.passed (line_count file) there (sym (verdict-is o) ∙ e)))

    at-end : p ≡ line_count file → Taken (record { line = Answer.NoLine; lines_read = p })
        → Behind (record { line = Answer.NoLine; lines_read = p }) at new_latches new_gates
    at-end e (o, m) =
        no_more p m
        (outcome-same (in_order (test_line_in (net_in file) file) (line_count file)) (sym (rw (← e) read.passed))
        (λ _. read.holds.net-is ∙ rw e (net_to-all file whole.whole)) o)

    misprint : p + 1 ≤ line_count file → line_in file (p + 1) ≡ Misprint
        → Taken (record { line = Answer.Refused Word.Misprint (p + 1); lines_read = p + 1 })
        → Behind (record { line = Answer.Refused Word.Misprint (p + 1); lines_read = p + 1 }) at new_latches new_gates
    misprint there e (o, m) =
        no_more (p + 1) (m ∙ ap passes (verdict-is o))
        (outcome-kept new_latches new_gates (net_in file) o (verdict-is o)
        (next-refuses (test_line_in (net_in file) file) p read.passed (line_count file) there
        (test-misprint (net_in file) file (p + 1) e)))

    by-parsed : has_line file p ≡ true → p + 1 ≤ line_count file → (x : ParsedLine) → line_in file (p + 1) ≡ x → Taken (line_after file p)
        → Behind (line_after file p) at new_latches new_gates
    by-parsed h there Misprint e t =
        subst (λ (a : LineAfter). Taken a → Behind a at new_latches new_gates) (sym (after-misprint file p h e)) (misprint there e) t
    by-parsed h there (Read kind x y z u) e t =
        subst (λ (a : LineAfter). Taken a → Behind a at new_latches new_gates) (sym (after_read file p h kind x y z u e))
        (λ (o, m). by-verdict there at.sheet.verdict refl m
        (outcome-next file p r latches gates read kind x y z u e at.sheet new_latches new_gates o)) t

    by-line : (b : Bool) → has_line file p ≡ b → Taken (line_after file p) → Behind (line_after file p) at new_latches new_gates
    by-line false h t =
        subst (λ (a : LineAfter). Taken a → Behind a at new_latches new_gates) (sym (after_none file p h))
        (at-end (line-none file p h whole before)) t
    by-line true h t =
        by-parsed h (omega (arith, (line-there file p h).1, whole.whole)) (line_in file (p + 1)) refl t

    pub goes_on : Taken (line_after file p) → Behind (line_after file p) at new_latches new_gates
    goes_on = by-line (has_line file p) refl
