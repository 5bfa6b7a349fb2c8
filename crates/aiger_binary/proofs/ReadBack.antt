-- The file that a graph is written as (specs/BinaryText.antt) says this graph (proofs/BinaryFile.antt), and no other. No contract cites this file.
use Prim.Native.Nat.{ℕ, zero, suc, ◌+◌, ◌-◌, ◌*◌, ◌^◌, ◌<◌}
use mathlib.Core.Path.{◌≡◌, refl, sym, ◌∙◌, ap}
use mathlib.Core.Logic.{by_cases}
use mathlib.Core.List.{List, [], ◌∷◌, ◌++◌, append_assoc, append-nil}
use native.Mathlib.Decide.{dec_lt}
use native.Mathlib.Nat.{not-suc-le-zero}
use native.Mathlib.Numerals.{add-one}
use native.Mathlib.Omega.{arith}
use lib.ListN.{get_or}
use borrow.Author.Tests.{ne_eqb}
use Rattle.model.specs.Gather.{gather}
use Rattle.decimal.specs.Digits.{digits, space, line_feed}
use Rattle.text_words.specs.Words.{lines_of, spaced, Without}
use Rattle.text_words.proofs.Words.{without-append, digits-unended}
use Rattle.aiger_lines.specs.Numbers.{words_at}
use Rattle.aiger_lines.specs.Parts.{numbers_on_line, counts_of}
use Rattle.aiger_lines.specs.declared.Counts.{Counts}
use Rattle.aiger_lines.specs.Written.{numbers_text, line_with_numbers}
use Rattle.aiger_lines.proofs.Written.{line-behind, read-as-written}
use Rattle.aiger_graph.specs.Aig.{Aig, SameAig}
use Rattle.aiger_difference.specs.Difference.{difference_bytes}
use Rattle.aiger_difference.proofs.Decoding.{behind_differences, difference_at}
use Rattle.aiger_difference.proofs.Difference.{difference-read, difference-behind}
use Rattle.aiger_binary.proofs.BinaryFile.{binary_header, binary_counts, next_line, output_line, gate_bytes, aig_with, aig_in}
use Rattle.aiger_binary.specs.BinaryText.{aig, header_counts, header_line, code_line, gate_text, aig_text, Writable}
use Rattle.aiger_binary.proofs.Lines.{Lines, one_line, lines-append, no_line, lines-gather, line-at}
use Rattle.aiger_binary.proofs.Differences.{Differences, one-difference, differences-append, differences-gather}

-- one of the lists that are joined, with those before it and what stands behind it
pub gather-at : {A : Type 0} (n : ℕ) (f : ℕ → List A) (t : ℕ) → t < n → (rest : List A) × (gather n f ≡ gather t f ++ (f t ++ rest))
unfolding gather
gather-at zero f t h = absurd (not-suc-le-zero h)
gather-at (suc n) f t h =
    by_cases (dec_lt t n) (λ b. later (gather-at n f t b)) (λ b. here (omega arith))
  where
    later : ((rest : List _) × (gather n f ≡ gather t f ++ (f t ++ rest))) → (rest : List _) × (gather n f ++ f n ≡ gather t f ++ (f t ++ rest))
    later (rest, e) = (rest ++ f n, rw e (append_assoc (gather t f) (f t ++ rest) (f n) ∙ ap (λ (s : List _). gather t f ++ s) (append_assoc (f t) rest (f n))))

    here : t ≡ n → (rest : List _) × (gather n f ++ f n ≡ gather t f ++ (f t ++ rest))
    here e = ([], rw (e, append-nil (f n)))

-- no line feed stands within a line
numbers-unended : (xs : List ℕ) → Without line_feed (numbers_text xs)
unfolding numbers_text spaced
numbers-unended [] i l h = omega arith
numbers-unended (x ∷ []) i l h = digits-unended x i l h
numbers-unended (x ∷ y ∷ xs) i l h =
    without-append line_feed (digits x) (space ∷ numbers_text (y ∷ xs)) (digits-unended x)
    (without-append line_feed (space ∷ []) (numbers_text (y ∷ xs)) space-unended (numbers-unended (y ∷ xs))) i l h
  where
    space-unended : Without line_feed (space ∷ [])
    space-unended zero l h = omega arith
    space-unended (suc i) l h = omega arith

aig-spaced-unended : Without line_feed (aig ++ space ∷ [])
aig-spaced-unended zero l h = omega arith
aig-spaced-unended (suc zero) l h = omega arith
aig-spaced-unended (suc (suc zero)) l h = omega arith
aig-spaced-unended (suc (suc (suc zero))) l h = omega arith
aig-spaced-unended (suc (suc (suc (suc i)))) l h = omega arith

aig-without : Without space aig
aig-without zero l h = omega arith
aig-without (suc zero) l h = omega arith
aig-without (suc (suc zero)) l h = omega arith
aig-without (suc (suc (suc i))) l h = omega arith

header-unended : (xs : List ℕ) → Without line_feed (aig ++ space ∷ numbers_text xs)
header-unended xs = without-append line_feed (aig ++ space ∷ []) (numbers_text xs) aig-spaced-unended (numbers-unended xs)

-- a line of one code
code_lines : (x : ℕ) → Lines 1 (code_line x)
unfolding code_line
code_lines x = one_line (digits x) (digits-unended x)

-- a gate is two differences
gate-differences : (own larger smaller : ℕ) → Differences 2 (gate_text own larger smaller)
unfolding gate_text
gate-differences own larger smaller =
    differences-append 1 1 (difference_bytes (2 * own - larger)) (difference_bytes (larger - smaller)) (one-difference (2 * own - larger)) (one-difference (larger - smaller))

module _ (a : Aig) (ok : Writable a) where
  abbrev h : Counts
  h =
      record {
        largest = a.inputs + a.latches + a.network.gates;
        inputs = a.inputs;
        latches = a.latches;
        outputs = a.outputs;
        gates = a.network.gates;
      }

  abbrev header : List ℕ
  header = header_line (header_counts a)

  abbrev nexts : List ℕ
  nexts = gather a.latches (λ l. code_line (a.next l))

  abbrev outputs : List ℕ
  outputs = gather a.outputs (λ o. code_line (a.output o))

  abbrev gate : ℕ → List ℕ
  gate g = gate_text (a.network.own g) (a.network.left g) (a.network.right g)

  abbrev gates : List ℕ
  gates = gather a.network.gates gate

  -- the file is lines, and behind them the gates
  header-lines : Lines 1 header
  unfolding header_line
  header-lines = one_line (aig ++ space ∷ numbers_text (header_counts a)) (header-unended (header_counts a))

  next-lines : (l : ℕ) → Lines l (gather l (λ l. code_line (a.next l)))
  next-lines l = lines-gather l (λ l. code_line (a.next l)) (λ l. code_lines (a.next l))

  output-lines : (o : ℕ) → Lines o (gather o (λ o. code_line (a.output o)))
  output-lines o = lines-gather o (λ o. code_line (a.output o)) (λ o. code_lines (a.output o))

  gates-behind : gate_bytes h (aig_text a) ≡ gates
  unfolding aig_text
  gates-behind = (lines-append (lines-append header-lines (next-lines a.latches)) (output-lines a.outputs)).behind gates

  -- the counts are read as they are written
  counts-fit : (i : ℕ) → get_or (header_counts a) i 0 < 2 ^ 32
  counts-fit zero = omega (arith, ok.codes-fit)
  counts-fit (suc zero) = omega (arith, ok.codes-fit)
  counts-fit (suc (suc zero)) = omega (arith, ok.codes-fit)
  counts-fit (suc (suc (suc zero))) = ok.outputs-fit
  counts-fit (suc (suc (suc (suc zero)))) = omega (arith, ok.codes-fit)
  counts-fit (suc (suc (suc (suc (suc i))))) = omega arith

  first-line : get_or (lines_of (aig_text a)) 0 [] ≡ aig ++ space ∷ numbers_text (header_counts a)
  unfolding aig_text header_line
  first-line =
      line-at no_line (aig ++ space ∷ numbers_text (header_counts a)) (nexts ++ outputs ++ gates) (aig_text a) (header-unended (header_counts a))
      (simp append_assoc)

  header_read : binary_header (aig_text a) ≡ header_counts a
  unfolding words_at
  header_read = rw first-line (line-behind aig aig-without (header_counts a) (omega arith) counts-fit)

  counts-read : binary_counts (aig_text a) ≡ h
  unfolding binary_counts counts_of
  counts-read = rw header_read

  -- so are codes, a line each
  code_read : (p x : ℕ) → x < 2 ^ 32 → get_or (lines_of (aig_text a)) (1 + p) [] ≡ digits x → numbers_on_line (aig_text a) (2 + p) ≡ x ∷ []
  unfolding line_with_numbers numbers_text spaced
  code_read p x b e =
      let place : 2 + p - 1 ≡ 1 + p = omega arith in
      read-as-written.text→numbers (aig_text a) (2 + p) (x ∷ []) (omega arith) one-fits (rw (place, ne_eqb (2 + p) 1 (λ q. omega arith)) e)
    where
      one-fits : (i : ℕ) → get_or (x ∷ []) i 0 < 2 ^ 32
      one-fits zero = b
      one-fits (suc i) = omega arith

  next-read : (l : ℕ) → l < a.latches → numbers_on_line (aig_text a) (next_line h l) ≡ a.next l ∷ []
  unfolding aig_text code_line
  next-read l b =
      let at = gather-at a.latches (λ l. code_line (a.next l)) l b in
      code_read l (a.next l) (omega (arith, ok.next-below l b, ok.codes-fit))
      (line-at (lines-append header-lines (next-lines l)) (digits (a.next l)) (at.0 ++ outputs ++ gates) (aig_text a) (digits-unended (a.next l))
      (rw at.1 (simp append_assoc)))

  output-read : (o : ℕ) → o < a.outputs → numbers_on_line (aig_text a) (output_line h o) ≡ a.output o ∷ []
  unfolding aig_text code_line
  output-read o b =
      let at = gather-at a.outputs (λ o. code_line (a.output o)) o b in
      let before : 1 + (a.latches + o) ≡ 1 + a.latches + o = omega arith in
      let place : 2 + a.latches + o ≡ 2 + (a.latches + o) = omega arith in
      rw place
      (code_read (a.latches + o) (a.output o) (omega (arith, ok.output-below o b, ok.codes-fit))
      (rw before
      (line-at (lines-append (lines-append header-lines (next-lines a.latches)) (output-lines o)) (digits (a.output o)) (at.0 ++ gates) (aig_text a) (digits-unended (a.output o))
      (rw at.1 (simp append_assoc)))))

  -- and the differences of gates
  gate-behind : (g : ℕ) → g < a.network.gates → (rest : List ℕ) × (behind_differences (2 * g) gates ≡ gate g ++ rest)
  gate-behind g b =
      let at = gather-at a.network.gates gate g b in
      (at.0, rw at.1 (differences-gather g gate (λ g. gate-differences (a.network.own g) (a.network.left g) (a.network.right g)) (gate g ++ at.0)))

  first : ℕ → List ℕ
  first g = difference_bytes (2 * a.network.own g - a.network.left g)

  second : ℕ → List ℕ
  second g = difference_bytes (a.network.left g - a.network.right g)

  first-at : (g : ℕ) (b : g < a.network.gates) → behind_differences (2 * g) (gate_bytes h (aig_text a)) ≡ first g ++ (second g ++ (gate-behind g b).0)
  unfolding gate_text first second
  first-at g b = rw (gates-behind, (gate-behind g b).1) (append_assoc (first g) (second g) (gate-behind g b).0)

  second_at : (g : ℕ) (b : g < a.network.gates) → behind_differences (2 * g + 1) (gate_bytes h (aig_text a)) ≡ second g ++ (gate-behind g b).0
  unfolding behind_differences first
  second_at g b =
      rw (add-one (2 * g), first-at g b) (difference-behind (second g ++ (gate-behind g b).0) (2 * a.network.own g - a.network.left g))

  first_read : (g : ℕ) → g < a.network.gates → difference_at (gate_bytes h (aig_text a)) (2 * g) ≡ 2 * a.network.own g - a.network.left g
  unfolding first
  first_read g b = rw (first-at g b) (difference-read (second g ++ (gate-behind g b).0) (2 * a.network.own g - a.network.left g))

  second-read : (g : ℕ) → g < a.network.gates → difference_at (gate_bytes h (aig_text a)) (2 * g + 1) ≡ a.network.left g - a.network.right g
  unfolding second
  second-read g b = rw (second_at g b) (difference-read (gate-behind g b).0 (a.network.left g - a.network.right g))

  -- so the file says the graph
  read_as : SameAig (aig_in (aig_text a)) a
  unfolding aig_with
  read_as =
      rw counts-read
      (record {
        counts_same = record { inputs-same = refl; latches-same = refl; outputs-same = refl; gates-same = refl };
        input-same = λ x b. sym (ok.input-in-order x b);
        latch-same = λ l b. sym (ok.latch-in-order l b);
        next-same = λ l b. rw (next-read l b);
        output-same = λ o b. rw (output-read o b);
        own_same = λ g b. sym (ok.gate-in-order g b);
        left-same = λ g b. rw (first_read g b) (omega (arith, ok.gate-in-order g b, ok.left_below g b));
        right-same = λ g b. rw (first_read g b, second-read g b) (omega (arith, ok.gate-in-order g b, ok.left_below g b, ok.right-below g b));
      })

-- two graphs that one graph is are the same
both-same : {a b d : Aig} → SameAig d a → SameAig d b → SameAig a b
both-same {a} {b} {d} x y =
    let l = x.counts_same in
    let r = y.counts_same in
    let input-there : (i : ℕ) → i < a.inputs → i < d.inputs = λ i h. rw l.inputs-same h in
    let latch-there : (i : ℕ) → i < a.latches → i < d.latches = λ i h. rw l.latches-same h in
    let output-there : (i : ℕ) → i < a.outputs → i < d.outputs = λ i h. rw l.outputs-same h in
    let gate-there : (i : ℕ) → i < a.network.gates → i < d.network.gates = λ i h. rw l.gates-same h in
    record {
      counts_same =
          record {
            inputs-same = sym l.inputs-same ∙ r.inputs-same;
            latches-same = sym l.latches-same ∙ r.latches-same;
            outputs-same = sym l.outputs-same ∙ r.outputs-same;
            gates-same = sym l.gates-same ∙ r.gates-same;
          };
      input-same = λ i h. sym (x.input-same i (input-there i h)) ∙ y.input-same i (input-there i h);
      latch-same = λ i h. sym (x.latch-same i (latch-there i h)) ∙ y.latch-same i (latch-there i h);
      next-same = λ i h. sym (x.next-same i (latch-there i h)) ∙ y.next-same i (latch-there i h);
      output-same = λ i h. sym (x.output-same i (output-there i h)) ∙ y.output-same i (output-there i h);
      own_same = λ i h. sym (x.own_same i (gate-there i h)) ∙ y.own_same i (gate-there i h);
      left-same = λ i h. sym (x.left-same i (gate-there i h)) ∙ y.left-same i (gate-there i h);
      right-same = λ i h. sym (x.right-same i (gate-there i h)) ∙ y.right-same i (gate-there i h);
    }

-- so two graphs that are written alike are the same
pub written_once : (a b : Aig) → Writable a → Writable b → aig_text a ≡ aig_text b → SameAig a b
written_once a b a-fits b-fits e = both-same (rw e at (read_as a a-fits)) (read_as b b-fits)
