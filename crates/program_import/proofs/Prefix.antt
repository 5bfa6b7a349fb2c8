-- What stands behind the last line that is due changes nothing of what is made of a text, and a fault of a whole line is the longer text's too. No
-- contract cites this file.
use Prim.Native.Nat.{ℕ, zero, suc, ◌+◌, ◌-◌, ◌*◌, ◌/◌, ◌≤◌, ◌<◌}
use mathlib.Core.Path.{◌≡◌, refl, sym, ◌∙◌, ap, ap₂}
use mathlib.Core.Bool.{Bool, true, false, cond, not, true≢false}
use mathlib.Core.Logic.{by_cases}
use mathlib.Core.List.{List, [], ◌∷◌, ◌++◌}
use native.Mathlib.Decide.{dec_lt}
use native.Mathlib.Nat.{mul-le-mul_right}
use native.Mathlib.Omega.{arith}
use lib.Dec.{eqb, ltb}
use lib.ListN.{length, get_or, get_or-append, get_or-eq_default}
use borrow.Author.Tests.{lt-ltb, le-ltb, eqb-true, ltb-false, not-false}
use Rattle.std.specs.Prelude.{Ok, Err}
use Rattle.refusals.specs.Verdict.{Verdict, Passed, refuse}
use Rattle.model.specs.Search.{any_below, first_from, first_where, seen}
use Rattle.model.specs.Netlist.{Netlist}
use Rattle.model.specs.Network.{renamed}
use Rattle.model.proofs.Booleans.{neither-true}
use Rattle.refusals.specs.Tests.{refuse_if, ◌then◌, in_order}
use Rattle.refusals.specs.declared.Refusal.{Refusal}
use Rattle.refusals.specs.declared.Refusal.TheVariants.{NotAiger, Interface, Undefined}
use Rattle.refusals.proofs.Tests.{refused-not-passed, refuse_if-passes, first_passes, rest-passes, in_order-suc, in_order-kept, in_order-passes}
use Rattle.decimal.specs.Digits.{line_feed}
use Rattle.decimal.specs.TextValue.{same_text}
use Rattle.decimal.proofs.TextValue.{number_in-empty}
use Rattle.text_words.specs.Words.{lines_of, words_of, parts_after, rest_after}
use Rattle.text_words.proofs.Words.{parts-append}
use Rattle.aiger_lines.specs.Numbers.{all_unsigned, word_numbers, words_at}
use Rattle.aiger_lines.specs.Parts.{aag, numbers_behind, numbers_on_line, counts_of, counts_in, lines_due, part_at, malformed_line, malformed_at, text_latch_line, text_output_line, text_gate_line}
use Rattle.aiger_lines.specs.declared.Counts.{Counts}
use Rattle.aiger_lines.specs.declared.Part.{Part}
use Rattle.aiger_lines.specs.declared.Part.TheVariants.{Header, Input, Latch, Output, Gate}
use Rattle.aiger_definitions.specs.Definitions.{number_at, defined_at, defines_again, is_undefined, undefined_in, undefined_at}
use Rattle.aiger_graph.specs.RecordAig.{control_output}
use Rattle.aiger_netlist.specs.TextNetlist.{text_sizes, defining_line, wire_of_variable, net_of_codes, aag_net}
use Rattle.aiger_netlist.specs.ImportVerdict.{place_of, not_aiger, first_line, wrong_interface, text_verdict, import_verdict}
use Rattle.aiger_import.specs.ImportCall.{imported_word}
use Rattle.aiger_import.proofs.Net.{up_to-same}
use Rattle.program_input.specs.Input.{text_or_refusal}
use Rattle.program_import.specs.Printed.{import_text, stops_at_end, PrefixSuffices}

-- ---- searches that see the same
any_same : (n : ℕ) {f g : ℕ → Bool} → ((k : ℕ) → k < n → f k ≡ g k) → any_below n f ≡ any_below n g
unfolding any_below
any_same zero same = refl
any_same (suc n) same = rw (any_same n (λ k l. same k (omega arith)), same n (omega arith))

first-same : (d i : ℕ) {f g : ℕ → Bool} → ((k : ℕ) → k < i + d → f k ≡ g k) → first_from f d i ≡ first_from g d i
unfolding first_from
first-same zero i same = refl
first-same (suc d) i same = rw (same i (omega arith), first-same d (suc i) (λ k l. same k (omega arith)))

tests_same : (n : ℕ) {test other : ℕ → Verdict} → ((p : ℕ) → p ≤ n → test p ≡ other p) → in_order test n ≡ in_order other n
unfolding in_order
tests_same zero same = refl
tests_same (suc n) same = rw (tests_same n (λ p l. same p (omega arith)), same (suc n) (omega arith))

-- ---- the whole lines of a text are those of a longer one
line_same : (s rest : List ℕ) (i : ℕ) → i < length (lines_of s) → get_or (lines_of (s ++ rest)) i [] ≡ get_or (lines_of s) i []
line_same s rest i l =
    ap (λ (ls : List (List ℕ)). get_or ls i []) (parts-append line_feed [] s rest)
    ∙ get_or-append (lines_of s) (parts_after line_feed (rest_after line_feed [] s) rest) [] i l

numbers-same : (s rest : List ℕ) (p : ℕ) → p - 1 < length (lines_of s) → numbers_on_line (s ++ rest) p ≡ numbers_on_line s p
unfolding numbers_on_line words_at
numbers-same s rest p l = rw (line_same s rest (p - 1) l)

-- a netlist is made of the codes on the lines due
codes_same : (h : Counts) (c : Netlist) (f g : ℕ → ℕ → ℕ) (q : ℕ) → lines_due h ≤ q → c.latches ≡ h.latches → c.gates ≡ h.gates
    → h.outputs ≡ control_output c.m c.n c.second_port + 3 → ((p i : ℕ) → p ≤ q → f p i ≡ g p i) → net_of_codes h c f ≡ net_of_codes h c g
unfolding net_of_codes
codes_same h c f g q due latches gates outputs same =
    let control = control_output c.m c.n c.second_port in
    rw (
      up_to-same c.latches (λ l. f (text_latch_line h l) 1) (λ l. g (text_latch_line h l) 1) (λ l b. same (text_latch_line h l) 1 (omega arith)),
      up_to-same c.gates (λ x. f (text_gate_line h x) 1) (λ x. g (text_gate_line h x) 1) (λ x b. same (text_gate_line h x) 1 (omega arith)),
      up_to-same c.gates (λ x. f (text_gate_line h x) 2) (λ x. g (text_gate_line h x) 2) (λ x b. same (text_gate_line h x) 2 (omega arith)),
      up_to-same c.m (λ x. f (text_output_line h x) 0) (λ x. g (text_output_line h x) 0) (λ x b. same (text_output_line h x) 0 (omega arith)),
      up_to-same c.n (λ x. f (text_output_line h (c.m + x)) 0) (λ x. g (text_output_line h (c.m + x)) 0)
          (λ x b. same (text_output_line h (c.m + x)) 0 (omega arith)),
      same (text_output_line h control) 0 (omega arith),
      same (text_output_line h (control + 1)) 0 (omega arith),
      same (text_output_line h (control + 2)) 0 (omega arith),
      up_to-same (c.second_port * c.m) (λ x. f (text_output_line h (c.m + c.n + x)) 0) (λ x. g (text_output_line h (c.m + c.n + x)) 0)
          (λ x b. same (text_output_line h (c.m + c.n + x)) 0 (omega arith)),
      enable-same,
    )
  where
    -- RE of a second port stands behind its address codes
    enable-same : cond (ltb 0 c.second_port) (f (text_output_line h (c.m + c.n + c.m)) 0) 0
        ≡ cond (ltb 0 c.second_port) (g (text_output_line h (c.m + c.n + c.m)) 0) 0
    enable-same =
        by_cases (dec_lt 0 c.second_port)
        (λ some.
        let long : 1 * c.m ≤ c.second_port * c.m = mul-le-mul_right c.m some in
        rw (lt-ltb 0 c.second_port some) (same (text_output_line h (c.m + c.n + c.m)) 0 (omega arith)))
        (λ none. rw (le-ltb 0 c.second_port (omega arith)))

-- ---- two texts with the same numbers on lines 1 to q
module _ (s t : List ℕ) (q : ℕ) (some-line : 1 ≤ q) (same : (p : ℕ) → p ≤ q → numbers_on_line t p ≡ numbers_on_line s p) where
  counts_same : counts_in t ≡ counts_in s
  unfolding counts_in
  counts_same = ap counts_of (same 1 some-line)

  malformed-same : (p : ℕ) → p ≤ q → malformed_at t p ≡ malformed_at s p
  unfolding malformed_at
  malformed-same p h = rw (counts_same, same p h)

  defined-same : (p : ℕ) → p ≤ q → defined_at t p ≡ defined_at s p
  unfolding defined_at
  defined-same p h = rw (counts_same, same p h)

  seen_same : (i v : ℕ) → i ≤ q + 1 → seen (defined_at t) i v ≡ seen (defined_at s) i v
  unfolding seen
  seen_same i v h = any_same i (λ k l. ap (λ (x : ℕ). eqb x v) (defined-same k (omega arith)))

  again-same : (p : ℕ) → p ≤ q → defines_again t p ≡ defines_again s p
  unfolding defines_again
  again-same p h = rw (defined-same p h, seen_same p (defined_at s p) (omega arith))

  not_aiger-same : (p : ℕ) → p ≤ q → not_aiger t p ≡ not_aiger s p
  not_aiger-same p h = rw (malformed-same p h, again-same p h)

  -- ---- and q lines are due
  module _ (all : lines_due (counts_in s) ≤ q) where
    undefined-same : (i x : ℕ) → i ≤ q + 1 → is_undefined t i x ≡ is_undefined s i x
    unfolding is_undefined
    undefined-same i x h = rw (seen_same i (x / 2) h)

    undefined_in-same : (p : ℕ) → p ≤ q → (part : Part) → undefined_in t p part ≡ undefined_in s p part
    undefined_in-same p h Header = refl
    undefined_in-same p h Input = refl
    undefined_in-same p h Latch =
        rw (counts_same, same p h) (undefined-same (lines_due (counts_in s) + 1) (get_or (numbers_on_line s p) 1 0) (omega arith))
    undefined_in-same p h Output =
        rw (counts_same, same p h) (undefined-same (lines_due (counts_in s) + 1) (get_or (numbers_on_line s p) 0 0) (omega arith))
    undefined_in-same p h Gate =
        rw (same p h, undefined-same p (get_or (numbers_on_line s p) 1 0) (omega arith), undefined-same p (get_or (numbers_on_line s p) 2 0) (omega arith))

    undefined_at-same : (p : ℕ) → p ≤ q → undefined_at t p ≡ undefined_at s p
    unfolding undefined_at
    undefined_at-same p h = rw counts_same (undefined_in-same p h (part_at (counts_in s) p))

    lines_same : (fault : List ℕ → ℕ → Bool) (r : Refusal) → ((p : ℕ) → p ≤ q → fault t p ≡ fault s p) → first_line t fault r ≡ first_line s fault r
    lines_same fault r h =
        ap (λ (c : Counts). in_order (λ p. refuse_if (fault t p) r (place_of p)) (lines_due c)) counts_same
        ∙ tests_same (lines_due (counts_in s)) (λ p l. ap (λ (b : Bool). refuse_if b r (place_of p)) (h p (omega arith)))

    text_same : (m n second : ℕ) → text_verdict t m n second ≡ text_verdict s m n second
    unfolding text_verdict
    text_same m n second =
        ap₂ (λ (v w : Verdict). v then refuse_if (wrong_interface (counts_in t) m n second) Interface 0 then w)
        (lines_same not_aiger NotAiger not_aiger-same) (lines_same undefined_at Undefined undefined_at-same)
        ∙ ap (λ (c : Counts). first_line s not_aiger NotAiger then refuse_if (wrong_interface c m n second) Interface 0 then first_line s undefined_at Undefined)
        counts_same

    -- the netlist: a variable's line, a code, the codes of each line
    defining-same : (v : ℕ) → defining_line t v ≡ defining_line s v
    unfolding defining_line first_where
    defining-same v =
        rw counts_same (first-same (lines_due (counts_in s) + 1) 0 (λ k l. ap (λ (x : ℕ). eqb x v) (defined-same k (omega arith))))

    wire-same : (c : Netlist) (v : ℕ) → wire_of_variable t c v ≡ wire_of_variable s c v
    unfolding wire_of_variable
    wire-same c v = rw (counts_same, defining-same v)

    code_same : (c : Netlist) (p i : ℕ) → p ≤ q → renamed (wire_of_variable t c) (number_at t p i) ≡ renamed (wire_of_variable s c) (number_at s p i)
    unfolding renamed
    code_same c p i h = rw (same p h, wire-same c (get_or (numbers_on_line s p) i 0 / 2))

    net-same : (m n word unknown second : ℕ) → wrong_interface (counts_in s) m n second ≡ false → aag_net t m n word unknown second ≡ aag_net s m n word unknown second
    net-same m n word unknown second fits =
        let c = text_sizes (counts_in s) m n word unknown second in
        let due = control_output m n second + 3 in
        let outputs = ((neither-true (ltb (counts_in s).inputs (suc second * n)) (not (eqb (counts_in s).outputs due))).0 fits).1 in
        rw counts_same
        (codes_same (counts_in s) c (λ p i. renamed (wire_of_variable t c) (number_at t p i)) (λ p i. renamed (wire_of_variable s c) (number_at s p i)) q all refl refl
        (eqb-true (counts_in s).outputs due (not-false (eqb (counts_in s).outputs due) outputs)) (code_same c))

    fits : (m n second : ℕ) → text_verdict s m n second ≡ Passed → wrong_interface (counts_in s) m n second ≡ false
    unfolding text_verdict
    fits m n second e =
        (refuse_if-passes (wrong_interface (counts_in s) m n second) Interface 0).0
        (first_passes _ (first_line s undefined_at Undefined) (rest-passes (first_line s not_aiger NotAiger) _ e))

    printed-same : (m n word unknown second : ℕ) → import_text t m n word unknown second ≡ import_text s m n word unknown second
    unfolding import_text text_or_refusal import_verdict ◌then◌
    printed-same m n word unknown second = by-verdict (text_verdict s m n second) refl
      where
        by-verdict : (v : Verdict) → text_verdict s m n second ≡ v → import_text t m n word unknown second ≡ import_text s m n word unknown second
        by-verdict (Ok _) e = rw (text_same m n second, net-same m n (imported_word word unknown) unknown second (fits m n second e))
        by-verdict (Err f) e = rw (text_same m n second, e)

-- ---- a line that is missing is malformed
no-numbers : (p : ℕ) → cond (eqb p 1) (numbers_behind aag (words_of [])) (word_numbers (words_of [])) ≡ []
unfolding word_numbers words_of all_unsigned parts_after rest_after same_text
no-numbers p = rw (number_in-empty [] refl) (either_way (eqb p 1))
  where
    either_way : (b : Bool) → cond {A = List ℕ} b [] [] ≡ []
    either_way true = refl
    either_way false = refl

missing-malformed : (s : List ℕ) (p : ℕ) → length (lines_of s) < p → malformed_at s p ≡ true
unfolding malformed_at malformed_line numbers_on_line words_at
missing-malformed s p l = rw (get_or-eq_default (lines_of s) [] {n = p - 1} (omega arith), no-numbers p) (none (part_at (counts_in s) p))
  where
    none : (part : Part) → malformed_line (counts_in s) part [] ≡ true
    none Header = refl
    none Input = refl
    none Latch = refl
    none Output = refl
    none Gate = refl

-- a text has no more lines than bytes
lines-most : (e : ℕ) (begun s : List ℕ) → length (parts_after e begun s) ≤ length s
unfolding parts_after
lines-most e begun [] = omega arith
lines-most e begun (x ∷ s) = by_byte (eqb x e) (lines-most e [] s) (lines-most e (begun ++ x ∷ []) s)
  where
    by_byte : (b : Bool) → length (parts_after e [] s) ≤ length s → length (parts_after e (begun ++ x ∷ []) s) ≤ length s
        → length (cond b (begun ∷ parts_after e [] s) (parts_after e (begun ++ x ∷ []) s)) ≤ suc (length s)
    by_byte true a b = omega arith
    by_byte false a b = omega arith

-- tests in order that refuse do so at a place
refused-at : (test : ℕ → Verdict) (n : ℕ) {r : Refusal} {p : ℕ} → in_order test n ≡ refuse r p
    → (k : ℕ) × (1 ≤ k) × (k ≤ n) × (in_order test k ≡ refuse r p) × (test k ≡ refuse r p)
unfolding in_order
refused-at test zero e = absurd (refused-not-passed (sym e))
refused-at test (suc n) {r} {p} e = by-rest (in_order test n) refl (λ h. refused-at test n h)
  where
    by-rest : (v : Verdict) → in_order test n ≡ v
        → (in_order test n ≡ refuse r p → (k : ℕ) × (1 ≤ k) × (k ≤ n) × (in_order test k ≡ refuse r p) × (test k ≡ refuse r p))
        → (k : ℕ) × (1 ≤ k) × (k ≤ suc n) × (in_order test k ≡ refuse r p) × (test k ≡ refuse r p)
    by-rest (Ok _) h earlier = (suc n, omega arith, omega arith, e, sym (in_order-suc test n h) ∙ e)
    by-rest (Err f) h earlier =
        let found = earlier (h ∙ sym (in_order-kept test n (suc n) (omega arith) h) ∙ e) in
        (found.0, found.1, omega (arith, found.2), found.3, found.4)

module _ (s rest : List ℕ) (m n word unknown second : ℕ) where
  -- the tests of lines, and what is printed
  abbrev tests : List ℕ → ℕ → Verdict
  tests t p = refuse_if (not_aiger t p) NotAiger (place_of p)

  abbrev printed : List ℕ → List ℕ
  printed t = import_text t m n word unknown second

  same-to : (q : ℕ) → 1 ≤ q → q ≤ length (lines_of s) → (p : ℕ) → p ≤ q → numbers_on_line (s ++ rest) p ≡ numbers_on_line s p
  same-to q some l p h = numbers-same s rest p (omega arith)

  -- all lines due are whole
  whole : lines_due (counts_in s) ≤ length (lines_of s) → printed (s ++ rest) ≡ printed s
  whole all =
      let some : 1 ≤ length (lines_of s) = omega (arith, all) in
      printed-same s (s ++ rest) (length (lines_of s)) some (same-to (length (lines_of s)) some (omega arith)) all m n word unknown second

  -- a whole line is refused
  refused-same : (k x : ℕ) → 1 ≤ k → k ≤ length (lines_of s) → k ≤ lines_due (counts_in s) → in_order (tests s) k ≡ refuse NotAiger x
      → printed (s ++ rest) ≡ printed s
  unfolding import_text text_or_refusal import_verdict text_verdict ◌then◌
  refused-same k x some l due e =
      let same = same-to k some l in
      let there = tests_same k (λ p h. ap (λ (b : Bool). refuse_if b NotAiger (place_of p)) (not_aiger-same s (s ++ rest) k some same p h)) ∙ e in
      let longer = in_order-kept (tests (s ++ rest)) k (lines_due (counts_in (s ++ rest))) (rw (counts_same s (s ++ rest) k some same) due) there in
      rw (longer, in_order-kept (tests s) k (lines_due (counts_in s)) due e)

  verdict-at : (k x : ℕ) → k ≤ lines_due (counts_in s) → in_order (tests s) k ≡ refuse NotAiger x
      → import_verdict s m n (imported_word word unknown) unknown second 600 600 ≡ refuse NotAiger x
  unfolding import_verdict text_verdict ◌then◌
  verdict-at k x due e = rw (in_order-kept (tests s) k (lines_due (counts_in s)) due e)

  module _ (short : length s ≤ 4194304) (uncut : stops_at_end s (import_verdict s m n (imported_word word unknown) unknown second 600 600) ≡ false) where
    place-within : (k : ℕ) → place_of k ≤ length (lines_of s) → k ≤ length (lines_of s)
    place-within k l = omega (arith, lines-most line_feed [] s)

    at-fault : {r : Refusal} {p : ℕ} (k : ℕ) → 1 ≤ k → k ≤ lines_due (counts_in s) → in_order (tests s) k ≡ refuse r p → tests s k ≡ refuse r p
        → (b : Bool) → not_aiger s k ≡ b → printed (s ++ rest) ≡ printed s
    unfolding stops_at_end
    at-fault k some due order here true fault =
        let refused = order ∙ sym here ∙ ap (λ (b : Bool). refuse_if b NotAiger (place_of k)) fault in
        let low = ltb-false (length (lines_of s)) (place_of k) (rw (verdict-at k (place_of k) due refused) at uncut) in
        refused-same k (place_of k) some (place-within k low) due refused
    at-fault k some due order here false fault =
        absurd (refused-not-passed (sym here ∙ ap (λ (b : Bool). refuse_if b NotAiger (place_of k)) fault))

    missing : length (lines_of s) < lines_due (counts_in s) → in_order (tests s) (lines_due (counts_in s)) ≡ Passed → ⊥
    missing l e =
        let p = length (lines_of s) + 1 in
        let fine = (refuse_if-passes (not_aiger s p) NotAiger (place_of p)).0 ((in_order-passes (tests s) (lines_due (counts_in s))).0 e p (omega arith) (omega arith)) in
        true≢false (sym (missing-malformed s p (omega arith)) ∙ ((neither-true (malformed_at s p) (defines_again s p)).0 fine).0)

    by_first : (v : Verdict) → in_order (tests s) (lines_due (counts_in s)) ≡ v → printed (s ++ rest) ≡ printed s
    by_first (Ok _) e = by_cases (dec_lt (length (lines_of s)) (lines_due (counts_in s))) (λ l. absurd (missing l e)) (λ l. whole (omega arith))
    by_first (Err f) e =
        let at = refused-at (tests s) (lines_due (counts_in s)) e in
        at-fault at.0 at.1 at.2 at.3 at.4 (not_aiger s at.0) refl

pub prefix-suffices : PrefixSuffices
prefix-suffices s rest m n word unknown second short uncut =
    by_first s rest m n word unknown second short uncut (first_line s not_aiger NotAiger) refl
