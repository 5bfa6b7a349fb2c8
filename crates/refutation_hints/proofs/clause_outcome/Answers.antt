-- `refutation_hints::clause_outcome` meets its contract. The outcome of what was passed, joined with that of what is left, is that of the clause.

use Prim.Native.Nat.{ℕ, ◌+◌, ◌*◌, ◌/◌, ◌<◌}
use mathlib.Core.Path.{◌≡◌, sym, ap, ◌∙◌}
use mathlib.Core.Bool.{cond}
use native.Mathlib.Omega.{arith}
use borrow.Author.Tests.{lt-ltb, le-ltb}
use mathlib.Core.List.{List}
use lib.IntN.{ℤ, pos}
use lib.ListN.{length, get_or, drop}
use Rattle.refutation_hints.specs.Marks.{slot_of, false_in, joined_code}
use Rattle.refutation_hints.proofs.Marks.{slot_read, slot-least, zero-joined_code, joined_code-zero, one-joined_code, joined_code-one, joined_code-joined_code}
use Rattle.refutation_hints.proofs.Outcomes.{outcome-end, outcome-none, outcome-here}
use Rattle.refutation_hints.proofs.clause_outcome.Invariants.{code_in}
use Rattle.refutation_hints.proofs.clause_outcome.Goals as goal
use Rattle.refutation_hints.proofs.clause_outcome.Goals.{After-join-outcome, After-slot-s}

-- what is read at the loop's place
read : (c : After-slot-s) →
    c.slot-s.result ≡ slot_of (get_or c.args.known.now c.loop-i.i (pos 0))
read c =
    c.slot-s.ensures
    ∙ slot_read c.args.known.now c.loop-i.i (omega arith)

-- what is left of the clause, where its number has a mark
left : (known : List ℤ) (marks : List ℕ) (turn i s : ℕ) → i < length known
    → s ≡ slot_of (get_or known i (pos 0)) → (s ≡ 0 → ⊥) → s < length marks / 2 * 2
    → code_in marks turn (drop i known) ≡ joined_code (cond (false_in marks turn (get_or known i (pos 0))) 0 s) (code_in marks turn (drop (i + 1) known))
left known marks turn i s l is ne low =
    let here = outcome-here (length marks / 2) (false_in marks turn) known i l (rw is at ne) in
    rw (is, here, lt-ltb (slot_of (get_or known i (pos 0))) (length marks / 2 * 2) (rw is at low))

-- and so with one number more
next : (c : After-join-outcome) →
    let i = c.loop-i.i in
    joined_code c.join-outcome.result (code_in c.args.marks.now c.args.turn (drop (i + 1) c.args.known.now))
    ≡ code_in c.args.marks.now c.args.turn (drop c.args.place c.args.known.now)
next c =
    let rest = code_in c.args.marks.now c.args.turn (drop (c.loop-i.i + 1) c.args.known.now) in
    let is : c.slot-s.result ≡ slot_of (get_or c.args.known.now c.loop-i.i (pos 0)) = c.slot-s.ensures ∙ slot_read c.args.known.now c.loop-i.i (omega arith) in
    let one = rw is at c.join-outcome.ensures in
    let more = rw is at (left c.args.known.now c.args.marks.now c.args.turn c.loop-i.i c.slot-s.result c.loop-i-test.true is c.if-s-eq0.false c.if-limit-s.false) in
    ap (λ (x : ℕ). joined_code x rest) one
    ∙ sym (joined_code-joined_code c.loop-i.outcome _ rest)
    ∙ ap (joined_code c.loop-i.outcome) (sym more)
    ∙ c.loop-i.invariant

pub loop-i-init : goal.loop-i-init
loop-i-init c = zero-joined_code (code_in c.args.marks.now c.args.turn (drop c.args.place c.args.known.now))

pub returns-then-s-eq0 : goal.returns-then-s-eq0
returns-then-s-eq0 c =
    let ends = outcome-end (length c.args.marks.now / 2) (false_in c.args.marks.now c.args.turn) c.args.known.now c.loop-i.i
    c.loop-i-test.true (rw (read (goal.at.returns-then-s-eq0 c).After-slot-s) at c.if-s-eq0.true) in
    sym (joined_code-zero c.loop-i.outcome) ∙ ap (joined_code c.loop-i.outcome) (sym ends) ∙ c.loop-i.invariant

pub returns-then-limit-s : goal.returns-then-limit-s
returns-then-limit-s c =
    let is = read (goal.at.returns-then-limit-s c).After-slot-s in
    let here = outcome-here (length c.args.marks.now / 2) (false_in c.args.marks.now c.args.turn) c.args.known.now c.loop-i.i
    c.loop-i-test.true (rw is at c.if-s-eq0.false) in
    let past = rw (le-ltb (slot_of (get_or c.args.known.now c.loop-i.i (pos 0))) (length c.args.marks.now / 2 * 2) (rw is at c.if-limit-s.true)) at here in
    sym (joined_code-one c.loop-i.outcome) ∙ ap (joined_code c.loop-i.outcome) (sym past) ∙ c.loop-i.invariant

pub join-outcome-requires : goal.join-outcome-requires
join-outcome-requires c =
    let is = read (goal.at.join-outcome-requires c).After-slot-s in
    let z = get_or c.args.known.now c.loop-i.i (pos 0) in
    rw is (slot-least z (rw is at c.if-s-eq0.false))

pub returns-then-outcome-eq1 : goal.returns-then-outcome-eq1
returns-then-outcome-eq1 c =
    let i = c.loop-i.i in
    sym (one-joined_code (code_in c.args.marks.now c.args.turn (drop (i + 1) c.args.known.now))) ∙ rw c.if-outcome-eq1.true at (next (goal.at.returns-then-outcome-eq1 c).After-join-outcome)

pub loop-i-preserved : goal.loop-i-preserved
loop-i-preserved c = next (goal.at.loop-i-preserved c).After-join-outcome

pub returns : goal.returns
returns c =
    sym (joined_code-one c.loop-i.outcome)
    ∙ ap (joined_code c.loop-i.outcome) (sym (outcome-none (length c.args.marks.now / 2) (false_in c.args.marks.now c.args.turn) c.args.known.now c.loop-i.i c.loop-i-test.false))
    ∙ c.loop-i.invariant
