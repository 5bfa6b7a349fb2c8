-- `decimal::read_clause_number` meets its contract: the number reader takes what stands behind the minus, or the whole.

use mathlib.Core.Path.{sym, ◌∙◌}
use native.Mathlib.Omega.{arith}
use Rattle.decimal.proofs.SignedValue.{clause_number_in-empty, clause_number_in-minus-other, clause_number_in-minus, clause_number_in-unsigned-other, clause_number_in-unsigned, value-unique, unsigned_is, opposite-is}
use Rattle.decimal.proofs.read_clause_number.Goals as goal

pub returns-then-text-eq0 : goal.returns-then-text-eq0
returns-then-text-eq0 c = sym (clause_number_in-empty c.args.text.now (omega arith))

pub returns-in_err-x : goal.returns-in_err-x
returns-in_err-x c =
    let none = c.in_err-x.ensures in
    c.from_residual.ensures
    ∙ sym (clause_number_in-minus-other c.args.text.now (omega arith) c.if-text-eq45.true (λ x lo hi e. cc))

pub returns-then-x-eq0 : goal.returns-then-x-eq0
returns-then-x-eq0 c =
    sym
    (clause_number_in-minus-other c.args.text.now (omega arith) c.if-text-eq45.true
    (λ x lo hi e. omega (arith, value-unique (sym c.in_ok-x.ensures) e)))

pub returns-then-text-eq45 : goal.returns-then-text-eq45
returns-then-text-eq45 c =
    rw (opposite-is c.in_ok-x.x (omega arith))
    (sym
    (clause_number_in-minus c.args.text.now (omega arith) c.if-text-eq45.true c.in_ok-x.x (sym c.in_ok-x.ensures) (omega arith) (omega arith)))

pub returns-in_err-x-2 : goal.returns-in_err-x-2
returns-in_err-x-2 c =
    let none = c.in_err-x-2.ensures in
    c.from_residual-in_err-x-2.ensures ∙ sym (clause_number_in-unsigned-other c.args.text.now c.if-text-eq45.false (λ x h e. cc))

pub returns-then-x-gt2147483647-2 : goal.returns-then-x-gt2147483647-2
returns-then-x-gt2147483647-2 c =
    sym
    (clause_number_in-unsigned-other c.args.text.now c.if-text-eq45.false
    (λ x h e. omega (arith, value-unique (sym c.in_ok-x-2.ensures) e)))

pub returns : goal.returns
returns c =
    rw (unsigned_is c.in_ok-x-2.x (omega arith))
    (sym (clause_number_in-unsigned c.args.text.now c.in_ok-x-2.x (sym c.in_ok-x-2.ensures) (omega arith)))
