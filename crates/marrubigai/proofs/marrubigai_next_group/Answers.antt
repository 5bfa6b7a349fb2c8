-- `marrubigai::marrubigai_next_group` meets its contract: it is that of `group_order::next_group`, in numbers; with another number of ports than
-- one or two there is no group.
use Rattle.std.proofs.Common.{◌∙◌, sym, ap, arith}
use Rattle.group_order.proofs.Successor.{order-first}
use Rattle.call_replies.specs.Replies.{group_of, next_numbers}
use Rattle.marrubigai.proofs.Order.{order-some, order-zero, order-many, no-group}
use Rattle.marrubigai.proofs.marrubigai_next_group.Goals as goal

pub returns-then-ports-eq0 : goal.returns-then-ports-eq0
unfolding group_of
returns-then-ports-eq0 c = record {
  follows = λ xs ys e. absurd (no-group (order-zero c.args.ports c.args.depth c.if-ports-eq0.true) xs ys _ e);
  absent = λ none. c.next_numbers.ensures;
  begins = order-first _ _;
}

pub returns-then-ports-gt2 : goal.returns-then-ports-gt2
unfolding group_of
returns-then-ports-gt2 c = record {
  follows = λ xs ys e. absurd (no-group (order-many c.args.ports c.args.depth c.if-ports-gt2.true) xs ys _ e);
  absent = λ none. c.next_numbers-then-ports-gt2.ensures;
  begins = order-first _ _;
}

pub returns : goal.returns
unfolding group_of
returns c =
    let same = order-some c.args.ports c.args.depth (omega arith) (omega arith) in
    let sent = c.next_numbers-2.ensures in
    let next = rw c.group_of.ensures at c.next_group.ensures in
    record {
      follows = λ xs ys e. sent ∙ ap next_numbers (next.follows xs ys (sym same ∙ e));
      absent = λ none. sent ∙ ap next_numbers (next.absent (λ xs ys e. none xs ys (same ∙ e)));
      begins = order-first _ _;
    }
