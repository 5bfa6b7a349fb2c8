-- `call_position::literal_at` meets its contract: the tests, then the code in the frame.

use mathlib.Core.Path.{sym, ◌∙◌}
use Rattle.clause_variables.proofs.Room.{code-numbered}
use Rattle.call_position.specs.Literals.{with_literal, literal_sent}
use Rattle.call_position.proofs.Literals.{literal-shown, sent-negated}
use Rattle.call_position.proofs.literal_at.Goals as goal

pub returns-in-Err : goal.returns-in-Err
unfolding literal_sent with_literal
returns-in-Err c =
    let verdict = sym c.test_literal.ensures ∙ c.in-Err.is in
    sent-negated _ _ _ (rw (c.no_literal.ensures, verdict))

pub in_frame-requires : goal.in_frame-requires
in_frame-requires c =
    let shown = literal-shown _ _ _ (sym c.test_literal.ensures ∙ c.in_default.is) in
    code-numbered _ _ _ _ shown.2 shown.0 shown.3 shown.1

pub returns : goal.returns
unfolding literal_sent with_literal
returns c =
    let passed = sym c.test_literal.ensures ∙ c.in_default.is in
    let shown = literal-shown _ _ _ passed in
    sent-negated _ _ _ (rw (c.answer_literal.ensures, c.in_frame.ensures.literal, passed, shown.2))
