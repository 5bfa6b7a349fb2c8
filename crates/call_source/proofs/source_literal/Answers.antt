-- `call_source::source_literal` meets its contract: the tests, then the literal.

use mathlib.Core.Path.{sym, ◌∙◌}
use Rattle.call_position.specs.Literals.{with_literal}
use Rattle.call_source.specs.Sources.{source_sent}
use Rattle.call_source.proofs.Sources.{source-shown}
use Rattle.call_source.proofs.source_literal.Goals as goal

pub returns-in-Err : goal.returns-in-Err
unfolding source_sent with_literal
returns-in-Err c =
    rw (c.no_literal.ensures, sym c.test_source.ensures ∙ c.in-Err.is)

pub source_in-requires : goal.source_in-requires
source_in-requires c = source-shown _ _ _ (sym c.test_source.ensures ∙ c.in_default.is)

pub returns : goal.returns
unfolding source_sent with_literal
returns c =
    rw (c.answer_literal.ensures, c.source_in.ensures.literal, sym c.test_source.ensures ∙ c.in_default.is)
