-- `circuit_values::code_value` meets its contract.

use mathlib.Core.Path.{sym, ◌∙◌}
use Rattle.model.specs.Circuit.{code_value}
use Rattle.circuit_values.proofs.code_value.Goals as goal

pub returns-then-is_inverted : goal.returns-then-is_inverted
unfolding code_value
returns-then-is_inverted c = rw (c.wire_index.ensures, sym c.is_inverted.ensures ∙ c.if-is_inverted.true)

pub returns : goal.returns
unfolding code_value
returns c = rw (c.wire_index.ensures, sym c.is_inverted.ensures ∙ c.if-is_inverted.false)
