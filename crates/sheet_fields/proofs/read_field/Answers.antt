-- `sheet_fields::read_field` meets its contract: the number reader takes the part behind the spaces.

use mathlib.Core.Path.{sym, ap, ◌∙◌}
use native.Mathlib.Omega.{arith}
use Rattle.sheet_fields.specs.Fields.{filled_with}
use Rattle.sheet_fields.proofs.Fields.{field_of-none, field_of-some}
use Rattle.sheet_fields.proofs.read_field.Goals as goal

pub returns-then-digits-eq0 : goal.returns-then-digits-eq0
returns-then-digits-eq0 c =
    sym (field_of-none c.args.field.now c.after_spaces-digits.result.now c.after_spaces-digits.ensures (omega arith))

pub returns-in-Some : goal.returns-in-Some
unfolding filled_with
returns-in-Some c =
    sym
    (field_of-some c.args.field.now c.after_spaces-digits.result.now
    c.after_spaces-digits.ensures c.if-digits-eq0.false
    ∙ ap filled_with (sym c.read_number.ensures ∙ c.in-Some.is))

pub returns-in-None : goal.returns-in-None
unfolding filled_with
returns-in-None c =
    sym
    (field_of-some c.args.field.now c.after_spaces-digits.result.now
    c.after_spaces-digits.ensures c.if-digits-eq0.false
    ∙ ap filled_with (sym c.read_number.ensures ∙ c.in-None.is))
