-- `literals::Code::in_frame` meets its contract: codes below 2 are the constants.

use Rattle.literals.specs.Lit.{literal_of}
use Rattle.literals.proofs.Literal.{code_at-constant}
use Rattle.literals.proofs.Code.in_frame.Goals as goal

pub returns-then-x-lt2 : goal.returns-then-x-lt2
returns-then-x-lt2 c = rw (code_at-constant c.args.b c.args.self.0 c.if-x-lt2.true) c.constant.ensures

pub returns : goal.returns
unfolding literal_of
returns c = c.signed.ensures
