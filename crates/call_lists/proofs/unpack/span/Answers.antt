-- `call_lists::unpack::span` meets its contract, at each side of 600.

use mathlib.Core.Logic.{by_cases}
use native.Mathlib.Decide.{dec_lt}
use native.Mathlib.Omega.{arith}
use borrow.Author.Tests.{lt-ltb, le-ltb}
use Rattle.call_lists.specs.Unpacking.{span_of}
use Rattle.call_lists.proofs.unpack.span.Goals as goal

pub returns : goal.returns
unfolding span_of
returns c =
    by_cases (dec_lt c.args.count 600)
    (λ l. rw (lt-ltb c.args.count 600 l) (omega (arith, c.min.ensures)))
    (λ l. rw (le-ltb c.args.count 600 (omega arith)) (omega (arith, c.min.ensures)))
