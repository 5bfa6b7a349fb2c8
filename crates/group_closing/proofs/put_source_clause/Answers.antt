-- `group_closing::put_source_clause` meets its contract: the two literals, the sources, the end mark.

use Prim.Native.Nat.{◌+◌}
use mathlib.Core.Path.{◌∙◌}
use mathlib.Core.List.{◌∷◌}
use native.Mathlib.Omega.{arith}
use Rattle.model.specs.Gather.{gather}
use Rattle.model.specs.Clauses.{selected_of}
use Rattle.literals.specs.Lit.{literal_of}
use Rattle.clause_writer.proofs.Wrote.{wrote_then, clause-ended, end-most, kept-behind, has_true-behind}
use Rattle.group_closing.specs.OfClosing.{of_closing}
use Rattle.group_closing.proofs.OfClosing.{sources-none}
use Rattle.group_closing.proofs.put_source_clause.Goals as goal

pub returns : goal.returns
returns c =
    let idle = literal_of c.args.idle in
    let none = literal_of c.args.none_since in
    let sources = gather c.args.i (selected_of (of_closing c.args.net c.args.port c.args.i)) in
    let first = c.put_literal-a.ensures in
    let second = c.put_literal.ensures in
    let third = c.put_sources.ensures in
    let end = c.put_end.ensures.0 in (
      clause-ended (idle ∷ none ∷ sources)
          (has_true-behind idle none sources ∙ rw (c.requires.3, sources-none c.args.net c.args.port c.args.i))
          (rw (kept-behind idle none sources) (wrote_then (wrote_then first.0 second.0) third.0)) end,
      omega (arith, end-most {most = c.args.i + 2} end (omega (arith, first.1, second.1, third.1)) (omega arith)),
    )
