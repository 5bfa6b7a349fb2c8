-- `replay_run::fill_words` meets its contract: so many words are the one, and the rest is as it was.

use Prim.Native.Nat.{ℕ}
use mathlib.Core.Path.{◌≡◌, ◌∙◌}
use mathlib.Core.List.{List, ◌++◌}
use native.Mathlib.Omega.{arith}
use lib.ListN.{drop, replicate, length-replicate, get_or-replicate, length-append}
use Rattle.std.proofs.lemmas.List.{get_or_append_left, length-take-le}
use Rattle.std.proofs.lemmas.Slice.{drop-append-drop}
use Rattle.call_lists.specs.Delivered.{delivered}
use Rattle.call_lists.proofs.Delivered.{delivered-by}
use Rattle.replay_run.proofs.fill_words.Goals as goal

filled : (n word : ℕ) (old : List ℕ) → replicate n word ++ drop n old ≡ delivered n (λ _. word) old
filled n word old =
    delivered-by (λ _. word) n old (replicate n word ++ drop n old)
    (omega (arith, length-append (replicate n word) (drop n old), length-replicate n word))
    (λ x b. get_or_append_left (replicate n word) (drop n old) 0 x (omega (arith, length-replicate n word)) ∙ get_or-replicate n x word 0 b)
    (drop-append-drop n old (replicate n word) n (omega arith) (length-replicate n word))

pub returns : goal.returns
returns c =
    rw (c.fill.ensures.after (λ y e. e), length-take-le c.args.count c.args.memory.now c.requires) (filled c.args.count c.args.word c.args.memory.now)
