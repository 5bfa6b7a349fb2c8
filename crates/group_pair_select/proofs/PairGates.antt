-- The three gates from literals that are the pair's: what they write is what the pair's gates are. No contract cites this file.
use Prim.Native.Nat.{ℕ, ◌≤◌}
use mathlib.Core.Path.{◌≡◌}
use mathlib.Core.List.{List}
use lib.IntN.{ℤ}
use Rattle.model.specs.Clauses.{Literal, PairLiterals}
use Rattle.model.specs.Numbers.{written}
use Rattle.model.specs.Wrote.{Wrote}
use Rattle.group_pair_select.specs.SelectClauses.{select_clauses, pair_select_clauses}

pub pair-gates : (x : PairLiterals) {s E WE PS S N : Literal}
    → s ≡ x.s → E ≡ x.E → WE ≡ x.WE → PS ≡ x.PS → S ≡ x.S → N ≡ x.N → {old new : List ℤ} {r n : ℕ}
    → Wrote (written (select_clauses s E WE PS S N)) old new r × (r ≤ n) → Wrote (written (pair_select_clauses x)) old new r × (r ≤ n)
unfolding pair_select_clauses
pair-gates x es eE eWE ePS eS eN w = rw (es, eE, eWE, ePS, eS, eN) at w
