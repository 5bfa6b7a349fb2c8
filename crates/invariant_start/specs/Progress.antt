-- One number more of the test of the start. Cited by the functions of this crate, and by no public contract.
use Rattle.std.specs.Prelude.{ℕ, suc, cond, eqb, ℤ}
use Rattle.model.specs.Netlist.{Netlist}
use Rattle.refutation_hints.specs.Propagation.{within}
use Rattle.invariant_terms.specs.StateBits.{state_count}
use Rattle.invariant_terms.specs.Walk.{is_end}
use Rattle.invariant_formula.specs.AtStart.{number_starts}

-- 0 where it has failed, 2 where the clause begun has a number that is true at the start, else 1
unfoldable pub progress : Netlist → ℕ → ℤ → ℕ
progress c state z =
    cond (is_end z) (cond (eqb state 2) 1 0) (cond (within (suc (state_count c)) z) (cond (number_starts c z) 2 state) 0)
