-- How long a group of an accepted netlist can be as text. No contract cites this file.
use Prim.Native.Nat.{ℕ, ◌+◌, ◌≤◌}
use mathlib.Core.Path.{subst}
use native.Mathlib.Omega.{arith}
use lib.ListN.{length}
use Rattle.model.specs.Netlist.{Netlist}
use Rattle.model.specs.Acceptance.{Accepted}
use Rattle.model.specs.Numbers.{numbers_of}
use Rattle.model.specs.declared.Group.{Group}
use Rattle.model.proofs.Gather.{All, all-at, all-weaken}
use Rattle.model.proofs.Bounds.{AllLits, Within, groups-within, written-within}
use Rattle.model.proofs.Variables.{base-least, base-most}
use Rattle.model.specs.Variables.{base}
use Rattle.model.specs.Groups.{clauses_of}
use Rattle.literals.proofs.Literal.{fits}
use Rattle.dimacs.specs.Text.{clause_text}
use Rattle.dimacs.proofs.Text.{length-clause_text}
use Rattle.group_counts.proofs.Counted.{numbers-most}
use Rattle.program_output.specs.Order.{OrderHas}
use Rattle.program_output.proofs.Pieces.{order_has-in_depth}
use Rattle.model.proofs.Stated.{stated}

-- no group's text has more than 71,904 bytes
pub text-most : (c : Netlist) (k : ℕ) (g : Group) → Accepted c → k ≤ 255 → OrderHas c k g → length (clause_text (numbers_of c k g)) ≤ 71904
unfolding numbers_of
text-most c k g a d s =
    let within : AllLits (Within 1 (base c (k + 1))) (clauses_of c k g) =
    all-at s.before g s.behind (subst (All (λ x. AllLits (Within 1 (base c (k + 1))) (clauses_of c k x))) s.order (groups-within a k)) in
    let numbers = written-within (base c (k + 1)) (clauses_of c k g) (base-least c (k + 1)) within in
    omega (
      arith,
      length-clause_text (all-weaken (λ z h. fits z (omega (arith, h, base-most c a.limits.sizes (k + 1) (omega arith)))) numbers),
      (stated c a k).numbers-counted g,
      numbers-most c k g a d (order_has-in_depth c k g s),
    )
