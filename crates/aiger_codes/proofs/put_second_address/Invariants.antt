-- `aiger_codes::put_second_address` meets its contract. The loop's invariant: t codes are in the record, and nothing else has changed.

use Prim.Native.Nat.{◌+◌, ◌*◌, ◌≤◌}
use mathlib.Core.Path.{◌≡◌}
use Rattle.aiger_codes.specs.Outputs.{output_code, Coded, with_second}
use Rattle.aiger_codes.proofs.put_second_address.Given as goal

abbrev pub invariant-loop-t : goal.invariant-loop-t
invariant-loop-t l =
    (l.initial.next.second_port * l.initial.next.m ≤ 12) × (l.next ≡ with_second l.initial.next l.next.address2) × Coded 12 l.t (λ x. output_code l.table (l.initial.next.m + l.initial.next.n + x)) l.next.address2
