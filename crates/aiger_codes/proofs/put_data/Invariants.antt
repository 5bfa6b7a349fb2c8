-- `aiger_codes::put_data` meets its contract. The loop's invariant: t codes are in the record, and nothing else has changed.

use Prim.Native.Nat.{◌+◌}
use mathlib.Core.Path.{◌≡◌}
use Rattle.aiger_codes.specs.Outputs.{output_code, Coded, with_data}
use Rattle.aiger_codes.proofs.put_data.Given as goal

abbrev pub invariant-loop-t : goal.invariant-loop-t
invariant-loop-t l =
    (l.next ≡ with_data l.fn.net l.next.write_data) × Coded 32 l.t (λ x. output_code l.table (l.fn.net.m + x)) l.next.write_data
