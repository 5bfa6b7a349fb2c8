-- `aiger_codes::put_address` meets its contract. The loop's invariant: t codes are in the record, and nothing else has changed.

use mathlib.Core.Path.{◌≡◌}
use Rattle.aiger_codes.specs.Outputs.{output_code, Coded, with_address}
use Rattle.aiger_codes.proofs.put_address.Given as goal

abbrev pub invariant-loop-t : goal.invariant-loop-t
invariant-loop-t l =
    (l.next ≡ with_address l.fn.net l.next.address) × Coded 12 l.t (output_code l.table) l.next.address
