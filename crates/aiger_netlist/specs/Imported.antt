-- What holds of a netlist d that is delivered for an ASCII AIGER text, where nothing is refused. No test of records refuses it; it is
-- the text's netlist, below the sizes; whatever values inputs and latches have, there are values of the text's variables, and
-- everything has in d the value that it has in the text (RULES I9); demand 3 holds of the calls over it (RULES A1). The lists of d have
-- latch_count and gate_count records. Cited by aiger_import/specs/ImportCall.
use Rattle.std.specs.Prelude.{ℕ, ◌≤◌, ◌≡◌, Bool, List}
use Rattle.refusals.specs.Verdict.{Passed}
use Rattle.model.specs.Limits.{most_depth}
use Rattle.model.specs.Netlist.{Netlist}
use Rattle.model.specs.Circuit.{Values}
use Rattle.model.specs.Agree.{Agree}
use Rattle.netlist_tests.specs.Record.{record_verdict}
use Rattle.call_unpacked.specs.Calls.{CallsEncode}
use Rattle.aiger_graph.specs.Aig.{AigValues, SameInOrder}
use Rattle.aiger_graph.specs.RecordAig.{record_aig, values_of}
use Rattle.aiger_netlist.specs.TextNetlist.{aag_net}
use Rattle.aiger_netlist.specs.TextAig.{text_aig}

pub record Imported (s : List ℕ) (m n word unknown second : ℕ) (d : Netlist) (latch_count gate_count : ℕ) : Type 0 where
  pub not-refused : record_verdict d latch_count gate_count ≡ Passed
  pub agrees : Agree (aag_net s m n word unknown second) d
  pub has-values : (input latch : ℕ → Bool) → (v : Values) × AigValues (text_aig s) input latch v
  pub same-values : (input latch : ℕ → Bool) (v : Values) → AigValues (text_aig s) input latch v
      → SameInOrder (text_aig s) (record_aig d) v (values_of d input latch)
  pub calls-encode : (k : ℕ) → k ≤ most_depth → CallsEncode d latch_count gate_count k
