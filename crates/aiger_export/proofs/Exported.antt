-- What is promised of a record's file (specs/Exported.antt). Cited by `export_binary`.
use Prim.Native.Nat.{ℕ}
use mathlib.Core.Path.{◌≡◌}
use mathlib.Core.Bool.{Bool}
use Rattle.refusals.specs.Verdict.{Passed}
use Rattle.model.specs.Netlist.{Netlist}
use Rattle.model.specs.Circuit.{Values}
use Rattle.aiger_graph.specs.Aig.{AigValues, SameInOrder}
use Rattle.aiger_graph.specs.RecordAig.{record_aig, values_of}
use Rattle.aiger_graph.proofs.Values.{renumbers-back, renumbered-values, renumbered-same, same_then}
use Rattle.aiger_graph.proofs.RecordAig.{record-defined, record-values}
use Rattle.aiger_binary.proofs.ReadBack.{written_once}
use Rattle.aiger_ordered.specs.OrderedAig.{order_of, file_variable, aig_of}
use Rattle.aiger_ordered.proofs.OrderedAig.{swapped, variable-back, renumbers, writable}
use Rattle.aiger_netlist.proofs.Imported.{imported}
use Rattle.aiger_export.specs.ExportCall.{test_export}
use Rattle.aiger_export.specs.Exported.{Exported}
use Rattle.aiger_export.proofs.ExportCall.{accepted, resets-zero}

module _ (c : Netlist) (latch_count gate_count : ℕ) (passed : test_export c latch_count gate_count ≡ Passed) where
  same-values : (input latch : ℕ → Bool) (v : Values) → AigValues (aig_of c) input latch v
      → SameInOrder (record_aig c) (aig_of c) (values_of c input latch) v
  same-values input latch v w =
      let fits = (accepted c latch_count gate_count passed).limits.codes in
      renumbered-same (renumbers c) (record-defined fits) (record-values c fits input latch) w

  pub exported : Exported c
  exported =
      let limits = (accepted c latch_count gate_count passed).limits in
      record {
        fits = writable limits;
        unique = λ a ok e. written_once a (aig_of c) ok (writable limits) e;
        resets = resets-zero c latch_count gate_count passed;
        has-values = λ input latch. (
          λ x. values_of c input latch (file_variable (swapped (order_of c)) x),
          renumbered-values (renumbers-back (variable-back (order_of c)) (renumbers c)) (record-values c limits.codes input latch),
        );
        same-values = same-values;
        same-as-text = λ s m n word unknown second latches gates taken agree input latch u v text file.
            same_then ((imported s m n word unknown second c latches gates taken agree).same-values input latch u text) (same-values input latch v file);
      }
