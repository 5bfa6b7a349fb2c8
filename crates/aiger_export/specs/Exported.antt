-- What holds of the file that is written for a record: it is that of the record's graph in order and of no other graph, and everything has in this
-- graph the value that it has in the record, and in a text that the record is imported from (RULES X5 and X8). Cited by
-- `export_binary` and `marrubigai_export`.
use Rattle.std.specs.Prelude.{ℕ, ◌<◌, ◌≡◌, Bool, List}
use Rattle.refusals.specs.Verdict.{Passed}
use Rattle.model.specs.Netlist.{Netlist}
use Rattle.model.specs.Circuit.{Values}
use Rattle.model.specs.Agree.{Agree}
use Rattle.aiger_graph.specs.Aig.{Aig, AigValues, SameAig, SameInOrder}
use Rattle.aiger_graph.specs.RecordAig.{record_aig, values_of}
use Rattle.aiger_binary.specs.BinaryText.{aig_text, Writable}
use Rattle.aiger_ordered.specs.OrderedAig.{aig_of}
use Rattle.aiger_netlist.specs.TextNetlist.{aag_net}
use Rattle.aiger_netlist.specs.TextAig.{text_aig}
use Rattle.aiger_netlist.specs.ImportVerdict.{import_verdict}
use Rattle.aiger_export.specs.ExportCall.{export_text, test_export}

pub record Exported (c : Netlist) : Type 0 where
  -- a file has room for the record's graph, and no other graph is written so
  pub fits : Writable (aig_of c)
  pub unique : (a : Aig) → Writable a → aig_text a ≡ export_text c → SameAig a (aig_of c)
  -- its latches begin at 0, as the record's do
  pub resets : (l : ℕ) → l < c.latches → c.reset l ≡ 0
  -- whatever inputs, read bits and latches hold, it has values, and in order they are the record's
  pub has-values : (input latch : ℕ → Bool) → (v : Values) × AigValues (aig_of c) input latch v
  pub same-values : (input latch : ℕ → Bool) (v : Values) → AigValues (aig_of c) input latch v
      → SameInOrder (record_aig c) (aig_of c) (values_of c input latch) v
  -- where it is the record of a text that an import takes (the text has values: has-values of `Imported`), they are the text's
  pub same-as-text : (s : List ℕ) (m n word unknown second latch_count gate_count : ℕ)
      → import_verdict s m n word unknown second latch_count gate_count ≡ Passed → Agree (aag_net s m n word unknown second) c
      → (input latch : ℕ → Bool) (u v : Values) → AigValues (text_aig s) input latch u → AigValues (aig_of c) input latch v
      → SameInOrder (text_aig s) (aig_of c) u v

-- of every record that the tests of an export pass, the room aside
abbrev pub ExportTheorem : Type 0
ExportTheorem = (c : Netlist) (latch_count gate_count : ℕ) → test_export c latch_count gate_count ≡ Passed → Exported c
