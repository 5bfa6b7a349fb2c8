-- What is promised of a netlist that agrees with that of a text which nothing refuses (specs/Imported.antt). Cited by the export that imports a
-- text.
use Prim.Native.Nat.{ℕ, ◌≤◌}
use mathlib.Core.Path.{◌≡◌}
use mathlib.Core.List.{List}
use native.Mathlib.Omega.{arith}
use Rattle.refusals.specs.Verdict.{Passed}
use Rattle.model.specs.Netlist.{Netlist}
use Rattle.model.specs.Agree.{Agree}
use Rattle.model.specs.Acceptance.{Accepted}
use Rattle.model.proofs.Agree.{latches-same, gates-same, accepted-same}
use Rattle.netlist_tests.specs.Record.{record_verdict}
use Rattle.netlist_tests.proofs.Acceptance.{passes-accepted}
use Rattle.call_unpacked.proofs.Calls.{calls-encode}
use Rattle.aiger_graph.specs.RecordAig.{record_aig, values_of}
use Rattle.aiger_graph.proofs.Values.{RenumbersAig, renumbers-same, renumbered-values, renumbered-same}
use Rattle.aiger_graph.proofs.RecordAig.{record-values, agree-aig}
use Rattle.aiger_lines.specs.Parts.{counts_in}
use Rattle.aiger_netlist.specs.TextNetlist.{text_sizes, wire_of_variable, net_of_codes, aag_net}
use Rattle.aiger_netlist.specs.TextAig.{text_aig}
use Rattle.aiger_netlist.specs.ImportVerdict.{import_verdict}
use Rattle.aiger_netlist.specs.Imported.{Imported}
use Rattle.aiger_netlist.proofs.Values.{text-defined, text-renumbers}
use Rattle.aiger_netlist.proofs.Verdict.{well-defined, fits-interface, ImportPassed, import-passed}

module _ (s : List ℕ) (m n word unknown second : ℕ) (d : Netlist) (latch_count gate_count : ℕ)
    (passed : import_verdict s m n word unknown second latch_count gate_count ≡ Passed) (q : Agree (aag_net s m n word unknown second) d) where
  tests : ImportPassed s m n word unknown second latch_count gate_count
  tests = import-passed s m n word unknown second latch_count gate_count passed

  accepted : Accepted d
  accepted = accepted-same (aag_net s m n word unknown second) d q tests.accepted

  -- no test of records refuses it
  not-refused : record_verdict d latch_count gate_count ≡ Passed
  not-refused =
      let c = aag_net s m n word unknown second in
      (passes-accepted d latch_count gate_count).1 (
        accepted,
        rw (← latches-same c d q) tests.latches-long,
        rw (← gates-same c d q) tests.gates-long,
      )

  -- there are at most two ports
  second-most : second ≤ 1
  unfolding net_of_codes
  second-most = omega (arith, tests.accepted.limits.sizes.kind_fits)

  -- its graph is the text's, under other numbers
  renumbers : RenumbersAig (wire_of_variable s (text_sizes (counts_in s) m n word unknown second)) (text_aig s) (record_aig d)
  renumbers =
      renumbers-same (text-renumbers s (well-defined s m n second tests.text) m n word unknown second (fits-interface s m n second tests.text) second-most)
      (agree-aig (aag_net s m n word unknown second) d q)

  pub imported : Imported s m n word unknown second d latch_count gate_count
  imported =
      let fits = accepted.limits.codes in
      record {
        not-refused = not-refused;
        agrees = q;
        has-values = λ input latch. (
          λ x. values_of d input latch (wire_of_variable s (text_sizes (counts_in s) m n word unknown second) x),
          renumbered-values renumbers (record-values d fits input latch),
        );
        same-values = λ input latch v text.
            renumbered-same renumbers (text-defined s (well-defined s m n second tests.text)) text (record-values d fits input latch);
        calls-encode = λ k most. calls-encode d latch_count gate_count k not-refused most;
      }
