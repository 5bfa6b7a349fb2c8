-- What is known of a text behind each of its tests, and the verdict on it by which test refuses (ImportVerdict in aiger_netlist). Cited by
-- `import_text`.
use Prim.Native.Nat.{ℕ}
use mathlib.Core.Path.{◌≡◌, refl, sym, ◌∙◌, ap, subst}
use mathlib.Core.Bool.{true, false, ◌||◌}
use mathlib.Core.List.{List, []}
use lib.Dec.{ltb}
use Rattle.refusals.specs.Verdict.{Verdict, Passed, refuse}
use Rattle.model.specs.Acceptance.{SizesFit, WithinLimits}
use Rattle.model.proofs.Agree.{sizes_fit-same}
use Rattle.refusals.specs.Tests.{◌then◌}
use Rattle.refusals.specs.declared.Refusal.{Refusal}
use Rattle.refusals.specs.declared.Refusal.TheVariants.{Size, CodeOutside, NoRoom}
use Rattle.netlist.specs.NetOf.{net_of, alone}
use Rattle.netlist.specs.RecordOf.{record_of}
use Rattle.netlist.specs.Places.{line_at}
use Rattle.netlist.specs.Faults.{size_fault, code_fault}
use Rattle.netlist.specs.declared.Line.{Line}
use Rattle.netlist.specs.declared.Line.TheVariants.{Sizes, Memory, Latch, Gate, Address, WriteData, SecondAddress, SecondEnable, Control}
use Rattle.netlist.specs.declared.Netlist.{Netlist}
use Rattle.netlist.proofs.NetOf.{limits-without-latches}
use Rattle.netlist.proofs.Faults.{sizes-fit}
use Rattle.netlist_tests.specs.Record.{test_lines, test_ports, lists_short}
use Rattle.netlist_tests.proofs.Record.{test_lines-same, test_lines-passes}
use Rattle.netlist_tests.proofs.Lists.{test-ports-latches}
use Rattle.sheet_steps.specs.Lists.{Holds}
use Rattle.sheet_tests.proofs.Codes.{sizes-held}
use Rattle.aiger_lines.specs.Parts.{counts_in}
use Rattle.aiger_lines.specs.declared.Counts.{Counts}
use Rattle.aiger_netlist.specs.TextNetlist.{text_sizes, net_of_codes, aag_net}
use Rattle.aiger_netlist.specs.ImportVerdict.{text_verdict, import_verdict}
use Rattle.aiger_netlist.proofs.Codes.{text-codes-fit, no-code-fault}
use Rattle.aiger_netlist.proofs.Verdict.{well-defined, fits-interface}
use Rattle.aiger_import.specs.Tables.{TextReady}

module _ (s : List ℕ) (m n word unknown second : ℕ) where
  -- sizes are tested alike, whatever the codes
  sizes-alone : test_lines (alone (record_of (text_sizes (counts_in s) m n word unknown second))) Size size_fault ≡ test_lines (aag_net s m n word unknown second) Size size_fault
  unfolding net_of record_of net_of_codes line_at size_fault
  sizes-alone = test_lines-same (alone (record_of (text_sizes (counts_in s) m n word unknown second))) (aag_net s m n word unknown second) Size size_fault same (λ p. refl) refl
    where
      same : (x : Line) → size_fault (alone (record_of (text_sizes (counts_in s) m n word unknown second))) x ≡ size_fault (aag_net s m n word unknown second) x
      same Sizes = refl
      same Memory = refl
      same (Latch l) = refl
      same (Gate g) = refl
      same (Address t) = refl
      same (WriteData t) = refl
      same (SecondAddress t) = refl
      same SecondEnable = refl
      same Control = refl

  module _ (h : Counts) (counts-are : h ≡ counts_in s) (r : Netlist) (sizes-are : r ≡ record_of (text_sizes h m n word unknown second)) where
    of-text : r ≡ record_of (text_sizes (counts_in s) m n word unknown second)
    of-text = sizes-are ∙ ap (λ (k : Counts). record_of (text_sizes k m n word unknown second)) counts-are

    pub sizes-tested : {v : Verdict} → v ≡ test_lines (alone r) Size size_fault → test_lines (aag_net s m n word unknown second) Size size_fault ≡ v
    sizes-tested e = sym sizes-alone ∙ ap (λ (x : Netlist). test_lines (alone x) Size size_fault) (sym of-text) ∙ sym e

    module _ (passed : text_verdict s m n second ≡ Passed) (sized : test_lines (aag_net s m n word unknown second) Size size_fault ≡ Passed) where
      fit : SizesFit (aag_net s m n word unknown second)
      fit = (sizes-fit (aag_net s m n word unknown second)).0 ((test_lines-passes (aag_net s m n word unknown second) Size size_fault).0 sized)

      pub ready : TextReady s r
      unfolding record_of net_of_codes
      ready =
          rw of-text (record {
            text-passes = passed;
            sizes-are = refl;
            sizes-fit = sizes_fit-same (aag_net s m n word unknown second) (text_sizes (counts_in s) m n word unknown second) refl fit;
          })

      module _ (net : Netlist) (latches gates : List ℕ) (filled : Holds net latches gates (aag_net s r.m r.n r.initial_word r.unknown_start r.second_port)) where
        pub held : Holds net latches gates (aag_net s m n word unknown second)
        unfolding record_of
        held = subst (λ (x : Netlist). Holds net latches gates (aag_net s x.m x.n x.initial_word x.unknown_start x.second_port)) of-text filled

        pub limits : WithinLimits (net_of net [] gates)
        limits =
            limits-without-latches net latches gates
            (rw held.net-is (record {
              sizes = fit;
              codes = text-codes-fit s (well-defined s m n second passed) m n word unknown second (fits-interface s m n second passed);
            }))

        pub port-tested : {v : Verdict} → v ≡ test_ports (net_of net [] gates) → test_ports (aag_net s m n word unknown second) ≡ v
        port-tested e = sym (e ∙ test-ports-latches net latches gates ∙ ap test_ports held.net-is)

        pub short-held : (latch_room gate_room : ℕ)
            → (ltb latch_room net.latches || ltb gate_room net.gates) ≡ lists_short (aag_net s m n word unknown second) latch_room gate_room
        short-held latch_room gate_room = let same = sizes-held net latches gates held in rw (same.0, same.1)

  -- 5 is met by no text that has passed its own tests
  no-five : text_verdict s m n second ≡ Passed → test_lines (aag_net s m n word unknown second) CodeOutside code_fault ≡ Passed
  no-five e = no-code-fault s (well-defined s m n second e) m n word unknown second (fits-interface s m n second e)

  -- the verdict, by the first test that refuses
  module _ (latch_room gate_room : ℕ) where
    module _ {r : Refusal} {p : ℕ} where
      pub text-refused : text_verdict s m n second ≡ refuse r p → import_verdict s m n word unknown second latch_room gate_room ≡ refuse r p
      unfolding import_verdict ◌then◌
      text-refused e = rw e

      pub sizes-refused : text_verdict s m n second ≡ Passed → test_lines (aag_net s m n word unknown second) Size size_fault ≡ refuse r p
          → import_verdict s m n word unknown second latch_room gate_room ≡ refuse r p
      unfolding import_verdict ◌then◌
      sizes-refused e f = rw (e, f)

      pub port-refused : text_verdict s m n second ≡ Passed → test_lines (aag_net s m n word unknown second) Size size_fault ≡ Passed
          → test_ports (aag_net s m n word unknown second) ≡ refuse r p → import_verdict s m n word unknown second latch_room gate_room ≡ refuse r p
      unfolding import_verdict ◌then◌
      port-refused e f g = rw (e, f, no-five e, g)

    module _ (e : text_verdict s m n second ≡ Passed) (f : test_lines (aag_net s m n word unknown second) Size size_fault ≡ Passed)
        (g : test_ports (aag_net s m n word unknown second) ≡ Passed) where
      pub room-refused : lists_short (aag_net s m n word unknown second) latch_room gate_room ≡ true
          → import_verdict s m n word unknown second latch_room gate_room ≡ refuse NoRoom 0
      unfolding import_verdict ◌then◌
      room-refused k = rw (e, f, no-five e, g, k)

      pub all-passed : lists_short (aag_net s m n word unknown second) latch_room gate_room ≡ false → import_verdict s m n word unknown second latch_room gate_room ≡ Passed
      unfolding import_verdict ◌then◌
      all-passed k = rw (e, f, no-five e, g, k)
