-- The numbers of a text that is ready to be read (specs/Tables.antt), and lines of it that are ahead. Cited by the functions of this crate.
use Prim.Native.Nat.{ℕ, ◌+◌, ◌*◌, ◌≤◌}
use mathlib.Core.Path.{◌≡◌, refl, sym, ap, subst}
use mathlib.Core.List.{List}
use native.Mathlib.Omega.{arith}
use Rattle.model.proofs.Ports.{second-most}
use Rattle.netlist.specs.RecordOf.{record_of}
use Rattle.netlist.specs.declared.Netlist.{Netlist}
use Rattle.aiger_graph.specs.RecordAig.{control_output}
use Rattle.aiger_lines.specs.Parts.{counts_in, lines_due, part_at, numbers_on_line, malformed_at}
use Rattle.aiger_lines.specs.Steps.{Behind}
use Rattle.aiger_lines.specs.declared.Counts.{Counts}
use Rattle.aiger_lines.proofs.Parts.{well-few}
use Rattle.aiger_netlist.proofs.Defined.{WellDefined}
use Rattle.aiger_netlist.proofs.Codes.{FitsInterface}
use Rattle.aiger_netlist.proofs.Verdict.{well-defined, fits-interface}
use Rattle.aiger_codes.specs.Filling.{LinesAhead}
use Rattle.aiger_import.specs.Tables.{sizes_of_text, TextReady}

-- the header's counts by the record's numbers, and the limits of these
pub record Sized (h : Counts) (r : Netlist) : Type 0 where
  pub inputs_are : h.inputs ≡ r.inputs + (r.second_port + 1) * r.n
  pub latches-are : h.latches ≡ r.latches
  pub outputs-are : h.outputs ≡ control_output r.m r.n r.second_port + 3
  pub gates-are : h.gates ≡ r.gates
  pub m-most : r.m ≤ 12
  pub n-most : r.n ≤ 32
  pub second-most : r.second_port ≤ 1
  pub addresses-most : r.second_port * r.m ≤ r.m
  pub wires-fit : r.inputs + r.latches + (r.second_port + 1) * r.n + r.gates ≤ 600

module _ (s : List ℕ) (r : Netlist) (ready : TextReady s r) where
  pub text-defined : WellDefined s
  text-defined = well-defined s r.m r.n r.second_port ready.text-passes

  pub text-fits : FitsInterface (counts_in s) r.m r.n r.second_port
  text-fits = fits-interface s r.m r.n r.second_port ready.text-passes

  pub sized : (h : Counts) → h ≡ counts_in s → Sized h r
  unfolding record_of
  sized h e =
      let is = ready.sizes-are in
      let inputs : r.inputs ≡ (sizes_of_text s r).inputs = ap (λ (x : Netlist). x.inputs) is in
      let latches : r.latches ≡ (sizes_of_text s r).latches = ap (λ (x : Netlist). x.latches) is in
      let gates : r.gates ≡ (sizes_of_text s r).gates = ap (λ (x : Netlist). x.gates) is in
      rw e (record {
        inputs_are = omega (arith, inputs, text-fits.inputs-enough);
        latches-are = sym latches;
        outputs-are = text-fits.outputs-due;
        gates-are = sym gates;
        m-most = ready.sizes-fit.m-most;
        n-most = ready.sizes-fit.n-most;
        second-most = omega (arith, ready.sizes-fit.kind_fits);
        addresses-most = second-most ready.sizes-fit r.m;
        wires-fit = omega (arith, inputs, latches, gates, ready.sizes-fit.wires-fit);
      })

  -- lines that are due
  pub ahead : (line at count : ℕ) → 1 ≤ line → line + count ≤ lines_due (counts_in s) → {p : ℕ} → p ≡ line → Behind s p at
      → LinesAhead s line at count
  unfolding malformed_at
  ahead line at count some due same behind =
      record {
        some-line = some;
        small = omega (arith, due, sized (counts_in s) refl);
        behind = subst (λ (q : ℕ). Behind s q at) same behind;
        few-numbers = λ x b.
            let p = line + x + 1 in
            well-few (counts_in s) (part_at (counts_in s) p) (numbers_on_line s p) (text-defined.well-formed p (omega arith) (omega (arith, due)));
      }
