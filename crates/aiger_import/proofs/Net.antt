-- The record and the lists that are filled by a table stand for the netlist of the text (specs/Tables.antt, and TextNetlist in
-- aiger_netlist). Cited by `fill`.
use Prim.Native.Nat.{ℕ, ◌+◌, ◌*◌, ◌/◌, ◌≤◌, ◌<◌}
use mathlib.Core.Path.{◌≡◌, refl, ◌∙◌, ap, fun_ext}
use mathlib.Core.Bool.{cond}
use mathlib.Core.List.{List}
use mathlib.Core.Logic.{by_cases}
use native.Mathlib.Decide.{dec_lt}
use native.Mathlib.Nat.{mul-le-mul_right}
use native.Mathlib.Omega.{arith}
use lib.Dec.{ltb}
use lib.ListN.{length, length-replicate, get_or-eq_default}
use borrow.Author.Tests.{lt-ltb, le-ltb}
use Rattle.model.specs.Gather.{gather}
use Rattle.model.specs.Netlist as M
use Rattle.model.specs.Network.{renamed}
use Rattle.netlist.specs.NetOf.{code_of, net_of, first_at, second_at}
use Rattle.netlist.specs.RecordOf.{record_of, up_to}
use Rattle.netlist.specs.declared.Netlist.{Netlist}
use Rattle.sheet_steps.specs.Lists.{Holds}
use Rattle.sheet_parse.specs.Progress.{no_codes}
use Rattle.sheet_parse.proofs.InProgress.{no_code, no-code-of}
use Rattle.aiger_graph.specs.RecordAig.{control_output}
use Rattle.aiger_lines.specs.Parts.{counts_in, lines_due, text_latch_line, text_gate_line, numbers_on_line, malformed_at}
use Rattle.aiger_lines.specs.declared.Counts.{Counts}
use Rattle.aiger_lines.specs.declared.Part.TheVariants.{Latch}
use Rattle.aiger_lines.proofs.Parts.{well-count}
use Rattle.aiger_definitions.specs.Definitions.{number_at}
use Rattle.aiger_netlist.specs.TextNetlist.{wire_of_variable, net_of_codes, aag_net}
use Rattle.aiger_netlist.specs.TextAig.{text_aig}
use Rattle.aiger_netlist.proofs.Lines.{part-latch}
use Rattle.aiger_netlist.proofs.Defined.{Known, constant, line, next_known, output-known, left-known, right-known}
use Rattle.aiger_netlist.proofs.Codes.{wire-zero}
use Rattle.aiger_codes.specs.WireTable.{wire_found}
use Rattle.aiger_codes.specs.Filling.{codes_behind, NoCodes, ListFilled}
use Rattle.aiger_codes.specs.Outputs.{output_code, Coded, with_address, with_data, with_second, enable_code, control_put, OutputsPut}
use Rattle.aiger_codes.proofs.WireTable.{wire-found}
use Rattle.aiger_import.specs.Tables.{sizes_of_text, TextReady, TableFor}
use Rattle.aiger_import.proofs.Sized.{text-defined, text-fits, sized}

-- lists and a record of no codes
pub lists-none : {list : List ℕ} → list ≡ no_codes → NoCodes list
unfolding no_codes
lists-none e = rw e (record { full = length-replicate {A = ℕ} 1200 0; none = no_code })

-- below a size, f and g are the same
pub up_to-same : (size : ℕ) (f g : ℕ → ℕ) → ((x : ℕ) → x < size → f x ≡ g x) → up_to size f ≡ up_to size g
up_to-same size f g same =
    fun_ext (λ x.
    by_cases (dec_lt x size) (λ l. rw (lt-ltb x size l) (same x l)) (λ l. rw (le-ltb x size (omega arith))))

-- what is known before a line is known behind it
later : (s : List ℕ) (p q v : ℕ) → Known s p v → p < q → Known s q v
later s p q v (constant e) b = constant e
later s p q v (line l a d e) b = line l (omega arith) d e

module _ (s : List ℕ) (r : Netlist) (ready : TextReady s r) where
  abbrev h : Counts
  h = counts_in s

  abbrev c : M.Netlist
  c = sizes_of_text s r

  pub no-outputs : Coded 12 0 (λ o. 0) r.address × Coded 32 0 (λ o. 0) r.write_data × Coded 12 0 (λ o. 0) r.address2
  unfolding record_of gather
  no-outputs =
      rw ready.sizes-are (
        record { full = refl; has = fun_ext (λ t. no-code-of 12 t refl ∙ rw (le-ltb t 0 (omega arith))) },
        record { full = refl; has = fun_ext (λ t. no-code-of 32 t refl ∙ rw (le-ltb t 0 (omega arith))) },
        record { full = refl; has = fun_ext (λ t. no-code-of 12 t refl ∙ rw (le-ltb t 0 (omega arith))) },
      )

  module _ (table : List ℕ) (latches_at gates_at : ℕ) (has : TableFor s r table latches_at gates_at) where
    -- the codes by the table are the text's
    found : (x : ℕ) → Known s (lines_due h + 1) (x / 2) → renamed (wire_found table) x ≡ renamed (wire_of_variable s c) x
    unfolding renamed
    found x k =
        rw (wire-found s (text-defined s r ready) r.m r.n r.initial_word r.unknown_start r.second_port (text-fits s r ready) table has.wires
        ready.sizes-fit.wires-fit (x / 2) k)

    output : (o : ℕ) → o < h.outputs → output_code table o ≡ renamed (wire_of_variable s c) ((text_aig s).output o)
    unfolding output_code
    output o b = ap (renamed (wire_found table)) (has.outputs o b) ∙ found ((text_aig s).output o) (output-known s (text-defined s r ready) o b)

    -- a latch's line has no third number
    no_third : (l : ℕ) → l < h.latches → number_at s (text_latch_line h l) 2 ≡ 0
    unfolding malformed_at
    no_third l b =
        let p = text_latch_line h l in
        let many : length (numbers_on_line s p) ≡ 2 =
        well-count h Latch (numbers_on_line s p)
        (rw (part-latch h l b) at ((text-defined s r ready).well-formed p (omega arith) (omega arith))) in
        get_or-eq_default (numbers_on_line s p) 0 (omega (arith, many))

    zero-code : renamed (wire_found table) 0 ≡ 0
    unfolding renamed
    zero-code = found 0 (constant refl) ∙ rw (wire-zero s c)

    module _ (latches gates : List ℕ)
        (latch_list : ListFilled r.latches (codes_behind s (1 + h.inputs) table 1) (codes_behind s (1 + h.inputs) table 2) latches)
        (gate_list : ListFilled r.gates (codes_behind s (1 + h.inputs + h.latches + h.outputs) table 1)
        (codes_behind s (1 + h.inputs + h.latches + h.outputs) table 2) gates) where
      next-is : first_at latches ≡ up_to h.latches (λ l. renamed (wire_of_variable s c) ((text_aig s).next l))
      unfolding codes_behind
      next-is =
          fun_ext latch_list.firsts ∙ rw (← (sized s r ready h refl).latches-are)
          (up_to-same h.latches (codes_behind s (1 + h.inputs) table 1) (λ l. renamed (wire_of_variable s c) ((text_aig s).next l)) (λ l b.
          let p : 1 + h.inputs + l + 1 ≡ text_latch_line h l = omega arith in
          rw p (found ((text_aig s).next l) (next_known s (text-defined s r ready) l b))))

      reset-is : second_at latches ≡ (λ l. 0)
      unfolding codes_behind
      reset-is =
          fun_ext (λ l.
          latch_list.seconds l
          ∙ by_cases (dec_lt l r.latches)
          (λ b.
          let p : 1 + h.inputs + l + 1 ≡ text_latch_line h l = omega arith in
          rw (lt-ltb l r.latches b, p, no_third l (omega (arith, sized s r ready h refl))) zero-code)
          (λ b. rw (le-ltb l r.latches (omega arith))))

      left_is : first_at gates ≡ up_to h.gates (λ g. renamed (wire_of_variable s c) (number_at s (text_gate_line h g) 1))
      unfolding codes_behind
      left_is =
          fun_ext gate_list.firsts ∙ rw (← (sized s r ready h refl).gates-are)
          (up_to-same h.gates (codes_behind s (1 + h.inputs + h.latches + h.outputs) table 1) (λ g. renamed (wire_of_variable s c) (number_at s (text_gate_line h g) 1))
          (λ g b.
          let p : 1 + h.inputs + h.latches + h.outputs + g + 1 ≡ text_gate_line h g = omega arith in
          rw p (found (number_at s (text_gate_line h g) 1) (later s (text_gate_line h g) (lines_due h + 1) _ (left-known s (text-defined s r ready) g b) (omega arith)))))

      right_is : second_at gates ≡ up_to h.gates (λ g. renamed (wire_of_variable s c) (number_at s (text_gate_line h g) 2))
      unfolding codes_behind
      right_is =
          fun_ext gate_list.seconds ∙ rw (← (sized s r ready h refl).gates-are)
          (up_to-same h.gates (codes_behind s (1 + h.inputs + h.latches + h.outputs) table 2) (λ g. renamed (wire_of_variable s c) (number_at s (text_gate_line h g) 2))
          (λ g b.
          let p : 1 + h.inputs + h.latches + h.outputs + g + 1 ≡ text_gate_line h g = omega arith in
          rw p (found (number_at s (text_gate_line h g) 2) (later s (text_gate_line h g) (lines_due h + 1) _ (right-known s (text-defined s r ready) g b) (omega arith)))))

      module _ (net : Netlist) (put : OutputsPut r table net) where
        -- the record, by the sizes
        whole : net ≡ control_put r table (with_second (with_data (with_address (record_of c) net.address) net.write_data) net.address2)
        whole =
            put.others
            ∙ ap (λ (x : Netlist). control_put r table (with_second (with_data (with_address x net.address) net.write_data) net.address2))
            ready.sizes-are

        abbrev control : ℕ
        control = control_output r.m r.n r.second_port

        due : (o : ℕ) → o < control + 3 → output_code table o ≡ renamed (wire_of_variable s c) ((text_aig s).output o)
        due o b = output o (omega (arith, sized s r ready h refl))

        address_is : code_of net.address ≡ up_to r.m (λ t. renamed (wire_of_variable s c) ((text_aig s).output t))
        address_is =
            put.address-codes.has
            ∙ up_to-same r.m (output_code table) (λ t. renamed (wire_of_variable s c) ((text_aig s).output t)) (λ t b. due t (omega arith))

        data_is : code_of net.write_data ≡ up_to r.n (λ t. renamed (wire_of_variable s c) ((text_aig s).output (r.m + t)))
        data_is =
            put.data-codes.has
            ∙ up_to-same r.n (λ t. output_code table (r.m + t)) (λ t. renamed (wire_of_variable s c) ((text_aig s).output (r.m + t))) (λ t b. due (r.m + t) (omega arith))

        second_is : code_of net.address2 ≡ up_to (r.second_port * r.m) (λ t. renamed (wire_of_variable s c) ((text_aig s).output (r.m + r.n + t)))
        second_is =
            put.second-codes.has
            ∙ up_to-same (r.second_port * r.m) (λ t. output_code table (r.m + r.n + t)) (λ t. renamed (wire_of_variable s c) ((text_aig s).output (r.m + r.n + t)))
            (λ t b. due (r.m + r.n + t) (omega arith))

        enable-is : enable_code r table ≡ cond (ltb 0 r.second_port) (renamed (wire_of_variable s c) ((text_aig s).output (r.m + r.n + r.m))) 0
        enable-is =
            by_cases (dec_lt 0 r.second_port)
            (λ some.
            let long : 1 * r.m ≤ r.second_port * r.m = mul-le-mul_right r.m some in
            rw (lt-ltb 0 r.second_port some) (due (r.m + r.n + r.m) (omega arith)))
            (λ none. rw (le-ltb 0 r.second_port (omega arith)))

        net-is : net_of net latches gates ≡ aag_net s r.m r.n r.initial_word r.unknown_start r.second_port
        unfolding net_of net_of_codes record_of
        net-is =
            λ i. record {
              inputs = (whole i).inputs;
              latches = (whole i).latches;
              gates = (whole i).gates;
              m = (whole i).m;
              n = (whole i).n;
              initial_word = (whole i).initial_word;
              unknown_start = (whole i).unknown_start;
              second_port = (whole i).second_port;
              next = next-is i;
              reset = reset-is i;
              left = left_is i;
              right = right_is i;
              address = address_is i;
              write_data = data_is i;
              WE = (ap (λ (x : Netlist). x.we.0) whole ∙ due control (omega arith)) i;
              RE = (ap (λ (x : Netlist). x.re.0) whole ∙ due (control + 1) (omega arith)) i;
              P = (ap (λ (x : Netlist). x.p.0) whole ∙ due (control + 2) (omega arith)) i;
              address2 = second_is i;
              RE2 = (ap (λ (x : Netlist). x.re2.0) whole ∙ enable-is) i;
            }

        of-text : Holds net latches gates (aag_net s r.m r.n r.initial_word r.unknown_start r.second_port)
        of-text =
            record {
              full =
                  record {
                    address-codes = put.address-codes.full;
                    data-codes = put.data-codes.full;
                    second-codes = put.second-codes.full;
                    latch-codes = latch_list.full;
                    gate-codes = gate_list.full;
                  };
              net-is = net-is;
            }

    -- by counts that are the text's
    pub filled : (k : Counts) → k ≡ h → (latches gates : List ℕ)
        → ListFilled r.latches (codes_behind s (1 + k.inputs) table 1) (codes_behind s (1 + k.inputs) table 2) latches
        → ListFilled r.gates (codes_behind s (1 + k.inputs + k.latches + k.outputs) table 1)
        (codes_behind s (1 + k.inputs + k.latches + k.outputs) table 2) gates
        → (net : Netlist) → OutputsPut r table net → Holds net latches gates (aag_net s r.m r.n r.initial_word r.unknown_start r.second_port)
    filled k e = rw e of-text
