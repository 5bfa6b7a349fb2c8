-- Laws of specs/Outputs.antt: one code more. Cited by the functions that put outputs into a record.
use Prim.Native.Nat.{ℕ, ◌+◌, ◌<◌}
use mathlib.Core.Path.{◌≡◌, ◌∙◌, ap, fun_ext}
use mathlib.Core.List.{List}
use native.Mathlib.Omega.{arith}
use lib.ListN.{get_or, set, length-set}
use borrow.Author.Tests.{le-ltb}
use Rattle.model.specs.Network.{renamed}
use Rattle.literals.specs.declared.Code.{Code}
use Rattle.sheet_steps.proofs.Steps.{code-set}
use Rattle.netlist.specs.declared.Netlist.{Netlist}
use Rattle.aiger_codes.specs.WireTable.{wire_found}
use Rattle.aiger_codes.specs.Outputs.{output_code, Coded, with_address, with_data, with_second, control_put, AddressPut, DataPut, SecondPut, OutputsPut}
use Rattle.aiger_codes.proofs.Filling.{up_to-next}

module _ (size : ℕ) (f : ℕ → ℕ) (codes : List Code) where
  -- no codes are none of any
  pub coded_none : Coded size 0 (λ o. 0) codes → Coded size 0 f codes
  coded_none none =
      record { full = none.full; has = none.has ∙ fun_ext (λ x. rw (le-ltb x 0 (omega arith))) }

  pub coded-next : (count x : ℕ) → count < size → x ≡ f count → Coded size count f codes
      → Coded size (count + 1) f (set codes count (record { 0 = x }))
  coded-next count x b e coded =
      record {
        full = length-set codes count (record { 0 = x }) ∙ coded.full;
        has =
            code-set codes count x (omega (arith, coded.full))
            ∙ fun_ext (λ j. rw (coded.has, e) (up_to-next f count j));
      }

-- output o stands at its place in a table
pub output-at : (table : List ℕ) (o x : ℕ) → x ≡ 601 + o → renamed (wire_found table) (get_or table x 0) ≡ output_code table o
unfolding output_code
output-at table o x e = ap (λ (y : ℕ). renamed (wire_found table) (get_or table y 0)) e

-- the outputs put into a record one kind after the other: each leaves the sizes, and what no code was put into yet
pub record SameSizes (net a : Netlist) : Type 0 where
  pub m-same : a.m ≡ net.m
  pub n-same : a.n ≡ net.n
  pub second-same : a.second_port ≡ net.second_port
  pub address2-same : a.address2 ≡ net.address2

module _ (net : Netlist) (table : List ℕ) {a : Netlist} (addressed : AddressPut net table a) where
  pub address-sizes : SameSizes net a
  address-sizes =
      let e = addressed.others in
      record {
        m-same = ap (λ (r : Netlist). r.m) e;
        n-same = ap (λ (r : Netlist). r.n) e;
        second-same = ap (λ (r : Netlist). r.second_port) e;
        address2-same = ap (λ (r : Netlist). r.address2) e;
      }

  pub no-data : a.write_data ≡ net.write_data
  no-data = ap (λ (r : Netlist). r.write_data) addressed.others

module _ (net : Netlist) (table : List ℕ) {a d : Netlist} (addressed : AddressPut net table a) (filled : DataPut a table d) where
  pub data-sizes : SameSizes net d
  data-sizes =
      let e = filled.others in
      let same = address-sizes net table addressed in
      record {
        m-same = ap (λ (r : Netlist). r.m) e ∙ same.m-same;
        n-same = ap (λ (r : Netlist). r.n) e ∙ same.n-same;
        second-same = ap (λ (r : Netlist). r.second_port) e ∙ same.second-same;
        address2-same = ap (λ (r : Netlist). r.address2) e ∙ same.address2-same;
      }

  module _ {b : Netlist} (second : SecondPut d table b) where
    pub control-sizes : (b.m ≡ net.m) × (b.n ≡ net.n) × (b.second_port ≡ net.second_port)
    control-sizes =
        let e = second.others in (
          ap (λ (r : Netlist). r.m) e ∙ data-sizes.m-same,
          ap (λ (r : Netlist). r.n) e ∙ data-sizes.n-same,
          ap (λ (r : Netlist). r.second_port) e ∙ data-sizes.second-same,
        )

    all : b ≡ with_second (with_data (with_address net a.address) d.write_data) b.address2
    all =
        second.others
        ∙ ap (λ (r : Netlist). with_second r b.address2)
        (filled.others ∙ ap (λ (r : Netlist). with_data r d.write_data) addressed.others)

    pub outputs-put : (r : Netlist) → r ≡ control_put b table b → OutputsPut net table r
    outputs-put r e =
        let control : r ≡ control_put net table b = e ∙ rw (control-sizes.0, control-sizes.1, control-sizes.2) in
        let address : r.address ≡ a.address = ap (λ (x : Netlist). x.address) control ∙ ap (λ (x : Netlist). x.address) all in
        let words : r.write_data ≡ d.write_data = ap (λ (x : Netlist). x.write_data) control ∙ ap (λ (x : Netlist). x.write_data) all in
        let others : r.address2 ≡ b.address2 = ap (λ (x : Netlist). x.address2) control in
        let whole : b ≡ with_second (with_data (with_address net r.address) r.write_data) r.address2 = rw (address, words, others) all in
        let one = address-sizes net table addressed in
        let two = data-sizes in
        record {
          others = control ∙ ap (control_put net table) whole;
          address-codes = rw address addressed.codes;
          data-codes = rw (words, ← one.m-same, ← one.n-same) filled.codes;
          second-codes = rw (others, ← two.m-same, ← two.n-same, ← two.second-same) second.codes;
        }
