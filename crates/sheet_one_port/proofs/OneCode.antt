-- Laws of a code under the numbers of one port (`one_code` of the model), of a netlist with one port from the start, and of a record whose
-- lists are renumbered beside it. No contract cites this file.
use Prim.Native.Nat.{ℕ, ◌+◌, ◌-◌, ◌*◌, ◌/◌, ◌≤◌, ◌<◌}
use mathlib.Core.Path.{◌≡◌, refl, sym, ◌∙◌}
use mathlib.Core.List.{List}
use mathlib.Core.Logic.{by_cases}
use native.Mathlib.Nat.{zero-mul}
use native.Mathlib.Decide.{dec_lt}
use native.Mathlib.Omega.{arith}
use lib.ListN.{get_or}
use borrow.Author.Tests.{lt-ltb, le-ltb}
use Rattle.model.specs.Netlist.{Netlist, IsPort, gate_wire}
use Rattle.model.specs.Network.{renamed}
use Rattle.model.specs.Acceptance.{WithinLimits}
use Rattle.model.specs.Agree.{Agree}
use Rattle.model.specs.OnePort.{one_wire, one_code, one_port}
use Rattle.netlist.specs.NetOf.{net_of, alone}
use Rattle.netlist.specs.declared.Netlist as R
use Rattle.sheet_one_port.specs.Renumbered.{RenumberedList, RenumberedRecord}

module _ (c : Netlist) where
  -- a code before the gates stays
  pub code-before : (x : ℕ) → x < 2 * gate_wire c 0 → one_code c x ≡ x
  unfolding one_wire renamed
  code-before x b = rw (lt-ltb (x / 2) (gate_wire c 0) (omega arith)) (omega arith)

  -- a gate's is less by two for each read bit that goes
  pub code-behind : (x : ℕ) → 2 * gate_wire c 0 ≤ x → c.second_port * c.n ≤ gate_wire c 0 → one_code c x ≡ x - 2 * (c.second_port * c.n)
  unfolding one_wire renamed
  code-behind x b most = rw (le-ltb (x / 2) (gate_wire c 0) (omega arith)) (omega arith)

  -- with one port every code stays
  code_same : c.second_port ≡ 0 → (x : ℕ) → one_code c x ≡ x
  code_same none x =
      by_cases (dec_lt x (2 * gate_wire c 0)) (code-before x)
      (λ b.
      let nothing : c.second_port * c.n ≡ 0 = rw none (zero-mul c.n) in
      code-behind x (omega arith) (omega arith) ∙ omega arith)

  -- so the netlist does
  pub agree-single : c.second_port ≡ 0 → Agree c (one_port c)
  unfolding one_port
  agree-single none =
      record {
        sizes-same = rw none;
        next-same = λ l b. sym (code_same none (c.next l));
        reset-same = λ l b. refl;
        left-same = λ g b. sym (code_same none (c.left g));
        right-same = λ g b. sym (code_same none (c.right g));
        address_same = λ p here t b. rw (only p here) (sym (code_same none (c.address t)));
        data-same = λ t b. sym (code_same none (c.write_data t));
        WE-same = sym (code_same none c.WE);
        RE-same = λ p here. rw (only p here) (sym (code_same none c.RE));
        P-same = sym (code_same none c.P);
      }
    where
      only : (p : ℕ) → IsPort c p → p ≡ 1
      only p here = omega (arith, here.0, here.1)

-- the record and both lists renumbered: a reset is no wire's and stays
module _ (old new : R.Netlist) {latches gates latches₁ gates₁ : List ℕ} (fit : WithinLimits (net_of old latches gates)) (q : RenumberedRecord old new)
    (next : RenumberedList old latches latches₁) (operands : RenumberedList old gates gates₁) where
  pub agree-lists : Agree (one_port (net_of old latches gates)) (net_of new latches₁ gates₁)
  unfolding net_of one_port one_wire
  agree-lists =
      let sizes = fit.sizes in
      record {
        sizes-same = q.sizes-same;
        next-same = λ l b. sym (next.each (2 * l) (omega (arith, sizes.latches-fit)));
        reset-same = λ l b.
            sym (next.each (2 * l + 1) (omega (arith, sizes.latches-fit))
            ∙ code-before (alone old) (get_or latches (2 * l + 1) 0) (omega (arith, fit.codes.reset-fits l b)));
        left-same = λ g b. sym (operands.each (2 * g) (omega (arith, sizes.gates-fit)));
        right-same = λ g b. sym (operands.each (2 * g + 1) (omega (arith, sizes.gates-fit)));
        address_same = q.address_same;
        data-same = q.data-same;
        WE-same = q.WE-same;
        RE-same = q.RE-same;
        P-same = q.P-same;
      }
