-- A graph and the same under other numbers have the same values (specs/Aig.antt). No contract cites this file.
use Prim.Native.Nat.{ℕ, ◌+◌, ◌*◌, ◌/◌, ◌%◌, ◌<◌}
use mathlib.Core.Path.{◌≡◌, refl, sym, ◌∙◌, ap}
use mathlib.Core.Bool.{Bool}
use native.Mathlib.Omega.{arith}
use Rattle.model.specs.Circuit.{Values, code_value}
use Rattle.model.specs.Network.{renamed}
use Rattle.model.proofs.Renumbering.{Defined, OperandsDefined, gate, SameOperands, straight, crossed, Renumbers, gates-same-value, codes-same-value, renumbered-obeys}
use Rattle.aiger_graph.specs.Aig.{Aig, AigValues, SameCounts, SameAig, SameInOrder}

-- the graph b is a, where variable x has the number ρ x
pub record RenumbersAig (ρ : ℕ → ℕ) (a b : Aig) : Type 0 where
  pub counts_same : SameCounts a b
  pub inputs-renamed : (x : ℕ) → x < a.inputs → b.input_variable x ≡ ρ (a.input_variable x)
  pub latches-renamed : (l : ℕ) → l < a.latches → b.latch_variable l ≡ ρ (a.latch_variable l)
  pub next-renamed : (l : ℕ) → l < a.latches → b.next l ≡ renamed ρ (a.next l)
  pub output-renamed : (o : ℕ) → o < a.outputs → b.output o ≡ renamed ρ (a.output o)
  pub gates-renamed : Renumbers ρ a.network b.network

-- where ρ has an inverse, a is b by it
renamed-back : (ρ σ : ℕ → ℕ) → ((x : ℕ) → σ (ρ x) ≡ x) → (x : ℕ) → renamed σ (renamed ρ x) ≡ x
unfolding renamed
renamed-back ρ σ back x =
    let variable : (2 * ρ (x / 2) + x % 2) / 2 ≡ ρ (x / 2) = omega arith in
    rw (variable, back (x / 2)) (omega arith)

operands-back : {a b x y : ℕ} (ρ σ : ℕ → ℕ) → ((z : ℕ) → σ (ρ z) ≡ z) → SameOperands (renamed ρ a) (renamed ρ b) x y
    → SameOperands (renamed σ x) (renamed σ y) a b
operands-back {a} {b} ρ σ back (straight e f) = straight (rw e (sym (renamed-back ρ σ back a))) (rw f (sym (renamed-back ρ σ back b)))
operands-back {a} {b} ρ σ back (crossed e f) = crossed (rw f (sym (renamed-back ρ σ back a))) (rw e (sym (renamed-back ρ σ back b)))

pub renumbers-back : {ρ σ : ℕ → ℕ} {a b : Aig} → ((x : ℕ) → σ (ρ x) ≡ x) → RenumbersAig ρ a b → RenumbersAig σ b a
renumbers-back {ρ} {σ} {a} {b} back r =
    let counts = r.counts_same in
    let gates = r.gates-renamed in
    record {
      counts_same =
          record {
            inputs-same = sym counts.inputs-same;
            latches-same = sym counts.latches-same;
            outputs-same = sym counts.outputs-same;
            gates-same = sym counts.gates-same;
          };
      inputs-renamed = λ x h. rw (r.inputs-renamed x (rw counts.inputs-same h)) (sym (back (a.input_variable x)));
      latches-renamed = λ l h. rw (r.latches-renamed l (rw counts.latches-same h)) (sym (back (a.latch_variable l)));
      next-renamed = λ l h. rw (r.next-renamed l (rw counts.latches-same h)) (sym (renamed-back ρ σ back (a.next l)));
      output-renamed = λ o h. rw (r.output-renamed o (rw counts.outputs-same h)) (sym (renamed-back ρ σ back (a.output o)));
      gates-renamed =
          record {
            zero-kept = rw gates.zero-kept at (back 0);
            gates-same = counts.gates-same;
            own_same = λ g h. rw (gates.own_same g (rw counts.gates-same h)) (sym (back (a.network.own g)));
            operands_same = λ g h. operands-back ρ σ back (gates.operands_same g (rw counts.gates-same h));
          };
    }

-- and whatever is the same graph as b has a's numbers too
operands-moved : {a b x y z w : ℕ} → z ≡ x → w ≡ y → SameOperands a b x y → SameOperands a b z w
operands-moved p q (straight e f) = straight (p ∙ e) (q ∙ f)
operands-moved p q (crossed e f) = crossed (p ∙ e) (q ∙ f)

pub renumbers-same : {ρ : ℕ → ℕ} {a b d : Aig} → RenumbersAig ρ a b → SameAig d b → RenumbersAig ρ a d
renumbers-same {ρ} {a} {b} {d} r same =
    let counts = same.counts_same in
    let first = r.counts_same in
    let gates = r.gates-renamed in
    let within : (g : ℕ) → g < a.network.gates → g < d.network.gates = λ g h. omega (arith, counts.gates-same, first.gates-same) in
    record {
      counts_same =
          record {
            inputs-same = first.inputs-same ∙ sym counts.inputs-same;
            latches-same = first.latches-same ∙ sym counts.latches-same;
            outputs-same = first.outputs-same ∙ sym counts.outputs-same;
            gates-same = first.gates-same ∙ sym counts.gates-same;
          };
      inputs-renamed = λ x h. same.input-same x (omega (arith, counts.inputs-same, first.inputs-same)) ∙ r.inputs-renamed x h;
      latches-renamed = λ l h. same.latch-same l (omega (arith, counts.latches-same, first.latches-same)) ∙ r.latches-renamed l h;
      next-renamed = λ l h. same.next-same l (omega (arith, counts.latches-same, first.latches-same)) ∙ r.next-renamed l h;
      output-renamed = λ o h. same.output-same o (omega (arith, counts.outputs-same, first.outputs-same)) ∙ r.output-renamed o h;
      gates-renamed =
          record {
            zero-kept = gates.zero-kept;
            gates-same = counts.gates-same ∙ gates.gates-same;
            own_same = λ g h. same.own_same g (within g h) ∙ gates.own_same g h;
            operands_same = λ g h. operands-moved (same.left-same g (within g h)) (same.right-same g (within g h)) (gates.operands_same g h);
          };
    }

-- values of b are values of a, seen through ρ
pub renumbered-values : {ρ : ℕ → ℕ} {a b : Aig} → RenumbersAig ρ a b → {input latch : ℕ → Bool} {v : Values}
    → AigValues b input latch v → AigValues a input latch (λ x. v (ρ x))
renumbered-values {ρ} {a} {b} r {input} {latch} {v} w =
    record {
      gates-obeyed = renumbered-obeys r.gates-renamed w.gates-obeyed;
      at-input = λ x h. ap v (sym (r.inputs-renamed x h)) ∙ w.at-input x (rw r.counts_same.inputs-same at h);
      at-latch = λ l h. ap v (sym (r.latches-renamed l h)) ∙ w.at-latch l (rw r.counts_same.latches-same at h);
    }

-- the variables of inputs and latches
pub data AigSource (a : Aig) (v : ℕ) : Type 0 where
  an-input : (x : ℕ) → x < a.inputs → v ≡ a.input_variable x → AigSource a v
  a-latch : (l : ℕ) → l < a.latches → v ≡ a.latch_variable l → AigSource a v

-- every code names the constant, an input, a latch or a gate, for a gate's operand an earlier one
pub record AigDefined (a : Aig) : Type 0 where
  pub operands-defined : OperandsDefined a.network (AigSource a)
  pub next-defined : (l : ℕ) → l < a.latches → Defined a.network (AigSource a) (a.next l / 2)
  pub output-defined : (o : ℕ) → o < a.outputs → Defined a.network (AigSource a) (a.output o / 2)

-- whatever the values of a graph and of the same under other numbers are, everything has in one the value that it has in the other
module _ {ρ : ℕ → ℕ} {a b : Aig} (r : RenumbersAig ρ a b) (defined : AigDefined a) {input latch : ℕ → Bool} {u v : Values}
    (p : AigValues a input latch u) (q : AigValues b input latch v) where
  seen : AigValues a input latch (λ x. v (ρ x))
  seen = renumbered-values r q

  sources-same : (x : ℕ) → AigSource a x → u x ≡ v (ρ x)
  sources-same x (an-input y h e) = rw e (p.at-input y h ∙ sym (seen.at-input y h))
  sources-same x (a-latch l h e) = rw e (p.at-latch l h ∙ sym (seen.at-latch l h))

  code-value : (x : ℕ) → Defined a.network (AigSource a) (x / 2) → code_value u x ≡ code_value v (renamed ρ x)
  code-value = codes-same-value r.gates-renamed defined.operands-defined p.gates-obeyed q.gates-obeyed sources-same

  pub renumbered-same : SameInOrder a b u v
  renumbered-same =
      record {
        counts_same = r.counts_same;
        input-same = λ x h. p.at-input x h ∙ sym (q.at-input x (rw r.counts_same.inputs-same at h));
        latch-same = λ l h. p.at-latch l h ∙ sym (q.at-latch l (rw r.counts_same.latches-same at h));
        gate_same = λ g h.
            gates-same-value r.gates-renamed defined.operands-defined p.gates-obeyed q.gates-obeyed sources-same
            (a.network.own g) (gate g h refl)
            ∙ ap v (sym (r.gates-renamed.own_same g h));
        next-same = λ l h. code-value (a.next l) (defined.next-defined l h) ∙ ap (code_value v) (sym (r.next-renamed l h));
        output-same = λ o h. code-value (a.output o) (defined.output-defined o h) ∙ ap (code_value v) (sym (r.output-renamed o h));
      }

-- and so on from one to the next
pub same_then : {a b d : Aig} {u v w : Values} → SameInOrder a b u v → SameInOrder b d v w → SameInOrder a d u w
same_then {a} {b} {d} p q =
    let first = p.counts_same in
    let then = q.counts_same in
    record {
      counts_same =
          record {
            inputs-same = first.inputs-same ∙ then.inputs-same;
            latches-same = first.latches-same ∙ then.latches-same;
            outputs-same = first.outputs-same ∙ then.outputs-same;
            gates-same = first.gates-same ∙ then.gates-same;
          };
      input-same = λ x h. p.input-same x h ∙ q.input-same x (rw first.inputs-same at h);
      latch-same = λ l h. p.latch-same l h ∙ q.latch-same l (rw first.latches-same at h);
      gate_same = λ g h. p.gate_same g h ∙ q.gate_same g (rw first.gates-same at h);
      next-same = λ l h. p.next-same l h ∙ q.next-same l (rw first.latches-same at h);
      output-same = λ o h. p.output-same o h ∙ q.output-same o (rw first.outputs-same at h);
    }
