-- What the property's loop writes, from the numbering that it holds: frame by frame the model's literal. No contract cites this
-- file.
use Prim.Native.Nat.{ℕ, ◌+◌, ◌/◌}
use mathlib.Core.Path.{◌≡◌, refl, ◌∙◌}
use mathlib.Core.Bool.{Bool, true, false, cond}
use mathlib.Core.List.{List}
use native.Mathlib.Numerals.{add-one}
use lib.Dec.{ltb}
use lib.IntN.{ℤ}
use Rattle.model.specs.Bits.{odd}
use Rattle.model.specs.Netlist.{last_wire}
use Rattle.model.specs.Gather.{gather}
use Rattle.model.specs.Clauses.{known, plus, minus, neg}
use Rattle.model.specs.Variables.{stride, base, code_at, code_in}
use Rattle.model.specs.Groups.{violation_of}
use Rattle.model.specs.Numbers.{kept_of, kept, is_true, has_true}
use Rattle.literals.specs.Numbering.{base_of}
use Rattle.literals.specs.declared.Code.{Code}
use Rattle.literals.specs.declared.Numbering.{Numbering}
use Rattle.netlist.specs.NetOf.{net_of, alone}
use Rattle.netlist.specs.declared.Netlist.{Netlist}
use Rattle.clause_writer.proofs.Wrote.{kept-one, has_true-one}
use Rattle.clause_writer.proofs.Turns.{kept-gather, has_true-gather}

-- ¬P of frame i
abbrev pub violation : Numbering → Code → ℕ → List ℤ
violation x p i = kept_of (neg (code_at (base_of x.wires x.stride i) p.0))

pub violations : (net : Netlist) (n : ℕ) (x : Numbering)
    → (x.wires ≡ last_wire (alone net)) × (x.stride ≡ stride (alone net))
    → kept (gather n (violation_of (alone net))) ≡ gather n (violation x net.p)
unfolding violation_of base base_of net_of
violations net n x e = rw (kept-gather n (violation_of (alone net)), e.0, e.1) (simp kept-one)

-- whether a code is a constant, and which, is not of the frame
violated-same : (b d x : ℕ) → is_true (neg (code_at b x)) ≡ is_true (neg (code_at d x))
unfolding code_at neg is_true
violated-same b d x = go (ltb x 2) (odd x)
  where
    go : (s t : Bool)
        → is_true (neg (cond s (known (odd x)) (cond t (minus (b + x / 2)) (plus (b + x / 2)))))
        ≡ is_true (neg (cond s (known (odd x)) (cond t (minus (d + x / 2)) (plus (d + x / 2)))))
    go true t = refl
    go false true = refl
    go false false = refl

-- so the clause has a true literal if ¬P is true in frame 0
pub violations-true : (net : Netlist) (k : ℕ) {v : Bool} → is_true (neg (code_in (alone net) 0 net.p.0)) ≡ v
    → has_true (gather (k + 1) (violation_of (alone net))) ≡ v
unfolding violation_of net_of
violations-true net k {v} h =
    rw (add-one k)
    (has_true-gather k (violation_of (alone net)) v (λ i. has_true-one (neg (code_at (base (alone net) i) net.p.0)) ∙ violated-same (base (alone net) i) (base (alone net) 0) net.p.0 ∙ h))
