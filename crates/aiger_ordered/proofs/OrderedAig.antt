-- Laws of specs/OrderedAig.antt: a record's graph under the numbers of a file, which has room for it. No contract cites this file.
use Prim.Native.Nat.{ℕ, ◌+◌, ◌-◌, ◌*◌, ◌/◌, ◌≤◌, ◌<◌, min, max}
use mathlib.Core.Path.{◌≡◌, refl, sym, ◌∙◌}
use mathlib.Core.Logic.{by_cases}
use native.Mathlib.Decide.{dec_lt}
use native.Mathlib.Omega.{arith}
use borrow.Author.Tests.{lt-ltb, le-ltb}
use Rattle.model.specs.Netlist.{Netlist, read_bits, latch_wire, gate_wire, last_wire}
use Rattle.model.specs.Network.{renamed}
use Rattle.model.specs.Acceptance.{WithinLimits}
use Rattle.model.proofs.Renumbering.{SameOperands, straight, crossed}
use Rattle.model.proofs.Ports.{second-most}
use Rattle.aiger_graph.specs.RecordAig.{input_or_read, output_of, record_aig}
use Rattle.aiger_graph.proofs.Values.{RenumbersAig}
use Rattle.aiger_graph.proofs.RecordAig.{output-fits}
use Rattle.aiger_binary.specs.BinaryText.{Writable}
use Rattle.aiger_ordered.specs.OrderedAig.{order_of, file_variable, file_code, aig_of}
use Rattle.aiger_ordered.specs.declared.FileOrder.{FileOrder}

-- the variables of inputs (and of no wire, 0), latches, read bits and gates
module _ (o : FileOrder) where
  pub input-kept : (w : ℕ) → w < 1 + o.inputs → file_variable o w ≡ w
  unfolding file_variable
  input-kept w h = rw (lt-ltb w (1 + o.inputs) h)

  pub latch-moved : (w : ℕ) → 1 + o.inputs ≤ w → w < 1 + o.inputs + o.latches → file_variable o w ≡ w + o.reads
  unfolding file_variable
  latch-moved w l h = rw (le-ltb w (1 + o.inputs) l, lt-ltb w (1 + o.inputs + o.latches) h)

  pub read-moved : (w : ℕ) → 1 + o.inputs + o.latches ≤ w → w < 1 + o.inputs + o.latches + o.reads → file_variable o w ≡ w - o.latches
  unfolding file_variable
  read-moved w l h =
      rw (
        le-ltb w (1 + o.inputs) (omega arith),
        le-ltb w (1 + o.inputs + o.latches) l,
        lt-ltb w (1 + o.inputs + o.latches + o.reads) h,
      )

  pub gate-kept : (w : ℕ) → 1 + o.inputs + o.latches + o.reads ≤ w → file_variable o w ≡ w
  unfolding file_variable
  gate-kept w l =
      rw (
        le-ltb w (1 + o.inputs) (omega arith),
        le-ltb w (1 + o.inputs + o.latches) (omega arith),
        le-ltb w (1 + o.inputs + o.latches + o.reads) l,
      )

  -- a property of each wire and its variable, by these four
  module _ (P : ℕ → ℕ → Type 0) where
    pub by_part : (w : ℕ) → (w < 1 + o.inputs → P w w) → (1 + o.inputs ≤ w → w < 1 + o.inputs + o.latches → P w (w + o.reads))
        → (1 + o.inputs + o.latches ≤ w → w < 1 + o.inputs + o.latches + o.reads → P w (w - o.latches))
        → (1 + o.inputs + o.latches + o.reads ≤ w → P w w) → P w (file_variable o w)
    by_part w input latch read gate =
        by_cases (dec_lt w (1 + o.inputs)) (λ a. rw (input-kept w a) (input a))
        (λ a.
        by_cases (dec_lt w (1 + o.inputs + o.latches)) (λ b. rw (latch-moved w (omega arith) b) (latch (omega arith) b))
        (λ b.
        by_cases (dec_lt w (1 + o.inputs + o.latches + o.reads)) (λ d. rw (read-moved w (omega arith) d) (read (omega arith) d))
        (λ d. rw (gate-kept w (omega arith)) (gate (omega arith)))))

  -- no variable goes past the last, or past a gate's own
  pub variable-below : (last w : ℕ) → o.inputs + o.latches + o.reads < last → w < last → file_variable o w < last
  variable-below last w b h =
      by_part (λ w v. w < last → v < last) w (λ a h. h) (λ a c h. omega arith) (λ a c h. omega arith) (λ a h. h) h

-- the order back
abbrev pub swapped : FileOrder → FileOrder
swapped o = record { inputs = o.inputs; latches = o.reads; reads = o.latches }

pub variable-back : (o : FileOrder) (w : ℕ) → file_variable (swapped o) (file_variable o w) ≡ w
variable-back o w =
    by_part o (λ w v. file_variable (swapped o) v ≡ w) w (λ a. input-kept (swapped o) w a)
    (λ a b. read-moved (swapped o) (w + o.reads) (omega arith) (omega arith) ∙ omega arith)
    (λ a b. latch-moved (swapped o) (w - o.latches) (omega arith) (omega arith) ∙ omega arith)
    (λ a. gate-kept (swapped o) w (omega arith))

-- the larger and the smaller of two codes are the two
ordered_same : (x y : ℕ) → SameOperands x y (max x y) (min x y)
ordered_same x y = by_cases (dec_lt x y) (λ h. crossed (omega arith) (omega arith)) (λ h. straight (omega arith) (omega arith))

-- the graph is the record's, where each wire has its variable
pub renumbers : (c : Netlist) → RenumbersAig (file_variable (order_of c)) (record_aig c) (aig_of c)
unfolding input_or_read
renumbers c =
    let o = order_of c in
    record {
      counts_same = record { inputs-same = refl; latches-same = refl; outputs-same = refl; gates-same = refl };
      inputs-renamed = λ x h.
          by_cases (dec_lt x c.inputs) (λ b. rw (lt-ltb x c.inputs b) (sym (input-kept o (1 + x) (omega arith))))
          (λ b.
          rw (le-ltb x c.inputs (omega arith))
          (omega (arith, read-moved o (1 + c.inputs + c.latches + (x - c.inputs)) (omega arith) (omega arith))));
      latches-renamed = λ l h. omega (arith, latch-moved o (latch_wire c l) (omega arith) (omega arith));
      next-renamed = λ l h. refl;
      output-renamed = λ o h. refl;
      gates-renamed =
          record {
            zero-kept = input-kept o 0 (omega arith);
            gates-same = refl;
            own_same = λ g h. sym (gate-kept o (gate_wire c g) (omega arith));
            operands_same = λ g h. ordered_same (file_code c (c.left g)) (file_code c (c.right g));
          };
    }

-- a code stays below a bound on wires
pub code_below : (o : FileOrder) (last x : ℕ) → o.inputs + o.latches + o.reads < last → x < 2 * last
    → renamed (file_variable o) x < 2 * last
unfolding renamed
code_below o last x b h = omega (arith, variable-below o last (x / 2) b (omega arith))

-- and a file has room for it
pub writable : {c : Netlist} → WithinLimits c → Writable (aig_of c)
writable {c} fits =
    let limit : (x : ℕ) → x / 2 ≤ last_wire c → file_code c x ≤ 2 * (c.inputs + read_bits c + c.latches + c.gates) + 1 =
    λ x h. omega (arith, code_below (order_of c) (last_wire c + 1) x (omega arith) (omega arith)) in
    record {
      input-in-order = λ x h. refl;
      latch-in-order = λ l h. refl;
      gate-in-order = λ g h. omega arith;
      left_below = λ g h.
          omega (arith, code_below (order_of c) (gate_wire c g) (c.left g) (omega arith) (fits.codes.left-fits g h), code_below (order_of c) (gate_wire c g) (c.right g) (omega arith) (fits.codes.right-fits g h));
      right-below = λ g h. omega arith;
      next-below = λ l h. limit (c.next l) (omega (arith, fits.codes.next_fits l h));
      output-below = λ o h. limit (output_of c o) (output-fits fits.codes o);
      codes-fit = omega (arith, fits.sizes.wires-fit);
      outputs-fit = omega (arith, fits.sizes.m-most, fits.sizes.n-most, second-most fits.sizes (c.m + 1));
    }
