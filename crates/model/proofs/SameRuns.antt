-- Netlists that agree below their sizes (specs/Agree.antt) have the same runs: from states that agree, fed alike, every wire has the
-- same value in every frame. No contract cites this file.
use Prim.Native.Nat.{ℕ, zero, suc, ◌-◌, ◌/◌, ◌<◌}
use mathlib.Core.Path.{◌≡◌, refl, sym, ◌∙◌, ap}
use mathlib.Core.Bool.{Bool}
use mathlib.Core.Logic.{◌↔◌}
use native.Mathlib.Nat.{le_refl}
use native.Mathlib.Omega.{arith}
use lib.Dec.{eqb, ltb}
use borrow.Author.Tests.{ltb-true, ltb-false}
use Rattle.model.specs.Netlist.{Netlist, IsPort, port, read_bits, input_wire, latch_wire, read_wire, gate_wire}
use Rattle.model.specs.Circuit.{Values, code_value, sources, evaluate, State, Feeds, address_of, read_data, first_pass, frame, word_written, step, state_at, run, Starts}
use Rattle.model.specs.Numbers.{Assignment}
use Rattle.model.specs.Claim.{Agrees, Breaks}
use Rattle.model.specs.Agree.{Agree}
use Rattle.model.proofs.Booleans.{cond_same}
use Rattle.model.proofs.Bits.{from_bits-same}
use Rattle.model.proofs.Ports.{first-port, port-of-read}
use Rattle.model.proofs.Circuit.{code_same, conjunction-of-two}
use Rattle.model.proofs.Agree.{inputs-same, latches-same, gates-same, m-same, n-same, second-same, start-same, last_wire-same, sweep-same}
use Rattle.model.proofs.SameNumbers.{base_same}

-- two states of a netlist that agree on its latches, on every word and on the read bits held
pub record SameState (c : Netlist) (s r : State) : Type 0 where
  pub latch-same : (l : ℕ) → l < c.latches → s.latch l ≡ r.latch l
  pub memory-same : (x : ℕ) → s.memory x ≡ r.memory x
  pub held_same : (t : ℕ) → t < read_bits c → s.held t ≡ r.held t

-- a state agrees with itself
pub same-state : (c : Netlist) (s : State) → SameState c s s
same-state c s = record { latch-same = λ l b. refl; memory-same = λ x. refl; held_same = λ t b. refl }

module _ (c d : Netlist) (q : Agree c d) where
  -- they may begin in the same states
  pub starts-same : (s : State) → Starts c s → Starts d s
  starts-same s h =
      record {
        at-reset = λ l b. let below : l < c.latches = rw (latches-same c d q) b in h.at-reset l below ∙ ap (λ (r : ℕ). eqb r 1) (q.reset-same l below);
        begins = rw (← n-same c d q, ← start-same c d q) h.begins;
      }

  -- from the same inputs, latches and read bits every wire has the same value
  module _ (input : ℕ → Bool) {latch other read back : ℕ → Bool} (latches : (l : ℕ) → l < c.latches → latch l ≡ other l)
      (reads : (t : ℕ) → t < read_bits c → read t ≡ back t) where
    sources-same : (w : ℕ) → sources c input latch read w ≡ sources d input other back w
    unfolding sources
    sources-same w =
        rw (← inputs-same c d q, ← latches-same c d q, ← n-same c d q, ← second-same c d q)
        (cond_same (ltb w (input_wire c 0)) (λ h. refl) λ i.
        cond_same (ltb w (latch_wire c 0)) (λ h. refl) λ l.
        cond_same (ltb w (read_wire c 0))
        (λ h. latches (w - latch_wire c 0) (omega (arith, ltb-true w (read_wire c 0) h, ltb-false w (latch_wire c 0) l))) λ r.
        cond_same (ltb w (gate_wire c 0))
        (λ h. reads (w - read_wire c 0) (omega (arith, ltb-true w (gate_wire c 0) h, ltb-false w (read_wire c 0) r))) (λ h. refl))

    pub evaluate-same : (w : ℕ) → evaluate c input latch read w ≡ evaluate d input other back w
    unfolding evaluate
    evaluate-same w = sweep-same c d q conjunction-of-two sources-same c.gates w (le_refl _) ∙ rw (gates-same c d q)

  -- from the same values: every code, the address, the word written
  module _ {u v : Values} (same : (w : ℕ) → u w ≡ v w) where
    pub code-value-same : {x y : ℕ} → x ≡ y → code_value u x ≡ code_value v y
    code-value-same {x} {y} e = code_same u v x (same (x / 2)) ∙ ap (code_value v) e

    address_of-same : (p : ℕ) → IsPort c p → address_of c (port c p) u ≡ address_of d (port d p) v
    unfolding address_of
    address_of-same p here = from_bits-same c.m _ _ (λ t b. code-value-same (q.address_same p here t b)) ∙ rw (m-same c d q)

    word-written-same : word_written c u ≡ word_written d v
    unfolding word_written
    word-written-same = from_bits-same c.n _ _ (λ t b. code-value-same (q.data-same t b)) ∙ rw (n-same c d q)

    module _ {s r : State} (states : SameState c s r) where
      read_same : (t : ℕ) → t < read_bits c → read_data c s u t ≡ read_data d r v t
      unfolding read_data
      read_same t b =
          let is-port : IsPort c (suc (t / c.n)) = port-of-read c t b in
          rw (
            code-value-same (q.RE-same (suc (t / c.n)) is-port),
            address_of-same (suc (t / c.n)) is-port,
            states.memory-same (address_of d (port d (suc (t / c.n))) v),
            states.held_same t b,
            n-same c d q,
          )

      step_same : SameState c (step c s u) (step d r v)
      unfolding step
      step_same =
          record {
            latch-same = λ l b. code-value-same (q.next-same l b);
            memory-same = λ x. rw (code-value-same q.WE-same, address_of-same 1 (first-port c), word-written-same, states.memory-same x);
            held_same = λ t b. same (read_wire c t) ∙ rw (inputs-same c d q, latches-same c d q);
          }

  -- from states that agree, fed alike
  module _ {s r : State} (states : SameState c s r) (f : ℕ → Bool) where
    first-same : (w : ℕ) → first_pass c s f w ≡ first_pass d r f w
    unfolding first_pass
    first-same = evaluate-same f states.latch-same (λ t b. refl)

    frame_same : (w : ℕ) → frame c s f w ≡ frame d r f w
    unfolding frame
    frame_same = evaluate-same f states.latch-same (read_same first-same states)

  module _ {s r : State} (states : SameState c s r) (f : Feeds) where
    pub state_at-same : (i : ℕ) → SameState c (state_at c s f i) (state_at d r f i)
    unfolding state_at
    state_at-same zero = states
    state_at-same (suc i) = let before = state_at-same i in step_same (frame_same before (f i)) before

    pub run-same : (i w : ℕ) → run c s f i w ≡ run d r f i w
    unfolding run
    run-same i = frame_same (state_at-same i) (f i)

    -- so they break the property alike, and agree with the same assignments
    pub breaks-same : (k : ℕ) → Breaks c s k f ↔ Breaks d r k f
    unfolding Breaks
    breaks-same k = (λ h. (h.0, h.1, sym (property h.0) ∙ h.2), λ h. (h.0, h.1, property h.0 ∙ h.2))
      where
        property : (i : ℕ) → code_value (run c s f i) c.P ≡ code_value (run d r f i) d.P
        property i = code-value-same (run-same i) q.P-same

    pub agrees-same : (k : ℕ) (a : Assignment) → Agrees c s k a f ↔ Agrees d r k a f
    unfolding Agrees
    agrees-same k a = (
      λ h i b w lo hi. rw (← base_same c d q i) (h i b w lo (rw (last_wire-same c d q) hi)) ∙ run-same i w,
      λ h i b w lo hi. rw (base_same c d q i) (h i b w lo (rw (← last_wire-same c d q) hi)) ∙ sym (run-same i w),
    )
