-- From an assignment whose frames hold to every run that is fed as it is and begins as it has frame 0's latches, with a memory that
-- explains its reads: frame by frame, the values assigned are the frame's. No contract cites this file.
use Prim.Native.Nat.{ℕ, zero, suc, ◌+◌, ◌-◌, ◌≤◌, ◌<◌}
use mathlib.Core.Path.{◌≡◌, refl, sym, ◌∙◌, ap}
use mathlib.Core.Bool.{Bool, true, false, cond}
use native.Mathlib.Nat.{le_refl, le_of_suc-le, lt-suc_self, not-suc-le-zero}
use native.Mathlib.Omega.{arith}
use Rattle.model.specs.Bits.{bit}
use Rattle.model.specs.Netlist.{Netlist, Start, IsPort, port, input_wire, latch_wire, read_wire}
use Rattle.model.specs.Circuit.{Values, code_value, State, Feeds, address_of, read_data, step, state_at, run}
use Rattle.model.specs.Acceptance.{Accepted}
use Rattle.model.specs.Variables.{base, read_bit, closing_literals}
use Rattle.model.specs.Numbers.{Assignment}
use Rattle.model.specs.Claim.{Agrees, Breaks}
use Rattle.model.specs.Trace.{assigned}
use Rattle.model.proofs.Ports.{port-bit, bit-within}
use Rattle.model.proofs.Below.{all-below-suc}
use Rattle.model.proofs.Circuit.{IsFrame, frame-unique, read_data-port}
use Rattle.model.proofs.Truth.{value}
use Rattle.model.proofs.InFrame.{assigned-zero, assigned-wire, read_bit-value, code_in-value}
use Rattle.model.proofs.AssignedReads.{word_read}
use Rattle.model.proofs.StartMemory.{Explains}
use Rattle.model.proofs.Agreement.{Same, code-agrees, word_before, memory-stepped, word_before-agrees}
use Rattle.model.proofs.Groups.{FramesHold, Violated}

-- a run from state s is fed as the assignment has it up to frame k: in frame 0 its latches and, where a port's RE is false there,
-- its read bits; in each frame its inputs
pub record FedAs (c : Netlist) (k : ℕ) (a : Assignment) (s : State) (f : Feeds) : Type 0 where
  pub latches-same : (l : ℕ) → l < c.latches → assigned c a 0 (latch_wire c l) ≡ s.latch l
  pub idle-same : (p : ℕ) → IsPort c p → code_value (assigned c a 0) (port c p).RE ≡ false → (t : ℕ) → t < c.n
      → a (base c 0 + read_wire c ((port c p).first_read + t)) ≡ s.held ((port c p).first_read + t)
  pub inputs-same : (i : ℕ) → i ≤ k → (x : ℕ) → x < c.inputs → a (base c i + input_wire c x) ≡ f i x

module _ (c : Netlist) (a : Assignment) where
  -- the frames as assigned, and the address that a port reads in a frame
  abbrev u : ℕ → Values
  u = assigned c a

  abbrev at : ℕ → ℕ → ℕ
  at p i = address_of c (port c p) (u i)

  module _ (k : ℕ) {start : Start} (holds : FramesHold c start k a) (s : State) (explains : Explains c a k s.memory) where
    module _ (p : ℕ) (here : IsPort c p) where
      -- where RE is true, the read bits assigned are the word that the writes assigned leave
      read_at : (i : ℕ) → i ≤ k → code_value (u i) (port c p).RE ≡ true → (t : ℕ) → t < c.n
          → u i (read_wire c ((port c p).first_read + t)) ≡ bit (word_before c u (s.memory (at p i)) (at p i) i) t
      read_at i d r t b = word_read c (port c p) a i (λ j l. holds.pairs p here j i l d) (s.memory (at p i)) (explains p here i d) r t b

      -- where RE is false, the read bits assigned to a later frame are those of the frame before
      held_at : (i : ℕ) → suc i ≤ k → code_value (u (suc i)) (port c p).RE ≡ false → (t : ℕ) → t < c.n
          → u (suc i) (read_wire c ((port c p).first_read + t)) ≡ u i (read_wire c ((port c p).first_read + t))
      unfolding closing_literals
      held_at i d r t b =
          let last : suc i - 1 ≡ i = omega arith in
          let held = (holds.closings p here (suc i) d).held-where-idle (omega arith) t b in
          sym (read_bit-value c (port c p) a (suc i) t) ∙ held (code_in-value c a (suc i) (port c p).RE ∙ r)
          ∙ ap (λ (j : ℕ). value a (read_bit c (port c p) j t)) last ∙ read_bit-value c (port c p) a i t

    module _ (ok : Accepted c) {f : Feeds} (fed : FedAs c k a s f) where
      -- a run that is fed as the assignment has it, and its states
      abbrev driven : ℕ → Values
      driven = run c s f

      abbrev state : ℕ → State
      state = state_at c s f

      -- the frames below i agree
      abbrev Before : ℕ → Type 0
      Before i = (j : ℕ) → j < i → Same c (u j) (driven j)

      -- the latches assigned are the run's, if the frames before agree
      latch-at : (i : ℕ) → i ≤ k → Before i → (l : ℕ) → l < c.latches → u i (latch_wire c l) ≡ (state i).latch l
      unfolding state_at step run
      latch-at zero d before l b = fed.latches-same l b
      latch-at (suc i) d before l b =
          holds.latches i d l b
          ∙ code-agrees c (u i) (driven i) (before i (lt-suc_self i)) (c.next l) (ok.limits.codes.next_fits l b)

      -- so is the word that frame i reads
      word_at : (i : ℕ) → Before i → (x : ℕ) → word_before c u (s.memory x) x i ≡ (state i).memory x
      word_at i before x =
          word_before-agrees c ok.limits.codes u driven (s.memory x) x i before ∙ sym (memory-stepped c s f x i)

      -- so are the read bits of a port that does not read
      idle-at : (p : ℕ) → IsPort c p → (i : ℕ) → i ≤ k → Before i → code_value (u i) (port c p).RE ≡ false → (t : ℕ) → t < c.n
          → u i (read_wire c ((port c p).first_read + t)) ≡ (state i).held ((port c p).first_read + t)
      unfolding state_at step run
      idle-at p here zero d before r t b =
          assigned-wire c a 0 (read_wire c ((port c p).first_read + t)) (omega arith) ∙ fed.idle-same p here r t b
      idle-at p here (suc i) d before r t b =
          held_at p here i d r t b
          ∙ before i (lt-suc_self i) (read_wire c ((port c p).first_read + t)) (omega (arith, bit-within c p here t b))

      -- so are all
      reads_at : (p : ℕ) → IsPort c p → (i : ℕ) → i ≤ k → Before i → (t : ℕ) → t < c.n
          → u i (read_wire c ((port c p).first_read + t)) ≡ read_data c (state i) (u i) ((port c p).first_read + t)
      reads_at p here i d before t b = by-RE (code_value (u i) (port c p).RE) refl ∙ sym (read_data-port c p here (state i) (u i) t b)
        where
          by-RE : (r : Bool) → code_value (u i) (port c p).RE ≡ r
              → u i (read_wire c ((port c p).first_read + t))
              ≡ cond (code_value (u i) (port c p).RE) (bit ((state i).memory (at p i)) t) ((state i).held ((port c p).first_read + t))
          by-RE true e = rw e (read_at p here i d e t b ∙ ap (λ (w : ℕ). bit w t) (word_at i before (at p i)))
          by-RE false e = rw e (idle-at p here i d before e t b)

      -- so is the whole frame
      frame_at : (i : ℕ) → i ≤ k → Before i → IsFrame c (state i) (f i) (u i)
      frame_at i d before =
          record {
            at_zero = assigned-zero c a i;
            at-input = λ x b. assigned-wire c a i (input_wire c x) (omega arith) ∙ fed.inputs-same i d x b;
            at-latch = latch-at i d before;
            at_read = λ r b. let x = port-bit c r b in rw x.is (reads_at x.of x.is-port i d before x.t x.below);
            at-gate = holds.gates i d;
          }

      agree-below : (n : ℕ) → n ≤ k + 1 → Before n
      unfolding run
      agree-below zero d = λ i b. absurd (not-suc-le-zero b)
      agree-below (suc n) d =
          let before = agree-below n (le_of_suc-le d) in
          all-below-suc (λ i. Same c (u i) (driven i)) n before
          (frame-unique ok (state n) (f n) (u n) (frame_at n (omega arith) before))

      agree : (i : ℕ) → i < k + 1 → Same c (u i) (driven i)
      agree = agree-below (k + 1) (le_refl (k + 1))

      pub assignment-agrees : Agrees c s k a f
      unfolding Agrees
      assignment-agrees i d w l b = sym (assigned-wire c a i w l) ∙ agree i (omega arith) w b

      pub assignment-breaks : Violated c k a → Breaks c s k f
      unfolding Breaks
      assignment-breaks p =
          let i = p.0 in
          (i, omega (arith, p.1), sym (code-agrees c (u i) (driven i) (agree i p.1) c.P ok.limits.codes.P-fits) ∙ p.2)
