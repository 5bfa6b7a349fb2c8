-- From a run, whatever state it begins in, to an assignment whose frames hold: the witness of its frames. No contract cites this file.
use Prim.Native.Nat.{ℕ, zero, suc, zero-le, ◌+◌, ◌-◌, ◌*◌, ◌≤◌, ◌<◌}
use mathlib.Core.Path.{◌≡◌, refl, sym, ◌∙◌, ap, ap₂, subst}
use mathlib.Core.Bool.{Bool, true, false, cond, ◌&&◌}
use native.Mathlib.Nat.{le_of_suc-le, le_trans, not-suc-le-zero}
use native.Mathlib.Omega.{arith}
use borrow.Author.Tests.{eqb-true}
use Rattle.model.specs.Bits.{bit}
use Rattle.model.specs.Netlist.{Netlist, Start, given, unknown, is_unknown, IsPort, port, latch_wire, read_wire, gate_wire}
use Rattle.model.specs.Circuit.{Values, code_value, State, Feeds, address_of, word_written, step, state_at, run, Begins}
use Rattle.model.specs.Acceptance.{Accepted, IsCode}
use Rattle.model.specs.Variables.{code_in, read_bit, pair_literals, closing_literals}
use Rattle.model.specs.Numbers.{Assignment}
use Rattle.model.specs.Claim.{Agrees, Breaks}
use Rattle.model.specs.Trace.{hits, assigned}
use Rattle.model.proofs.Ports.{first-port, bit-within}
use Rattle.model.proofs.Circuit.{IsFrame, frame_is, read_data-port}
use Rattle.model.proofs.Truth.{value, AgreedHold, InitialHold}
use Rattle.model.proofs.InFrame.{assigned-zero, assigned-wire, read_bit-value, code_in-value}
use Rattle.model.proofs.Forwarding.{stepped}
use Rattle.model.proofs.Agreement.{Same, code-agrees, memory-stepped}
use Rattle.model.proofs.WitnessedReads.{HasRead, read-start, pair-witnessed, closing-witnessed}
use Rattle.model.proofs.Witness.{witness, witness-wire, witness-values}
use Rattle.model.proofs.Groups.{FramesHold, Violated}

module _ (c : Netlist) (ok : Accepted c) (s : State) (f : Feeds) (k : ℕ) where
  -- the run's frames and states, and their witness
  abbrev u : ℕ → Values
  u = run c s f

  abbrev state : ℕ → State
  state = state_at c s f

  abbrev a : Assignment
  a = witness c k u

  -- each frame meets its equations
  frame_at : (i : ℕ) → IsFrame c (state i) (f i) (u i)
  unfolding run
  frame_at i = frame_is ok (state i) (f i)

  -- the witness agrees with the run
  same : (i : ℕ) → i ≤ k → Same c (assigned c a i) (u i)
  same i d zero b = assigned-zero c a i ∙ sym (frame_at i).at_zero
  same i d (suc w) b = assigned-wire c a i (suc w) (omega arith) ∙ witness-wire c k u i (suc w) d (omega arith) b

  -- a code's literal has the code's value in the run
  code-value : (i : ℕ) → i ≤ k → (x : ℕ) → IsCode c x → value a (code_in c i x) ≡ code_value (u i) x
  code-value i d x fits = code_in-value c a i x ∙ code-agrees c (assigned c a i) (u i) (same i d) x fits

  -- so has a read bit's literal
  bit-value : (p : ℕ) → IsPort c p → (i : ℕ) → i ≤ k → (t : ℕ) → t < c.n
      → value a (read_bit c (port c p) i t) ≡ u i (read_wire c ((port c p).first_read + t))
  bit-value p here i d t b =
      read_bit-value c (port c p) a i t ∙ same i d (read_wire c ((port c p).first_read + t)) (omega (arith, bit-within c p here t b))

  -- a frame's gates and latches are as assigned
  gate-holds : (i : ℕ) → i ≤ k → (g : ℕ) → g < c.gates
      → assigned c a i (gate_wire c g) ≡ (code_value (assigned c a i) (c.left g) && code_value (assigned c a i) (c.right g))
  gate-holds i d g b =
      same i d (gate_wire c g) (omega arith) ∙ (frame_at i).at-gate g b
      ∙ sym (ap₂ ◌&&◌ (agrees (c.left g) (ok.limits.codes.left-fits g b)) (agrees (c.right g) (ok.limits.codes.right-fits g b)))
    where
      agrees : (x : ℕ) → x < 2 * gate_wire c g → code_value (assigned c a i) x ≡ code_value (u i) x
      agrees x l = code-agrees c (assigned c a i) (u i) (same i d) x (omega arith)

  pub first-latch : (l : ℕ) → l < c.latches → assigned c a 0 (latch_wire c l) ≡ s.latch l
  unfolding state_at
  first-latch l b = same 0 zero-le (latch_wire c l) (omega arith) ∙ (frame_at 0).at-latch l b

  latch-holds : (i : ℕ) → suc i ≤ k → (l : ℕ) → l < c.latches → assigned c a (suc i) (latch_wire c l) ≡ code_value (assigned c a i) (c.next l)
  unfolding state_at step run
  latch-holds i d l b =
      same (suc i) d (latch_wire c l) (omega arith) ∙ (frame_at (suc i)).at-latch l b
      ∙ sym (code-agrees c (assigned c a i) (u i) (same i (le_of_suc-le d)) (c.next l) (ok.limits.codes.next_fits l b))

  module _ (p : ℕ) (here : IsPort c p) where
    -- what a port reads in frame i
    read-data : (i : ℕ) (t : ℕ) → t < c.n
        → u i (read_wire c ((port c p).first_read + t))
        ≡ cond (code_value (u i) (port c p).RE) (bit ((state i).memory (address_of c (port c p) (u i))) t) ((state i).held ((port c p).first_read + t))
    read-data i t b =
        (frame_at i).at_read ((port c p).first_read + t) (bit-within c p here t b) ∙ read_data-port c p here (state i) (u i) t b

    -- where it reads, its read bits are the word that the writes before it leave
    read-bit : (i : ℕ) → code_value (u i) (port c p).RE ≡ true → (t : ℕ) → t < c.n
        → u i (read_wire c ((port c p).first_read + t))
        ≡ bit (stepped (s.memory (address_of c (port c p) (u i))) (hits c (port c p) u i) (λ j. word_written c (u j)) i) t
    unfolding hits
    read-bit i r t b =
        read-data i t b
        ∙ ap (λ (x : Bool). cond x (bit ((state i).memory (address_of c (port c p) (u i))) t) ((state i).held ((port c p).first_read + t))) r
        ∙ ap (λ (w : ℕ). bit w t) (memory-stepped c s f (address_of c (port c p) (u i)) i)

    -- where it does not in a later frame, its read bits are those of the frame before
    held-bit : (i : ℕ) → code_value (u (suc i)) (port c p).RE ≡ false → (t : ℕ) → t < c.n
        → u (suc i) (read_wire c ((port c p).first_read + t)) ≡ u i (read_wire c ((port c p).first_read + t))
    unfolding state_at step run
    held-bit i r t b =
        read-data (suc i) t b
        ∙ ap (λ (x : Bool). cond x (bit ((state (suc i)).memory (address_of c (port c p) (u (suc i)))) t) ((state (suc i)).held ((port c p).first_read + t))) r

    held_at : (i : ℕ) → i ≤ k → 0 < i → code_value (u i) (port c p).RE ≡ false → (t : ℕ) → t < c.n
        → value a (read_bit c (port c p) i t) ≡ value a ((closing_literals c (port c p) i).before t)
    unfolding closing_literals
    held_at zero d l r t b = absurd (not-suc-le-zero l)
    held_at (suc i) d l r t b =
        let last : suc i - 1 ≡ i = omega arith in
        rw last (bit-value p here (suc i) d t b ∙ held-bit i r t b ∙ sym (bit-value p here i (le_of_suc-le d) t b))

    -- the witness has its read in frame i
    read_at : (i : ℕ) → i ≤ k → HasRead c (port c p) u a i (s.memory (address_of c (port c p) (u i)))
    read_at i d =
        record {
          address-codes = ok.limits.codes.address-fits p here;
          RE-code = ok.limits.codes.RE-fits p here;
          codes = λ j b. code-value j (le_trans b d);
          pairs = λ j b. witness-values c k u p here j i b d;
          word = λ r t b. bit-value p here i d t b ∙ read-bit i r t b;
          held = held_at i d;
        }

    -- from a given start it is the initial word
    initial-at : (start : Start) → Begins c.n start s.memory → (i : ℕ) → i ≤ k → InitialHold a c.n start (closing_literals c (port c p) i)
    unfolding InitialHold Begins closing_literals
    initial-at (given word) begins i d = λ t b z. read-start ok.limits.codes (read_at i d) z t b ∙ rw (begins _)
    initial-at unknown begins i d = tt

  -- reads of one address that both reach the start agree: they are of one word
  agreed-first : (j i : ℕ) → j < i → i ≤ k → AgreedHold a c.n unknown (pair_literals c (port c 1) j i)
  unfolding AgreedHold pair_literals
  agreed-first j i l d = λ t b e zj zi.
      let here = first-port c in
      read-start ok.limits.codes (read_at 1 here i d) zi t b
      ∙ ap (λ (x : ℕ). bit (s.memory x) t) (eqb-true _ _ (sym (witness-values c k u 1 here j i l d).E-is ∙ e))
      ∙ sym (read-start ok.limits.codes (read_at 1 here j (omega arith)) zj t b)

  agreed-at : (start : Start) → (is_unknown start ≡ true → (p : ℕ) → IsPort c p → p ≡ 1) → (p : ℕ) → IsPort c p
      → (j i : ℕ) → j < i → i ≤ k → AgreedHold a c.n start (pair_literals c (port c p) j i)
  unfolding is_unknown
  agreed-at (given word) single p here j i l d = unfold AgreedHold in tt
  agreed-at unknown single p here j i l d =
      subst (λ (q : ℕ). AgreedHold a c.n unknown (pair_literals c (port c q) j i)) (sym (single refl p here)) (agreed-first j i l d)

  -- so the frames hold from any start that its memory is one of
  pub frames-hold : (start : Start) → (is_unknown start ≡ true → (p : ℕ) → IsPort c p → p ≡ 1) → Begins c.n start s.memory
      → FramesHold c start k a
  frames-hold start single begins =
      record {
        gates = gate-holds;
        latches = latch-holds;
        pairs = λ p here j i l d. pair-witnessed ok.limits.codes (read_at p here i d) j l (agreed-at start single p here j i l d);
        closings = λ p here i d. closing-witnessed ok.limits.codes (read_at p here i d) (initial-at p here start begins i d);
      }

  -- where the run breaks the property, P is false as assigned
  pub run-violated : Breaks c s k f → Violated c k a
  unfolding Breaks
  run-violated h =
      (h.0, omega (arith, h.1), code-agrees c (assigned c a h.0) (u h.0) (same h.0 h.1) c.P ok.limits.codes.P-fits ∙ h.2)

  -- and the witness agrees with the run
  pub run-agrees : Agrees c s k a f
  unfolding Agrees
  run-agrees i d w lo hi = witness-wire c k u i w d lo hi
