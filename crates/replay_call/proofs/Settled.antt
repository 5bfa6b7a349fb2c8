-- The theorems of specs/Settled.antt: the first frame that is fed something unclear is reached by clear values alone. No contract cites this file.
use Prim.Native.Nat.{ℕ, zero, suc, ◌+◌, ◌-◌, ◌<◌}
use mathlib.Core.Path.{◌≡◌, refl, sym, ◌∙◌, ap₂}
use mathlib.Core.Bool.{Bool, true, false, not, ◌&&◌, ◌||◌}
use native.Mathlib.Omega.{arith}
use lib.Dec.{eqb}
use Rattle.model.specs.Search.{any_below}
use Rattle.model.specs.Netlist.{Netlist, ports, IsPort, port, input_wire, read_wire}
use Rattle.model.specs.Circuit.{code_value, run, state_at}
use Rattle.model.specs.Acceptance.{Accepted}
use Rattle.model.specs.Variables.{base}
use Rattle.model.specs.Claim.{feed_of, idle_of}
use Rattle.model.proofs.Bits.{from_bits-same}
use Rattle.model.proofs.Ports.{first-port}
use Rattle.model.proofs.Search.{none_below}
use Rattle.model.proofs.Booleans.{neither-true}
use Rattle.circuit_step.proofs.Alike.{InputsAlike, RE-alike}
use Rattle.circuit_step.proofs.Touched.{any_same}
use Rattle.replay_frame.specs.Replay.{Said, begun_from, run_from, word_said, start_words, fills, replayed, read_unclear, fed_unclear, feed_fault}
use Rattle.replay_frame.proofs.Filling.{RE-on}
use Rattle.replay_frame.proofs.SaidAlike.{SaidAlike, RE-said, fills-said, words-alike}
use Rattle.replay_call.specs.Settled.{FaultsSettled}

module _ {c : Netlist} (ok : Accepted c) {y z : Said} (same : (v : ℕ) → y.unclear v ≡ z.unclear v)
    (clear : (v : ℕ) → y.unclear v ≡ false → y.value v ≡ z.value v) where
  -- inputs that are not unclear are the same
  inputs-clear : (i : ℕ) → any_below c.inputs (λ x. y.unclear (base c i + input_wire c x)) ≡ false
      → InputsAlike c (feed_of c y.value i) (feed_of c z.value i)
  unfolding feed_of
  inputs-clear i e x h = clear (base c i + input_wire c x) ((none_below (λ x. y.unclear (base c i + input_wire c x)) c.inputs).0 e x h)

  -- a frame without a fault has the same inputs
  inputs-alike : (i : ℕ) → feed_fault c y i ≡ false → InputsAlike c (feed_of c y.value i) (feed_of c z.value i)
  unfolding feed_fault fed_unclear
  inputs-alike i e = inputs-clear i ((neither-true (any_below c.inputs (λ x. y.unclear (base c i + input_wire c x))) _).0 e).0

  -- and the same read bits of a port where they are fed
  reads-alike : (i : ℕ) → feed_fault c y i ≡ false → (p : ℕ) → IsPort c p
      → (fills c y i || (eqb i 0 && not (code_value (replayed c y i) (port c p).RE))) ≡ true
      → (t : ℕ) → t < c.n → y.value (base c i + read_wire c ((port c p).first_read + t)) ≡ z.value (base c i + read_wire c ((port c p).first_read + t))
  unfolding feed_fault fed_unclear
  reads-alike i e p here r t h =
      let none = ((neither-true (any_below c.inputs (λ x. y.unclear (base c i + input_wire c x))) _).0 e).1 in
      let own : suc (p - 1) ≡ p = omega (arith, here.0) in
      let q : read_unclear c y.unclear i (fills c y i) (replayed c y i) (port c p) ≡ false
      = rw own at ((none_below (λ x. read_unclear c y.unclear i (fills c y i) (replayed c y i) (port c (suc x))) (ports c)).0 none (p - 1) (omega (arith, here.0, here.1))) in
      clear (base c i + read_wire c ((port c p).first_read + t))
      ((none_below (λ t. y.unclear (base c i + read_wire c ((port c p).first_read + t))) c.n).0 (only (rw r at q)) t h)
    where
      only : {b : Bool} → (true && b) ≡ false → b ≡ false
      only e = e

  -- RE in frame 0 is that of the replay, whatever the memory
  RE-first : (words : ℕ → ℕ) (p : ℕ) → IsPort c p → code_value (replayed c y 0) (port c p).RE ≡ code_value (run_from c y words 0) (port c p).RE
  unfolding run state_at begun_from
  RE-first words = RE-alike ok (begun_from c y (start_words c y 1)) (begun_from c y words) (feed_of c y.value 0) (feed_of c y.value 0) (λ l h. refl) (λ x h. refl)

  -- the word that is said to be filled is the same
  word-alike : (i : ℕ) → feed_fault c y i ≡ false → fills c y i ≡ true → word_said c y i ≡ word_said c z i
  unfolding word_said
  word-alike i none f =
      from_bits-same c.n (λ t. y.value (base c i + read_wire c t)) (λ t. z.value (base c i + read_wire c t))
      (λ t h. let e : (port c 1).first_read + t ≡ t = omega arith in rw e at (reads-alike i none 1 (first-port c) (rw f) t h))

  -- where no frame before has a fault, they are said alike
  pub said-alike : (i : ℕ) → ((j : ℕ) → j < i → feed_fault c y j ≡ false) → SaidAlike c y z i
  unfolding idle_of
  said-alike i none =
      record {
        inputs-said = λ j h. inputs-alike j (none j h);
        words-said = λ j h. word-alike j (none j h);
        idle-said = λ h words p here r. reads-alike 0 (none 0 h) p here (idle-fed (fills c y 0) (RE-first words p here ∙ r));
      }
    where
      idle-fed : (b : Bool) {reads : Bool} → reads ≡ false → (b || (true && not reads)) ≡ true
      idle-fed true e = refl
      idle-fed false e = rw e

  -- so a frame has a fault with both or with neither
  fault-alike : (i : ℕ) → ((j : ℕ) → j < i → feed_fault c y j ≡ false) → feed_fault c y i ≡ feed_fault c z i
  unfolding feed_fault fed_unclear
  fault-alike i none =
      let q : SaidAlike c y z i = said-alike i none in
      let words : (x : ℕ) → start_words c y i x ≡ start_words c z i x = words-alike ok i q in
      by-inputs (any_below c.inputs (λ x. y.unclear (base c i + input_wire c x))) refl
      (any_same c.inputs (λ x h. same (base c i + input_wire c x)))
      (λ e. any_same (ports c) (λ x b.
      ap₂ ◌&&◌
      (ap₂ (λ b r. b || (eqb i 0 && not r)) (fills-said ok i q words (inputs-clear i e)) (RE-on ok y i (suc x) (omega arith, b) ∙ RE-said ok i q words (inputs-clear i e) (suc x) (omega arith, b) ∙ sym (RE-on ok z i (suc x) (omega arith, b))))
      (any_same c.n (λ t h. same (base c i + read_wire c ((port c (suc x)).first_read + t))))))
    where
      by-inputs : {a b r r' : Bool} (q : Bool) → a ≡ q → a ≡ b → (a ≡ false → r ≡ r') → (a || r) ≡ (b || r')
      by-inputs true e ab r = rw (← ab, e)
      by-inputs false e ab r = rw (← ab, e, r e)

-- so the first fault is the same
pub faults-settled : FaultsSettled
unfolding any_below
faults-settled c ok y z same clear zero = refl
faults-settled c ok y z same clear (suc n) =
    by_before (any_below n (feed_fault c y)) refl (faults-settled c ok y z same clear n)
    (λ e. fault-alike ok same clear n ((none_below (feed_fault c y) n).0 e))
  where
    by_before : {a b f g : Bool} (q : Bool) → a ≡ q → a ≡ b → (a ≡ false → f ≡ g) → (a || f) ≡ (b || g)
    by_before true e ab f = rw (← ab, e)
    by_before false e ab f = rw (← ab, e, f e)
