-- A word that no frame of a run has read or written stays as it was; and of an unknown start, which has one port, it has no part in the run: the same
-- run goes on from a memory with another word there. No contract cites this file.
use Prim.Native.Nat.{ℕ, zero, suc, ◌+◌, ◌-◌, ◌<◌}
use mathlib.Core.Path.{◌≡◌, refl, sym, ◌∙◌, ap, ap₂, fun_ext}
use mathlib.Core.Bool.{Bool, true, false, cond, ◌&&◌, ◌||◌, true≢false}
use mathlib.Core.Logic.{inr, by_cases}
use native.Mathlib.Decide.{ℕ_discrete}
use native.Mathlib.Omega.{arith}
use lib.Dec.{eqb, ltb}
use borrow.Author.Tests.{eq-eqb, ne_eqb, ltb-true, ltb-false}
use Rattle.model.specs.Bits.{bit}
use Rattle.model.specs.Search.{any_below}
use Rattle.model.specs.Netlist.{Netlist, is_unknown, start, IsPort, port, read_bits, input_wire, latch_wire, read_wire, gate_wire}
use Rattle.model.specs.Circuit.{Values, code_value, State, Feeds, address_of, write_address, sources, sweep, conjunction, evaluate, read_data, first_pass, frame, word_written, step, state_at, run}
use Rattle.model.specs.Acceptance.{Accepted}
use Rattle.model.proofs.Search.{none_below}
use Rattle.model.proofs.Booleans.{or-true, neither-true, cond_same}
use Rattle.model.proofs.Ports.{each-bit, unknown-each}
use Rattle.model.proofs.Circuit.{read_data-port}
use Rattle.circuit_step.specs.Touched.{touches, touched_before}
use Rattle.circuit_step.proofs.Alike.{RE-settled, address-settled}

-- whether any has a property needs it below the number alone
pub any_same : (n : ℕ) {f g : ℕ → Bool} → ((x : ℕ) → x < n → f x ≡ g x) → any_below n f ≡ any_below n g
unfolding any_below
any_same zero same = refl
any_same (suc n) same = ap₂ ◌||◌ (any_same n (λ x h. same x (omega arith))) (same n (omega arith))

-- the state s, with the word w at x
abbrev pub with_word : ℕ → ℕ → State → State
with_word x w s = record { latch = s.latch; memory = λ y. cond (eqb y x) w (s.memory y); held = s.held }

-- of a conjunction that is false, not both are true
apart : (b q : Bool) → (b && q) ≡ false → q ≡ true → b ≡ true → ⊥
apart b q e h k = true≢false (sym (rw (h, k)) ∙ e)

module _ (c : Netlist) (v : Values) (x : ℕ) (none : touches c v x ≡ false) where
  -- a frame that does not touch a word neither reads nor writes it
  pub not-read : code_value v c.RE ≡ true → address_of c (port c 1) v ≡ x → ⊥
  unfolding touches
  not-read r e = apart _ _ none (rw r) (eq-eqb x (address_of c (port c 1) v) (sym e))

  pub not_written : code_value v c.WE ≡ true → write_address c v ≡ x → ⊥
  unfolding touches
  not_written w e = apart _ _ none ((or-true (code_value v c.RE) (code_value v c.WE)).1 (inr w)) (eq-eqb x (write_address c v) (sym e))

  -- a step leaves the word
  step-untouched : (w : ℕ) (s : State) → step c (with_word x w s) v ≡ with_word x w (step c s v)
  unfolding step
  step-untouched w s = ap with-memory (fun_ext (λ y. at y (code_value v c.WE) refl))
    where
      with-memory : (ℕ → ℕ) → State
      with-memory memory = record { latch = λ l. code_value v (c.next l); memory = memory; held = λ t. v (read_wire c t) }

      at : (y : ℕ) (b : Bool) → code_value v c.WE ≡ b
          → cond (b && eqb y (write_address c v)) (word_written c v) (cond (eqb y x) w (s.memory y))
          ≡ cond (eqb y x) w (cond (b && eqb y (write_address c v)) (word_written c v) (s.memory y))
      at y false e = refl
      at y true e =
          by_cases (ℕ_discrete y x)
          (λ q. rw (ne_eqb y (write_address c v) (λ h. not_written e (sym h ∙ q))))
          (λ q. rw (ne_eqb y x q))

  -- and leaves it as it was
  pub step-leaves : (s : State) → (step c s v).memory x ≡ s.memory x
  unfolding step
  step-leaves s = at (code_value v c.WE) refl
    where
      at : (b : Bool) → code_value v c.WE ≡ b → cond (b && eqb x (write_address c v)) (word_written c v) (s.memory x) ≡ s.memory x
      at false e = refl
      at true e = rw (ne_eqb x (write_address c v) (λ h. not_written e (sym h)))

-- so it is as the run began with
pub word-untouched : (c : Netlist) (x : ℕ) (s : State) (f : Feeds) (i : ℕ) → touched_before c s f i x ≡ false → (state_at c s f i).memory x ≡ s.memory x
unfolding state_at touched_before any_below run
word-untouched c x s f zero none = refl
word-untouched c x s f (suc i) none =
    let q = (neither-true (touched_before c s f i x) (touches c (run c s f i) x)).0 none in
    step-leaves c (run c s f i) x q.1 (state_at c s f i) ∙ word-untouched c x s f i q.0

-- what is evaluated has only as many read bits as there are
module _ (c : Netlist) (input latch read other : ℕ → Bool) (same : (t : ℕ) → t < read_bits c → read t ≡ other t) where
  sources-only : (w : ℕ) → sources c input latch read w ≡ sources c input latch other w
  unfolding sources
  sources-only w = chosen (ltb w (input_wire c 0)) (ltb w (latch_wire c 0)) (ltb w (read_wire c 0)) refl (ltb w (gate_wire c 0)) refl
    where
      chosen : (zero input' latch' : Bool) → ltb w (read_wire c 0) ≡ latch' → (read' : Bool) → ltb w (gate_wire c 0) ≡ read'
          → cond zero false (cond input' (input (w - input_wire c 0)) (cond latch' (latch (w - latch_wire c 0)) (cond read' (read (w - read_wire c 0)) false)))
          ≡ cond zero false (cond input' (input (w - input_wire c 0)) (cond latch' (latch (w - latch_wire c 0)) (cond read' (other (w - read_wire c 0)) false)))
      chosen true b d e g h = refl
      chosen false true d e g h = refl
      chosen false false true e g h = refl
      chosen false false false e true h = same (w - read_wire c 0) (omega (arith, ltb-false w (read_wire c 0) e, ltb-true w (gate_wire c 0) h))
      chosen false false false e false h = refl

  reads_only : evaluate c input latch read ≡ evaluate c input latch other
  unfolding evaluate
  reads_only = ap (λ v. sweep conjunction c v c.gates) (fun_ext sources-only)

module _ {c : Netlist} (ok : Accepted c) where
  -- states that differ in their words alone, and in no word that the frame of the second reads, have the same frame
  pub frame-reads : (s r : State) (f : ℕ → Bool) → s.latch ≡ r.latch → s.held ≡ r.held
      → ((p : ℕ) → IsPort c p → code_value (frame c r f) (port c p).RE ≡ true
      → s.memory (address_of c (port c p) (frame c r f)) ≡ r.memory (address_of c (port c p) (frame c r f)))
      → frame c s f ≡ frame c r f
  unfolding frame first_pass
  frame-reads s r f latches held words =
      ap (λ latch. evaluate c f latch (read_data c s (first_pass c s f))) latches ∙ reads_only c f r.latch _ _ (each-bit c same read)
    where
      same : ℕ → Type 0
      same x = read_data c s (first_pass c s f) x ≡ read_data c r (first_pass c r f) x

      first : first_pass c s f ≡ first_pass c r f
      first = ap (λ latch. evaluate c f latch (λ t. false)) latches

      there : (p : ℕ) → IsPort c p → code_value (first_pass c r f) (port c p).RE ≡ true
          → s.memory (address_of c (port c p) (first_pass c r f)) ≡ r.memory (address_of c (port c p) (first_pass c r f))
      there p here e = rw (address-settled ok p here r f) (words p here (sym (RE-settled ok p here r f) ∙ e))

      read : (p : ℕ) → IsPort c p → (t : ℕ) → t < c.n → same ((port c p).first_read + t)
      read p here t h =
          ap (λ v. read_data c s v ((port c p).first_read + t)) first
          ∙ read_data-port c p here s (first_pass c r f) t h
          ∙ cond_same (code_value (first_pass c r f) (port c p).RE) (λ e. ap (λ word. bit word t) (there p here e)) (λ e. ap (λ h. h ((port c p).first_read + t)) held)
          ∙ sym (read_data-port c p here r (first_pass c r f) t h)

  module _ (free : is_unknown (start c) ≡ true) where
    -- so a frame that does not touch a word is the same with another word there
    frame-untouched : (x w : ℕ) (s : State) (f : ℕ → Bool) → touches c (frame c s f) x ≡ false → frame c (with_word x w s) f ≡ frame c s f
    frame-untouched x w s f none =
        frame-reads (with_word x w s) s f refl refl
        (unknown-each ok.limits.sizes free (λ p. code_value (frame c s f) (port c p).RE ≡ true
        → (with_word x w s).memory (address_of c (port c p) (frame c s f)) ≡ s.memory (address_of c (port c p) (frame c s f)))
        (λ e. rw (ne_eqb (address_of c (port c 1) (frame c s f)) x (not-read c (frame c s f) x none e))))

    -- so a run goes on with another word there as it did
    module _ (x w : ℕ) (s : State) (f : Feeds) where
      pub state-untouched : (i : ℕ) → touched_before c s f i x ≡ false → state_at c (with_word x w s) f i ≡ with_word x w (state_at c s f i)
      unfolding state_at touched_before any_below run
      state-untouched zero none = refl
      state-untouched (suc i) none =
          let q = (neither-true (touched_before c s f i x) (touches c (run c s f i) x)).0 none in
          ap (λ r. step c r (frame c r (f i))) (state-untouched i q.0)
          ∙ ap (step c (with_word x w (state_at c s f i))) (frame-untouched x w (state_at c s f i) (f i) q.1)
          ∙ step-untouched c (run c s f i) x q.1 w (state_at c s f i)

      pub run-untouched : (i : ℕ) → touched_before c s f i x ≡ false → (j : ℕ) → j < i → run c (with_word x w s) f j ≡ run c s f j
      unfolding run touched_before
      run-untouched i none j h =
          let each = (none_below (λ j. touches c (run c s f j) x) i).0 none in
          ap (λ r. frame c r (f j)) (state-untouched j ((none_below (λ j. touches c (run c s f j) x) j).1 (λ l b. each l (omega arith))))
          ∙ frame-untouched x w (state_at c s f j) (f j) (each j h)
