-- A replay bears out what is said where that makes all clauses true: by demand 3 there is a state from which the run agrees with it, and what the
-- replay fills is what its memory has. No contract cites this file.
use Prim.Native.Nat.{ℕ, zero, suc, ◌+◌, ◌^◌, ◌≤◌, ◌<◌}
use mathlib.Core.Path.{◌≡◌, refl, sym, ◌∙◌, ap, fun_ext}
use mathlib.Core.Bool.{Bool, true, false, cond, ◌&&◌, ◌||◌, true≢false}
use mathlib.Core.Logic.{◌⊎◌, inl, inr}
use native.Mathlib.Omega.{arith}
use lib.Dec.{eqb}
use borrow.Author.Tests.{eq-eqb, ne_eqb, eqb-true}
use Rattle.model.specs.Bits.{bit}
use Rattle.model.specs.Search.{any_below}
use Rattle.model.specs.Netlist.{Netlist, Start, given, unknown, is_unknown, start, port, read_wire}
use Rattle.model.specs.Circuit.{code_value, State, address_of, word_written, step, state_at, run, Begins}
use Rattle.model.specs.Variables.{base}
use Rattle.model.specs.Acceptance.{Accepted}
use Rattle.model.specs.Claim.{Satisfies, feed_of, Agrees, Breaks}
use Rattle.model.proofs.Booleans.{and-true, or-true, neither-true, cond_same}
use Rattle.model.proofs.Bits.{from_bits-same, from_bits-bit}
use Rattle.model.proofs.Search.{first_where-is, first-least}
use Rattle.model.proofs.Ports.{first-port, unknown-each, unknown-bits}
use Rattle.model.proofs.Circuit.{frame_is}
use Rattle.model.proofs.Agree.{agree-itself}
use Rattle.model.proofs.SameRuns.{SameState, agrees-same, breaks-same}
use Rattle.model.proofs.Claim.{encodes}
use Rattle.circuit_step.specs.Touched.{touches, touched_before}
use Rattle.circuit_step.proofs.Alike.{RE-alike, address-alike}
use Rattle.circuit_step.proofs.Touched.{step-leaves, frame-reads}
use Rattle.replay_frame.specs.Replay.{Said, begun_from, run_from, state_from, touched_from, address_from, fills_from, word_said, start_words, fills, replayed, replayed_state, violates, first_violation, BearsOut}
use Rattle.replay_frame.proofs.Filling.{read_data-first, fills-untouched, touched-on, state-filled, state-on}
use Rattle.replay_frame.proofs.OneRun.{begins-at, one-run}

-- Up to frame i the replay goes as the run from a memory does: they have the same latches, the same word held and the same words where a frame
-- has touched them; the other words are in that run as it began with
record GoesAs (c : Netlist) (y : Said) (memory : ℕ → ℕ) (i : ℕ) : Type 0 where
  latches-same : (replayed_state c y i).latch ≡ (state_from c y memory i).latch
  held_same : (replayed_state c y i).held ≡ (state_from c y memory i).held
  touched-same : (x : ℕ) → touched_from c y (start_words c y i) i x ≡ true
      → (replayed_state c y i).memory x ≡ (state_from c y memory i).memory x
  others-kept : (x : ℕ) → touched_from c y (start_words c y i) i x ≡ false
      → (state_from c y memory i).memory x ≡ memory x

-- from an unknown start, a memory whose run agrees with what is said
module _ {c : Netlist} (ok : Accepted c) (y : Said) (k : ℕ) (free : is_unknown (start c) ≡ true) (memory : ℕ → ℕ) (below : (x : ℕ) → memory x < 2 ^ c.n)
    (agrees : Agrees c (begun_from c y memory) k y.value (feed_of c y.value)) where
  module _ (i : ℕ) (d : i ≤ k) (q : GoesAs c y memory i) where
    -- where frame i reads and writes
    abbrev at : ℕ
    at = address_from c y memory i

    abbrev touched : ℕ → Bool
    touched x = touched_from c y (start_words c y i) i x

    -- the state in which it begins, its word filled, and that of the run from the memory
    abbrev filled : State
    filled = state_from c y (start_words c y (suc i)) i

    abbrev own : State
    own = state_from c y memory i

    RE-same : code_value (run_from c y (start_words c y i) i) c.RE ≡ code_value (run_from c y memory i) c.RE
    unfolding run
    RE-same = RE-alike ok (replayed_state c y i) own (feed_of c y.value i) (feed_of c y.value i) (λ l h. ap (λ f. f l) q.latches-same) (λ x h. refl) 1 (first-port c)

    at_same : address_from c y (start_words c y i) i ≡ at
    unfolding run
    at_same = address-alike ok (replayed_state c y i) own (feed_of c y.value i) (feed_of c y.value i) (λ l h. ap (λ f. f l) q.latches-same) (λ x h. refl) 1 (first-port c)

    -- what is said of the read bits of a frame that reads a word not touched before is the word that the memory has there
    said-is : code_value (run_from c y memory i) c.RE ≡ true → touched at ≡ false → word_said c y i ≡ memory at
    unfolding word_said Agrees run
    said-is r none =
        from_bits-same c.n (λ t. y.value (base c i + read_wire c t)) (bit (memory at)) (λ t h. agrees i d (read_wire c t) (omega arith) (omega (arith, h, unknown-bits ok.limits.sizes free)) ∙ reads t h)
        ∙ from_bits-bit c.n (memory at) (below at)
      where
        reads : (t : ℕ) → t < c.n → run_from c y memory i (read_wire c t) ≡ bit (memory at) t
        reads t h =
            (frame_is ok own (feed_of c y.value i)).at_read t (omega (arith, h, unknown-bits ok.limits.sizes free))
            ∙ rw (read_data-first c own (run_from c y memory i) t h, r, q.others-kept at none)

    fills-there : code_value (run_from c y memory i) c.RE ≡ true → touched at ≡ false → fills c y i ≡ true
    unfolding fills_from
    fills-there r none = rw (free, RE-same, r, at_same, none)

    -- so filled it is in that state, but for words that no frame has touched and that it does not read
    filled-latches : filled.latch ≡ own.latch
    filled-latches = state-on ok y i (λ s. s.latch ≡ own.latch) (λ e. q.latches-same) q.latches-same

    filled-held : filled.held ≡ own.held
    filled-held = state-on ok y i (λ s. s.held ≡ own.held) (λ e. q.held_same) q.held_same

    filled-touched : (x : ℕ) → touched x ≡ true → filled.memory x ≡ own.memory x
    filled-touched x h =
        state-on ok y i (λ s. s.memory x ≡ own.memory x)
        (λ e. rw (ne_eqb x (address_from c y (start_words c y i) i) (λ a. true≢false (sym h ∙ ap touched a ∙ fills-untouched ok y i e))) (q.touched-same x h))
        (q.touched-same x h)

    filled-there : code_value (run_from c y memory i) c.RE ≡ true → filled.memory at ≡ own.memory at
    filled-there r = by (touched at) refl
      where
        by : (b : Bool) → touched at ≡ b → filled.memory at ≡ own.memory at
        by true h = filled-touched at h
        by false h =
            ap (λ s. s.memory at) (state-filled ok y i (fills-there r h))
            ∙ rw (eq-eqb at (address_from c y (start_words c y i) i) (sym at_same)) (said-is r h ∙ sym (q.others-kept at h))

    -- and has its values
    same-frame : replayed c y i ≡ run_from c y memory i
    unfolding run
    same-frame = frame-reads ok filled own (feed_of c y.value i) filled-latches filled-held
        (unknown-each ok.limits.sizes free (λ p. code_value (run_from c y memory i) (port c p).RE ≡ true
        → filled.memory (address_of c (port c p) (run_from c y memory i)) ≡ own.memory (address_of c (port c p) (run_from c y memory i))) filled-there)

    -- a word that it or a frame before has touched, and that it does not write, is the same before it
    touched-now : (x : ℕ) → (code_value (run_from c y memory i) c.WE && eqb x at) ≡ false
        → (touched_from c y (start_words c y (suc i)) i x || touches c (replayed c y i) x) ≡ true
        → filled.memory x ≡ own.memory x
    unfolding touches
    touched-now x unwritten h = by ((or-true (touched_from c y (start_words c y (suc i)) i x) _).0 h)
      where
        there : eqb x at ≡ true → (code_value (run_from c y memory i) c.RE ≡ true) ⊎ (code_value (run_from c y memory i) c.WE ≡ true) → filled.memory x ≡ own.memory x
        there e (inl r) = rw (eqb-true x at e) (filled-there r)
        there e (inr w) = absurd (true≢false (sym ((and-true (code_value (run_from c y memory i) c.WE) (eqb x at)).1 (w, e)) ∙ unwritten))

        by : (touched_from c y (start_words c y (suc i)) i x ≡ true) ⊎ (touches c (replayed c y i) x ≡ true) → filled.memory x ≡ own.memory x
        by (inl before) = filled-touched x (sym (touched-on ok y i x) ∙ before)
        by (inr now) =
            let e = (and-true (eqb x at) (code_value (run_from c y memory i) c.RE || code_value (run_from c y memory i) c.WE)).0 (sym (ap (λ v. touches c v x) same-frame) ∙ now) in
            there e.0 ((or-true (code_value (run_from c y memory i) c.RE) (code_value (run_from c y memory i) c.WE)).0 e.1)

    goes_on : GoesAs c y memory (suc i)
    unfolding state_at step run touched_before any_below
    goes_on =
        record {
          latches-same = ap (λ v l. code_value v (c.next l)) same-frame;
          held_same = ap (λ v t. v (read_wire c t)) same-frame;
          touched-same = λ x h.
              ap (λ v. cond (code_value v c.WE && eqb x (address_of c (port c 1) v)) (word_written c v) (filled.memory x)) same-frame
              ∙ cond_same (code_value (run_from c y memory i) c.WE && eqb x at) (λ e. refl) (λ e. touched-now x e h);
          others-kept = λ x none.
              let e = (neither-true (touched_from c y (start_words c y (suc i)) i x) (touches c (replayed c y i) x)).0 none in
              step-leaves c (run_from c y memory i) x (sym (ap (λ v. touches c v x) same-frame) ∙ e.1) own
              ∙ q.others-kept x (sym (touched-on ok y i x) ∙ e.0);
        }

  goes : (i : ℕ) → i ≤ k → GoesAs c y memory i
  unfolding state_at begun_from touched_before any_below
  goes zero d = record { latches-same = refl; held_same = refl; touched-same = λ x h. absurd (true≢false (sym h)); others-kept = λ x h. refl }
  goes (suc i) d = goes_on i (omega arith) (goes i (omega arith))

-- a memory that a run may begin with, by whether the start is unknown
begins-below : (n : ℕ) (s : Start) (memory : ℕ → ℕ) → Begins n s memory → is_unknown s ≡ true → (x : ℕ) → memory x < 2 ^ n
unfolding Begins is_unknown
begins-below n (given word) memory b e = absurd (true≢false (sym e))
begins-below n unknown memory b e = b

begins-same : (n : ℕ) (s : Start) (memory other : ℕ → ℕ) → Begins n s memory → Begins n s other → is_unknown s ≡ false → memory ≡ other
unfolding Begins is_unknown
begins-same n (given word) memory other b q e = fun_ext (λ x. b x ∙ sym (q x))
begins-same n unknown memory other b q e = absurd (true≢false e)

module _ {c : Netlist} (ok : Accepted c) (y : Said) (k : ℕ) (memory : ℕ → ℕ) (begins : Begins c.n (start c) memory)
    (agrees : Agrees c (begun_from c y memory) k y.value (feed_of c y.value)) where
  -- the replay is that run
  same-run : (i : ℕ) → i ≤ k → replayed c y i ≡ run_from c y memory i
  same-run i d = by (is_unknown (start c)) refl
    where
      by : (b : Bool) → is_unknown (start c) ≡ b → replayed c y i ≡ run_from c y memory i
      by true e = let below = begins-below c.n (start c) memory begins e in same-frame ok y k e memory below agrees i d (goes ok y k e memory below agrees i d)
      by false e =
          (one-run c ok y k).frames i d
          ∙ ap (λ words. run_from c y words i) (begins-same c.n (start c) (start_words c y (k + 1)) memory (begins-at c y (k + 1)) begins e)

  breaks-then : Breaks c (begun_from c y memory) k (feed_of c y.value) → first_violation c y k ≤ k
  unfolding Breaks first_violation violates
  breaks-then b =
      let least : first_violation c y k ≤ b.0 = first-least (first_where-is (violates c y) (k + 1)) (rw (same-run b.0 b.1, b.2)) in
      omega (arith, b.1)

-- what is said that makes all clauses true is borne out
pub right-said : {c : Netlist} → Accepted c → (y : Said) (k : ℕ) → Satisfies c k y.value → BearsOut c y k y.value
unfolding Agrees begun_from
right-said {c} ok y k h =
    let shown = (encodes c ok k).assignment→run y.value h in
    let memory = shown.0.memory in
    let begins = shown.1.0.begins in
    let same : SameState c shown.0 (begun_from c y memory)
    = record { latch-same = shown.1.0.at-reset; memory-same = λ x. refl; held_same = shown.1.1 } in
    let agrees = (agrees-same c c (agree-itself c) same (feed_of c y.value) k y.value).0 shown.2 in
    record {
      as-assigned = λ i d w l b. agrees i d w l b ∙ ap (λ v. v w) (sym (same-run ok y k memory begins agrees i d));
      breaks = breaks-then ok y k memory begins agrees ((breaks-same c c (agree-itself c) same (feed_of c y.value) k).0 shown.3);
    }
