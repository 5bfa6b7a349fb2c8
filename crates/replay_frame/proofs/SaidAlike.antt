-- Two answers that say the same of all that the frames before i are fed are replayed alike there: the same words are filled, and the runs are
-- the same. No contract cites this file.
use Prim.Native.Nat.{ℕ, zero, suc, ◌+◌, ◌/◌, ◌^◌, ◌≤◌, ◌<◌}
use mathlib.Core.Path.{◌≡◌, refl, ◌∙◌, ap, ap₂}
use mathlib.Core.Bool.{Bool, true, false, cond, not, ◌&&◌, ◌||◌}
use native.Mathlib.Omega.{arith}
use lib.Dec.{eqb}
use Rattle.model.specs.Netlist.{Netlist, is_unknown, start, IsPort, port, last_wire}
use Rattle.model.specs.Circuit.{code_value, state_at, run}
use Rattle.model.specs.Acceptance.{Accepted, IsCode}
use Rattle.model.specs.Claim.{feed_of, idle_of}
use Rattle.model.proofs.Ports.{first-port}
use Rattle.model.proofs.Circuit.{code_same, address_same}
use Rattle.circuit_step.specs.Touched.{touches, touched_before}
use Rattle.circuit_step.proofs.Alike.{InputsAlike, LatchesAlike, StatesAlike, RE-alike, address-alike, states-same, run-same}
use Rattle.circuit_step.proofs.Touched.{any_same}
use Rattle.replay_frame.specs.Replay.{Said, begun_from, run_from, touched_from, address_from, fills_from, word_said, start_words, fills, replayed, replayed_state}

-- of a port whose RE is false in frame 0 they say the same idle word
abbrev pub IdlesAlike : Netlist → Said → Said → (ℕ → ℕ) → Type 0
IdlesAlike c y z words = (p : ℕ) → IsPort c p → code_value (run_from c y words 0) (port c p).RE ≡ false → (t : ℕ) → t < c.n
    → idle_of c y.value ((port c p).first_read + t) ≡ idle_of c z.value ((port c p).first_read + t)

pub record SaidAlike (c : Netlist) (y z : Said) (i : ℕ) : Type 0 where
  pub inputs-said : (j : ℕ) → j < i → InputsAlike c (feed_of c y.value j) (feed_of c z.value j)
  pub words-said : (j : ℕ) → j < i → fills c y j ≡ true → word_said c y j ≡ word_said c z j
  pub idle-said : 0 < i → (words : ℕ → ℕ) → IdlesAlike c y z words

-- of fewer frames
fewer : {c : Netlist} {y z : Said} {i : ℕ} → SaidAlike c y z (suc i) → SaidAlike c y z i
fewer q =
    record {
      inputs-said = λ j h. q.inputs-said j (omega arith);
      words-said = λ j h. q.words-said j (omega arith);
      idle-said = λ h. q.idle-said (omega arith);
    }

-- they begin in states that are alike, with the same words and, where a port's RE is false in frame 0, the same idle word
pub begun-alike : (c : Netlist) (y z : Said) (words other : ℕ → ℕ) → ((x : ℕ) → x < 2 ^ c.m → words x ≡ other x)
    → IdlesAlike c y z words
    → StatesAlike c (feed_of c y.value 0) (begun_from c y words) (begun_from c z other)
unfolding run state_at begun_from
begun-alike c y z words other same idles = record { latch-alike = λ l h. refl; memory-alike = same; held-alike = idles }

module _ {c : Netlist} (ok : Accepted c) {y z : Said} where
  module _ (i : ℕ) (q : SaidAlike c y z i) (words : (x : ℕ) → start_words c y i x ≡ start_words c z i x) where
    -- the frames before i
    runs-before : (j : ℕ) → j < i → (w : ℕ) → w ≤ last_wire c → run_from c y (start_words c y i) j w ≡ run_from c z (start_words c z i) j w
    runs-before j h =
        run-same ok (feed_of c y.value) (feed_of c z.value) (begun-alike c y z (start_words c y i) (start_words c z i) (λ x b. words x) (q.idle-said (omega arith) (start_words c y i))) j (λ l b. q.inputs-said l (omega arith))

    touched-alike : (x : ℕ) → touched_from c y (start_words c y i) i x ≡ touched_from c z (start_words c z i) i x
    unfolding touched_before touches
    touched-alike x =
        any_same i (λ j h.
        let code : (a : ℕ) → IsCode c a → code_value (run_from c y (start_words c y i) j) a ≡ code_value (run_from c z (start_words c z i) j) a
        = λ a b. code_same (run_from c y (start_words c y i) j) (run_from c z (start_words c z i) j) a (runs-before j h (a / 2) (omega arith)) in
        ap₂ (λ a b. eqb x a && b)
        (address_same c (port c 1) (run_from c y (start_words c y i) j) (run_from c z (start_words c z i) j) (λ t b. code (c.address t) (ok.limits.codes.address-fits 1 (first-port c) t b)))
        (ap₂ ◌||◌ (code c.RE (ok.limits.codes.RE-fits 1 (first-port c))) (code c.WE ok.limits.codes.WE-fits)))

  -- the latches in which frame i begins
  pub latches-alike : (i : ℕ) → SaidAlike c y z i → ((x : ℕ) → start_words c y i x ≡ start_words c z i x) → LatchesAlike c (replayed_state c y i) (replayed_state c z i)
  unfolding state_at begun_from
  latches-alike zero q words = λ l h. refl
  latches-alike (suc i) q words =
      (states-same ok (feed_of c y.value) (feed_of c z.value) (begun-alike c y z (start_words c y (suc i)) (start_words c z (suc i)) (λ x b. words x) (q.idle-said (omega arith) (start_words c y (suc i)))) (suc i) q.inputs-said).latch-alike

  -- so frame i, where its inputs are said alike, reads at the same address, and fills a word or not
  module _ (i : ℕ) (q : SaidAlike c y z i) (words : (x : ℕ) → start_words c y i x ≡ start_words c z i x)
      (inputs : InputsAlike c (feed_of c y.value i) (feed_of c z.value i)) where
    pub RE-said : (p : ℕ) → IsPort c p → code_value (run_from c y (start_words c y i) i) (port c p).RE ≡ code_value (run_from c z (start_words c z i) i) (port c p).RE
    unfolding run
    RE-said = RE-alike ok (replayed_state c y i) (replayed_state c z i) (feed_of c y.value i) (feed_of c z.value i) (latches-alike i q words) inputs

    address-said : address_from c y (start_words c y i) i ≡ address_from c z (start_words c z i) i
    unfolding run
    address-said = address-alike ok (replayed_state c y i) (replayed_state c z i) (feed_of c y.value i) (feed_of c z.value i) (latches-alike i q words) inputs 1 (first-port c)

    pub fills-said : fills c y i ≡ fills c z i
    unfolding fills_from
    fills-said =
        ap (λ b. is_unknown (start c) && b)
        (ap₂ (λ b t. b && not t) (RE-said 1 (first-port c))
        (touched-alike i q words (address_from c y (start_words c y i) i)
        ∙ ap (touched_from c z (start_words c z i) i) address-said))

  -- the words begun with
  pub words-alike : (i : ℕ) → SaidAlike c y z i → (x : ℕ) → start_words c y i x ≡ start_words c z i x
  unfolding start_words
  words-alike zero q x = refl
  words-alike (suc i) q x =
      let before : (x : ℕ) → start_words c y i x ≡ start_words c z i x = words-alike i (fewer q) in
      filled (fills c y i) refl (fills-said i (fewer q) before (q.inputs-said i (omega arith))) (address-said i (fewer q) before (q.inputs-said i (omega arith)))
      (q.words-said i (omega arith)) (before x)
    where
      filled : (b : Bool) → fills c y i ≡ b → fills c y i ≡ fills c z i
          → address_from c y (start_words c y i) i ≡ address_from c z (start_words c z i) i
          → (fills c y i ≡ true → word_said c y i ≡ word_said c z i) → start_words c y i x ≡ start_words c z i x
          → cond (fills c y i && eqb x (address_from c y (start_words c y i) i)) (word_said c y i) (start_words c y i x)
          ≡ cond (fills c z i && eqb x (address_from c z (start_words c z i) i)) (word_said c z i) (start_words c z i x)
      filled true e f a w s = rw (← f, ← a, e, w e, s)
      filled false e f a w s = rw (← f, e) s

  -- the frames before i of the replay
  pub runs-alike : (i : ℕ) → SaidAlike c y z (suc i) → (w : ℕ) → w ≤ last_wire c → replayed c y i w ≡ replayed c z i w
  runs-alike i q = runs-before (suc i) q (words-alike (suc i) q) i (omega arith)
