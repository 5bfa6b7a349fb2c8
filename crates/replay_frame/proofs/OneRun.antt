-- A replay is one run from one memory (`OneRun` in specs/Replay.antt): a frame fills only what no frame before has touched. No contract cites this
-- file.
use Prim.Native.Nat.{ℕ, zero, suc, ◌+◌, ◌^◌, ◌≤◌, ◌<◌}
use mathlib.Core.Path.{◌≡◌, refl, sym, ◌∙◌, ap, ap₂}
use mathlib.Core.Bool.{Bool, true, false, cond, not, ◌&&◌}
use mathlib.Core.Logic.{by_cases}
use native.Mathlib.Decide.{ℕ_discrete}
use native.Mathlib.Omega.{arith}
use lib.Dec.{eqb}
use lib.Pow.{pow_pos}
use borrow.Author.Tests.{eq-eqb, ne_eqb}
use Rattle.model.specs.Search.{any_below}
use Rattle.model.specs.Netlist.{Netlist, Start, given, unknown, is_unknown, start, port, read_bits, read_wire}
use Rattle.model.specs.Circuit.{code_value, address_of, run, Begins, Starts}
use Rattle.model.specs.Variables.{base}
use Rattle.model.specs.Claim.{feed_of}
use Rattle.model.specs.Agree.{given_word}
use Rattle.model.specs.Acceptance.{Accepted}
use Rattle.model.proofs.Bits.{from_bits-below, bit-from_bits}
use Rattle.model.proofs.Booleans.{neither-true}
use Rattle.model.proofs.Ports.{first-port, unknown-bits}
use Rattle.model.proofs.Circuit.{frame_is}
use Rattle.model.proofs.Memory.{address_below, word_below}
use Rattle.circuit_step.specs.Touched.{touches, touched_before}
use Rattle.circuit_step.proofs.Touched.{any_same, not-read, word-untouched}
use Rattle.replay_frame.specs.Replay.{Said, begun_from, run_from, state_from, touched_from, address_from, fills_from, word_said, start_words, fills, replayed, replayed_state, OneRunTheorem, RoomTheorem}
use Rattle.replay_frame.proofs.Filling.{read_data-first, fills-unknown, runs_on, touched-on, fills-reads, state-filled, RE-on, address_on}

-- a memory of one word
begins-given : (n : ℕ) (s : Start) → Begins n s (λ x. given_word s)
unfolding Begins given_word
begins-given n (given word) = λ x. refl
begins-given n unknown = λ x. pow_pos n

-- one that has another word where the start is unknown
begins-filled : (n : ℕ) (s : Start) (here : ℕ → Bool) (w : ℕ) (memory : ℕ → ℕ) → Begins n s memory → w < 2 ^ n → ((x : ℕ) → is_unknown s ≡ false → here x ≡ false)
    → Begins n s (λ x. cond (here x) w (memory x))
unfolding Begins is_unknown
begins-filled n (given word) here w memory b h none = λ x. rw (none x refl) (b x)
begins-filled n unknown here w memory b h none = λ x. by x (here x)
  where
    by : (x : ℕ) (q : Bool) → cond q w (memory x) < 2 ^ n
    by x true = h
    by x false = b x

-- what the replay begins with
pub begins-at : (c : Netlist) (y : Said) (i : ℕ) → Begins c.n (start c) (start_words c y i)
unfolding start_words fills_from word_said
begins-at c y zero = begins-given c.n (start c)
begins-at c y (suc i) =
    begins-filled c.n (start c) (λ x. fills c y i && eqb x (address_from c y (start_words c y i) i)) (word_said c y i) (start_words c y i)
    (begins-at c y i) (from_bits-below c.n _) (λ x e. rw e)

-- the state that the replay begins in is one that a run may begin in
starts-at : (c : Netlist) (y : Said) (i : ℕ) → Starts c (begun_from c y (start_words c y i))
unfolding begun_from
starts-at c y i = record { at-reset = λ l h. refl; begins = begins-at c y i }

-- a frame of the replay stays as it is, whatever the later frames fill
frame_on : {c : Netlist} → Accepted c → (y : Said) (i n : ℕ) → i < n → replayed c y i ≡ run_from c y (start_words c y n) i
frame_on ok y i zero h = absurd (omega arith)
frame_on ok y i (suc n) h =
    by_cases (ℕ_discrete i n)
    (λ e. rw e)
    (λ e. frame_on ok y i n (omega arith) ∙ sym (runs_on ok y n i (omega arith)))

module _ {c : Netlist} (ok : Accepted c) (y : Said) where
  -- so the words touched before it, and whether it fills one
  touched-from : (i n : ℕ) → i ≤ n → (x : ℕ) → touched_from c y (start_words c y n) i x ≡ touched_from c y (start_words c y i) i x
  unfolding touched_before
  touched-from i n h x = any_same i (λ j b. ap (λ v. touches c v x) (sym (frame_on ok y j n (omega arith)) ∙ frame_on ok y j i b))

  fills-from : (i n : ℕ) → i < n → fills_from c y (start_words c y n) i ≡ fills c y i
  unfolding fills_from
  fills-from i n h =
      let same : run_from c y (start_words c y n) i ≡ replayed c y i = sym (frame_on ok y i n h) in
      ap (λ b. is_unknown (start c) && b)
      (ap₂ (λ b t. b && not t)
      (ap (λ v. code_value v c.RE) same ∙ RE-on ok y i 1 (first-port c))
      (touched-from i n (omega arith) (address_from c y (start_words c y n) i)
      ∙ ap (touched_from c y (start_words c y i) i) (ap (address_of c (port c 1)) same ∙ address_on ok y i)))

  -- a frame that fills a word reads what is said
  reads-said : (i : ℕ) → fills c y i ≡ true → (t : ℕ) → t < read_bits c → replayed c y i (read_wire c t) ≡ y.value (base c i + read_wire c t)
  unfolding run word_said
  reads-said i e t h =
      let within : t < c.n = omega (arith, h, unknown-bits ok.limits.sizes (fills-unknown ok y i e)) in
      (frame_is ok (state_from c y (start_words c y (suc i)) i) (feed_of c y.value i)).at_read t h
      ∙ rw (read_data-first c (state_from c y (start_words c y (suc i)) i) (replayed c y i) t within, RE-on ok y i 1 (first-port c), fills-reads ok y i e, address_on ok y i, state-filled ok y i e, eq-eqb (address_from c y (start_words c y i) i) _ refl)
      (bit-from_bits c.n (λ t. y.value (base c i + read_wire c t)) t within)

  -- a word that no frame touches is begun with as the word given
  begun-untouched : (n x : ℕ) → touched_from c y (start_words c y n) n x ≡ false → start_words c y n x ≡ given_word (start c)
  unfolding start_words touched_before any_below
  begun-untouched zero x none = refl
  begun-untouched (suc i) x none =
      let q = (neither-true (touched_from c y (start_words c y (suc i)) i x) (touches c (replayed c y i) x)).0 none in
      kept (fills c y i) refl q.1 ∙ begun-untouched i x (sym (touched-on ok y i x) ∙ q.0)
    where
      kept : (b : Bool) → fills c y i ≡ b → touches c (replayed c y i) x ≡ false
          → cond (b && eqb x (address_from c y (start_words c y i) i)) (word_said c y i) (start_words c y i x) ≡ start_words c y i x
      kept false e none = refl
      kept true e none =
          rw (ne_eqb x _ (λ at. not-read c (replayed c y i) x none (RE-on ok y i 1 (first-port c) ∙ fills-reads ok y i e) (address_on ok y i ∙ sym at)))

  word-left : (n x : ℕ) → touched_from c y (start_words c y n) n x ≡ false → (replayed_state c y n).memory x ≡ given_word (start c)
  unfolding begun_from
  word-left n x none = word-untouched c x (begun_from c y (start_words c y n)) (feed_of c y.value) n none ∙ begun-untouched n x none

pub one-run : OneRunTheorem
one-run c ok y k =
    record {
      starts = starts-at c y (k + 1);
      frames = λ i h. frame_on ok y i (k + 1) (omega arith);
      leaves = refl;
      fills-as-said = λ i h e. reads-said ok y i (sym (fills-from ok y i (k + 1) (omega arith)) ∙ e);
      untouched = word-left ok y (k + 1);
    }

pub room-enough : RoomTheorem
room-enough c ok s f i = ((λ p is. address_below c (port c p) (run c s f i)), λ starts. word_below c ok s starts f i)
