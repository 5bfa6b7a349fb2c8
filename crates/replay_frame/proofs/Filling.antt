-- Laws of what a frame fills: the code's table of touched words and its first pass tell it, and the run goes on from the memory filled. No
-- contract cites this file.
use Prim.Native.Nat.{ℕ, suc, ◌+◌, ◌/◌, ◌^◌, ◌≤◌, ◌<◌}
use mathlib.Core.Path.{◌≡◌, refl, sym, ◌∙◌, ap, ap₂, fun_ext, subst}
use mathlib.Core.Bool.{Bool, true, false, cond, not, ◌&&◌, ◌||◌, or-false}
use mathlib.Core.List.{List, []}
use mathlib.Core.Logic.{inr, by_cases}
use native.Mathlib.Decide.{ℕ_discrete}
use native.Mathlib.Numerals.{add-one}
use native.Mathlib.Omega.{arith}
use lib.Dec.{eqb}
use lib.Pow.{pow_mono}
use lib.ListN.{length, set, drop, length-set}
use lib.Seq.{get_or-set_same, get_or-set_other, drop-set-lt}
use borrow.Author.Tests.{eq-eqb, ne_eqb}
use Rattle.model.specs.Bits.{bit}
use Rattle.model.specs.Search.{any_below}
use Rattle.model.specs.Netlist.{Netlist, is_unknown, start, IsPort, port, last_wire}
use Rattle.model.specs.Circuit.{Values, code_value, State, address_of, evaluate, read_data, first_pass, state_at, run}
use Rattle.model.specs.Acceptance.{SizesFit, WithinLimits, Accepted}
use Rattle.model.specs.Claim.{feed_of}
use Rattle.model.proofs.Booleans.{and-true, or-true}
use Rattle.model.proofs.Start.{given-is-known, unknown-is-unknown}
use Rattle.model.proofs.Ports.{first-port}
use Rattle.model.proofs.Memory.{address_below}
use Rattle.model.proofs.Circuit.{code_same, address_same, read_data-port}
use Rattle.netlist.specs.NetOf.{net_of}
use Rattle.netlist.specs.declared.Netlist as Record
use Rattle.netlist.specs.WireTable.{entry, HasBelow}
use Rattle.circuit_step.specs.Held.{HoldsState, Fed}
use Rattle.circuit_step.specs.Touched.{touches, touched_before}
use Rattle.circuit_step.proofs.Held.{code_in, address-in, first_alike, evaluate-lists}
use Rattle.circuit_step.proofs.Alike.{LatchesAlike, RE-settled, address-settled, RE-alike, address-alike}
use Rattle.circuit_step.proofs.Touched.{any_same, with_word, state-untouched, run-untouched}
use Rattle.replay_frame.specs.Replay.{Said, begun_from, run_from, state_from, touched_from, address_from, fills_from, word_said, start_words, fills, replayed, replayed_state}
use Rattle.replay_frame.specs.Frames.{touched_after, WordFilled, TouchedIs}

-- every address has a place in the table of touched words
pub address-small : (c : Netlist) → SizesFit c → (v : Values) → address_of c (port c 1) v < 4096
address-small c sizes v =
    let most : 2 ^ c.m ≤ 2 ^ 12 = pow_mono {i = c.m} {j = 12} sizes.m-most in
    omega (arith, most, address_below c (port c 1) v)

-- what the first port reads
pub read_data-first : (c : Netlist) (s : State) (v : Values) (t : ℕ) → t < c.n
    → read_data c s v t ≡ cond (code_value v c.RE) (bit (s.memory (address_of c (port c 1) v)) t) (s.held t)
read_data-first c s v t h =
    let e : (port c 1).first_read + t ≡ t = omega arith in
    rw e at (read_data-port c 1 (first-port c) s v t h)

-- where the start is given, nothing is filled
pub none_filled : {c : Netlist} {touched inputs latches : List Bool} {word : ℕ} {memory : List ℕ} → c.unknown_start ≡ 0
    → WordFilled c touched inputs latches word memory memory false
none_filled {c} e = record { fills-is = rw (given-is-known c.initial_word c.unknown_start e); memory-is = refl }

-- where it is unknown, by the table of the first pass
pub filled-by : {c : Netlist} → WithinLimits c → {inputs latches table : List Bool} → HasBelow (last_wire c + 1) (evaluate c (entry inputs) (entry latches) (bit 0)) table
    → (c.unknown_start ≡ 0 → ⊥) → {touched : List Bool} {word : ℕ} {memory memory' : List ℕ} {r : Bool}
    → r ≡ (code_value (entry table) c.RE && not (entry touched (address_of c (port c 1) (entry table))))
    → memory' ≡ cond r (set memory (address_of c (port c 1) (entry table)) word) memory
    → WordFilled c touched inputs latches word memory memory' r
filled-by {c} limits {inputs} {latches} {table} q u {touched} {word} {memory} e m =
    record {
      fills-is = e ∙ rw (unknown-is-unknown c.initial_word c.unknown_start u, code_in c q c.RE (limits.codes.RE-fits 1 (first-port c)), address-in limits q 1 (first-port c));
      memory-is = m ∙ rw (address-in limits q 1 (first-port c));
    }

-- the latches of a record have no part in its first pass
pub filled-lists : (r : Record.Netlist) (latches gates : List ℕ) {touched inputs state : List Bool} {word : ℕ} {memory memory' : List ℕ} {b : Bool}
    → WordFilled (net_of r [] gates) touched inputs state word memory memory' b → WordFilled (net_of r latches gates) touched inputs state word memory memory' b
unfolding net_of address_of
filled-lists r latches gates {touched} {inputs} {state} {word} {memory} {b = b} q =
    let c = net_of r latches gates in
    let same : evaluate (net_of r [] gates) (entry inputs) (entry state) (bit 0) ≡ evaluate c (entry inputs) (entry state) (bit 0)
    = fun_ext (evaluate-lists r latches gates (entry inputs) (entry state) (bit 0)) in
    record {
      fills-is = q.fills-is ∙ ap (λ v. is_unknown (start c) && (code_value v c.RE && not (entry touched (address_of c (port c 1) v)))) same;
      memory-is = q.memory-is ∙ ap (λ v. cond b (set memory (address_of c (port c 1) v) word) memory) same;
    }

-- the last of three conditions that hold is that something does not
last-not : (p q r : Bool) → (p && (q && not r)) ≡ true → r ≡ false
last-not p q true e = let h = ((and-true q false).0 ((and-true p (q && false)).0 e).1).1 in sym h
last-not p q false e = refl

module _ {c : Netlist} (ok : Accepted c) (y : Said) (i : ℕ) where
  -- a frame that fills is one of an unknown start
  pub fills-unknown : fills c y i ≡ true → is_unknown (start c) ≡ true
  unfolding fills_from
  fills-unknown e = ((and-true (is_unknown (start c)) _).0 e).0

  -- it is at a word that no frame before has touched
  pub fills-untouched : fills c y i ≡ true → touched_from c y (start_words c y i) i (address_from c y (start_words c y i) i) ≡ false
  unfolding fills_from
  fills-untouched e = last-not (is_unknown (start c)) (code_value (run_from c y (start_words c y i) i) c.RE) _ e

  -- and reads it
  pub fills-reads : fills c y i ≡ true → code_value (run_from c y (start_words c y i) i) c.RE ≡ true
  unfolding fills_from
  fills-reads e =
      let read : (code_value (run_from c y (start_words c y i) i) c.RE && not (touched_from c y (start_words c y i) i (address_from c y (start_words c y i) i))) ≡ true
      = ((and-true (is_unknown (start c)) _).0 e).1 in
      ((and-true (code_value (run_from c y (start_words c y i) i) c.RE) _).0 read).0

  -- so the memory begun with has another word there, or is the same
  begun-filled : fills c y i ≡ true
      → begun_from c y (start_words c y (suc i)) ≡ with_word (address_from c y (start_words c y i) i) (word_said c y i) (begun_from c y (start_words c y i))
  unfolding start_words begun_from
  begun-filled e = ap (λ words. begun_from c y words) (fun_ext (λ x. rw e))

  begun_kept : fills c y i ≡ false → start_words c y (suc i) ≡ start_words c y i
  unfolding start_words
  begun_kept e = fun_ext (λ x. rw e)

  -- the frames before go on as they did
  pub runs_on : (j : ℕ) → j < i → run_from c y (start_words c y (suc i)) j ≡ run_from c y (start_words c y i) j
  runs_on j h = by (fills c y i) refl
    where
      by : (b : Bool) → fills c y i ≡ b → run_from c y (start_words c y (suc i)) j ≡ run_from c y (start_words c y i) j
      by true e =
          ap (λ s. run c s (feed_of c y.value) j) (begun-filled e)
          ∙ run-untouched ok (fills-unknown e) _ (word_said c y i) (begun_from c y (start_words c y i)) (feed_of c y.value) i (fills-untouched e) j h
      by false e = ap (λ words. run_from c y words j) (begun_kept e)

  -- and have touched the same words
  pub touched-on : (x : ℕ) → touched_from c y (start_words c y (suc i)) i x ≡ touched_from c y (start_words c y i) i x
  unfolding touched_before
  touched-on x = any_same i (λ j h. ap (λ v. touches c v x) (runs_on j h))

  -- the state in which frame i begins has the word filled
  pub state-filled : fills c y i ≡ true → state_from c y (start_words c y (suc i)) i
      ≡ with_word (address_from c y (start_words c y i) i) (word_said c y i) (replayed_state c y i)
  state-filled e =
      ap (λ s. state_at c s (feed_of c y.value) i) (begun-filled e)
      ∙ state-untouched ok (fills-unknown e) _ (word_said c y i) (begun_from c y (start_words c y i)) (feed_of c y.value) i (fills-untouched e)

  -- or is the same where nothing is filled
  pub state-on : (P : State → Type 0)
      → (fills c y i ≡ true → P (with_word (address_from c y (start_words c y i) i) (word_said c y i) (replayed_state c y i)))
      → P (replayed_state c y i) → P (state_from c y (start_words c y (suc i)) i)
  state-on P filled kept = by (fills c y i) refl
    where
      by : (b : Bool) → fills c y i ≡ b → P (state_from c y (start_words c y (suc i)) i)
      by true e = subst P (sym (state-filled e)) (filled e)
      by false e = subst (λ words. P (state_from c y words i)) (sym (begun_kept e)) kept

  -- with the same latches
  pub latches-on : LatchesAlike c (state_from c y (start_words c y (suc i)) i) (replayed_state c y i)
  latches-on = state-on (λ s. LatchesAlike c s (replayed_state c y i)) (λ e l h. refl) (λ l h. refl)

  -- so RE and the address are the same whether or not the frame's own word is filled
  pub RE-on : (p : ℕ) → IsPort c p → code_value (replayed c y i) (port c p).RE ≡ code_value (run_from c y (start_words c y i) i) (port c p).RE
  unfolding run
  RE-on = RE-alike ok (state_from c y (start_words c y (suc i)) i) (replayed_state c y i) (feed_of c y.value i) (feed_of c y.value i) latches-on (λ x h. refl)

  pub address_on : address_of c (port c 1) (replayed c y i) ≡ address_from c y (start_words c y i) i
  unfolding run
  address_on = address-alike ok (state_from c y (start_words c y (suc i)) i) (replayed_state c y i) (feed_of c y.value i) (feed_of c y.value i) latches-on (λ x h. refl) 1 (first-port c)

  module _ {latches inputs touched : List Bool} {memory memory' : List ℕ} {word : ℕ} {r : Bool} (held : HoldsState c (replayed_state c y i) latches memory word)
      (fed : Fed c (feed_of c y.value i) inputs) (marks : TouchedIs c y i touched)
      (q : WordFilled c touched inputs latches (word_said c y i) memory memory' r) where
    -- RE and address of the first pass in the table are the frame's
    RE-is : code_value (evaluate c (entry inputs) (entry latches) (bit 0)) c.RE ≡ code_value (run_from c y (start_words c y i) i) c.RE
    unfolding run
    RE-is =
        code_same (evaluate c (entry inputs) (entry latches) (bit 0)) (first_pass c (replayed_state c y i) (feed_of c y.value i)) c.RE
        (first_alike ok.limits held fed (c.RE / 2) (omega (arith, ok.limits.codes.RE-fits 1 (first-port c))))
        ∙ RE-settled ok 1 (first-port c) (replayed_state c y i) (feed_of c y.value i)

    address_is : address_of c (port c 1) (evaluate c (entry inputs) (entry latches) (bit 0)) ≡ address_from c y (start_words c y i) i
    unfolding run
    address_is =
        address_same c (port c 1) (evaluate c (entry inputs) (entry latches) (bit 0)) (first_pass c (replayed_state c y i) (feed_of c y.value i))
        (λ t h. code_same (evaluate c (entry inputs) (entry latches) (bit 0)) (first_pass c (replayed_state c y i) (feed_of c y.value i)) (c.address t)
        (first_alike ok.limits held fed (c.address t / 2) (omega (arith, ok.limits.codes.address-fits 1 (first-port c) t h))))
        ∙ address-settled ok 1 (first-port c) (replayed_state c y i) (feed_of c y.value i)

    -- it is told rightly whether the frame fills a word
    pub filled_is : r ≡ fills c y i
    unfolding fills_from
    filled_is =
        q.fills-is
        ∙ ap (λ b. is_unknown (start c) && b)
        (ap₂ (λ b t. b && not t) RE-is
        (ap (entry touched) address_is ∙ marks.has _ (address_below c (port c 1) (run_from c y (start_words c y i) i))))

    memory-filled : memory' ≡ cond (fills c y i) (set memory (address_from c y (start_words c y i) i) (word_said c y i)) memory
    memory-filled = q.memory-is ∙ ap₂ (λ b a. cond b (set memory a (word_said c y i)) memory) filled_is address_is

    -- and the memory then holds the words of the run that has it filled
    pub filled-holds : HoldsState c (state_from c y (start_words c y (suc i)) i) latches memory' word
    filled-holds = by (fills c y i) refl
      where
        by : (b : Bool) → fills c y i ≡ b → HoldsState c (state_from c y (start_words c y (suc i)) i) latches memory' word
        by false e = rw (begun_kept e, memory-filled, e) held
        by true e =
            rw (state-filled e, memory-filled, e)
            (record {
              latch-size = held.latch-size;
              latch-held = held.latch-held;
              memory-size = omega (arith, held.memory-size, length-set memory (address_from c y (start_words c y i) i) (word_said c y i));
              memory-held = λ x h.
                  by_cases (ℕ_discrete x (address_from c y (start_words c y i) i))
                  (λ at. rw (eq-eqb x _ at, at) (get_or-set_same memory (address_from c y (start_words c y i) i) (word_said c y i) 0 (omega (arith, held.memory-size, address_below c (port c 1) (run_from c y (start_words c y i) i)))))
                  (λ at. rw (ne_eqb x _ at) (get_or-set_other memory (address_from c y (start_words c y i) i) x (word_said c y i) 0 at ∙ held.memory-held x h));
              word_held = held.word_held;
            })

    pub filled-behind : drop (2 ^ c.m) memory' ≡ drop (2 ^ c.m) memory
    filled-behind = ap (drop (2 ^ c.m)) memory-filled ∙ by (fills c y i)
      where
        by : (b : Bool) → drop (2 ^ c.m) (cond b (set memory (address_from c y (start_words c y i) i) (word_said c y i)) memory) ≡ drop (2 ^ c.m) memory
        by true = drop-set-lt (2 ^ c.m) memory _ (word_said c y i) (address_below c (port c 1) (run_from c y (start_words c y i) i))
        by false = refl

  -- the table of touched words after the frame
  pub touched_after-is : {touched values : List Bool} → TouchedIs c y i touched → HasBelow (last_wire c + 1) (replayed c y i) values
      → TouchedIs c y (i + 1) (touched_after c (entry values) touched)
  unfolding touched_after touched_before any_below touches
  touched_after-is {touched} {values} marks q =
      rw (code_in c q c.RE (ok.limits.codes.RE-fits 1 (first-port c)), code_in c q c.WE ok.limits.codes.WE-fits, address-in ok.limits q 1 (first-port c))
      (record {
        size = length-of (code_value (replayed c y i) c.RE || code_value (replayed c y i) c.WE) ∙ marks.size;
        has = λ x h. rw add-one (
            at x (code_value (replayed c y i) c.RE || code_value (replayed c y i) c.WE)
            ∙ ap (λ b. b || touches c (replayed c y i) x) (marks.has x h ∙ sym (touched-on x)));
      })
    where
      length-of : (b : Bool) → length (cond b (set touched (address_of c (port c 1) (replayed c y i)) true) touched) ≡ length touched
      length-of true = length-set touched _ true
      length-of false = refl

      there : (b : Bool) → entry (cond b (set touched (address_of c (port c 1) (replayed c y i)) true) touched) (address_of c (port c 1) (replayed c y i))
          ≡ (entry touched (address_of c (port c 1) (replayed c y i)) || b)
      there true =
          get_or-set_same touched (address_of c (port c 1) (replayed c y i)) true false (omega (arith, marks.size, address-small c ok.limits.sizes (replayed c y i)))
          ∙ sym ((or-true (entry touched (address_of c (port c 1) (replayed c y i))) true).1 (inr refl))
      there false = sym (or-false _)

      elsewhere : (x : ℕ) → (x ≡ address_of c (port c 1) (replayed c y i) → ⊥) → (b : Bool)
          → entry (cond b (set touched (address_of c (port c 1) (replayed c y i)) true) touched) x ≡ entry touched x
      elsewhere x e true = get_or-set_other touched (address_of c (port c 1) (replayed c y i)) x true false e
      elsewhere x e false = refl

      at : (x : ℕ) (b : Bool) → entry (cond b (set touched (address_of c (port c 1) (replayed c y i)) true) touched) x
          ≡ (entry touched x || (eqb x (address_of c (port c 1) (replayed c y i)) && b))
      at x b =
          by_cases (ℕ_discrete x (address_of c (port c 1) (replayed c y i)))
          (λ e. rw (eq-eqb x _ e, e) (there b))
          (λ e. rw (ne_eqb x _ e) (elsewhere x e b ∙ sym (or-false (entry touched x))))
