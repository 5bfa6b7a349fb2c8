-- Runs that begin in states that are alike, a port's word held counting only where its RE is false in frame 0, and are fed alike. They go through
-- the same states and values. No contract cites this file.
use Prim.Native.Nat.{ℕ, zero, suc, ◌+◌, ◌/◌, ◌^◌, ◌≤◌, ◌<◌}
use mathlib.Core.Path.{◌≡◌, refl, sym, ◌∙◌, ap}
use mathlib.Core.Bool.{Bool, false}
use native.Mathlib.Omega.{arith}
use Rattle.model.specs.Bits.{bit}
use Rattle.model.specs.Netlist.{Netlist, IsPort, port, read_bits, read_wire, last_wire}
use Rattle.model.specs.Circuit.{Values, code_value, depends_on_read, State, Feeds, address_of, read_data, first_pass, frame, word_written, step, state_at, run}
use Rattle.model.specs.Acceptance.{Accepted, IsCode}
use Rattle.model.proofs.Ports.{first-port, each-bit, bit-within}
use Rattle.model.proofs.Bits.{from_bits-same}
use Rattle.model.proofs.Booleans.{cond_same}
use Rattle.model.proofs.Memory.{address_below}
use Rattle.model.proofs.Circuit.{code_same, address_same, read_data-port, evaluate-solves, independent-agree}
use Rattle.circuit_step.proofs.Held.{evaluate-alike}

-- two feeds with the same inputs
abbrev pub InputsAlike : Netlist → (ℕ → Bool) → (ℕ → Bool) → Type 0
InputsAlike c f g = (x : ℕ) → x < c.inputs → f x ≡ g x

abbrev pub LatchesAlike : Netlist → State → State → Type 0
LatchesAlike c s r = (l : ℕ) → l < c.latches → s.latch l ≡ r.latch l

-- two states with the same latches and the same 2^m words, and with the same word held for a port whose RE is false in the frame that is fed f
pub record StatesAlike (c : Netlist) (f : ℕ → Bool) (s r : State) : Type 0 where
  pub latch-alike : LatchesAlike c s r
  pub memory-alike : (x : ℕ) → x < 2 ^ c.m → s.memory x ≡ r.memory x
  pub held-alike : (p : ℕ) → IsPort c p → code_value (frame c s f) (port c p).RE ≡ false → (t : ℕ) → t < c.n
      → s.held ((port c p).first_read + t) ≡ r.held ((port c p).first_read + t)

module _ {c : Netlist} (ok : Accepted c) where
  -- the value of a code by equal values
  code_alike : {u v : Values} → ((w : ℕ) → w ≤ last_wire c → u w ≡ v w) → (x : ℕ) → IsCode c x → code_value u x ≡ code_value v x
  code_alike {u} {v} same x h = code_same u v x (same (x / 2) (omega arith))

  -- RE and the address of a port are settled by the first pass
  settled : (s : State) (f : ℕ → Bool) (x : ℕ) → IsCode c x → depends_on_read c (x / 2) ≡ false → code_value (first_pass c s f) x ≡ code_value (frame c s f) x
  unfolding first_pass frame
  settled s f x h free =
      code_same (first_pass c s f) (frame c s f) x
      (independent-agree ok.limits.codes (evaluate-solves c f s.latch (λ t. false) ok.limits.codes)
      (evaluate-solves c f s.latch (read_data c s (first_pass c s f)) ok.limits.codes) (x / 2) (omega arith) free)

  module _ (p : ℕ) (here : IsPort c p) where
    pub RE-settled : (s : State) (f : ℕ → Bool) → code_value (first_pass c s f) (port c p).RE ≡ code_value (frame c s f) (port c p).RE
    RE-settled s f = settled s f (port c p).RE (ok.limits.codes.RE-fits p here) (ok.no_loop p here).RE-free

    pub address-settled : (s : State) (f : ℕ → Bool) → address_of c (port c p) (first_pass c s f) ≡ address_of c (port c p) (frame c s f)
    address-settled s f =
        address_same c (port c p) (first_pass c s f) (frame c s f)
        (λ t h. settled s f ((port c p).address t) (ok.limits.codes.address-fits p here t h) ((ok.no_loop p here).address-free t h))

  -- the address of a port by equal values
  address-code-alike : {u v : Values} → ((w : ℕ) → w ≤ last_wire c → u w ≡ v w) → (p : ℕ) → IsPort c p → address_of c (port c p) u ≡ address_of c (port c p) v
  address-code-alike {u} {v} same p here =
      address_same c (port c p) u v (λ t h. code_alike same ((port c p).address t) (ok.limits.codes.address-fits p here t h))

  module _ (s r : State) (f g : ℕ → Bool) (latches : LatchesAlike c s r) (inputs : InputsAlike c f g) where
    first_alike : (w : ℕ) → w ≤ last_wire c → first_pass c s f w ≡ first_pass c r g w
    unfolding first_pass
    first_alike = evaluate-alike ok.limits.codes inputs latches (λ t h. refl)

    -- so RE and the address are the same, whatever the words held are
    module _ (p : ℕ) (here : IsPort c p) where
      pub RE-alike : code_value (frame c s f) (port c p).RE ≡ code_value (frame c r g) (port c p).RE
      RE-alike = sym (RE-settled p here s f) ∙ code_alike first_alike (port c p).RE (ok.limits.codes.RE-fits p here) ∙ RE-settled p here r g

      pub address-alike : address_of c (port c p) (frame c s f) ≡ address_of c (port c p) (frame c r g)
      address-alike = sym (address-settled p here s f) ∙ address-code-alike first_alike p here ∙ address-settled p here r g

  module _ {s r : State} {f g : ℕ → Bool} (states : StatesAlike c f s r) (inputs : InputsAlike c f g) where
    first-same : (w : ℕ) → w ≤ last_wire c → first_pass c s f w ≡ first_pass c r g w
    first-same = first_alike s r f g states.latch-alike inputs

    read_same : (x : ℕ) → x < read_bits c → read_data c s (first_pass c s f) x ≡ read_data c r (first_pass c r g) x
    read_same =
        each-bit c (λ x. read_data c s (first_pass c s f) x ≡ read_data c r (first_pass c r g) x)
        (λ p here t h.
        read_data-port c p here s (first_pass c s f) t h
        ∙ cond_same (code_value (first_pass c s f) (port c p).RE)
        (λ e. ap (λ word. bit word t) (states.memory-alike (address_of c (port c p) (first_pass c s f)) (address_below c (port c p) (first_pass c s f))))
        (λ e. states.held-alike p here (sym (RE-settled p here s f) ∙ e) t h)
        ∙ rw (code_alike first-same (port c p).RE (ok.limits.codes.RE-fits p here), address-code-alike first-same p here)
        (sym (read_data-port c p here r (first_pass c r g) t h)))

    -- every wire has the same value
    pub frame_same : (w : ℕ) → w ≤ last_wire c → frame c s f w ≡ frame c r g w
    unfolding frame
    frame_same = evaluate-alike ok.limits.codes inputs states.latch-alike read_same

    -- and the next states are alike, whatever is fed next
    pub step_same : (next : ℕ → Bool) → StatesAlike c next (step c s (frame c s f)) (step c r (frame c r g))
    unfolding step word_written
    step_same next =
        record {
          latch-alike = λ l h. code_alike frame_same (c.next l) (ok.limits.codes.next_fits l h);
          memory-alike = λ x h.
              rw (code_alike frame_same c.WE ok.limits.codes.WE-fits, address-code-alike frame_same 1 (first-port c), from_bits-same c.n (λ t. code_value (frame c s f) (c.write_data t)) (λ t. code_value (frame c r g) (c.write_data t)) (λ t b. code_alike frame_same (c.write_data t) (ok.limits.codes.data-fits t b)), states.memory-alike x h);
          held-alike = λ p here e t h. frame_same (read_wire c ((port c p).first_read + t)) (omega (arith, bit-within c p here t h));
        }

  -- runs from states that are alike, whose inputs are in every frame before i
  module _ (f g : Feeds) {s r : State} (states : StatesAlike c (f 0) s r) where
    pub states-same : (i : ℕ) → ((j : ℕ) → j < i → InputsAlike c (f j) (g j)) → StatesAlike c (f i) (state_at c s f i) (state_at c r g i)
    unfolding state_at
    states-same zero inputs = states
    states-same (suc i) inputs = step_same (states-same i (λ j h. inputs j (omega arith))) (inputs i (omega arith)) (f (suc i))

    pub run-same : (i : ℕ) → ((j : ℕ) → j ≤ i → InputsAlike c (f j) (g j)) → (w : ℕ) → w ≤ last_wire c → run c s f i w ≡ run c r g i w
    unfolding run
    run-same i inputs = frame_same (states-same i (λ j h. inputs j (omega arith))) (inputs i (omega arith))
