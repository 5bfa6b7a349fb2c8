-- Values that agree on every wire agree on every code, on addresses, on words written and on who writes which word.
-- No contract cites this file.
use Prim.Native.Nat.{ℕ, zero, suc, ◌/◌, ◌<◌, ◌≤◌}
use mathlib.Core.Path.{◌≡◌, refl, sym, ◌∙◌, ap, ap₂}
use mathlib.Core.Bool.{Bool, ◌&&◌, and_comm}
use native.Mathlib.Nat.{le_step, lt-suc_self}
use native.Mathlib.Omega.{arith}
use lib.Dec.{eqb}
use Rattle.model.specs.Bits.{bit}
use Rattle.model.specs.Netlist.{Netlist, Port, port, last_wire}
use Rattle.model.specs.Circuit.{Values, code_value, address_of, write_address, word_written, State, Feeds, step, state_at, run}
use Rattle.model.specs.Acceptance.{CodesFit, IsCode}
use Rattle.model.specs.Trace.{writes}
use Rattle.model.proofs.Bits.{from_bits-same, bit-from_bits}
use Rattle.model.proofs.Ports.{first-port}
use Rattle.model.proofs.Circuit.{code_same, address_same}
use Rattle.model.proofs.Forwarding.{stepped}

abbrev pub Same : Netlist → Values → Values → Type 0
Same c u v = (w : ℕ) → w ≤ last_wire c → u w ≡ v w

pub code-agrees : (c : Netlist) (u v : Values) → Same c u v → (x : ℕ) → IsCode c x → code_value u x ≡ code_value v x
code-agrees c u v h x b = code_same u v x (h (x / 2) (omega arith))

-- the bits of the word written are the write-data codes
pub word-bit : (c : Netlist) (v : Values) (t : ℕ) → t < c.n → bit (word_written c v) t ≡ code_value v (c.write_data t)
unfolding word_written
word-bit c v t b = bit-from_bits c.n (λ t. code_value v (c.write_data t)) t b

word-agrees : (c : Netlist) → CodesFit c → (u v : Values) → Same c u v → word_written c u ≡ word_written c v
unfolding word_written
word-agrees c fit u v h = from_bits-same c.n _ _ (λ t b. code-agrees c u v h (c.write_data t) (fit.data-fits t b))

pub write-agrees : (c : Netlist) → CodesFit c → (u v : Values) → Same c u v → write_address c u ≡ write_address c v
write-agrees c fit u v h = address_same c (port c 1) u v (λ t b. code-agrees c u v h (c.address t) (fit.address-fits 1 (first-port c) t b))

-- equal addresses are equal bit by bit
pub address-bits : (c : Netlist) (p q : Port) (u v : Values) → address_of c p u ≡ address_of c q v
    → (t : ℕ) → t < c.m → code_value u (p.address t) ≡ code_value v (q.address t)
unfolding address_of
address-bits c p q u v e t b =
    sym (bit-from_bits c.m (λ t. code_value u (p.address t)) t b) ∙ ap (λ (x : ℕ). bit x t) e ∙ bit-from_bits c.m (λ t. code_value v (q.address t)) t b

-- the word x before frame i, of frames with the values u
abbrev pub word_before : Netlist → (ℕ → Values) → ℕ → ℕ → ℕ → ℕ
word_before c u start x i = stepped start (writes c u x) (λ j. word_written c (u j)) i

-- a run's memory is stepped through its writes
pub memory-stepped : (c : Netlist) (s : State) (f : Feeds) (x i : ℕ)
    → (state_at c s f i).memory x ≡ word_before c (run c s f) (s.memory x) x i
unfolding state_at step stepped writes run
memory-stepped c s f x zero = refl
memory-stepped c s f x (suc i) =
    cc (memory-stepped c s f x i, and_comm (code_value (run c s f i) c.WE) (eqb x (write_address c (run c s f i))))

pub writes-agrees : (c : Netlist) → CodesFit c → (u v : ℕ → Values) (x j : ℕ) → Same c (u j) (v j) → writes c u x j ≡ writes c v x j
unfolding writes
writes-agrees c fit u v x j h =
    ap₂ (λ (e : Bool) (y : ℕ). e && eqb x y) (code-agrees c (u j) (v j) h c.WE fit.WE-fits) (write-agrees c fit (u j) (v j) h)

pub word_before-agrees : (c : Netlist) → CodesFit c → (u v : ℕ → Values) (start x i : ℕ)
    → ((j : ℕ) → j < i → Same c (u j) (v j)) → word_before c u start x i ≡ word_before c v start x i
unfolding stepped
word_before-agrees c fit u v start x zero h = refl
word_before-agrees c fit u v start x (suc i) h =
    let now = h i (lt-suc_self i) in
    rw (writes-agrees c fit u v x i now, word-agrees c fit (u i) (v i) now, word_before-agrees c fit u v start x i (λ j b. h j (le_step b)))
