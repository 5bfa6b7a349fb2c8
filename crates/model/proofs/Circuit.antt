-- Laws of specs/Circuit.antt: a frame is the one solution of its equations. No contract cites this file.
use Prim.Native.Nat.{ℕ, suc, ◌+◌, ◌-◌, ◌*◌, ◌/◌, ◌≤◌, ◌<◌}
use mathlib.Core.Path.{◌≡◌, refl, sym, ◌∙◌, ap, ap₂}
use mathlib.Core.Bool.{Bool, false, cond, ◌&&◌, true≢false}
use native.Mathlib.Omega.{arith}
use native.Mathlib.Nat.{add-zero, mul-add-div_right, mul-add-mod_self_right, div-eq_of_lt, mod-eq_of_lt}
use borrow.Author.Tests.{lt-ltb, le-ltb}
use Rattle.model.specs.Netlist.{Netlist, Port, IsPort, port, read_bits, input_wire, latch_wire, read_wire, gate_wire, last_wire}
use Rattle.model.specs.Circuit.{Values, code_value, sources, conjunction, evaluate, depends_on_read, State, address_of, read_data, first_pass, frame}
use Rattle.model.specs.Acceptance.{Accepted, CodesFit, IsCode}
use Rattle.model.specs.Bits.{bit}
use Rattle.model.proofs.Ports.{port-bit}
use Rattle.model.proofs.Bits.{from_bits-same}
use Rattle.model.proofs.Sweep.{OfTwoWires, sweep-outside, sweep-solves, wire-induction}
use Rattle.model.proofs.Dependence.{depends-read, independent-gate}

-- a code's value needs its wire's value alone
pub code_same : (u v : Values) (x : ℕ) → u (x / 2) ≡ v (x / 2) → code_value u x ≡ code_value v x
unfolding code_value
code_same u v x h = rw h

-- a gate looks at its two wires alone
pub conjunction-of-two : OfTwoWires conjunction
unfolding conjunction
conjunction-of-two u v a b h k = ap₂ ◌&&◌ (code_same u v a h) (code_same u v b k)

-- the values of all wires as equations, with inputs, latches and read bits given
pub record Solves (c : Netlist) (input latch read : ℕ → Bool) (v : Values) : Type 0 where
  pub at_zero : v 0 ≡ false
  pub at-input : (x : ℕ) → x < c.inputs → v (input_wire c x) ≡ input x
  pub at-latch : (l : ℕ) → l < c.latches → v (latch_wire c l) ≡ latch l
  pub at_read : (t : ℕ) → t < read_bits c → v (read_wire c t) ≡ read t
  pub at-gate : (g : ℕ) → g < c.gates → v (gate_wire c g) ≡ (code_value v (c.left g) && code_value v (c.right g))

module _ (c : Netlist) (input latch read : ℕ → Bool) where
  -- wire 0 is false
  sources-zero : sources c input latch read 0 ≡ false
  unfolding sources
  sources-zero = refl

  -- an input is as given
  sources-input : (x : ℕ) → x < c.inputs → sources c input latch read (input_wire c x) ≡ input x
  unfolding sources
  sources-input x h =
      let e : input_wire c x - input_wire c 0 ≡ x = omega arith in
      rw (le-ltb (input_wire c x) (input_wire c 0) (omega arith), lt-ltb (input_wire c x) (latch_wire c 0) (omega arith), e)

  -- a latch is as given
  sources-latch : (l : ℕ) → l < c.latches → sources c input latch read (latch_wire c l) ≡ latch l
  unfolding sources
  sources-latch l h =
      let e : latch_wire c l - latch_wire c 0 ≡ l = omega arith in
      rw (
        le-ltb (latch_wire c l) (input_wire c 0) (omega arith),
        le-ltb (latch_wire c l) (latch_wire c 0) (omega arith),
        lt-ltb (latch_wire c l) (read_wire c 0) (omega arith),
        e,
      )

  -- a read bit is as given
  sources-read : (t : ℕ) → t < read_bits c → sources c input latch read (read_wire c t) ≡ read t
  unfolding sources
  sources-read t h =
      let e : read_wire c t - read_wire c 0 ≡ t = omega arith in
      rw (
        le-ltb (read_wire c t) (input_wire c 0) (omega arith),
        le-ltb (read_wire c t) (latch_wire c 0) (omega arith),
        le-ltb (read_wire c t) (read_wire c 0) (omega arith),
        lt-ltb (read_wire c t) (gate_wire c 0) (omega arith),
        e,
      )

  -- evaluating leaves inputs, latches and read bits as they are
  evaluate-source : (w : ℕ) → w < gate_wire c 0 → evaluate c input latch read w ≡ sources c input latch read w
  unfolding evaluate
  evaluate-source w h = sweep-outside conjunction c (sources c input latch read) c.gates w (omega arith)

  -- evaluating solves the equations
  pub evaluate-solves : CodesFit c → Solves c input latch read (evaluate c input latch read)
  unfolding evaluate conjunction
  evaluate-solves q =
      record {
        at_zero = evaluate-source 0 (omega arith) ∙ sources-zero;
        at-input = λ x h. evaluate-source (input_wire c x) (omega arith) ∙ sources-input x h;
        at-latch = λ l h. evaluate-source (latch_wire c l) (omega arith) ∙ sources-latch l h;
        at_read = λ t h. evaluate-source (read_wire c t) (omega arith) ∙ sources-read t h;
        at-gate = sweep-solves conjunction c (sources c input latch read) conjunction-of-two q;
      }

-- two solutions agree on a set of wires that holds the two wires of each of its gates, if its read bits agree
pub solutions-agree : {c : Netlist} → CodesFit c → (Held : ℕ → Type 0)
    → ((g : ℕ) → g < c.gates → Held (gate_wire c g) → Held (c.left g / 2) × Held (c.right g / 2))
    → {input latch read other : ℕ → Bool} → ((t : ℕ) → t < read_bits c → Held (read_wire c t) → read t ≡ other t)
    → {u v : Values} → Solves c input latch read u → Solves c input latch other v → (w : ℕ) → w ≤ last_wire c → Held w → u w ≡ v w
unfolding conjunction
solutions-agree {c} q Held closed reads {u} {v} p r =
    wire-induction c (λ x. Held x → u x ≡ v x)
    (record {
      at_zero = λ k. p.at_zero ∙ sym r.at_zero;
      at-input = λ x h k. p.at-input x h ∙ sym (r.at-input x h);
      at-latch = λ l h k. p.at-latch l h ∙ sym (r.at-latch l h);
      at_read = λ t h k. p.at_read t h ∙ reads t h k ∙ sym (r.at_read t h);
      at-gate = λ g h below k.
          let left = below (c.left g / 2) (omega (arith, q.left-fits g h)) (closed g h k).0 in
          let right = below (c.right g / 2) (omega (arith, q.right-fits g h)) (closed g h k).1 in
          p.at-gate g h ∙ conjunction-of-two u v (c.left g) (c.right g) left right ∙ sym (r.at-gate g h);
    })

-- a wire that depends on no read bit has the same value in two solutions, whatever their read bits are
pub independent-agree : {c : Netlist} → CodesFit c → {input latch read other : ℕ → Bool} {u v : Values} → Solves c input latch read u
    → Solves c input latch other v → (w : ℕ) → w ≤ last_wire c → depends_on_read c w ≡ false → u w ≡ v w
independent-agree {c} q =
    solutions-agree q (λ x. depends_on_read c x ≡ false) (independent-gate c q)
    (λ t h free. absurd (true≢false (sym (depends-read c t h) ∙ free)))

-- equal address codes make the same address
pub address_same : (c : Netlist) (p : Port) (u v : Values) → ((t : ℕ) → t < c.m → code_value u (p.address t) ≡ code_value v (p.address t))
    → address_of c p u ≡ address_of c p v
unfolding address_of
address_same c p u v h = from_bits-same c.m (λ t. code_value u (p.address t)) (λ t. code_value v (p.address t)) h

-- what a port reads, by its address and RE
pub read_data-port : (c : Netlist) (p : ℕ) → IsPort c p → (s : State) (v : Values) (t : ℕ) → t < c.n
    → read_data c s v ((port c p).first_read + t)
    ≡ cond (code_value v (port c p).RE) (bit (s.memory (address_of c (port c p) v)) t) (s.held ((port c p).first_read + t))
unfolding read_data
read_data-port c p here s v t b =
    let positive : 0 < c.n = omega arith in
    let same : suc (p - 1) ≡ p = omega (arith, here.0) in
    let is : suc (((p - 1) * c.n + t) / c.n) ≡ p =
    ap suc (mul-add-div_right positive (p - 1) t ∙ ap (λ (x : ℕ). p - 1 + x) (div-eq_of_lt b) ∙ add-zero (p - 1)) ∙ same in
    rw (is, mul-add-mod_self_right (p - 1) c.n t ∙ mod-eq_of_lt b)

-- so it follows from the addresses and the REs
pub read_data-same : (c : Netlist) (s : State) (u v : Values)
    → ((p : ℕ) → IsPort c p → (address_of c (port c p) u ≡ address_of c (port c p) v) × (code_value u (port c p).RE ≡ code_value v (port c p).RE))
    → (r : ℕ) → r < read_bits c → read_data c s u r ≡ read_data c s v r
read_data-same c s u v same r b =
    let x = port-bit c r b in
    let e = same x.of x.is-port in
    rw x.is
    (read_data-port c x.of x.is-port s u x.t x.below
    ∙ rw (e.0, e.1) (sym (read_data-port c x.of x.is-port s v x.t x.below)))

-- a frame as equations, without the two passes
pub record IsFrame (c : Netlist) (s : State) (f : ℕ → Bool) (v : Values) : Type 0 where
  pub at_zero : v 0 ≡ false
  pub at-input : (x : ℕ) → x < c.inputs → v (input_wire c x) ≡ f x
  pub at-latch : (l : ℕ) → l < c.latches → v (latch_wire c l) ≡ s.latch l
  pub at_read : (t : ℕ) → t < read_bits c → v (read_wire c t) ≡ read_data c s v t
  pub at-gate : (g : ℕ) → g < c.gates → v (gate_wire c g) ≡ (code_value v (c.left g) && code_value v (c.right g))

-- what is read is settled before any read bit is
read-settled : {c : Netlist} → Accepted c → (s : State) (f : ℕ → Bool) → {read other : ℕ → Bool} {u v : Values}
    → Solves c f s.latch read u → Solves c f s.latch other v → (r : ℕ) → r < read_bits c → read_data c s u r ≡ read_data c s v r
read-settled {c} h s f {u} {v} q q' =
    read_data-same c s u v (λ p here. (
      address_same c (port c p) u v (λ t l. settled ((port c p).address t) (fit.address-fits p here t l) ((h.no_loop p here).address-free t l)),
      settled (port c p).RE (fit.RE-fits p here) (h.no_loop p here).RE-free,
    ))
  where
    fit : CodesFit c
    fit = h.limits.codes

    settled : (x : ℕ) → IsCode c x → depends_on_read c (x / 2) ≡ false → code_value u x ≡ code_value v x
    settled x l free = code_same u v x (independent-agree fit q q' (x / 2) (omega arith) free)

-- the first pass is a solution with all read bits false
first_pass-solves : {c : Netlist} → CodesFit c → (s : State) (f : ℕ → Bool) → Solves c f s.latch (λ t. false) (first_pass c s f)
unfolding first_pass
first_pass-solves {c} q s f = evaluate-solves c f s.latch (λ t. false) q

-- the second pass is a solution with what the first pass reads
frame-solves : {c : Netlist} → CodesFit c → (s : State) (f : ℕ → Bool)
    → Solves c f s.latch (read_data c s (first_pass c s f)) (frame c s f)
unfolding frame
frame-solves {c} q s f = evaluate-solves c f s.latch (read_data c s (first_pass c s f)) q

-- the two passes solve a frame's equations
pub frame_is : {c : Netlist} → Accepted c → (s : State) (f : ℕ → Bool) → IsFrame c s f (frame c s f)
frame_is {c} h s f =
    record {
      at_zero = q.at_zero;
      at-input = q.at-input;
      at-latch = q.at-latch;
      at_read = λ t l. q.at_read t l ∙ read-settled h s f (first_pass-solves h.limits.codes s f) q t l;
      at-gate = q.at-gate;
    }
  where
    q : Solves c f s.latch (read_data c s (first_pass c s f)) (frame c s f)
    q = frame-solves h.limits.codes s f

-- every solution of a frame's equations has the values of the two passes
pub frame-unique : {c : Netlist} → Accepted c → (s : State) (f : ℕ → Bool) (v : Values) → IsFrame c s f v
    → (w : ℕ) → w ≤ last_wire c → v w ≡ frame c s f w
frame-unique {c} h s f v q w b =
    solutions-agree h.limits.codes (λ x. Unit {0}) (λ g l k. (tt, tt))
    (λ t l k. read-settled h s f p (first_pass-solves h.limits.codes s f) t l) p (frame-solves h.limits.codes s f) w b tt
  where
    p : Solves c f s.latch (read_data c s v) v
    p = record { at_zero = q.at_zero; at-input = q.at-input; at-latch = q.at-latch; at_read = q.at_read; at-gate = q.at-gate }
