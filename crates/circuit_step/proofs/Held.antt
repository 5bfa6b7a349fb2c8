-- Laws of specs/Held.antt: tables that hold a state and a feed have its frame evaluated in them, and its step after that. No contract cites
-- this file.
use Prim.Native.Nat.{ℕ, zero, suc, ◌+◌, ◌*◌, ◌/◌, ◌^◌, ◌≤◌, ◌<◌}
use mathlib.Core.Path.{◌≡◌, refl, sym, ◌∙◌}
use mathlib.Core.Bool.{Bool, true, false, cond, ◌&&◌}
use mathlib.Core.List.{List, []}
use mathlib.Core.Logic.{by_cases}
use native.Mathlib.Decide.{ℕ_discrete}
use native.Mathlib.Nat.{zero-div}
use native.Mathlib.Omega.{arith}
use lib.Dec.{eqb}
use lib.ListN.{length, get_or, set, drop, length-set}
use lib.Seq.{get_or-set_same, get_or-set_other, drop-set-lt}
use borrow.Author.Tests.{eq-eqb, ne_eqb}
use Rattle.model.specs.Bits.{odd, bit}
use Rattle.model.specs.Netlist.{Netlist, IsPort, port, read_bits, read_wire, last_wire}
use Rattle.model.specs.Circuit.{Values, code_value, sources, sweep, conjunction, evaluate, State, address_of, write_address, read_data, first_pass, frame, word_written, step}
use Rattle.model.specs.Acceptance.{CodesFit, WithinLimits, IsCode}
use Rattle.model.proofs.Bits.{from_bits-same}
use Rattle.model.proofs.Memory.{address_below}
use Rattle.model.proofs.Ports.{first-port, each-bit, bit-within}
use Rattle.model.proofs.Circuit.{evaluate-solves, solutions-agree, code_same, address_same, read_data-port, read_data-same}
use Rattle.netlist.specs.NetOf.{net_of}
use Rattle.netlist.specs.declared.Netlist as Record
use Rattle.netlist.specs.WireTable.{entry, HasBelow}
use Rattle.circuit_values.proofs.WireTable.{code_below}
use Rattle.circuit_step.specs.Held.{state_in, HoldsState, Fed, memory_after}

-- a table of equal values
pub below-same : {b : ℕ} {u v : Values} {table : List Bool} → HasBelow b u table → ((w : ℕ) → w < b → u w ≡ v w) → HasBelow b v table
below-same q same = record { size = q.size; has = λ w h. q.has w h ∙ same w h }

-- what is evaluated needs inputs, latches and read bits below the sizes alone
pub evaluate-alike : {c : Netlist} → CodesFit c → {input latch read input' latch' read' : ℕ → Bool}
    → ((x : ℕ) → x < c.inputs → input x ≡ input' x) → ((l : ℕ) → l < c.latches → latch l ≡ latch' l)
    → ((t : ℕ) → t < read_bits c → read t ≡ read' t) → (w : ℕ) → w ≤ last_wire c → evaluate c input latch read w ≡ evaluate c input' latch' read' w
evaluate-alike {c} q {input} {latch} {read} {input'} {latch'} {read'} inputs latches reads w h =
    let p = evaluate-solves c input latch read q in
    solutions-agree q (λ x. Unit {0}) (λ g l k. (tt, tt)) {input = input'} {latch = latch'} {read = read} {other = read'} (λ t l k. reads t l)
    (record {
      at_zero = p.at_zero;
      at-input = λ x l. p.at-input x l ∙ inputs x l;
      at-latch = λ x l. p.at-latch x l ∙ latches x l;
      at_read = p.at_read;
      at-gate = p.at-gate;
    })
    (evaluate-solves c input' latch' read' q) w h tt

-- a table has the value of every code
pub code_in : (c : Netlist) {v : Values} {table : List Bool} → HasBelow (last_wire c + 1) v table → (x : ℕ) → IsCode c x
    → code_value (entry table) x ≡ code_value v x
code_in c q x h = code_below q x (omega arith)

-- the address and the word written too
module _ {c : Netlist} (limits : WithinLimits c) {v : Values} {table : List Bool} (q : HasBelow (last_wire c + 1) v table) where
  pub address-in : (p : ℕ) → IsPort c p → address_of c (port c p) (entry table) ≡ address_of c (port c p) v
  address-in p here =
      address_same c (port c p) (entry table) v (λ t h. code_in c q ((port c p).address t) (limits.codes.address-fits p here t h))

  pub word_in : word_written c (entry table) ≡ word_written c v
  unfolding word_written
  word_in = from_bits-same c.n _ _ (λ t h. code_in c q (c.write_data t) (limits.codes.data-fits t h))

-- the read bits in a table of all wires
pub reads_in : {c : Netlist} → CodesFit c → (input latch : ℕ → Bool) (word : ℕ) {table : List Bool}
    → HasBelow (last_wire c + 1) (evaluate c input latch (bit word)) table → (t : ℕ) → t < read_bits c → bit word t ≡ entry table (read_wire c t)
reads_in {c} q input latch word has t h =
    sym (has.has (read_wire c t) (omega arith) ∙ (evaluate-solves c input latch (bit word) q).at_read t h)

-- 0 has no bit
bit-zero : (t : ℕ) → bit 0 t ≡ false
unfolding bit odd
bit-zero t = rw zero-div

module _ {c : Netlist} (limits : WithinLimits c) {s : State} {f : ℕ → Bool} {latches inputs : List Bool} {memory : List ℕ} {word : ℕ}
    (held : HoldsState c s latches memory word) (fed : Fed c f inputs) where
  -- the first pass
  pub first_alike : (w : ℕ) → w ≤ last_wire c → evaluate c (entry inputs) (entry latches) (bit 0) w ≡ first_pass c s f w
  unfolding first_pass
  first_alike = evaluate-alike limits.codes fed.input-fed held.latch-held (λ t h. bit-zero t)

  -- what is read by its table
  module _ {table : List Bool} (q : HasBelow (last_wire c + 1) (evaluate c (entry inputs) (entry latches) (bit 0)) table) where
    first-in : HasBelow (last_wire c + 1) (first_pass c s f) table
    first-in = below-same q (λ w h. first_alike w (omega arith))

    read_alike : (r : ℕ) → r < read_bits c → read_data c (state_in [] memory word) (entry table) r ≡ read_data c s (first_pass c s f) r
    read_alike =
        each-bit c (λ r. read_data c (state_in [] memory word) (entry table) r ≡ read_data c s (first_pass c s f) r)
        (λ p here t h.
        read_data-port c p here (state_in [] memory word) (entry table) t h
        ∙ rw (
          code_in c first-in (port c p).RE (limits.codes.RE-fits p here),
          address-in limits first-in p here,
          held.memory-held (address_of c (port c p) (first_pass c s f)) (address_below c (port c p) (first_pass c s f)),
          held.word_held ((port c p).first_read + t) (bit-within c p here t h),
        ) (sym (read_data-port c p here s (first_pass c s f) t h)))

    -- the second pass
    pub frame-alike : (read : ℕ) → ((t : ℕ) → t < read_bits c → bit read t ≡ read_data c (state_in [] memory word) (entry table) t)
        → (w : ℕ) → w ≤ last_wire c → evaluate c (entry inputs) (entry latches) (bit read) w ≡ frame c s f w
    unfolding frame
    frame-alike read e = evaluate-alike limits.codes fed.input-fed held.latch-held (λ t h. e t h ∙ read_alike t h)

-- the memory behind the 2^m words stays
pub behind-memory_after : (c : Netlist) (v : Values) (memory : List ℕ) → drop (2 ^ c.m) (memory_after c v memory) ≡ drop (2 ^ c.m) memory
unfolding memory_after
behind-memory_after c v memory = either (code_value v c.WE)
  where
    either : (b : Bool) → drop (2 ^ c.m) (cond b (set memory (write_address c v) (word_written c v)) memory) ≡ drop (2 ^ c.m) memory
    either true = drop-set-lt (2 ^ c.m) memory (write_address c v) (word_written c v) (address_below c (port c 1) v)
    either false = refl

length-memory_after : (c : Netlist) (v : Values) (memory : List ℕ) → length (memory_after c v memory) ≡ length memory
unfolding memory_after
length-memory_after c v memory = either (code_value v c.WE)
  where
    either : (b : Bool) → length (cond b (set memory (write_address c v) (word_written c v)) memory) ≡ length memory
    either true = length-set memory (write_address c v) (word_written c v)
    either false = refl

-- after the write and the step of the latches, the next state is held, with the word that was read
pub step-holds : {c : Netlist} → WithinLimits c → {s : State} {v : Values} {table : List Bool} → HasBelow (last_wire c + 1) v table
    → {latches next : List Bool} {memory : List ℕ} {word read : ℕ} → HoldsState c s latches memory word → length next ≡ 600
    → ((l : ℕ) → l < c.latches → entry next l ≡ code_value (entry table) (c.next l))
    → ((t : ℕ) → t < read_bits c → bit read t ≡ entry table (read_wire c t))
    → HoldsState c (step c s v) next (memory_after c (entry table) memory) read
unfolding step memory_after
step-holds {c} limits {s} {v} {table} q {latches} {next} {memory} held size each reads =
    record {
      latch-size = size;
      latch-held = λ l h. each l h ∙ code_in c q (c.next l) (limits.codes.next_fits l h);
      memory-size = omega (arith, held.memory-size, length-memory_after c (entry table) memory);
      memory-held = λ x h.
          rw (code_in c q c.WE limits.codes.WE-fits, address-in limits q 1 (first-port c), word_in limits q) (at x h (code_value v c.WE));
      word_held = λ t h. reads t h ∙ q.has (read_wire c t) (omega arith);
    }
  where
    at : (x : ℕ) → x < 2 ^ c.m → (b : Bool)
        → get_or (cond b (set memory (write_address c v) (word_written c v)) memory) x 0
        ≡ cond (b && eqb x (write_address c v)) (word_written c v) (s.memory x)
    at x h false = held.memory-held x h
    at x h true =
        by_cases (ℕ_discrete x (write_address c v))
        (λ e. rw (eq-eqb x _ e, e) (get_or-set_same memory (write_address c v) (word_written c v) 0 (omega (arith, held.memory-size, address_below c (port c 1) v))))
        (λ e. rw (ne_eqb x _ e) (get_or-set_other memory (write_address c v) x (word_written c v) 0 e ∙ held.memory-held x h))

-- the lists of a record have no part in what is held and fed, and the latches none in a frame
module _ (r : Record.Netlist) (latches gates latches' gates' : List ℕ) where
  pub holds-lists : {s : State} {table : List Bool} {memory : List ℕ} {word : ℕ} → HoldsState (net_of r latches gates) s table memory word
      → HoldsState (net_of r latches' gates') s table memory word
  unfolding net_of
  holds-lists q = record { latch-size = q.latch-size; latch-held = q.latch-held; memory-size = q.memory-size; memory-held = q.memory-held; word_held = q.word_held }

  pub fed-lists : {f : ℕ → Bool} {inputs : List Bool} → Fed (net_of r latches gates) f inputs → Fed (net_of r latches' gates') f inputs
  unfolding net_of
  fed-lists q = record { input-fed = q.input-fed }

-- a table with its first l entries, and one more
pub set_next : {f : ℕ → Bool} {l : ℕ} (table : List Bool) {b : Bool} → l < 600 → length table ≡ 600 → ((x : ℕ) → x < l → entry table x ≡ f x)
    → b ≡ f l → (x : ℕ) → x < l + 1 → entry (set table l b) x ≡ f x
set_next {f} {l} table {b} h size before e x k =
    by_cases (ℕ_discrete x l)
    (λ at. rw at (get_or-set_same table l b false (omega arith) ∙ e))
    (λ at. get_or-set_other table l x b false at ∙ before x (omega arith))

module _ (r : Record.Netlist) (latches gates : List ℕ) where
  sweep-lists : (v : Values) (g w : ℕ) → sweep conjunction (net_of r [] gates) v g w ≡ sweep conjunction (net_of r latches gates) v g w
  unfolding net_of sweep conjunction code_value
  sweep-lists v zero w = refl
  sweep-lists v (suc g) w = rw (sweep-lists v g w, sweep-lists v g (get_or gates (2 * g) 0 / 2), sweep-lists v g (get_or gates (2 * g + 1) 0 / 2))

  pub evaluate-lists : (input latch read : ℕ → Bool) (w : ℕ) → evaluate (net_of r [] gates) input latch read w ≡ evaluate (net_of r latches gates) input latch read w
  unfolding net_of evaluate sources
  evaluate-lists input latch read w = sweep-lists (sources (net_of r latches gates) input latch read) r.gates w

  first-lists : (s : State) (f : ℕ → Bool) (w : ℕ) → first_pass (net_of r [] gates) s f w ≡ first_pass (net_of r latches gates) s f w
  unfolding first_pass
  first-lists s f = evaluate-lists f s.latch (λ t. false)

  read-lists : (s : State) (f : ℕ → Bool) (t : ℕ) → t < read_bits (net_of r latches gates)
      → read_data (net_of r [] gates) s (first_pass (net_of r [] gates) s f) t ≡ read_data (net_of r latches gates) s (first_pass (net_of r latches gates) s f) t
  unfolding net_of read_data address_of
  read-lists s f =
      let c = net_of r latches gates in
      let same : (x : ℕ) → code_value (first_pass (net_of r [] gates) s f) x ≡ code_value (first_pass c s f) x
      = λ x. code_same (first_pass (net_of r [] gates) s f) (first_pass c s f) x (first-lists s f (x / 2))
      in
      read_data-same c s (first_pass (net_of r [] gates) s f) (first_pass c s f)
      (λ p here. (
        address_same c (port c p) (first_pass (net_of r [] gates) s f) (first_pass c s f) (λ t h. same ((port c p).address t)),
        same (port c p).RE,
      ))

  pub frame-lists : WithinLimits (net_of r latches gates) → (s : State) (f : ℕ → Bool) (w : ℕ) → w ≤ last_wire (net_of r latches gates)
      → frame (net_of r [] gates) s f w ≡ frame (net_of r latches gates) s f w
  unfolding frame
  frame-lists limits s f w h =
      evaluate-lists f s.latch (read_data (net_of r [] gates) s (first_pass (net_of r [] gates) s f)) w
      ∙ evaluate-alike limits.codes (λ x l. refl) (λ l b. refl) (read-lists s f) w h
