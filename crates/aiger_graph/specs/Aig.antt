-- An and-inverter graph as AIGER has it (the format report of 2007), however it is numbered and written: an ASCII text, a binary file, a
-- record. What it says of the values of its variables, as equations; and when two graphs have the same values, in order (RULES I9, X5 and X8). Cited by
-- aiger_graph/specs/RecordAig, and by what is said of a text that is imported and of a file that is exported.
use Rattle.std.specs.Prelude.{ℕ, ◌<◌, ◌≡◌, Bool}
use Rattle.model.specs.Circuit.{Values, code_value}
use Rattle.model.specs.Network.{Network, Obeys}

pub record Aig : Type 0 where
  pub inputs : ℕ
  pub latches : ℕ
  pub outputs : ℕ
  -- the variables of inputs and latches
  pub input_variable : ℕ → ℕ
  pub latch_variable : ℕ → ℕ
  -- the next codes of latches, and the outputs
  pub next : ℕ → ℕ
  pub output : ℕ → ℕ
  -- the gates
  pub network : Network

-- values of the variables, where inputs and latches are as given
pub record AigValues (a : Aig) (input latch : ℕ → Bool) (v : Values) : Type 0 where
  pub gates-obeyed : Obeys a.network v
  pub at-input : (x : ℕ) → x < a.inputs → v (a.input_variable x) ≡ input x
  pub at-latch : (l : ℕ) → l < a.latches → v (a.latch_variable l) ≡ latch l

-- as many of each
pub record SameCounts (a b : Aig) : Type 0 where
  pub inputs-same : a.inputs ≡ b.inputs
  pub latches-same : a.latches ≡ b.latches
  pub outputs-same : a.outputs ≡ b.outputs
  pub gates-same : a.network.gates ≡ b.network.gates

-- one graph: the same variables and codes, as far as there are some
pub record SameAig (a b : Aig) : Type 0 where
  pub counts_same : SameCounts a b
  pub input-same : (x : ℕ) → x < a.inputs → a.input_variable x ≡ b.input_variable x
  pub latch-same : (l : ℕ) → l < a.latches → a.latch_variable l ≡ b.latch_variable l
  pub next-same : (l : ℕ) → l < a.latches → a.next l ≡ b.next l
  pub output-same : (o : ℕ) → o < a.outputs → a.output o ≡ b.output o
  pub own_same : (g : ℕ) → g < a.network.gates → a.network.own g ≡ b.network.own g
  pub left-same : (g : ℕ) → g < a.network.gates → a.network.left g ≡ b.network.left g
  pub right-same : (g : ℕ) → g < a.network.gates → a.network.right g ≡ b.network.right g

-- each input, latch, gate, next state and output, in order, has in one graph, where u are the values, the value that it has in the other,
-- where v are
pub record SameInOrder (a b : Aig) (u v : Values) : Type 0 where
  pub counts_same : SameCounts a b
  pub input-same : (x : ℕ) → x < a.inputs → u (a.input_variable x) ≡ v (b.input_variable x)
  pub latch-same : (l : ℕ) → l < a.latches → u (a.latch_variable l) ≡ v (b.latch_variable l)
  pub gate_same : (g : ℕ) → g < a.network.gates → u (a.network.own g) ≡ v (b.network.own g)
  pub next-same : (l : ℕ) → l < a.latches → code_value u (a.next l) ≡ code_value v (b.next l)
  pub output-same : (o : ℕ) → o < a.outputs → code_value u (a.output o) ≡ code_value v (b.output o)
