-- Demand 3, the correctness of the encoding in both directions (`Encodes`), and the theorem (`EncodingTheorem`).
-- RULES A2 to A4, A6, A7, A10, A12 to A16 and H2.
--
-- `Satisfies c k a`: the assignment a makes every clause true that stands in the numbers written for depth k.
-- First direction: whatever assignment does so, there is a state that a run may begin in, the word held being frame 0's read bits, from
-- which the assignment's inputs, fed frame by frame to the circuit with its whole memory, drive every wire of every frame 0 to k as
-- assigned, and break the property in one; where the initial word is given, every such state is one.
-- Second direction: for every run, whatever state that a run may begin in it starts from and whatever it is fed, that breaks the property
-- in some frame 0 to k, there is an assignment that does so and agrees with the run on every wire of every frame 0 to k.
-- Without the first a solver's answer could be no run of the chip; without the second a fault could go unfound.
-- The theorem says so of every accepted netlist and every depth; its proof is `encodes` in proofs/Claim.antt. Cited by the contracts of
-- `heading` and `read`.
use Rattle.std.specs.Prelude.{ℕ, ◌+◌, ◌≤◌, ◌<◌, ◌≡◌, Bool, true, false, List, [], ◌∷◌, ◌⊎◌, ℤ, pos, negsuc, nat_abs, length, get_or}
use Rattle.model.specs.Netlist.{Netlist, is_unknown, start, ports, read_bits, input_wire, read_wire, last_wire}
use Rattle.model.specs.Circuit.{State, Feeds, code_value, run, Starts}
use Rattle.model.specs.Acceptance.{Accepted}
use Rattle.model.specs.Variables.{base, Numbered}
use Rattle.model.specs.Groups.{in_depth}
use Rattle.model.specs.Numbers.{Assignment, numbers_of, formula, clauses_in, all_true}
use Rattle.model.specs.Counts.{clause_count, number_count}
use Rattle.model.specs.declared.Group.{Group}

unfoldable pub Satisfies : Netlist → ℕ → Assignment → Type 0
Satisfies c k a = all_true a (clauses_in (formula c k)) ≡ true

-- what an assignment feeds in frame i, its input variables; and its idle word, frame 0's read-bit variables, of every port (RULES A12)
unfoldable pub feed_of : Netlist → Assignment → Feeds
feed_of c a i x = a (base c i + input_wire c x)

unfoldable pub idle_of : Netlist → Assignment → ℕ → Bool
idle_of c a t = a (base c 0 + read_wire c t)

-- a state that a run may begin in, with that idle word
abbrev pub StartsAs : Netlist → Assignment → State → Type 0
StartsAs c a s = Starts c s × ((t : ℕ) → t < read_bits c → s.held t ≡ idle_of c a t)

-- the assignment and the run from state s agree on every wire of every frame from 0 to k (RULES A6)
unfoldable pub Agrees : Netlist → State → ℕ → Assignment → Feeds → Type 0
Agrees c s k a f = (i : ℕ) → i ≤ k → (w : ℕ) → 1 ≤ w → w ≤ last_wire c → a (base c i + w) ≡ run c s f i w

-- the run from state s breaks the property in at least one frame from 0 to k (RULES A7): P is false there (a counterexample; AIGER's "bad"
-- is ¬P)
unfoldable pub Breaks : Netlist → State → ℕ → Feeds → Type 0
Breaks c s k f = (i : ℕ) × (i ≤ k) × (code_value (run c s f i) c.P ≡ false)

-- from whatever state a run may begin in, and whatever it is fed, the property holds in every frame from 0 to k; and in every frame (RULES A16 and H2)
abbrev pub Safe : Netlist → ℕ → Type 0
Safe c k = (s : State) → Starts c s → (f : Feeds) (i : ℕ) → i ≤ k → code_value (run c s f i) c.P ≡ true

abbrev pub SafeForever : Netlist → Type 0
SafeForever c = (k : ℕ) → Safe c k

-- demand 3 (RULES A13, A15 and A14)
pub record Encodes (c : Netlist) (k : ℕ) : Type 0 where
  pub assignment→run : (a : Assignment) → Satisfies c k a
      → (s : State) × StartsAs c a s × Agrees c s k a (feed_of c a) × Breaks c s k (feed_of c a)
  pub given→run : is_unknown (start c) ≡ false → (a : Assignment) → Satisfies c k a
      → (s : State) → StartsAs c a s → Agrees c s k a (feed_of c a) × Breaks c s k (feed_of c a)
  pub run→assignment : (s : State) → Starts c s → (f : Feeds) → Breaks c s k f → (a : Assignment) × Satisfies c k a × Agrees c s k a f

-- The theorem: `encodes` in proofs/Claim.antt is of this type.
abbrev pub EncodingTheorem : Type 0
EncodingTheorem = (c : Netlist) → Accepted c → (k : ℕ) → Encodes c k

-- a clause, as it is written behind the first: the single -1, or at least one number, and none is 1 or -1 (RULES G28 and G29)
abbrev pub NoConstant : List ℤ → Type 0
NoConstant zs = (zs ≡ negsuc 0 ∷ []) ⊎ ((1 ≤ length zs) × ((y : ℕ) → y < length zs → 2 ≤ nat_abs (get_or zs y (pos 0))))

-- What else is said of the clauses of a depth. An assignment is of the variables from 1 to B(k + 1) (RULES A3): no other matters, each of
-- them is numbered, and every number of every group is one of them, negative or not, or an end mark. Where no assignment satisfies the clauses, no run breaks
-- the property: this is what a designer relies on. Each clause behind the first, (1), is without constants, and one that is left empty is
-- written as -1 (`no-constants`). A group has at most as many clauses and numbers as RULES G35 and G36 count.
pub record Stated (c : Netlist) (k : ℕ) : Type 0 where
  pub only-numbered : (a a' : Assignment) → ((v : ℕ) → 1 ≤ v → v ≤ base c (k + 1) → a v ≡ a' v) → Satisfies c k a → Satisfies c k a'
  pub all-numbered : (v : ℕ) → 1 ≤ v → v ≤ base c (k + 1) → Numbered c k v
  pub numbers-within : (g : Group) → in_depth (ports c) k g ≡ true → (x : ℕ) → nat_abs (get_or (numbers_of c k g) x (pos 0)) ≤ base c (k + 1)
  pub unsatisfiable→safe : ((a : Assignment) → Satisfies c k a → ⊥) → Safe c k
  pub clauses-counted : (g : Group) → in_depth (ports c) k g ≡ true → length (clauses_in (numbers_of c k g)) ≤ clause_count c k g
  pub numbers-counted : (g : Group) → length (numbers_of c k g) ≤ number_count c k g
  pub no-constants : (x : ℕ) → 1 ≤ x → x < length (clauses_in (formula c k)) → NoConstant (get_or (clauses_in (formula c k)) x [])

-- likewise: `stated` in proofs/Stated.antt
abbrev pub StatedTheorem : Type 0
StatedTheorem = (c : Netlist) → Accepted c → (k : ℕ) → Stated c k
