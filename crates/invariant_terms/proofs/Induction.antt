-- Induction over the frames of a run: what holds of every state at the start and is kept holds in every frame. No contract cites this file.
use Prim.Native.Nat.{ℕ, zero, suc}
use mathlib.Core.Path.{◌≡◌}
use mathlib.Core.Bool.{Bool, true}
use Rattle.model.specs.Netlist.{Netlist}
use Rattle.model.specs.Circuit.{State, Feeds, code_value, frame, step, state_at, run, Starts}
use Rattle.model.specs.Claim.{SafeForever}

-- an inductive invariant: it holds at the start, and where it holds, P does, and the step keeps it
pub record Inductive (c : Netlist) (I : State → Type 0) : Type 0 where
  pub at-start : (s : State) → Starts c s → I s
  pub property : (s : State) → I s → (input : ℕ → Bool) → code_value (frame c s input) c.P ≡ true
  pub kept : (s : State) → I s → (input : ℕ → Bool) → I (step c s (frame c s input))

module _ (c : Netlist) (I : State → Type 0) (q : Inductive c I) where
  holds_at : (s : State) → Starts c s → (f : Feeds) (i : ℕ) → I (state_at c s f i)
  unfolding state_at
  holds_at s b f zero = q.at-start s b
  holds_at s b f (suc i) = q.kept (state_at c s f i) (holds_at s b f i) (f i)

  pub inductive→forever : SafeForever c
  unfolding run
  inductive→forever k s b f i h = q.property (state_at c s f i) (holds_at s b f i) (f i)
