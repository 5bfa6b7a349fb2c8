-- What each variable of a step is, by the state in which a frame begins and the frame's values: every law that may be asked for is proved to hold of it. No
-- contract cites this file.
use Prim.Native.Nat.{ℕ, zero, suc, ◌-◌, ◌/◌, ◌%◌}
use mathlib.Core.Bool.{Bool, true, cond, not, ◌&&◌, beq}
use mathlib.Core.List.{List}
use lib.Dec.{eqb, ltb}
use lib.IntN.{ℤ}
use lib.ListN.{drop}
use Rattle.model.specs.Bits.{bit}
use Rattle.model.specs.Netlist.{Netlist, port}
use Rattle.model.specs.Circuit.{Values, State, code_value, step}
use Rattle.model.specs.Numbers.{number_true}
use Rattle.invariant_terms.specs.StateBits.{state_count}
use Rattle.invariant_terms.specs.Walk.{holds_in}
use Rattle.invariant_terms.proofs.StateBits.{state_bit, state_value}

-- whether the lowest t bits of a word are the first t of f
unfoldable pub agreeing : (ℕ → Bool) → ℕ → ℕ → Bool
agreeing f y zero = true
agreeing f y (suc t) = agreeing f y t && beq (f t) (bit y t)

-- match 32 y + 2 t + q: of port q + 1, the lowest t bits of word y's address
unfoldable pub matched : Netlist → Values → ℕ → Bool
matched c v j = agreeing (λ t. code_value v ((port c (suc (j % 2))).address t)) (j / 32) (j / 2 % 16)

unfoldable pub failing : Netlist → List ℤ → State → Bool → ℕ → Bool
failing c zs s found h = not (holds_in (number_true (state_value c s)) found (drop h zs))

unfoldable pub family_value : Netlist → List ℤ → State → Values → ℕ → ℕ → Bool
family_value c zs s v k j =
    cond (eqb k 0) (state_bit c (step c s v) j)
    (cond (eqb k 1) (v j) (cond (eqb k 2) (matched c v j) (failing c zs (step c s v) (eqb k 4) j)))

unfoldable pub step_at : Netlist → List ℤ → State → Values → ℕ → Bool
step_at c zs s v u =
    let y = u - state_count c in
    cond (ltb u (state_count c)) (state_bit c s u) (family_value c zs s v (y % 5) (y / 5))
