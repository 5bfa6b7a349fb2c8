-- B(i) and Q as code computes them, from V and a pair's number of variables; and the sizes for which B(i) is at most 1,198,081 (RULES V6), and Q below
-- 2^31. Cited by `base` and `pair_base`.
use Rattle.std.specs.Prelude.{ℕ, ◌+◌, ◌-◌, ◌*◌, ◌/◌, ◌≤◌}
use Rattle.literals.specs.declared.Numbering.{Numbering}

-- V and m within their limits (RULES W9 and W8), and a frame from 0 to k + 1 (RULES W10)
pub record NumberingFits (x : Numbering) (i : ℕ) : Type 0 where
  pub wires-most : x.wires ≤ 600
  pub stride_most : x.stride ≤ 32
  pub frame-most : i ≤ 256

-- B(i) (RULES V2), `base` of a netlist
unfoldable pub base_of : ℕ → ℕ → ℕ → ℕ
base_of wires stride i = 1 + i * wires + stride * i * (i - 1) / 2

-- Q of pair (j, i) (RULES V4 and V8), at a port whose first variable of a pair is `first`: `pair_base` of a netlist
unfoldable pub pair_base_of : ℕ → ℕ → ℕ → ℕ → ℕ → ℕ
pair_base_of wires stride first j i = base_of wires stride i + wires + j * stride + first
