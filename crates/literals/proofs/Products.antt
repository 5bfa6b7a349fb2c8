-- Bounds of B(i) within the limits (RULES W8 to W10). No contract cites this file.
use Prim.Native.Nat.{ℕ, ◌-◌, ◌*◌, ◌≤◌}
use native.Mathlib.Nat.{mul-le-mul}
use native.Mathlib.Omega.{arith}
use Rattle.literals.specs.Numbering.{NumberingFits, base_of}
use Rattle.literals.specs.declared.Numbering.{Numbering}

-- the products in B(i)
pub record Products (x : Numbering) (i : ℕ) : Type 0 where
  pub wires-product : i * x.wires ≤ 153600
  pub stride-product : x.stride * i ≤ 8192
  pub pairs-product : x.stride * i * (i - 1) ≤ 2088960

pub products : (x : Numbering) (i : ℕ) → NumberingFits x i → Products x i
products x i h =
    let stride-product : x.stride * i ≤ 32 * 256 = mul-le-mul h.stride_most h.frame-most in
    let before : i - 1 ≤ 255 = omega arith in
    record {
      wires-product = mul-le-mul h.frame-most h.wires-most;
      stride-product = stride-product;
      pairs-product = mul-le-mul stride-product before;
    }

-- the most (RULES V6)
pub base_of-most : (x : Numbering) (i : ℕ) → NumberingFits x i → base_of x.wires x.stride i ≤ 1198081
unfolding base_of
base_of-most x i h = omega (arith, products x i h)

-- the variables of the pairs before pair (j, i)
pub pairs-most : (x : Numbering) (j i : ℕ) → NumberingFits x i → j ≤ i → j * x.stride ≤ 8192
pairs-most x j i h l = let frame : j ≤ 256 = omega arith in mul-le-mul frame h.stride_most
