-- Depth k uses exactly the variables 1 to B(k + 1) (RULES V6): each of them is numbered. No contract
-- cites this file.
use Prim.Native.Nat.{ℕ, zero, suc, ◌+◌, ◌-◌, ◌*◌, ◌/◌, ◌%◌, ◌≤◌, ◌<◌}
use mathlib.Core.Path.{◌≡◌}
use native.Mathlib.Nat.{div-lt_iff_lt-mul, div-add-mod', mod-lt}
use native.Mathlib.Decide.{dec_le}
use native.Mathlib.Omega.{arith}
use Rattle.model.specs.Netlist.{Netlist, port, last_wire}
use Rattle.model.specs.Variables.{stride, base, Numbered, constant, wire, pair}
use Rattle.model.proofs.Variables.{base-zero, base-suc, pair_base-base}

-- what a depth numbers, a greater one numbers alike
deeper : (c : Netlist) (k v : ℕ) → Numbered c k v → Numbered c (suc k) v
deeper c k v (constant e) = constant e
deeper c k v (wire i w b lo hi e) = wire i w (omega arith) lo hi e
deeper c k v (pair j i x l b lo hi e) = pair j i x l (omega arith) lo hi e

-- behind the wires of frame k its pairs follow one after the other
in_pair : (c : Netlist) (k v y : ℕ) → y < k * stride c → v ≡ base c k + last_wire c + y + 1 → Numbered c k v
in_pair c k v y b e =
    let positive : 0 < stride c = omega arith in
    let whole = div-add-mod' y (stride c) in
    let rest = mod-lt y positive in
    pair (y / stride c) k (y % stride c + 1) ((div-lt_iff_lt-mul positive).1 b) (omega arith) (omega arith) (omega arith)
    (omega (arith, pair_base-base c (port c 1) (y / stride c) k))

in_frame : (c : Netlist) (k v : ℕ) → base c k < v → v ≤ base c (suc k) → Numbered c k v
in_frame c k v lo hi = go (dec_le v (base c k + last_wire c))
  where
    go : Dec (v ≤ base c k + last_wire c) → Numbered c k v
    go (yes h) = wire k (v - base c k) (omega arith) (omega arith) (omega arith) (omega arith)
    go (no h) =
        in_pair c k v (v - base c k - last_wire c - 1) (omega (arith, base-suc c k)) (omega arith)

pub numbered : (c : Netlist) (k v : ℕ) → 1 ≤ v → v ≤ base c (suc k) → Numbered c k v
numbered c zero v lo hi = go (dec_le v (base c 0))
  where
    go : Dec (v ≤ base c 0) → Numbered c 0 v
    go (yes h) = constant (omega (arith, base-zero c))
    go (no h) = in_frame c 0 v (omega arith) hi
numbered c (suc k) v lo hi = go (dec_le v (base c (suc k))) (numbered c k v lo)
  where
    go : Dec (v ≤ base c (suc k)) → (v ≤ base c (suc k) → Numbered c k v) → Numbered c (suc k) v
    go (yes h) before = deeper c k v (before h)
    go (no h) before = in_frame c (suc k) v (omega arith) hi
