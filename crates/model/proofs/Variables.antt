-- Laws of specs/Variables.antt: where the variables of frames and pairs start. No contract cites this file.
use Prim.Native.Nat.{ℕ, zero, suc, ◌+◌, ◌-◌, ◌*◌, ◌/◌, ◌≤◌, ◌<◌}
use mathlib.Core.Path.{◌≡◌, refl}
use native.Mathlib.Nat.{mul-suc, suc-mul, zero-mul, mul-zero, mul_comm, mul-le-mul_left, mul-le-mul_right, le_refl, add-zero, add-suc, add-sub_of_le}
use native.Mathlib.Numerals.{sub-one}
use native.Mathlib.Omega.{arith}
use borrow.Author.Tests.{eq-eqb, ne_eqb}
use Rattle.model.specs.Netlist.{Netlist, Port, ports, last_wire}
use Rattle.model.specs.Clauses.{plus}
use Rattle.model.specs.Variables.{stride, base, pair_base, code_in, none_since_of}
use Rattle.model.specs.Acceptance.{SizesFit}

-- s times i (i - 1) / 2, the number of pairs below i, grows by i times s
product-half-suc : (s i : ℕ) → s * suc i * (suc i - 1) / 2 ≡ s * i * (i - 1) / 2 + i * s
product-half-suc s zero = simp (sub-one, mul-zero, zero-mul)
product-half-suc s (suc n) = simp (sub-one, mul-suc, suc-mul, mul_comm n s) (omega arith)

-- frame 0 starts after variable 1
pub base-zero : (c : Netlist) → base c 0 ≡ 1
unfolding base
base-zero c = simp (zero-mul, mul-zero)

-- a frame has its wires, and its pairs with the frames before it
frames-suc : (wires s i : ℕ) → 1 + suc i * wires + s * suc i * (suc i - 1) / 2 ≡ 1 + i * wires + s * i * (i - 1) / 2 + wires + i * s
frames-suc wires s i = simp (product-half-suc s i, suc-mul) (omega arith)

pub base-suc : (c : Netlist) (i : ℕ) → base c (suc i) ≡ base c i + last_wire c + i * stride c
unfolding base
base-suc c i = frames-suc (last_wire c) (stride c) i

-- d frames on, a frame starts no earlier
base-add : (c : Netlist) (i d : ℕ) → base c i ≤ base c (i + d)
base-add c i zero = simp add-zero (le_refl _)
base-add c i (suc d) = let before : base c i ≤ base c (i + d) = base-add c i d in simp (add-suc, base-suc) (omega arith)

-- a frame starts after every frame before it
pub base-monotone : (c : Netlist) {i j : ℕ} → i ≤ j → base c i ≤ base c j
base-monotone c {i} {j} h = rw (add-sub_of_le h) at (base-add c i (j - i))

-- every frame starts after variable 1
pub base-least : (c : Netlist) (i : ℕ) → 1 ≤ base c i
base-least c i = omega (arith, base-zero c, base-monotone c {i = 0} {j = i} (omega arith))

-- a frame's pairs start after its wires, one after the other
pub pair_base-base : (c : Netlist) (p : Port) (j i : ℕ)
    → pair_base c p j i ≡ base c i + last_wire c + j * stride c + p.first_variable
unfolding pair_base
pair_base-base c p j i = refl

-- the variables of a pair at a port are variables of its reading frame
pub port-within : (c : Netlist) (p : Port) (j i v : ℕ) → j < i → p.first_variable + v ≤ stride c
    → pair_base c p j i + v ≤ base c (suc i)
port-within c p j i v h r =
    let before : suc j * stride c ≤ i * stride c = mul-le-mul_right (stride c) h in
    simp (pair_base-base, base-suc) (omega (arith, suc-mul j (stride c)))

-- the most (RULES V6): depth 255, 600 wires and addresses of 12 bits
base-by-ports : (c : Netlist) → SizesFit c → (i : ℕ) → i ≤ 256 → base c i ≤ 153601 + ports c * 522240
unfolding base
base-by-ports c h i l =
    let most : ports c * (c.m + 4) ≤ ports c * 16 = mul-le-mul_left (ports c) (omega (arith, h.m-most)) in
    omega (arith, base-monotone c l)

pub base-most : (c : Netlist) → SizesFit c → (i : ℕ) → i ≤ 256 → base c i ≤ 1198081
base-most c h i l = omega (arith, base-by-ports c h i l, h.kind_fits)

-- with one port
pub base-most-single : (c : Netlist) → SizesFit c → ports c ≡ 1 → (i : ℕ) → i ≤ 256 → base c i ≤ 675841
base-most-single c h one i l = omega (arith, base-by-ports c h i l)

-- `none_since_of` is RE where j = i, and else a variable of the pair
pub none_since-last : (c : Netlist) (p : Port) (i : ℕ) → none_since_of c p i i ≡ code_in c i p.RE
unfolding none_since_of
none_since-last c p i = rw (eq-eqb i i refl)

pub none_since-earlier : (c : Netlist) (p : Port) (j i : ℕ) → j < i → none_since_of c p j i ≡ plus (pair_base c p j i + c.m + 3)
unfolding none_since_of
none_since-earlier c p j i h = rw (ne_eqb j i (λ e. omega arith))

-- the variables of a pair come behind variable 1
pub pair_base-least : (c : Netlist) (p : Port) (j i : ℕ) → 1 ≤ pair_base c p j i
unfolding pair_base
pair_base-least c p j i = omega (arith, base-least c i)
