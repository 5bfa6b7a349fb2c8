-- `sheet_one_port::one_record` meets its contract.

use Prim.Native.Nat.{ℕ, ◌≤◌}
use mathlib.Core.Path.{◌≡◌, refl, sym}
use native.Mathlib.Omega.{arith}
use Rattle.model.specs.OnePort.{one_port}
use Rattle.netlist.specs.NetOf.{net_of, alone}
use Rattle.sheet_one_port.proofs.OneCode.{code-before}
use Rattle.sheet_one_port.proofs.one_record.Goals as goal

pub returns : goal.returns
unfolding net_of one_port
returns c =
    let net = c.args.net in
    record {
      sizes-same = refl;
      next-same = λ l b. code-before (alone net) 0 (omega arith);
      reset-same = λ l b. refl;
      left-same = λ g b. code-before (alone net) 0 (omega arith);
      right-same = λ g b. code-before (alone net) 0 (omega arith);
      address_same = λ p here t b. rw (only p here.0 here.1) (sym (c.renumber_codes.ensures t (omega (arith, c.requires.m-most))));
      data-same = λ t b. sym (c.renumber_codes-2.ensures t (omega (arith, c.requires.n-most)));
      WE-same = sym c.one_code-one.ensures;
      RE-same = λ p here. rw (only p here.0 here.1) (sym c.one_code-one-2.ensures);
      P-same = sym c.one_code-one-3.ensures;
    }
  where
    only : (p : ℕ) → 1 ≤ p → p ≤ 1 → p ≡ 1
    only p lo hi = omega arith
