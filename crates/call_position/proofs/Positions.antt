-- Laws of specs/Positions.antt: what its tests show. No contract cites this file.
use Prim.Native.Nat.{ℕ, ◌≤◌}
use mathlib.Core.Path.{◌≡◌}
use mathlib.Core.Bool.{not}
use mathlib.Core.List.{List}
use lib.Dec.{eqb, ltb}
use borrow.Author.Tests.{eq-eqb, eqb-true, le-ltb, ltb-false, not-false}
use Rattle.refusals.specs.Verdict.{Passed}
use Rattle.model.specs.Netlist as M
use Rattle.model.specs.Variables.{base}
use Rattle.refusals.specs.Tests.{refuse_if, ◌then◌}
use Rattle.refusals.specs.declared.Refusal.TheVariants.{NoSuchGroup, WrongBase}
use Rattle.refusals.proofs.Tests.{refuse_if-passes, then-passes}
use Rattle.netlist.specs.NetOf.{net_of, alone}
use Rattle.netlist.specs.declared.Netlist.{Netlist}
use Rattle.netlist.proofs.NetOf.{base-lists}
use Rattle.call_position.specs.Positions.{test_base, test_frame, Stands}
use Rattle.call_position.specs.declared.Position.{Position}

-- what a test that passes has shown
pub frame-shown : (c : M.Netlist) (p : Position) (i : ℕ) → test_frame c p i ≡ Passed → (i ≤ p.depth) × (p.base ≡ base c p.frame)
unfolding test_frame test_base
frame-shown c p i h =
    let a = (then-passes (refuse_if (ltb p.depth i) NoSuchGroup 0) _).0 h in (
      ltb-false p.depth i ((refuse_if-passes (ltb p.depth i) NoSuchGroup 0).0 a.0),
      eqb-true p.base (base c p.frame) (not-false _ ((refuse_if-passes (not (eqb p.base (base c p.frame))) WrongBase 0).0 a.1)),
    )

-- a record that stands on its frame passes
pub stands-passes : (c : M.Netlist) (p : Position) → Stands c p → test_frame c p p.frame ≡ Passed
unfolding test_frame test_base ◌then◌
stands-passes c p h = rw (le-ltb p.depth p.frame h.there, eq-eqb p.base (base c p.frame) h.stored)

-- lists have no part in it
pub test_frame-lists : (net : Netlist) (latches gates : List ℕ) (p : Position) (i : ℕ)
    → test_frame (alone net) p i ≡ test_frame (net_of net latches gates) p i
unfolding test_frame test_base
test_frame-lists net latches gates p i = rw (base-lists net latches gates p.frame)
