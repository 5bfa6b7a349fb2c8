-- Where a running record stands, and the tests of that (RULES R1, T8 and T16). Cited by its moves, groups and literals.
use Rattle.std.specs.Prelude.{ℕ, ◌≤◌, ◌≡◌, not, eqb, ltb}
use Rattle.refusals.specs.Verdict.{Verdict}
use Rattle.model.specs.Netlist.{Netlist}
use Rattle.model.specs.Variables.{base}
use Rattle.refusals.specs.Tests.{refuse_if, ◌then◌}
use Rattle.refusals.specs.declared.Refusal.TheVariants.{NoSuchGroup, WrongBase}
use Rattle.call_position.specs.declared.Position.{Position}

-- the record of depth k at frame i
abbrev pub at_frame : Netlist → ℕ → ℕ → Position
at_frame c k i = record { depth = k; frame = i; base = base c i }

-- a record that stands on a frame of its depth, and has that frame's base
pub record Stands (c : Netlist) (p : Position) : Type 0 where
  pub there : p.frame ≤ p.depth
  pub stored : p.base ≡ base c p.frame

-- RULES T16: "the base of a running record is not B of its frame"
unfoldable pub test_base : Netlist → Position → Verdict
test_base c p = refuse_if (not (eqb p.base (base c p.frame))) WrongBase 0

-- 8 of a frame i that must be there, then 16
unfoldable pub test_frame : Netlist → Position → ℕ → Verdict
test_frame c p i = refuse_if (ltb p.depth i) NoSuchGroup 0 then test_base c p
