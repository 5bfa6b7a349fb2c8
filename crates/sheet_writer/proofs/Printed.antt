-- Laws of specs/Printed.antt: its letter is one of the table's, and its text is that of the line due. No contract cites this file.
use Prim.Native.Nat.{◌<◌}
use mathlib.Core.Path.{◌≡◌, refl}
use mathlib.Core.Bool.{Bool, true, false, cond}
use native.Mathlib.Omega.{arith}
use lib.Dec.{eqb}
use Rattle.model.specs.Netlist.{Netlist}
use Rattle.netlist.specs.declared.Line.{Line}
use Rattle.netlist.specs.declared.Line.TheVariants as Due
use Rattle.sheet_lines.specs.Letters.{row_of}
use Rattle.sheet_lines.specs.declared.Kind.TheVariants.{Memory, TwoPorts}
use Rattle.sheet_text.specs.PrintedAt.{printed_at}
use Rattle.sheet_writer.specs.Printed.{printed_line, printed_text}

-- a line's letter is one of the table's
pub known-row : (c : Netlist) (x : Line) → row_of (printed_line c x).kind < 10
unfolding printed_line
known-row c Due.Sizes = omega arith
known-row c Due.Memory = by-ports (eqb c.second_port 0)
  where
    by-ports : (one : Bool) → row_of (cond one Memory TwoPorts) < 10
    by-ports true = omega arith
    by-ports false = omega arith
known-row c (Due.Latch l) = omega arith
known-row c (Due.Gate g) = omega arith
known-row c (Due.Address t) = omega arith
known-row c (Due.WriteData t) = omega arith
known-row c (Due.SecondAddress t) = omega arith
known-row c Due.SecondEnable = omega arith
known-row c Due.Control = omega arith

-- its text is the line due
pub printed-due : (c : Netlist) (x : Line) → printed_text (printed_line c x) ≡ printed_at c x
unfolding printed_line printed_text printed_at
printed-due c Due.Sizes = refl
printed-due c Due.Memory = refl
printed-due c (Due.Latch l) = refl
printed-due c (Due.Gate g) = refl
printed-due c (Due.Address t) = refl
printed-due c (Due.WriteData t) = refl
printed-due c (Due.SecondAddress t) = refl
printed-due c Due.SecondEnable = refl
printed-due c Due.Control = refl
