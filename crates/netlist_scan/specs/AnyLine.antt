-- Whether any line of a netlist has a fault, list by list: what a pass over the lists finds that looks for no place. Cited by the
-- functions of this crate and by `any_loop` of `netlist_tests`.
use Rattle.std.specs.Prelude.{ℕ, ◌+◌, Bool, ◌&&◌, ◌||◌, List, ltb}
use Rattle.model.specs.Netlist.{Netlist}
use Rattle.model.specs.Search.{any_below}
use Rattle.netlist.specs.NetOf.{first_at, second_at}
use Rattle.netlist.specs.Faults.{above_limit, latch_fault, gate_fault}
use Rattle.netlist.specs.declared.Line.{Line}
use Rattle.netlist.specs.declared.Line.TheVariants.{Latch, Gate, Address, WriteData, SecondAddress, SecondEnable, Control}

-- of unpacked lists: whether any of the first latches, or gates, has a number outside its limit
unfoldable pub any_latch : ℕ → List ℕ → ℕ → Bool
any_latch last latches count = any_below count (λ l. latch_fault last (first_at latches l) (second_at latches l))

unfoldable pub any_gate : ℕ → List ℕ → ℕ → Bool
any_gate first gates count = any_below count (λ g. gate_fault (first + g) (first_at gates g) (second_at gates g))

-- of the first codes of an array: whether any is above the limit
unfoldable pub any_above : ℕ → (ℕ → ℕ) → ℕ → Bool
any_above last codes count = any_below count (λ t. above_limit last (codes t))

-- what is asked of a second port does not hold where there is none
abbrev pub of_second : Netlist → Bool → Bool
of_second c has = ltb 0 c.second_port && has

-- of the codes of a second port, those of lines B and R, and of all that the record itself holds, those of lines A, D, B, R and C:
-- whether any is above the limit
unfoldable pub any_in_second : ℕ → Netlist → Bool
any_in_second last c = of_second c (any_above last c.address2 c.m || above_limit last c.RE2)

unfoldable pub any_in_record : ℕ → Netlist → Bool
any_in_record last c =
    any_above last c.address c.m
    || any_above last c.write_data c.n
    || any_in_second last c
    || (above_limit last c.WE || above_limit last c.RE || above_limit last c.P)

-- whether any line after the first two has a fault
unfoldable pub any_line : Netlist → (Netlist → Line → Bool) → Bool
any_line c fault =
    any_below c.latches (λ l. fault c (Latch l))
    || any_below c.gates (λ g. fault c (Gate g))
    || (any_below c.m (λ t. fault c (Address t))
    || any_below c.n (λ t. fault c (WriteData t))
    || of_second c (any_below c.m (λ t. fault c (SecondAddress t)) || fault c SecondEnable)
    || fault c Control)
