-- `frames::print_header` meets its contract: the header fits into its buffer, and the output begins with it.

use Prim.Native.Nat.{ℕ, ◌≤◌}
use mathlib.Core.Path.{sym, ◌∙◌, ap}
use mathlib.Core.List.{List, ◌++◌}
use native.Mathlib.Omega.{arith}
use borrow.Author.Rules.{rules}
use lib.ListN.{length, take}
use lib.Seq.{length-take-le}
use Rattle.model.specs.Numbers.{formula}
use Rattle.netlist.specs.NetOf.{net_of}
use Rattle.dimacs.specs.Text.{clause_text}
use Rattle.group_counts.proofs.Counted.{wrote-front}
use Rattle.program_output.proofs.Printed.{taken-frames, first-stands}
use Rattle.frames.proofs.Written.{written-as, begins}
use Rattle.frames.proofs.print_header.Given.{Over}
use Rattle.frames.proofs.print_header.Goals as goal
use Rattle.frames.proofs.print_header.Goals.{After-print_header-bytes}

pub slice_bounds-text-end : goal.slice_bounds-text-end
slice_bounds-text-end g c = search rules

pub print_header-bytes-requires : goal.print_header-bytes-requires
print_header-bytes-requires g c =
    let taken = c.requires.0 in
    (rw taken.net-is taken.accepted, omega (arith, taken.depth-most), search rules)

-- so many bytes stand in front of the buffer
counted : (g : Over) (c : After-print_header-bytes g) → length (take c.print_header-bytes.result c.print_header-bytes.new.text) ≤ 28
counted g c =
    let w = c.print_header-bytes.ensures in
    omega (arith, ap length (wrote-front w.0), w.0.counted, w.1)

pub slice_bounds-write_next-end : goal.slice_bounds-write_next-end
slice_bounds-write_next-end g c = sym (length-take-le _ _ (search rules))

pub write_next-requires : goal.write_next-requires
write_next-requires g c =
    let clauses = clause_text (formula (net_of c.args.taken.net c.args.latches.now c.args.gates.now) c.args.taken.depth) in (
      first-stands _ clauses (taken-frames c.requires.0 ∙ ap (λ (t : List ℕ). t ++ clauses) (sym (wrote-front c.print_header-bytes.ensures.0))) c.requires.1,
      omega (arith, c.requires.1, counted g (goal.at.write_next-requires g c).After-print_header-bytes),
    )

pub returns : goal.returns
returns g c =
    let there = (goal.at.returns g c).After-print_header-bytes in
    let sent = c.write_next.ensures.sent in
    let front = wrote-front c.print_header-bytes.ensures.0 in
    let whole = taken-frames c.requires.0 in
    record {
      sent = (sent ∙ omega (arith, c.requires.1, ap length front), omega (arith, sent, c.requires.1, counted g there));
      written = written-as _ _ _ _ _ _ c.write_next.ensures.written (begins _ _ _ _ _ whole front (sent ∙ omega (arith, c.requires.1)));
    }
