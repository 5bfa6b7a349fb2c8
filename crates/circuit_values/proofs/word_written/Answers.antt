-- `circuit_values::word_written` meets its contract: the word's bits are the first n write-data codes.

use native.Mathlib.Omega.{arith}
use Rattle.model.specs.Circuit.{word_written}
use Rattle.netlist.specs.NetOf.{net_of}
use Rattle.circuit_values.proofs.word_written.Goals as goal

pub code_bits-requires : goal.code_bits-requires
unfolding net_of
code_bits-requires c = (
  omega (arith, c.requires.sizes),
  omega (arith, c.requires.sizes),
  λ t h. omega (arith, c.requires.sizes, c.requires.codes.data-fits t h),
)

pub returns : goal.returns
unfolding net_of word_written
returns c = c.code_bits.ensures
