-- `circuit_step::read_words` meets its contract, port by port.

use Prim.Native.Nat.{ℕ, ◌+◌, ◌<◌}
use mathlib.Core.Path.{◌≡◌, ◌∙◌, ap}
use mathlib.Core.List.{[]}
use native.Mathlib.Omega.{arith}
use Rattle.model.specs.Bits.{bit}
use Rattle.model.specs.Netlist.{port}
use Rattle.model.specs.Circuit.{read_data}
use Rattle.model.proofs.Ports.{second-port, by-port, each-bit}
use Rattle.netlist.specs.NetOf.{net_of, alone}
use Rattle.netlist.specs.WireTable.{entry}
use Rattle.circuit_step.specs.Held.{state_in}
use Rattle.circuit_step.proofs.read_words.Goals as goal

pub returns-then-net-eq0 : goal.returns-then-net-eq0
unfolding net_of
returns-then-net-eq0 c =
    let d = alone c.args.net in
    let read : ℕ → _ = read_data d (state_in [] c.args.memory.now c.args.held) (entry c.args.values.now) in
    each-bit d (λ x. bit c.read_word-first.result x ≡ read x)
    (by-port c.requires.0.sizes (λ p. (t : ℕ) → t < d.n → bit c.read_word-first.result ((port d p).first_read + t) ≡ read ((port d p).first_read + t))
    (λ t h. let e : (port d 1).first_read + t ≡ t = omega arith in ap (bit c.read_word-first.result) e ∙ c.read_word-first.ensures t h)
    (λ second. absurd (omega (arith, second, c.if-net-eq0.true))))

pub read_word-second-requires : goal.read_word-second-requires
unfolding net_of
read_word-second-requires c =
    (c.requires.0, c.requires.1, second-port (alone c.args.net) (omega (arith, c.if-net-eq0.false)))

pub two_words-requires : goal.two_words-requires
unfolding net_of
two_words-requires c = c.requires.0.sizes.n-most

pub returns : goal.returns
unfolding net_of
returns c =
    let d = alone c.args.net in
    let read : ℕ → _ = read_data d (state_in [] c.args.memory.now c.args.held) (entry c.args.values.now) in
    each-bit d (λ x. bit c.two_words.result x ≡ read x)
    (by-port c.requires.0.sizes (λ p. (t : ℕ) → t < d.n → bit c.two_words.result ((port d p).first_read + t) ≡ read ((port d p).first_read + t))
    (λ t h. let e : (port d 1).first_read + t ≡ t = omega arith in ap (bit c.two_words.result) e ∙ (c.two_words.ensures t h).0 ∙ c.read_word-first.ensures t h)
    (λ second t h. let e : (port d 2).first_read + t ≡ d.n + t = omega arith in ap (bit c.two_words.result) e ∙ (c.two_words.ensures t h).1 ∙ c.read_word-second.ensures t h))
