-- `invariant_start::next` meets its contract.

use native.Mathlib.Omega.{arith}
use mathlib.Core.Path.{◌≡◌, sym, ap, ◌∙◌}
use borrow.Author.Tests.{eq-eqb, ne_eqb}
use Rattle.decimal.proofs.Signed.{read_back}
use Rattle.text_writer.specs.Signed.{parts_of}
use Rattle.text_writer.specs.declared.Parts.{Parts}
use Rattle.netlist.specs.NetOf.{net_of, alone}
use Rattle.invariant_terms.specs.StateBits.{state_count}
use Rattle.invariant_start.specs.Progress.{progress}
use Rattle.invariant_axioms.proofs.Parts.{ends, goes_on}
use Rattle.invariant_start.proofs.Numbers.{outside, inside}
use Rattle.invariant_start.proofs.next.Goals as goal

pub returns-then-state-eq2 : goal.returns-then-state-eq2
unfolding progress
returns-then-state-eq2 c =
    let is : c.parts_of-parts.result ≡ parts_of c.args.z = rw (read_back c.args.z c.ranges.z) at c.parts_of-parts.ensures in
    let value = ap (λ (p : Parts). p.value) is in
    rw (ends c.args.z (sym value ∙ c.if-parts-eq0.true), eq-eqb c.args.state 2 c.if-state-eq2.true)

pub returns-then-parts-eq0 : goal.returns-then-parts-eq0
unfolding progress
returns-then-parts-eq0 c =
    let is : c.parts_of-parts.result ≡ parts_of c.args.z = rw (read_back c.args.z c.ranges.z) at c.parts_of-parts.ensures in
    let value = ap (λ (p : Parts). p.value) is in
    rw (ends c.args.z (sym value ∙ c.if-parts-eq0.true), ne_eqb c.args.state 2 c.if-state-eq2.false)

pub returns-then-b-parts : goal.returns-then-b-parts
unfolding progress net_of state_count
returns-then-b-parts c =
    let is : c.parts_of-parts.result ≡ parts_of c.args.z = rw (read_back c.args.z c.ranges.z) at c.parts_of-parts.ensures in
    let value = ap (λ (p : Parts). p.value) is in
    rw (goes_on c.args.z (λ e. c.if-parts-eq0.false (value ∙ e)), outside (state_count (alone c.args.net)) c.args.z (omega (arith, value, c.requires.1, c.if-b-parts.true)))

pub returns-then-number_starts : goal.returns-then-number_starts
unfolding progress net_of state_count
returns-then-number_starts c =
    let is : c.parts_of-parts.result ≡ parts_of c.args.z = rw (read_back c.args.z c.ranges.z) at c.parts_of-parts.ensures in
    let value = ap (λ (p : Parts). p.value) is in
    rw (goes_on c.args.z (λ e. c.if-parts-eq0.false (value ∙ e)), inside (state_count (alone c.args.net)) c.args.z (omega (arith, value, c.requires.1, c.if-b-parts.false)), sym (rw (read_back c.args.z c.ranges.z) at c.number_starts.ensures) ∙ c.if-number_starts.true)

pub returns : goal.returns
unfolding progress net_of state_count
returns c =
    let is : c.parts_of-parts.result ≡ parts_of c.args.z = rw (read_back c.args.z c.ranges.z) at c.parts_of-parts.ensures in
    let value = ap (λ (p : Parts). p.value) is in
    rw (goes_on c.args.z (λ e. c.if-parts-eq0.false (value ∙ e)), inside (state_count (alone c.args.net)) c.args.z (omega (arith, value, c.requires.1, c.if-b-parts.false)), sym (rw (read_back c.args.z c.ranges.z) at c.number_starts.ensures) ∙ c.if-number_starts.false)
