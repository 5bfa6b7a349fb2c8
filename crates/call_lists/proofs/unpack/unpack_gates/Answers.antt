-- `call_lists::unpack::unpack_gates` meets its contract: a turn unpacks one record more.
use Rattle.std.proofs.Common.{◌≡◌, ◌∙◌, length, sym, ap, arith}
use Rattle.call_lists.specs.Unpacked.{gate_codes}
use Rattle.call_lists.specs.Unpacking.{no_gate, span_of}
use Rattle.call_lists.specs.declared.GateEntry.{GateEntry}
use Rattle.call_lists.proofs.Unpacked.{unpacked_to, unpacked_to-none, unpacked_to-next, unpacked_to-all, span-within}
use Rattle.call_lists.proofs.unpack.unpack_gates.Goals as goal

pub loop-g-init : goal.loop-g-init
loop-g-init c = sym (unpacked_to-none (λ (x : GateEntry). x.left.0) (λ (x : GateEntry). x.right.0) c.args.gates.now c.args.codes.now)

pub unpack_gate-requires : goal.unpack_gate-requires
unpack_gate-requires c =
    let w = span-within (length c.args.gates.now) in
    (omega (arith, c.span-g-end.ensures), omega (arith, c.span-g-end.ensures))

pub loop-g-preserved : goal.loop-g-preserved
loop-g-preserved c =
    let w = span-within (length c.args.gates.now) in
    rw (c.unpack_gate.ensures, c.loop-g.invariant)
    (unpacked_to-next (λ (x : GateEntry). x.left.0) (λ (x : GateEntry). x.right.0) c.args.gates.now no_gate c.args.codes.now c.loop-g.g
    (omega (arith, c.span-g-end.ensures)) (omega (arith, c.told-codes)))

pub returns : goal.returns
unfolding gate_codes
returns c =
    let all : c.loop-g.g ≡ span_of (length c.args.gates.now) = omega (arith, c.span-g-end.ensures) in
    c.loop-g.invariant
    ∙ ap (unpacked_to (λ (x : GateEntry). x.left.0) (λ (x : GateEntry). x.right.0) c.args.gates.now c.args.codes.now) all
    ∙ unpacked_to-all (λ (x : GateEntry). x.left.0) (λ (x : GateEntry). x.right.0) c.args.gates.now c.args.codes.now
