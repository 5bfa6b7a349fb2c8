-- `call_lists::unpack::unpack_latches` meets its contract: a turn unpacks one record more.
use Rattle.std.proofs.Common.{◌≡◌, ◌∙◌, length, sym, ap, arith}
use Rattle.call_lists.specs.Unpacked.{latch_codes}
use Rattle.call_lists.specs.Unpacking.{no_latch, span_of}
use Rattle.call_lists.specs.declared.LatchEntry.{LatchEntry}
use Rattle.call_lists.proofs.Unpacked.{unpacked_to, unpacked_to-none, unpacked_to-next, unpacked_to-all, span-within}
use Rattle.call_lists.proofs.unpack.unpack_latches.Goals as goal

pub loop-l-init : goal.loop-l-init
loop-l-init c = sym (unpacked_to-none (λ (x : LatchEntry). x.next.0) (λ (x : LatchEntry). x.reset) c.args.latches.now c.args.codes.now)

pub unpack_latch-requires : goal.unpack_latch-requires
unpack_latch-requires c =
    let w = span-within (length c.args.latches.now) in
    (omega (arith, c.span-l-end.ensures), omega (arith, c.span-l-end.ensures))

pub loop-l-preserved : goal.loop-l-preserved
loop-l-preserved c =
    let w = span-within (length c.args.latches.now) in
    rw (c.unpack_latch.ensures, c.loop-l.invariant)
    (unpacked_to-next (λ (x : LatchEntry). x.next.0) (λ (x : LatchEntry). x.reset) c.args.latches.now no_latch c.args.codes.now c.loop-l.l
    (omega (arith, c.span-l-end.ensures)) (omega (arith, c.told-codes)))

pub returns : goal.returns
unfolding latch_codes
returns c =
    let all : c.loop-l.l ≡ span_of (length c.args.latches.now) = omega (arith, c.span-l-end.ensures) in
    c.loop-l.invariant
    ∙ ap (unpacked_to (λ (x : LatchEntry). x.next.0) (λ (x : LatchEntry). x.reset) c.args.latches.now c.args.codes.now) all
    ∙ unpacked_to-all (λ (x : LatchEntry). x.next.0) (λ (x : LatchEntry). x.reset) c.args.latches.now c.args.codes.now
