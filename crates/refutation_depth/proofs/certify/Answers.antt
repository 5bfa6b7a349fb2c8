-- `refutation_depth::certify` meets its contract: the input's refusal is sent, or what comes of its netlist; and what is certified holds.

use mathlib.Core.Path.{refl, sym, ◌∙◌, ap}
use native.Mathlib.Omega.{arith}
use lib.ListN.{length}
use Rattle.refutation_depth.specs.declared.CertificateReply.{CertificateReply}
use Rattle.refutation_depth.proofs.Certificate.{refused-sent, refused-kept, taken-sent, taken-store, taken-scratch, certified-input}
use Rattle.refutation_depth.proofs.certify.Goals as goal

pub returns-then-taken-ne0 : goal.returns-then-taken-ne0
returns-then-taken-ne0 c = let sent = refused-sent c.args.input.now c.read_input-taken.result c.read_input-taken.ensures.answer (λ none. omega arith) c.args.lemmas.now c.args.hints.now (length c.args.store.now) (length c.args.marks.now) in
    let is = c.refused.ensures ∙ sym sent in record {
      answer = is;
      certified = λ e. certified-input c.args.input.now c.args.lemmas.now c.args.hints.now (length c.args.store.now) (length c.args.marks.now) (sym (ap (λ (r : CertificateReply). r.certified) is) ∙ e);
      store = sym (refused-kept c.args.input.now c.read_input-taken.result c.read_input-taken.ensures.answer (λ none. omega arith) c.args.lemmas.now c.args.store.now (length c.args.marks.now));
      marks = refl;
    }

pub certify_net-requires : goal.certify_net-requires
certify_net-requires c = let t = c.read_input-taken.ensures.taken c.if-taken-ne0.false in
    (rw t.net-is t.accepted, omega (arith, t.depth-most))

pub returns : goal.returns
returns c = let t = c.read_input-taken.ensures.taken c.if-taken-ne0.false in
    let told = rw (t.net-is, t.depth_is) at c.certify_net.ensures in
    let is = told.answer ∙ sym (taken-sent c.args.input.now t.passed c.args.lemmas.now c.args.hints.now (length c.args.store.now) (length c.args.marks.now)) in record {
      answer = is;
      certified = λ e. certified-input c.args.input.now c.args.lemmas.now c.args.hints.now (length c.args.store.now) (length c.args.marks.now) (sym (ap (λ (r : CertificateReply). r.certified) is) ∙ e);
      store = told.store ∙ sym (taken-store c.args.input.now t.passed c.args.lemmas.now c.args.store.now (length c.args.marks.now));
      marks = rw (taken-scratch c.args.input.now t.passed (length c.args.lemmas.now) (length c.args.store.now) (length c.args.marks.now)) told.marks;
    }
