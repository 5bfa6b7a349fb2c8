-- `invariant_check::certify_forever` meets its contract: the sheet's refusal is sent, or what comes of its netlist; and what is certified holds.

use mathlib.Core.Path.{refl, sym, ap, ◌∙◌}
use mathlib.Core.List.{[]}
use lib.ListN.{length}
use Rattle.netlist.proofs.NetOf.{sizes-lists}
use Rattle.sheet_tests.proofs.Codes.{passed-sheet}
use Rattle.sheet_steps.proofs.Records.{verdict-is, holds}
use Rattle.refutation_depth.specs.declared.CertificateReply.{CertificateReply}
use Rattle.invariant_check.proofs.Certificate.{refused-sent, refused-kept, taken-sent, taken-store, taken-scratch, certified-forever}
use Rattle.invariant_check.proofs.certify_forever.Goals as goal

pub returns-in-Err : goal.returns-in-Err
returns-in-Err c =
    let read = c.read_codes-sheet.ensures in
    let v = sym (verdict-is read) ∙ c.in-Err.is in
    let sent = refused-sent c.args.file.now c.args.invariant.now c.args.requests.now c.args.lemmas.now _ _ v c.args.hints.now (length c.args.store.now) (length c.args.marks.now) in
    let is = c.refused.ensures ∙ (rw (sym c.number.ensures) at sent) in record {
      answer = is;
      certified = λ e. certified-forever c.args.file.now c.args.invariant.now c.args.requests.now c.args.lemmas.now c.args.hints.now (length c.args.store.now) (length c.args.marks.now) (sym (ap (λ (r : CertificateReply). r.certified) is) ∙ e);
      store = refused-kept c.args.file.now c.args.invariant.now c.args.requests.now c.args.lemmas.now _ _ v c.args.store.now;
      marks = refl;
    }

pub certify_net-requires : goal.certify_net-requires
certify_net-requires c =
    let file = c.args.file.now in
    let read = c.read_codes-sheet.ensures in
    let v = sym (verdict-is read) ∙ c.in_default.is in
    let sizes = rw (sym (holds read v).net-is) at (passed-sheet file 600 600 v).0.limits.sizes in
    sizes-lists _ _ _ [] [] sizes

pub returns : goal.returns
returns c =
    let read = c.read_codes-sheet.ensures in
    let v = sym (verdict-is read) ∙ c.in_default.is in
    let told = rw (holds read v).net-is at c.certify_net.ensures in
    let is = told.answer ∙ taken-sent c.args.file.now c.args.invariant.now c.args.requests.now c.args.lemmas.now v c.args.hints.now (length c.args.store.now) (length c.args.marks.now) in record {
      answer = is;
      certified = λ e. certified-forever c.args.file.now c.args.invariant.now c.args.requests.now c.args.lemmas.now c.args.hints.now (length c.args.store.now) (length c.args.marks.now) (sym (ap (λ (r : CertificateReply). r.certified) is) ∙ e);
      store = told.store ∙ taken-store c.args.file.now c.args.invariant.now c.args.requests.now c.args.lemmas.now v c.args.store.now;
      marks = rw (← taken-scratch c.args.file.now c.args.invariant.now c.args.requests.now c.args.lemmas.now v (length c.args.store.now) (length c.args.marks.now)) told.marks;
    }
