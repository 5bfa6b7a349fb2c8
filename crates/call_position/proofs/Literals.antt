-- Laws of specs/Literals.antt: what a literal call has shown, and that the inverse of a code has the negated literal. No contract cites this
-- file.
use Prim.Native.Nat.{ℕ, zero, suc, ◌+◌, ◌-◌, ◌*◌, ◌/◌, ◌%◌, ◌≤◌}
use mathlib.Core.Path.{◌≡◌, refl, sym, ◌∙◌, ap, subst}
use mathlib.Core.Logic.{by_cases}
use native.Mathlib.Decide.{ℕ_discrete}
use native.Mathlib.Omega.{arith}
use lib.Dec.{ltb}
use lib.IntN.{ℤ, neg_ℤ}
use borrow.Author.Tests.{ltb-false, le-ltb, eq-eqb, ne_eqb}
use Rattle.std.specs.Prelude.{Ok, Err}
use Rattle.refusals.specs.Verdict.{Verdict, Passed}
use Rattle.model.specs.Bits.{odd}
use Rattle.model.specs.Netlist as M
use Rattle.model.specs.Netlist.{last_wire}
use Rattle.model.specs.Clauses.{neg}
use Rattle.model.specs.Acceptance.{SizesFit, IsCode}
use Rattle.model.specs.Variables.{base, code_at, code_in}
use Rattle.model.specs.Numbers.{literal_number}
use Rattle.model.proofs.Numbers.{literal_number-neg}
use Rattle.refusals.specs.declared.Refusal.TheVariants.{Size, CodeOutside}
use Rattle.refusals.proofs.Table.{refusal_number-some}
use Rattle.refusals.proofs.Tests.{refuse_if-passes, then-passes}
use Rattle.netlist.specs.Faults.{size_fault}
use Rattle.netlist.proofs.Faults.{sizes-fit}
use Rattle.netlist_tests.specs.Record.{test_lines}
use Rattle.netlist_tests.proofs.Record.{test_lines-passes}
use Rattle.literals.proofs.Literal.{code_at-inverted, code_at-wire}
use Rattle.call_unpacked.proofs.Calls.{depth-passes}
use Rattle.call_position.specs.Positions.{test_frame}
use Rattle.call_position.specs.Literals.{numbering_verdict, literal_verdict, with_literal, literal_sent, inverse, InverseNegated}
use Rattle.call_position.specs.declared.Position.{Position}
use Rattle.call_position.specs.declared.LiteralReply.{LiteralReply}
use Rattle.call_position.proofs.Positions.{frame-shown}

-- the sizes fit where their tests pass
pub sizes-shown : (c : M.Netlist) → test_lines c Size size_fault ≡ Passed → SizesFit c
sizes-shown c h = (sizes-fit c).0 ((test_lines-passes c Size size_fault).0 h)

-- and where that of the depth does too
pub numbering-shown : (c : M.Netlist) (k : ℕ) → numbering_verdict c k ≡ Passed → SizesFit c × (k ≤ 255)
unfolding numbering_verdict
numbering-shown c k h =
    let a = (then-passes (test_lines c Size size_fault) _).0 h in
    (sizes-shown c a.0, depth-passes k a.1)

-- what a literal call that is not refused has shown
pub literal-shown : (c : M.Netlist) (p : Position) (x : ℕ) → literal_verdict c p x ≡ Passed
    → SizesFit c × (p.frame ≤ 255) × (p.base ≡ base c p.frame) × IsCode c x
unfolding literal_verdict
literal-shown c p x h =
    let a = (then-passes (numbering_verdict c p.depth) _).0 h in
    let b = numbering-shown c p.depth a.0 in
    let d = (then-passes (test_frame c p p.frame) _).0 a.1 in
    let f = frame-shown c p p.frame d.0 in (
      b.0,
      omega (arith, f.0, b.1),
      f.1,
      ltb-false (2 * last_wire c + 1) x ((refuse_if-passes (ltb (2 * last_wire c + 1) x) CodeOutside 0).0 d.1),
    )

-- the inverse of an odd code, and of an even one
inverse-odd : (x : ℕ) → x % 2 ≡ 1 → inverse x ≡ x - 1
unfolding inverse odd
inverse-odd x o = rw (eq-eqb (x % 2) 1 o)

inverse-even : (x : ℕ) → (x % 2 ≡ 1 → ⊥) → inverse x ≡ x + 1
unfolding inverse odd
inverse-even x o = rw (ne_eqb (x % 2) 1 o)

-- in a frame it is the code's negation: a constant's, and a wire's
constant-inverse : (b : ℕ) → (code_at b (inverse 0) ≡ neg (code_at b 0)) × (code_at b (inverse 1) ≡ neg (code_at b 1))
unfolding inverse odd code_at neg
constant-inverse b = (refl, refl)

wire-inverse : (b x : ℕ) → 2 ≤ x → code_at b (inverse x) ≡ neg (code_at b x)
unfolding neg
wire-inverse b x h =
    by_cases (ℕ_discrete (x % 2) 1)
    (λ o.
    rw (inverse-odd x o, code_at-wire b (x - 1) (omega arith) (λ e. omega arith), code_at-inverted b x h o)
    (let same : (x - 1) / 2 ≡ x / 2 = omega arith in rw same))
    (λ o.
    rw (inverse-even x o, code_at-inverted b (x + 1) (omega arith) (omega arith), code_at-wire b x h o)
    (let same : (x + 1) / 2 ≡ x / 2 = omega arith in rw same))

code_at-inverse : (b x : ℕ) → code_at b (inverse x) ≡ neg (code_at b x)
code_at-inverse b zero = (constant-inverse b).0
code_at-inverse b (suc zero) = (constant-inverse b).1
code_at-inverse b (suc (suc x)) = wire-inverse b (suc (suc x)) (omega arith)

-- and it is a code of the netlist where the code is
inverse-code : (c : M.Netlist) (x : ℕ) → IsCode c x → IsCode c (inverse x)
inverse-code c x h =
    by_cases (ℕ_discrete (x % 2) 1) (λ o. rw (inverse-odd x o) (omega arith)) (λ o. rw (inverse-even x o) (omega arith))

module _ (c : M.Netlist) (p : Position) (x : ℕ) where
  -- so its literal is refused where the code's is
  inverse-passes : literal_verdict c p x ≡ Passed → literal_verdict c p (inverse x) ≡ Passed
  unfolding literal_verdict
  inverse-passes h =
      let a = (then-passes (numbering_verdict c p.depth) _).0 h in
      let d = (then-passes (test_frame c p p.frame) _).0 a.1 in
      let most = 2 * last_wire c + 1 in
      let fits = inverse-code c x (ltb-false most x ((refuse_if-passes (ltb most x) CodeOutside 0).0 d.1)) in
      (then-passes (numbering_verdict c p.depth) _).1 (
        a.0,
        (then-passes (test_frame c p p.frame) _).1
            (d.0, (refuse_if-passes (ltb most (inverse x)) CodeOutside 0).1 (le-ltb most (inverse x) fits)),
      )

  -- and answered as the negated number
  inverse-negated : InverseNegated c p x (literal_sent c p x)
  unfolding literal_sent with_literal
  inverse-negated = (code_at-inverse (base c p.frame) x, sent (literal_verdict c p x) refl)
    where
      number : ℤ
      number = literal_number (code_in c p.frame x)

      sent : (v : Verdict) → literal_verdict c p x ≡ v → (with_literal v number).number ≡ 0
          → with_literal (literal_verdict c p (inverse x)) (literal_number (code_in c p.frame (inverse x)))
          ≡ record { number = 0; place = 0; literal = neg_ℤ (with_literal v number).literal }
      sent (Ok _) e h =
          rw (inverse-passes e)
          (ap (with_literal Passed) (ap literal_number (code_at-inverse (base c p.frame) x) ∙ literal_number-neg (code_in c p.frame x)))
      sent (Err f) e h = absurd (omega (arith, refusal_number-some f.0))

-- so of any reply that is what is sent
pub sent-negated : (c : M.Netlist) (p : Position) (x : ℕ) {r : LiteralReply} → r ≡ literal_sent c p x
    → record { answer : r ≡ literal_sent c p x; inverse : InverseNegated c p x r }
sent-negated c p x e = record { answer = e; inverse = subst (InverseNegated c p x) (sym e) (inverse-negated c p x) }
