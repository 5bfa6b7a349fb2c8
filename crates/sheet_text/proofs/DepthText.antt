-- An input whose depth line passes is that line and what stands behind it (specs/SheetText.antt). No contract cites this file.
use Prim.Native.Nat.{ℕ}
use mathlib.Core.Path.{◌≡◌, refl, sym, ◌∙◌, ap, ap₂}
use mathlib.Core.Bool.{Bool, true, false, cond, ◌&&◌, true≢false}
use mathlib.Core.List.{List, ◌∷◌, ◌++◌}
use native.Mathlib.Omega.{arith}
use lib.Dec.{eqb, leb}
use lib.ListN.{length, get_or, take, drop, take-append-drop}
use lib.Seq.{length-take-le, drop-cons}
use borrow.Author.Tests.{eqb-true, leb-true}
use Rattle.refusals.specs.Verdict.{Passed}
use Rattle.model.proofs.Booleans.{and-true}
use Rattle.refusals.specs.declared.Refusal.TheVariants.{Misprint}
use Rattle.refusals.proofs.Tests.{refuse_if-passes, first_passes}
use Rattle.decimal.specs.Digits.{line_feed, field}
use Rattle.sheet_fields.specs.Fields.{field_of}
use Rattle.sheet_fields.specs.declared.Field.{Field}
use Rattle.sheet_fields.specs.declared.Field.TheVariants.{Empty, Filled, Misprinted}
use Rattle.sheet_fields.proofs.Fields.{field-field_of}
use Rattle.sheet_lines.specs.Lines.{value_of}
use Rattle.sheet_lines.specs.Depth.{depth_field, field_verdict, depth_verdict, with_depth, depth_line}

-- a field that passes has a number
filled : (f : Field) → field_verdict f ≡ Passed → f ≡ Filled (value_of f)
unfolding field_verdict
filled Empty e = absurd (true≢false ((refuse_if-passes true Misprint 0).0 (first_passes _ _ e)))
filled (Filled x) e = refl
filled Misprinted e = absurd (true≢false ((refuse_if-passes true Misprint 0).0 (first_passes _ _ e)))

-- then it stands in the first ten columns, with a line feed behind it
whole : (b : Bool) (f : Field) (x : ℕ) → cond b f Misprinted ≡ Filled x → (b ≡ true) × (f ≡ Filled x)
whole true f x e = (refl, e)
whole false f x e = absurd (true≢false (sym (ap is_filled e)))
  where
    is_filled : Field → Bool
    is_filled Empty = false
    is_filled (Filled x) = true
    is_filled Misprinted = false

text_of : (s : List ℕ) (k : ℕ) → depth_field s ≡ Filled k → s ≡ field k ++ line_feed ∷ drop 11 s
unfolding depth_field
text_of s k e =
    let read = whole (leb 11 (length s) && eqb (get_or s 10 0) line_feed) (field_of (take 10 s)) k e in
    let both = (and-true (leb 11 (length s)) (eqb (get_or s 10 0) line_feed)).0 read.0 in
    let long = leb-true 11 (length s) both.0 in
    let text = (field-field_of (take 10 s) k (length-take-le 10 s (omega arith)) read.1).0 in
    let behind : drop 10 s ≡ line_feed ∷ drop 11 s = drop-cons s 10 0 (omega arith) ∙ ap (λ (x : ℕ). x ∷ drop 11 s) (eqb-true (get_or s 10 0) line_feed both.1) in
    sym (take-append-drop 10 s) ∙ ap₂ ◌++◌ text behind

depth_is : (s : List ℕ) → depth_verdict s ≡ Passed → value_of (depth_field s) ≡ (depth_line s).depth
unfolding depth_line with_depth
depth_is s e = rw e

pub depth-text : (s : List ℕ) → depth_verdict s ≡ Passed → s ≡ field (depth_line s).depth ++ line_feed ∷ drop 11 s
unfolding depth_verdict
depth-text s e = text_of s (depth_line s).depth (filled (depth_field s) e ∙ ap Filled (depth_is s e))
