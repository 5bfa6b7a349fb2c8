-- Laws of specs/Depth.antt: the depth line's field, and what a depth that passes has shown. No contract cites this file.
use Prim.Native.Nat.{ℕ, ◌≤◌, ◌<◌}
use mathlib.Core.Path.{◌≡◌, refl}
use mathlib.Core.Bool.{Bool, true, false}
use mathlib.Core.List.{List}
use borrow.Author.Tests.{le-leb, lt-leb, ltb-false, leb-true, leb-false, eq-eqb, ne_eqb}
use lib.Dec.{leb, ltb}
use lib.ListN.{length, get_or, take}
use Rattle.std.specs.Prelude.{Ok, Err}
use Rattle.refusals.specs.Verdict.{Verdict, Passed}
use Rattle.refusals.specs.Tests.{◌then◌}
use Rattle.refusals.specs.declared.Refusal.TheVariants.{Depth}
use Rattle.refusals.proofs.Tests.{refused-not-passed, refuse_if-passes, rest-passes}
use Rattle.decimal.specs.Digits.{line_feed}
use Rattle.sheet_fields.specs.Fields.{field_of}
use Rattle.sheet_fields.specs.declared.Field.{Field}
use Rattle.sheet_fields.specs.declared.Field.TheVariants.{Misprinted}
use Rattle.sheet_lines.specs.Lines.{value_of}
use Rattle.sheet_lines.specs.Depth.{depth_field, field_verdict, depth_verdict, with_depth, depth_line}

-- eleven bytes or more with a line feed in the eleventh: ten columns
pub depth_field-columns : (s : List ℕ) → 11 ≤ length s → get_or s 10 0 ≡ line_feed → depth_field s ≡ field_of (take 10 s)
unfolding depth_field
depth_field-columns s l f = rw (le-leb 11 (length s) l, eq-eqb (get_or s 10 0) line_feed f)

-- fewer bytes, and no line feed, are of the wrong form
pub depth_field-short : (s : List ℕ) → length s < 11 → depth_field s ≡ Misprinted
unfolding depth_field
depth_field-short s l = rw (lt-leb 11 (length s) l)

pub depth_field-no-feed : (s : List ℕ) → 11 ≤ length s → (get_or s 10 0 ≡ line_feed → ⊥) → depth_field s ≡ Misprinted
unfolding depth_field
depth_field-no-feed s l n = rw (le-leb 11 (length s) l, ne_eqb (get_or s 10 0) line_feed n)

-- the depth beside a verdict does not change it
with_depth-verdict : (v : Verdict) (f : Field) → (with_depth v f).verdict ≡ v
unfolding with_depth
with_depth-verdict (Ok _) f = refl
with_depth-verdict (Err e) f = refl

pub depth_line-verdict : (s : List ℕ) → (depth_line s).verdict ≡ depth_verdict s
unfolding depth_line
depth_line-verdict s = with_depth-verdict (depth_verdict s) (depth_field s)

-- a depth that passes is at most 255
passed-value : (f : Field) → field_verdict f ≡ Passed → value_of f ≤ 255
unfolding field_verdict
passed-value f h = ltb-false 255 (value_of f) ((refuse_if-passes (ltb 255 (value_of f)) Depth 0).0 (rest-passes _ _ h))

pub passed-most : (s : List ℕ) → depth_verdict s ≡ Passed → (depth_line s).depth ≤ 255
unfolding depth_line with_depth depth_verdict
passed-most s h = rw h (passed-value (depth_field s) h)

-- and stands in an input of at least eleven bytes
pub passed-long : (s : List ℕ) → depth_verdict s ≡ Passed → 11 ≤ length s
unfolding depth_verdict field_verdict ◌then◌
passed-long s h = by_length (leb 11 (length s)) refl
  where
    by_length : (b : Bool) → leb 11 (length s) ≡ b → 11 ≤ length s
    by_length true e = leb-true 11 (length s) e
    by_length false e =
        absurd (refused-not-passed (rw (depth_field-short s (leb-false 11 (length s) e)) at h))
