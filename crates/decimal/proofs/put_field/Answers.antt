-- `decimal::put_field` meets its contract: spaces, and then the digits at the end of them.

use Prim.Native.Nat.{ℕ}
use mathlib.Core.Path.{◌≡◌, sym, ap, ◌∙◌}
use mathlib.Core.List.{List}
use lib.ListN.{length, take, drop, replicate}
use lib.Seq.{take-append_seam, drop-append_seam}
use Rattle.decimal.specs.Digits.{digits, space, field}
use Rattle.decimal.specs.WroteAtEnd.{at_end}
use Rattle.decimal.proofs.Digits.{length-digits-ten, length-field}
use Rattle.decimal.proofs.WroteAtEnd.{field-filled}
use Rattle.decimal.proofs.put_field.Goals as goal
use Rattle.decimal.proofs.put_field.Goals.{After-put_spaces}

-- the part that is lent is ten spaces
spaces : (c : After-put_spaces) → take 10 c.put_spaces.new.out ≡ replicate 10 space
spaces c = ap (λ (s : List ℕ). take 10 s) c.put_spaces.ensures.leaves ∙ take-append_seam (replicate 10 space) (drop 10 c.args.out.now)

pub fill_digits-requires : goal.fill_digits-requires
fill_digits-requires c =
    rw (spaces (goal.at.fill_digits-requires c).After-put_spaces) (length-digits-ten c.args.x c.ranges.x.fits)

pub returns : goal.returns
returns c =
    let x : ℕ = c.args.x in
    let old : List ℕ = c.args.out.now in
    let ten : length (field x) ≡ 10 = length-field x c.ranges.x.fits in
    let all : c.fill_digits.new.out ≡ field x = c.fill_digits.ensures.leaves ∙ ap (at_end (digits x)) (spaces (goal.at.returns c).After-put_spaces) ∙ field-filled x (length-digits-ten x c.ranges.x.fits) in
    let behind : drop 10 c.put_spaces.new.out ≡ drop 10 old =
    ap (λ (s : List ℕ). drop 10 s) c.put_spaces.ensures.leaves ∙ drop-append_seam (replicate 10 space) (drop 10 old) in
    record { counted = sym ten; leaves = rw (all, behind, ten) }
