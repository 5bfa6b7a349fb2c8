-- The clauses of an address bit are those of two equalities. No contract cites this file.
use mathlib.Core.Path.{◌≡◌, refl}
use mathlib.Core.Bool.{true, false}
use mathlib.Core.List.{◌++◌}
use Rattle.model.specs.Clauses.{Literal, known, plus, minus, neg, same_if_clauses, bit_clauses}

neg-neg : (a : Literal) → neg (neg a) ≡ a
unfolding neg
neg-neg (known true) = refl
neg-neg (known false) = refl
neg-neg (plus v) = refl
neg-neg (minus v) = refl

-- x = y where E is true, and x = ¬y where e is false
pub bit-parts : (E e x y : Literal) → bit_clauses E e x y ≡ same_if_clauses E (neg x) (neg y) ++ same_if_clauses (neg e) (neg x) y
unfolding bit_clauses same_if_clauses
bit-parts E e x y = rw (neg-neg e, neg-neg x, neg-neg y)
