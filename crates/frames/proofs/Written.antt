-- Laws of specs/Written.antt: pieces written one behind the other. Cited by the functions of `frames` that print.
use Rattle.std.proofs.Common.{◌≡◌, ℕ, ◌+◌, ◌-◌, ◌≤◌, Bool, List, [], ◌++◌, arith, length, take, drop, sym, ap, ◌∙◌, subst, take_all}
use lib.ListN.{length-drop}
use lib.Seq.{take-append_seam}
use Rattle.std.proofs.lemmas.List.{drop-drop}
use Rattle.std.proofs.Math.Seq.{take-add}
use Rattle.std.proofs.KnownBytes.{Appends-trans}
use Rattle.std.specs.declared.option.Option.{Option}
use Rattle.std.specs.Io.KnownBytes.{Appends}
use Rattle.frames.specs.Written.{Written}

-- the same text by another name
pub written-as : (f g : Bool) (a b : Option (List ℕ)) (xs ys : List ℕ) → Written f g a b xs → xs ≡ ys → Written f g a b ys
written-as f g a b xs ys w e last = let all = w last in (all.0, subst (Appends a b) e all.1)

-- two pieces are a text
pub written-then : (f g h : Bool) (a b c : Option (List ℕ)) (xs ys all : List ℕ) → Written f g a b xs → Written g h b c ys → xs ++ ys ≡ all → Written f h a c all
written-then f g h a b c xs ys all first second e last =
    let behind = second last in
    let before = first behind.0 in
    (before.0, subst (Appends a c) e (Appends-trans a b c xs ys before.1 behind.1))

-- a text begins with a part
pub begins : (whole part front behind : List ℕ) (n : ℕ) → whole ≡ front ++ behind → part ≡ front → n ≡ length part → part ≡ take n whole
begins whole part front behind n e same h = rw (e, same, h, same) (sym (take-append_seam front behind))

-- the bytes of a text from one place to another
abbrev pub between : ℕ → ℕ → List ℕ → List ℕ
between from to text = take (to - from) (drop from text)

pub nothing-between : (n : ℕ) (text : List ℕ) → between n n text ≡ []
nothing-between n text = let none : n - n ≡ 0 = omega arith in ap (λ (k : ℕ). take k (drop n text)) none

pub between-more : (from to more : ℕ) (text : List ℕ) → from ≤ to → between from to text ++ take more (drop to text) ≡ between from (to + more) text
between-more from to more text h =
    let k = to - from in
    let there : from + k ≡ to = omega (arith, h) in
    let longer : k + more ≡ (to + more) - from = omega (arith, h) in
    let tail : drop k (drop from text) ≡ drop to text = drop-drop k from text ∙ ap (λ (n : ℕ). drop n text) there in
    ap (λ (l : List ℕ). take k (drop from text) ++ take more l) (sym tail) ∙ sym (take-add k more (drop from text)) ∙ ap (λ (n : ℕ). take n (drop from text)) longer

pub between-all : (from to : ℕ) (text : List ℕ) → to ≡ length text → between from to text ≡ drop from text
between-all from to text e = take_all (to - from) (drop from text) (omega (arith, e, length-drop from text))
