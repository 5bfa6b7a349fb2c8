-- What each walk of a function's MIR repeats, said once. Nothing here speaks of a function or of a type of this repository.
--     tokens           the lifetimes' tokens of a signature, as an entry of a context
--     both             two facts, of nothing: an `ensures` of several clauses
--     calls-told       a call of a function that meets its clauses: from the tokens and what the arguments own, to the tokens, the
--                      result, what is said of the last values, and what the `ensures` says
--     frees_all        all locals are freed at once: in front stand each one's cell (`cell`), or room for it (`bare`), and that it
--                      dies
--     array-length     the length of the array that a `&mut` refers to
--     spot-of, within  a place within a local, where the local's type and block are known, by one equation of several locals
--     copies           operands that copy locals, each by the entry that is its cell
--     meets-of         from a walk at each choice of lifetimes and arguments to the contract
use Prim.Native.Nat.{ℕ, zero, suc}
use mathlib.Core.Path.{◌≡◌, refl, sym, ap, subst}
use mathlib.Core.List.{List, [], ◌∷◌}
use lib.ListN.{length, get_or}
use seplogic.Ra.Ura.{Ura}
use base.Fraction.{full_share}
use mir.Syntax.{Lifetime, Ty, Callee, Place, Step as PlaceStep, Opd as Operand, Body, Fn, ty_unit, place, copy, seq, call}
use mir.Val.{Val, vptr}
use base.Logic.{SProp, ent, sep, emp, id⊢, via, mono_l, mono_r, comm∗, mono∗, emp∗}
use base.Fml.{Lft, GName, Share, ftrue, fat, froom, fdies, flft}
use prog.Wp.{Env, Spot, spot_of, Calls, Loops, Tables, WpFn}
use types.Logic.{Logic, sem}
use contract.Lifetimes.{Lfts, Shares, AllOutlive, toks}
use types.Kit.{Item, ‵, raw, ◌⊛◌, some, later, mean, nth, Post, Goal, lands, runs, frees as freed, Soaks, Seq, Step, step, ◌$◌, use1, use2, split, await, pick, move, drop, feq_i, fsplit3, fjoin3}
use types.Run.{Walks, Finds, Opds, look, stop, from, load, and_then, free0, free1}
use sound.WpLaws.{FmC, WpFn-mono}
use denote.RattleType.{RattleType, owns, flat}
use denote.Laws.{Is, shows, Are, Ises, Spells, valss, Tellss}
use denote.Array.{Array}
use denote.Ref.{MutRef}
use denote.Steps.{opens, closes, peeks}
use denote.Signature.{type_at, types_at}
use denote.Triple.Bound.{Bound, passed}
use denote.Triple.Entry.{Args, Res, alive, on_entry}
use denote.Triple.Spec.{Meets, triple_of}
use denote.Triple.Statement.{Triple}
use denote.Triple.Call.{calls_from}
use denote.Triple.Clauses.{Clauses, Ended, Lasts, lasts, at_exit, closing}
use denote.Triple.Walked.{Stays, AllGo, walk_of, walked, walk_Meets}

abbrev pub tokens : {M : Type 1} (𝓤 : Ura M) (n : ℕ) → Lfts n → Shares n → Item 𝓤
tokens 𝓤 zero κs qs = ‵ ftrue
tokens 𝓤 (suc n) κs qs = ‵ (flft κs.0 qs.0) ⊛ tokens 𝓤 n κs.1 qs.1

module _ {M : Type 1} {𝓤 : Ura M} (𝓛 : Logic 𝓤) where
  open 𝓛 use {A}

  tokens-in : (n : ℕ) (κs : Lfts n) (qs : Shares n) → ent 𝓤 (mean 𝓛 (tokens 𝓤 n κs qs)) (toks 𝓛 n κs qs)
  tokens-in zero κs qs = id⊢ 𝓤 (emp 𝓤)
  tokens-in (suc n) κs qs = mono_r 𝓤 (A.lft κs.0 qs.0) (tokens-in n κs.1 qs.1)

  tokens-out : (n : ℕ) (κs : Lfts n) (qs : Shares n) → ent 𝓤 (toks 𝓛 n κs qs) (mean 𝓛 (tokens 𝓤 n κs qs))
  tokens-out zero κs qs = id⊢ 𝓤 (emp 𝓤)
  tokens-out (suc n) κs qs = mono_r 𝓤 (A.lft κs.0 qs.0) (tokens-out n κs.1 qs.1)

-- an `ensures` of several clauses
pub both : {M : Type 1} (𝓤 : Ura M) {P Q : SProp 𝓤} → ent 𝓤 (emp 𝓤) P → ent 𝓤 (emp 𝓤) Q → ent 𝓤 (emp 𝓤) (sep 𝓤 P Q)
both 𝓤 p q = via 𝓤 _ (emp∗ 𝓤 (emp 𝓤)) (mono∗ 𝓤 p q)

-- a call of a function whose `ensures` is c's: `holds` shows its `requires`
module _ {M : Type 1} {𝓤 : Ura M} {𝓛 : Logic 𝓤} {K : Type 0} {Γ : List (Item 𝓤)} {E : Env 𝓤 𝓛.H}
    {C : Calls 𝓤 𝓛.H} {Λ : Loops 𝓤 𝓛.H} {q : Post 𝓤 𝓛.H} {f : Callee} {xs : List Operand} {d : Place} {rest : Body} where
  open 𝓛 use {H}

  pub calls-told : K → FmC 𝓤 H 𝓛.laws C → (T : Ended) (c : Clauses 𝓤 T)
      → Triple 𝓤 (C f) (triple_of 𝓛 T.signature (closing 𝓛 T c))
      → (x : Bound 𝓛 T.signature) (g : (c x.0 x.3).ghost) → ent 𝓤 (emp 𝓤) ((c x.0 x.3).requires g)
      → Opds K 𝓛 ((tokens 𝓤 T.signature.lifetimes x.0
      x.1 ⊛ ‵ (owns (types_at T.signature.params x.0) x.3 x.4)) ∷ Γ) E xs (passed 𝓛 T.signature x)
      → ((v : Val) (r : Res T.signature x.0) (ws : Lasts T x.0 x.3)
      → Seq K 𝓛 (raw ((c x.0 x.3).ensures g r (at_exit T x.0 x.3 ws)) ∷ ‵ (lasts T x.0 x.3 ws) ∷
      ‵ ((type_at T.signature.result x.0).own_val r (v ∷ [])) ∷ tokens 𝓤 T.signature.lifetimes x.0 x.1 ∷ Γ)
      (lands C Λ E d v rest q))
      → Seq K 𝓛 ((tokens 𝓤 T.signature.lifetimes x.0 x.1 ⊛ ‵ (owns (types_at T.signature.params x.0) x.3
      x.4)) ∷ Γ) (runs C Λ E (seq (call f xs d) rest) q)
  calls-told t fm T c known x g holds os k =
      let n : ℕ = T.signature.lifetimes in
      let Own : SProp 𝓤 = sem 𝓛 (owns (types_at T.signature.params x.0) x.3 x.4) in
      let Entry : SProp 𝓤 = on_entry 𝓛 T.signature x.0 x.1 x.3 x.4 in
      calls_from t fm (tokens 𝓤 n x.0 x.1 ⊛ ‵ (owns (types_at T.signature.params x.0) x.3 x.4))
      (passed 𝓛 T.signature x) _
      (via 𝓤 (sep 𝓤 Entry ((c x.0 x.3).requires g))
      (via 𝓤 Entry (mono_l 𝓤 Own (tokens-in 𝓛 n x.0 x.1))
      (via 𝓤 (sep 𝓤 (emp 𝓤) Entry) (emp∗ 𝓤 Entry) (via 𝓤 _ (mono_l 𝓤 Entry holds) (comm∗ 𝓤 ((c x.0 x.3).requires g) Entry))))
      (known (x, g)))
      os (λ v.
      use1 𝓛 (later (some (λ (r : Res T.signature x.0).
      (raw (alive 𝓛 T.signature x.0 x.1) ⊛ ‵ ((type_at T.signature.result x.0).own_val r (v ∷ [])))
      ⊛ some (λ (ws : Lasts T x.0 x.3). ‵ (lasts T x.0 x.3 ws) ⊛ raw
      ((c x.0 x.3).ensures g r (at_exit T x.0 x.3 ws)))))) (id⊢ 𝓤 _) $ await t tt $ pick t (λ r.
      split t $ split t $ use1 𝓛 (tokens 𝓤 n x.0 x.1) (tokens-out 𝓛 n x.0 x.1) $ move t (2 ∷ []) $
      pick t (λ ws. split t $ move t (1 ∷ 0 ∷ 3 ∷ 2 ∷ []) $ k v r ws)))

-- the locals of E, freed in their order: a context begins with two entries for each, its cell, or room for it, and that it dies
module _ {M : Type 1} {𝓤 : Ura M} (𝓛 : Logic 𝓤) where
  open 𝓛 use {H}

  abbrev pub Freeable : Env 𝓤 H → List (Item 𝓤) → Type 2
  Freeable [] Γ = Unit {2}
  Freeable (x ∷ E) [] = (X : Type 1) → X
  Freeable (x ∷ E) (i ∷ []) = (X : Type 1) → X
  Freeable (x ∷ E) (i ∷ j ∷ Γ) =
      ent 𝓤 (sep 𝓤 (mean 𝓛 i) (mean 𝓛 j)) (sep 𝓤 (H.room x.0 x.1 0) (H.dies x.0 x.1)) × Freeable E Γ

  -- what stands behind them
  abbrev pub behind : Env 𝓤 H → List (Item 𝓤) → List (Item 𝓤)
  behind [] Γ = Γ
  behind (x ∷ E) [] = []
  behind (x ∷ E) (i ∷ []) = []
  behind (x ∷ E) (i ∷ j ∷ Γ) = behind E Γ

module _ {M : Type 1} {𝓤 : Ura M} (𝓛 : Logic 𝓤) {τ : Ty} {b : ℕ} where
  open 𝓛 use {H}

  pub cell : {v : Val} → ent 𝓤 (sep 𝓤 (mean 𝓛 (‵ (fat full_share τ b 0 v))) (H.dies τ b)) (sep 𝓤 (H.room τ b 0) (H.dies τ b))
  cell {v} = mono_l 𝓤 (H.dies τ b) (𝓛.laws.at_room τ b 0 v)

  pub bare : ent 𝓤 (sep 𝓤 (H.room τ b 0) (H.dies τ b)) (sep 𝓤 (H.room τ b 0) (H.dies τ b))
  bare = id⊢ 𝓤 _

-- one local after the other
infixr 20 ◌&◌
abbrev pub ◌&◌ : {X : Type 1} {Y : Type 2} → X → Y → X × Y
x & y = (x, y)

module _ {M : Type 1} {𝓤 : Ura M} {𝓛 : Logic 𝓤} {K : Type 0} {G : Goal 𝓤 𝓛.H} where
  open 𝓛 use {H}

  frees-by : K → (E : Env 𝓤 H) (Γ : List (Item 𝓤)) → Freeable 𝓛 E Γ → Step K 𝓛 (behind 𝓛 E Γ) G Γ (freed E G)
  frees-by t [] Γ h = free0 t
  frees-by t (x ∷ E) [] h = h _
  frees-by t (x ∷ E) (i ∷ []) h = h _
  frees-by t (x ∷ E) (i ∷ j ∷ Γ) h =
      step (λ s. use2 𝓛 (‵ (froom x.0 x.1 0) ⊛ ‵ (fdies x.0 x.1)) h.0 $ split t $ free1 t $
      frees-by t E Γ h.1 $ s)

  pub frees_all : K → {E : Env 𝓤 H} {Γ : List (Item 𝓤)} → Freeable 𝓛 E Γ → Step K 𝓛 (behind 𝓛 E Γ) G Γ (freed E G)
  frees_all t {E} {Γ} h = frees-by t E Γ h

-- a `&mut` to an array is opened for its length, and closed again
module _ {M : Type 1} {𝓤 : Ura M} {𝓛 : Logic 𝓤} {K : Type 0} {Γ : List (Item 𝓤)}
    {G : Goal 𝓤 𝓛.H} where
  pub array-length : K → Soaks G → (R : RattleType) (n : ℕ) (ℓ : Lifetime) (κ : Lft) (q : Share) (γ : GName) (b o : ℕ)
      (xs : List R.Denot)
      → (length xs ≡ n → Seq K 𝓛 (‵ ((MutRef ℓ κ (Array R n)).own_val (record { ref_ptr = (b, o); ghost_name = γ; now = xs }) (vptr b o ∷ [])) ∷
      ‵ (flft κ q) ∷ Γ) G)
      → Seq K 𝓛 (‵ ((MutRef ℓ κ (Array R n)).own_val (record { ref_ptr = (b, o); ghost_name = γ; now = xs }) (vptr b o ∷ [])) ∷ ‵ (flft κ q) ∷ Γ)
      G
  array-length t z R n ℓ κ q γ b o xs k =
      fsplit3 t $ drop t $ opens t z (Array R n) b o (λ vs. move t (1 ∷ []) $
      peeks t (Array R n) (Is (Array R n)) (shows 𝓛 (Array R n)) xs vs (λ is.
      move t (1 ∷ 0 ∷ []) $ closes t z (Array R n) xs vs b o $ feq_i t (List Val) (vptr b o ∷ []) (vptr b o ∷ []) refl $ fjoin3 t $
      k is.1.0.1))

-- one of several spots
pub spot-of : {sps sps' : List (Ty × ℕ × ℕ)} → sps ≡ sps' → (i : ℕ) → get_or sps i (ty_unit, 0, 0) ≡ get_or sps' i (ty_unit, 0, 0)
spot-of e i = ap (λ (sps : List (Ty × ℕ × ℕ)). get_or sps i (ty_unit, 0, 0)) e

module _ {M : Type 1} {𝓤 : Ura M} {𝓛 : Logic 𝓤} {K : Type 0} {Γ : List (Item 𝓤)}
    {E : Env 𝓤 𝓛.H} where
  open 𝓛 use {H}

  pub within : K → {p : ℕ} {st : List PlaceStep} {sp sp' : Spot 𝓤 H} → ◌≡◌ {A = Spot 𝓤 H} (spot_of 𝓤 H E p) sp → Walks K 𝓛 Γ E sp st sp'
      → Finds K 𝓛 Γ E (place p st) sp'
  within t {p} {st} {sp} {sp'} e w = from t (subst (λ (s : Spot 𝓤 H). Walks K 𝓛 Γ E s st sp') (sym e) w)

  pub copies : K → (n : ℕ) {p : ℕ} {s : Share} {v : Val} {xs : List Operand} {vs : List Val}
      → nth 𝓛 n Γ ≡ ‵ (fat s (spot_of 𝓤 H E p).0 (spot_of 𝓤 H E p).1 0 v) → Opds K 𝓛 Γ E xs vs
      → Opds K 𝓛 Γ E (copy (place p []) ∷ xs) (v ∷ vs)
  copies t n e os = and_then t (load t (from t (stop t)) (look t n e)) os

-- the contract, from a walk at each choice
pub meets-of : {M : Type 1} {𝓤 : Ura M} (𝓛 : Logic 𝓤) (T : Ended)
    (hs : Stays T.signature.params T.kept) → AllGo 𝓛 T.signature.lifetimes T.signature.params T.kept hs
    → (c : Clauses 𝓤 T) (𝓣 : Tables 𝓤 𝓛.H) (f : Fn) (sp : (κs : Lfts T.signature.lifetimes)
    → Spells (types_at T.signature.params κs))
    → ((κs : Lfts T.signature.lifetimes) → Tellss (types_at T.signature.params κs)
    (Ises (types_at T.signature.params κs)) (sp κs))
    → ((κs : Lfts T.signature.lifetimes) (qs : Shares T.signature.lifetimes)
    (bounds : AllOutlive T.signature.lifetimes T.signature.outlives κs) (a : Args T.signature κs) (g : (c κs a).ghost)
    → Are (types_at T.signature.params κs) (Ises (types_at T.signature.params κs)) a
    (valss (types_at T.signature.params κs) (sp κs) a)
    → ent 𝓤 (sep 𝓤 (on_entry 𝓛 T.signature κs qs a (valss (types_at T.signature.params κs) (sp κs) a))
    ((c κs a).requires g))
    (WpFn 𝓤 𝓛.H 𝓣.C 𝓣.Λ f (flat (types_at T.signature.params κs) (valss (types_at T.signature.params κs) (sp κs) a))
    ((walk_of 𝓛 T hs c).post ((κs, qs, bounds, a, valss (types_at T.signature.params κs) (sp κs) a), g))))
    → Meets 𝓛 T.signature (WpFn 𝓤 𝓛.H 𝓣.C 𝓣.Λ f) (closing 𝓛 T c)
meets-of {𝓤 = 𝓤} 𝓛 T hs gs c 𝓣 f sp tl k =
    walk_Meets 𝓛 T hs gs c (WpFn 𝓤 𝓛.H 𝓣.C 𝓣.Λ f) (WpFn-mono 𝓤 𝓛.H 𝓛.laws 𝓣 f)
    (walked 𝓛 T hs c (WpFn 𝓤 𝓛.H 𝓣.C 𝓣.Λ f) sp tl k)
