-- Numbers that stand outside of a loop.
use Rattle.std.proofs.Common.{Bor, ◌≡◌, ◌⊎◌, inl, inr, ℕ, zero, suc, ◌+◌, ◌<◌, ◌≤◌, ℤ, List, [], ◌∷◌, ◌++◌, length, map, slice_get, Option, Some, None, IfSome, refl, sym, ap, subst, ◌∙◌, arith}
use Rattle.std.proofs.lemmas.Bool.{cases_lt}
use Rattle.weld_data.specs.declared.kind.Kind.{Kind}
use Rattle.weld_data.specs.Value.{number}
use Rattle.weld_tree.specs.declared.sym.Sym.{Sym}
use Rattle.weld_meaning.specs.Environment.{look_for}
use Rattle.weld_meaning.specs.Evaluation.{Env}
use Rattle.weld_meaning.specs.Thing.{Thing, plain}
use Rattle.weld_eval.specs.declared.frame.Frame.{Frame}
use Rattle.weld_eval.specs.declared.frame.Frame.TheVariants as links
use Rattle.weld_eval.specs.declared.names.Names.{Names}
use Rattle.weld_eval.specs.declared.short.Short.{Short}
use Rattle.weld_eval.specs.FrameView.{env_of}
use Rattle.weld_eval.specs.NamesView.{env_of_names}
use Rattle.weld_eval.specs.ShortView.{view_short}
use Rattle.weld_eval.proofs.Below.{found_among, found_below}
use Rattle.weld_lanes.specs.Answers.{at}
use Rattle.weld_lane_form.specs.declared.making.LoopNames.{LoopNames}
use Rattle.weld_lane_rows.specs.Outside.{IsOutside, AreOutside}

-- a number that was found among the names in front
pub found_in : (r : Option Short) (f : Frame) (ns : Bor Names) (rest : Bor Frame) (s : ℕ) (t : Thing) → f ≡ links.Names ns rest → look_for s (env_of_names ns.now) ≡ Some t → IfSome r (λ n. t ≡ plain (view_short n))
    → IfSome r (λ n. look_for s (env_of f) ≡ Some (plain (view_short n)))
found_in (Some n) f ns rest s t is there h = found_among f ns rest s t is there ∙ ap (λ (x : Thing). Some x) h
found_in None f ns rest s t is there h = tt

-- or behind them
pub found_under : (r : Option Short) (f : Frame) (ns : Bor Names) (rest : Bor Frame) (s : ℕ) → f ≡ links.Names ns rest → look_for s (env_of_names ns.now) ≡ None → IfSome r (λ n. look_for s (env_of rest.now) ≡ Some (plain (view_short n)))
    → IfSome r (λ n. look_for s (env_of f) ≡ Some (plain (view_short n)))
found_under (Some n) f ns rest s is none h = found_below f ns rest s (plain (view_short n)) is none h
found_under None f ns rest s is none h = tt

-- ---- one name after another

earlier : {T : Type 0} (f : T → ℤ) (xs : List T) (x : T) (u : ℕ) → u < length xs → at (map f (xs ++ x ∷ [])) u ≡ at (map f xs) u
earlier f [] x u less = absurd (omega arith)
earlier f (y ∷ ys) x zero less = refl
earlier f (y ∷ ys) x (suc u) less = earlier f ys x u (omega arith)

latest : {T : Type 0} (f : T → ℤ) (xs : List T) (x : T) (u : ℕ) → u ≡ length xs → at (map f (xs ++ x ∷ [])) u ≡ f x
latest f [] x zero e = refl
latest f [] x (suc u) e = absurd (omega (arith, e))
latest f (y ∷ ys) x zero e = absurd (omega (arith, e))
latest f (y ∷ ys) x (suc u) e = latest f ys x u (omega (arith, e))

-- so many of the names stand for the numbers of their places
abbrev pub StandSoFar : {T : Type 0} → (T → ℤ) → LoopNames → Kind → List Sym → List T → Env → ℕ → Type 0
StandSoFar f names k syms xs env i = (u : ℕ) (s : Sym) → u < i → slice_get syms u ≡ Some s → IsOutside names s.0 × (look_for s.0 env ≡ Some (plain (number k (at (map f xs) u))))

pub one_more : {T : Type 0} (f : T → ℤ) (names : LoopNames) (k : Kind) (syms : List Sym) (xs ys : List T) (env : Env) (i : ℕ) (x : T) (n : Sym) → length xs ≡ i → ys ≡ xs ++ x ∷ [] → slice_get syms i ≡ Some n → IsOutside names n.0
    → look_for n.0 env ≡ Some (plain (number k (f x))) → StandSoFar f names k syms xs env i → StandSoFar f names k syms ys env (i + 1)
one_more f names k syms xs ys env i x n long more here outside stands before u s less q = by (cases_lt u i)
  where
    at_new : (a : ℤ) → at (map f (xs ++ x ∷ [])) u ≡ a → (look_for s.0 env ≡ Some (plain (number k a))) → look_for s.0 env ≡ Some (plain (number k (at (map f ys) u)))
    at_new a e h = h ∙ ap (λ (z : ℤ). Some (plain (number k z))) (sym e ∙ ap (λ (zs : List _). at (map f zs) u) (sym more))

    by : (u < i) ⊎ (i ≤ u) → IsOutside names s.0 × (look_for s.0 env ≡ Some (plain (number k (at (map f ys) u))))
    by (inl low) = let p = before u s low q in (p.0, at_new (at (map f xs) u) (earlier f xs x u (omega (arith, long))) p.1)
    by (inr high) =
        let same : u ≡ i = omega arith in
        let there : slice_get syms i ≡ Some s = ap (λ (j : ℕ). slice_get syms j) (sym same) ∙ q in
        let e : n ≡ s = cc in
        let last : u ≡ length xs = omega (arith, long) in (
          subst (λ (m : Sym). IsOutside names m.0) e outside,
          at_new (f x) (latest f xs x u last) (subst (λ (m : Sym). look_for m.0 env ≡ Some (plain (number k (f x)))) e stands),
        )

pub all_stand : {T : Type 0} (f : T → ℤ) (names : LoopNames) (k : Kind) (syms : List Sym) (xs : List T) (env : Env) (i : ℕ) → length syms ≤ i → StandSoFar f names k syms xs env i → AreOutside names k syms (map f xs) env
all_stand f names k syms xs env i done h = record { each = λ u s q. h u s (omega (arith, within syms u s q, done)) q }
  where
    within : (ss : List Sym) (u : ℕ) (s : Sym) → slice_get ss u ≡ Some s → u < length ss
    within [] u s q = let no : ⊥ = cc in absurd no
    within (r ∷ ss) zero s q = omega arith
    within (r ∷ ss) (suc u) s q = let less = within ss u s q in omega (arith, less)
