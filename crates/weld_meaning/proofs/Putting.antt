-- Where a value is put in a name's place, the expression comes to what it does where the name stands for the value.
use Rattle.std.proofs.Common.{◌≡◌, ◌≢◌, ℕ, ◌==◌, if◌then◌else◌, ◌∷◌, Some, refl, ap, sym, subst, ◌∙◌, inl, inr, ◌⊎◌, eq-eqb, ne_eqb}
use Rattle.std.proofs.lemmas.Bool.{cases_eq}
use Rattle.weld_data.specs.Value.{Value}
use Rattle.weld_tree.specs.ExprTree.{At, ExprTree, leaf, one, two, three, many, let_in, loop, iterate, ExprTrees, no_exprs, more_exprs, LegTree, whole, strided, LegTrees, no_legs, more_legs, Leaf, int, truth, chars, name, fresh}
use Rattle.weld_builders.specs.Outcome.{done, and_then, map_out}
use Rattle.weld_meaning.specs.Environment.{look_for}
use Rattle.weld_meaning.specs.Thing.{Thing, plain, more_things}
use Rattle.weld_meaning.specs.Evaluation.{Env, found, whole_number, elements_of, strided_of, value_out, leaf_thing, one_thing, two_thing, three_thing, many_thing, Row, number_from, rows_of, run, turns, turn_limit, with_row, eval, eval_all, eval_leg, eval_legs}
use Rattle.weld_meaning.specs.Names.{IsFree, put_in_leaf, put, put_in_all, put_in_leg, put_in_legs, Binds, AllBind, LegBinds, LegsBind, IsClear}
use Rattle.weld_meaning.proofs.Names.{eval_free}

-- the second environment has the name for what the value comes to in the first, and else the same
pub record Stands (s : ℕ) (v : ExprTree) (x : Thing) (env later : Env) : Type 0 where
  pub others : (t : ℕ) → s ≢ t → look_for t env ≡ look_for t later
  pub there : look_for s later ≡ Some x
  pub comes_to : eval v env ≡ done x

pub stands_first : (s : ℕ) (v : ExprTree) (x : Thing) (env : Env) → eval v env ≡ done x → Stands s v x env ((s, x) ∷ env)
stands_first s v x env e = record {
  others = λ t ne. rw (ne_eqb t s (λ p. ne (sym p))) refl;
  there = rw (eq-eqb s s refl) refl;
  comes_to = e;
}

same_behind : (t b : ℕ) (y : Thing) (g h : Env) → look_for t g ≡ look_for t h → look_for t ((b, y) ∷ g) ≡ look_for t ((b, y) ∷ h)
same_behind t b y g h e = λ i. if t == b then Some y else e i

stands_bind : (s : ℕ) (v : ExprTree) (x : Thing) (env later : Env) (b : ℕ) (y : Thing) → IsClear s v b → Stands s v x env later → Stands s v x ((b, y) ∷ env) ((b, y) ∷ later)
stands_bind s v x env later b y c r = record {
  others = λ t ne. same_behind t b y env later (r.others t ne);
  there = rw (ne_eqb s b c.0) r.there;
  comes_to = eval_free v ((b, y) ∷ env) env (record { agree = λ t f. other t (cases_eq t b) f }) ∙ r.comes_to;
}
  where
    other : (t : ℕ) → (t ≡ b) ⊎ (t ≢ b) → IsFree v t → look_for t ((b, y) ∷ env) ≡ look_for t env
    other t (inl e) f = absurd (c.1 (subst (IsFree v) e f))
    other t (inr ne) f = rw (ne_eqb t b ne) refl

put_leaf : (a : At) (l : Leaf) (s : ℕ) (v : ExprTree) (x : Thing) (env later : Env) → Stands s v x env later → eval (put_in_leaf s v a l) env ≡ leaf_thing l later
put_leaf a (int k n) s v x env later r = refl
put_leaf a (truth b) s v x env later r = refl
put_leaf a (chars bs) s v x env later r = refl
put_leaf a (name t) s v x env later r = by (cases_eq s t)
  where
    by : (s ≡ t) ⊎ (s ≢ t) → eval (if s == t then v else leaf a (name t)) env ≡ found (look_for t later)
    by (inl e) = rw (eq-eqb s t e) (r.comes_to ∙ ap found (sym (subst (λ u. look_for u later ≡ Some x) e r.there)))
    by (inr ne) = rw (ne_eqb s t ne) (ap found (r.others t ne))
put_leaf a (fresh b) s v x env later r = refl

mutual
  pub put_means : (e : ExprTree) (s : ℕ) (v : ExprTree) (x : Thing) (env later : Env) → Binds (IsClear s v) e → Stands s v x env later → eval (put s v e) env ≡ eval e later
  put_means (leaf a l) s v x env later h r = put_leaf a l s v x env later r
  put_means (one a o e) s v x env later h r = ap (λ t. and_then t (one_thing o)) (put_means e s v x env later h r)
  put_means (two a o e f) s v x env later h r =
      let p = put_means e s v x env later h.0 r in let q = put_means f s v x env later h.1 r in λ i. and_then (p i) (λ t. two_thing o t (q i))
  put_means (three a o c e f) s v x env later h r =
      let p = put_means c s v x env later h.0 r in let q = put_means e s v x env later h.1 r in let u = put_means f s v x env later h.2 r in
      λ i. and_then (p i) (λ t. three_thing o t (q i) (u i))
  put_means (many a o es) s v x env later h r = ap (λ t. and_then t (many_thing o)) (put_all_means es s v x env later h r)
  put_means (let_in a b e f) s v x env later h r =
      let p = put_means e s v x env later h.1 r in
      let q : (t : Thing) → eval (put s v f) ((b.sym.0, t) ∷ env) ≡ eval f ((b.sym.0, t) ∷ later) = λ t. put_means f s v x _ _ h.2 (stands_bind s v x env later b.sym.0 t h.0 r) in
      λ i. and_then (p i) (λ t. q t i)
  put_means (loop a ls e b n y f) s v x env later h r =
      let p = put_legs_mean ls s v x env later h.3 r in let q = put_means e s v x env later h.4 r in
      let body : (row : Row) (t : Thing) → eval (put s v f) (with_row b n y t (plain (whole_number row.0)) (plain row.1) env) ≡ eval f (with_row b n y t (plain (whole_number row.0)) (plain row.1) later) =
      λ row t. put_means f s v x _ _ h.5
      (stands_bind s v x _ _ y.sym.0 (plain row.1) h.2 (stands_bind s v x _ _ n.sym.0 (plain (whole_number row.0)) h.1 (stands_bind s v x env later b.sym.0 t h.0 r))) in
      λ i. and_then (p i) (λ legs. and_then (rows_of legs) (λ rows. and_then (q i) (λ t. run (number_from 0 rows) t (λ row u. body row u i))))
  put_means (iterate a e b f) s v x env later h r =
      let p = put_means e s v x env later h.1 r in
      let q : (w : Value) → eval (put s v f) ((b.sym.0, plain w) ∷ env) ≡ eval f ((b.sym.0, plain w) ∷ later) = λ w. put_means f s v x _ _ h.2 (stands_bind s v x env later b.sym.0 (plain w) h.0 r) in
      λ i. and_then (value_out (p i)) (λ u. map_out plain (turns turn_limit u (λ w. value_out (q w i))))

  put_all_means : (es : ExprTrees) (s : ℕ) (v : ExprTree) (x : Thing) (env later : Env) → AllBind (IsClear s v) es → Stands s v x env later → eval_all (put_in_all s v es) env ≡ eval_all es later
  put_all_means no_exprs s v x env later h r = refl
  put_all_means (more_exprs e es) s v x env later h r =
      let p = put_means e s v x env later h.0 r in let q = put_all_means es s v x env later h.1 r in λ i. and_then (p i) (λ t. map_out (more_things t) (q i))

  put_leg_means : (l : LegTree) (s : ℕ) (v : ExprTree) (x : Thing) (env later : Env) → LegBinds (IsClear s v) l → Stands s v x env later → eval_leg (put_in_leg s v l) env ≡ eval_leg l later
  put_leg_means (whole e) s v x env later h r = ap (λ o. and_then (value_out o) elements_of) (put_means e s v x env later h r)
  put_leg_means (strided e f g k) s v x env later h r =
      let p = put_means e s v x env later h.0 r in let q = put_means f s v x env later h.1 r in
      let u = put_means g s v x env later h.2 r in let w = put_means k s v x env later h.3 r in
      λ i. and_then (value_out (p i)) (λ c. and_then (value_out (q i)) (λ from. and_then (value_out (u i)) (λ to. and_then (value_out (w i)) (λ d. strided_of c from to d))))

  put_legs_mean : (ls : LegTrees) (s : ℕ) (v : ExprTree) (x : Thing) (env later : Env) → LegsBind (IsClear s v) ls → Stands s v x env later → eval_legs (put_in_legs s v ls) env ≡ eval_legs ls later
  put_legs_mean no_legs s v x env later h r = refl
  put_legs_mean (more_legs l ls) s v x env later h r =
      let p = put_leg_means l s v x env later h.0 r in let q = put_legs_mean ls s v x env later h.1 r in λ i. and_then (p i) (λ vs. map_out (λ rest. vs ∷ rest) (q i))

pub put_law : (e v : ExprTree) (s : ℕ) (x : Thing) (env : Env) → Binds (IsClear s v) e → eval v env ≡ done x → eval (put s v e) env ≡ eval e ((s, x) ∷ env)
put_law e v s x env h c = put_means e s v x env ((s, x) ∷ env) h (stands_first s v x env c)
