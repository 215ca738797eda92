-- Lets that end in one merge: what they merge on a row, and what a loop of such a body makes.
use Rattle.std.proofs.Common.{◌≡◌, ◌≢◌, ℕ, true, List, [], ◌∷◌, ◌++◌, Some, refl, ap, subst, ◌∙◌, ne_eqb}
use Rattle.weld_data.specs.Value.{Value, list_of_values-values}
use Rattle.weld_tree.specs.declared.binder.Binder.{Binder}
use Rattle.weld_tree.specs.ExprTree.{At, ExprTree, leaf, one, two, three, many, let_in, loop, iterate, name, merge}
use Rattle.weld_builders.specs.Outcome.{Outcome, done, fault, stuck, and_then, map_out}
use Rattle.weld_builders.specs.Part.{list_part}
use Rattle.weld_meaning.specs.Environment.{look_for}
use Rattle.weld_meaning.specs.Thing.{Thing, building}
use Rattle.weld_meaning.specs.Evaluation.{Env, Row, found, merged, value_out, elements_of, finished, number_from, run, eval}
use Rattle.weld_meaning.specs.Names.{IsFree, AgreeOn, Binds}
use Rattle.weld_meaning.proofs.Names.{agree_bind, agree_less, eval_free}
use Rattle.weld_meaning.proofs.Outcomes.{map_out-and_then, and_then-map_out}
use Rattle.weld_substitution.specs.Uses.{uses}
use Rattle.weld_vertical.specs.Sinking.{ends_in_merge}
use Rattle.weld_vertical.proofs.Spine.{ends_by, unnamed}
use Rattle.weld_vertical.proofs.Handing.{then_done, map_twice, list_of, nothing_behind}

-- the value that the body merges
abbrev pub row_value : ExprTree → Env → Outcome Value
row_value (leaf a l) env = stuck
row_value (one a o e) env = stuck
row_value (two a o e v) env = value_out (eval v env)
row_value (three a o c e f) env = stuck
row_value (many a o es) env = stuck
row_value (let_in a z v h) env = and_then (eval v env) (λ t. row_value h ((z.sym.0, t) ∷ env))
row_value (loop a ls e b n x f) env = stuck
row_value (iterate a e b f) env = stuck

-- ---- the producer's body appends it

module _ (d : ℕ) where
  abbrev Apart : ExprTree → Type 0
  Apart g = Binds (λ z. d ≢ z) g

  look_over : (z : ℕ) (t u : Thing) (env : Env) → d ≢ z → look_for d env ≡ Some u → look_for d ((z, t) ∷ env) ≡ Some u
  look_over z t u env ne e = rw (ne_eqb d z ne) e

  abbrev Appends : ExprTree → Type 0
  Appends g =
      Apart g → (env : Env) (vs : List Value) → look_for d env ≡ Some (building (list_part vs)) → eval g env ≡ map_out (λ v. building (list_part (vs ++ v ∷ []))) (row_value g env)

  let_appends : (a : At) (z : Binder) (v h : ExprTree) → uses v d ≡ 0 → Appends h → Appends (let_in a z v h)
  let_appends a z v h none f c env vs e =
      map_out-and_then (λ w. building (list_part (vs ++ w ∷ []))) (eval v env) (λ t. eval h ((z.sym.0, t) ∷ env)) (λ t. row_value h ((z.sym.0, t) ∷ env))
      (λ t. f c.2 ((z.sym.0, t) ∷ env) vs (look_over z.sym.0 t (building (list_part vs)) env c.0 e))

  merge_appends : (a c : At) (v : ExprTree) → uses v d ≡ 0 → Appends (two a merge (leaf c (name d)) v)
  merge_appends a c v none cl env vs e =
      ap (λ m. and_then (found m) (λ t. merged t (eval v env))) e ∙ then_done (value_out (eval v env)) (λ w. building (list_part (vs ++ w ∷ [])))

  pub row_appends : (g : ExprTree) → ends_in_merge d g ≡ true → uses g d ≡ 1 → Appends g
  row_appends = ends_by d Appends let_appends merge_appends

  -- ---- whatever was merged before

  abbrev Other : ℕ → Type 0
  Other s = s ≢ d

  abbrev Freely : ExprTree → Type 0
  Freely g = Apart g → (env later : Env) → AgreeOn Other env later → row_value g env ≡ row_value g later

  value_freely : (v : ExprTree) → uses v d ≡ 0 → Apart v → (env later : Env) → AgreeOn Other env later → eval v env ≡ eval v later
  value_freely v none c env later a = eval_free v env later (agree_less Other (IsFree v) env later (λ s f e. unnamed d v c none (subst (IsFree v) e f)) a)

  let_freely : (a : At) (z : Binder) (v h : ExprTree) → uses v d ≡ 0 → Freely h → Freely (let_in a z v h)
  let_freely a z v h none f c env later same =
      let x = value_freely v none c.1 env later same in
      let y : (t : Thing) → row_value h ((z.sym.0, t) ∷ env) ≡ row_value h ((z.sym.0, t) ∷ later) = λ t. f c.2 ((z.sym.0, t) ∷ env) ((z.sym.0, t) ∷ later) (agree_bind Other Other z.sym.0 t env later (λ s k ne. k) same) in
      λ i. and_then (x i) (λ t. y t i)

  merge_freely : (a c : At) (v : ExprTree) → uses v d ≡ 0 → Freely (two a merge (leaf c (name d)) v)
  merge_freely a c v none cl env later same = ap value_out (value_freely v none cl.1 env later same)

  pub row_value_free : (g : ExprTree) → ends_in_merge d g ≡ true → uses g d ≡ 1 → Freely g
  row_value_free = ends_by d Freely let_freely merge_freely

-- ---- rows

-- what each row gives, in order
abbrev pub collect : (Row → Outcome Value) → List Row → Outcome (List Value)
collect w [] = done []
collect w (r ∷ rs) = and_then (w r) (λ v. map_out (λ vs. v ∷ vs) (collect w rs))

one_more : (vs : List Value) (v : Value) (ws : List Value) → (vs ++ v ∷ []) ++ ws ≡ vs ++ (v ∷ ws)
one_more [] v ws = refl
one_more (u ∷ vs) v ws = ap (λ xs. u ∷ xs) (one_more vs v ws)

-- a body that appends what its row gives
pub run_collects : (w : Row → Outcome Value) (body : Row → Thing → Outcome Thing) → ((r : Row) (vs : List Value) → body r (list_of vs) ≡ map_out (λ v. list_of (vs ++ v ∷ [])) (w r)) → (rows : List Row) (vs : List Value) → run rows (list_of vs) body ≡ map_out (λ ws. list_of (vs ++ ws)) (collect w rows)
run_collects w body e [] vs = ap (λ ws. done (list_of ws)) (nothing_behind vs)
run_collects w body e (r ∷ rows) vs =
    ap (λ o. and_then o (λ t. run rows t body)) (e r vs)
    ∙ and_then-map_out (λ v. list_of (vs ++ v ∷ [])) (λ ws. list_of (vs ++ ws)) (w r) (λ t. run rows t body) (λ v. map_out (λ ws. v ∷ ws) (collect w rows))
    (λ v. run_collects w body e rows (vs ++ v ∷ [])
    ∙ map_twice (collect w rows) (λ ws. v ∷ ws) (λ ws. list_of (vs ++ ws)) (λ ws. list_of ((vs ++ v ∷ []) ++ ws)) (λ ws. ap list_of (one_more vs v ws)))

-- ---- the list that was made, as a leg

-- the elements of a builder's result
abbrev pub elements_made : Outcome Thing → Outcome (List Value)
elements_made o = and_then (value_out (and_then o finished)) elements_of

through : {A : Type 0} (o : Outcome A) (k : A → Outcome Thing) (m : A → Outcome (List Value)) → ((x : A) → elements_made (k x) ≡ m x) → elements_made (and_then o k) ≡ and_then o m
through (done x) k m e = e x
through fault k m e = refl
through stuck k m e = refl

made : (o : Outcome (List Value)) → elements_made (map_out (λ ws. list_of ws) o) ≡ o
made (done ws) = ap done (list_of_values-values ws)
made fault = refl
made stuck = refl

-- of a loop that collects
pub elements_collected : {A : Type 0} (legs : Outcome A) (rows : A → Outcome (List Value)) (all : List Value → Outcome Thing) (w : Row → Outcome Value) → ((vs : List Value) → all vs ≡ map_out (λ ws. list_of ws) (collect w (number_from 0 vs))) → elements_made (and_then legs (λ l. and_then (rows l) all)) ≡ and_then legs (λ l. and_then (rows l) (λ vs. collect w (number_from 0 vs)))
elements_collected legs rows all w e =
    through legs (λ l. and_then (rows l) all) (λ l. and_then (rows l) (λ vs. collect w (number_from 0 vs)))
    (λ l. through (rows l) all (λ vs. collect w (number_from 0 vs)) (λ vs. ap elements_made (e vs) ∙ made (collect w (number_from 0 vs))))
