-- An expression that keeps the rules on origins commutes with a start that stands before the own builder.
use Rattle.std.proofs.Common.{◌≡◌, refl, ap, sym, ◌∙◌, List, ◌∷◌, Option, Some, None, option_map}
use Rattle.weld_data.specs.Value.{Value, list}
use Rattle.weld_tree.specs.declared.binder.Binder.{Binder}
use Rattle.weld_tree.specs.ExprTree.{ExprTree, leaf, one, two, three, many, let_in, loop, iterate, ExprTrees, no_exprs, more_exprs, LegTree, whole, strided, LegTrees, no_legs, more_legs, Leaf, int, truth, chars, name, fresh, One, neg, not, cast, len, field, finish, started, Two, binary, and, or, look_up, key_exists, merge, Three, if_else, select, slice, Many, make_vec, make_struct}
use Rattle.weld_builders.specs.Outcome.{Outcome, done, fault, stuck, and_then, map_out}
use Rattle.weld_builders.specs.Part.{Part, result_of}
use Rattle.weld_meaning.specs.Environment.{Named, look_for}
use Rattle.weld_meaning.specs.Thing.{Thing, plain, building, several, Things, more_things, as_values, nothing, after_start, after_thing, after_things, field_of}
use Rattle.weld_meaning.specs.Evaluation.{Env, found, negated, contrary, cast_to, length_of, operated, looked_up, has_key, selected, sliced, whole_number, elements_of, strided_of, value_out, started_builder, leaf_thing, one_thing, two_thing, three_thing, many_thing, Row, number_from, rows_of, run, turns, turn_limit, with_row, eval, eval_all, eval_leg, eval_legs}
use Rattle.weld_meaning.specs.Origin.{Origin, value, made, own, outer, named, struct, Origins, leaf_origin, one_origin, two_origin, three_origin, many_origin, origin, origins, own_paths, outside, in_body, in_turn}
use Rattle.weld_meaning.specs.Linear.{IsNotOwn, LeafKeeps, OneKeeps, ThreeKeeps, Keeps, AllKeep, LegKeeps, LegsKeep}
use Rattle.weld_meaning.proofs.Tracing.{same_origins}
use Rattle.weld_meaning.proofs.Outcomes.{and_then-map_out, map_out-and_then, map_out_same}
use Rattle.weld_meaning.proofs.Joining.{MergesAfter, as_value-after, value_out-after, as_values-after, after-plain, after_nothing, field_of-after, on_value-after, on_values-after, on_three-after, chosen_values-after, chosen-after, merged-after, run-after}
use Rattle.weld_meaning.proofs.Before.{before, all_before, before-field_origin, struct_of-before, before-own_paths, Related, related-bind, related-outside}

-- ---- node by node

-- what nothing stands before is as it was
pub after-nothing : (o : Outcome Thing) → o ≡ map_out (after_thing nothing) o
after-nothing o = sym (map_out_same (after_thing nothing) o after_nothing)

found-after : (f : Thing → Thing) (m : Option Thing) → found (option_map f m) ≡ map_out f (found m)
found-after f (Some t) = refl
found-after f None = refl

leaf_thing-after : (l : Leaf) (g : Named Origin) (s : Thing) (env later : Env) → LeafKeeps l g → Related g s env later → leaf_thing l later ≡ map_out (after_thing (before s (leaf_origin l g))) (leaf_thing l env)
leaf_thing-after (int k x) g s env later h r = refl
leaf_thing-after (truth b) g s env later h r = refl
leaf_thing-after (chars bs) g s env later h r = refl
leaf_thing-after (name x) g s env later h r = ap found (r.same x h) ∙ found-after _ (look_for x env)
leaf_thing-after (fresh b) g s env later h r = after-nothing (started_builder b None)

-- nothing stands before what is given as a result
start-finish : (s : Thing) (o : Origin) (d : Part) → IsNotOwn o → after_start (before s o) d ≡ d
start-finish s value d h = refl
start-finish s made d h = refl
start-finish s (own p) d h = absurd h
start-finish s outer d h = refl
start-finish s (named x p) d h = refl
start-finish s (struct os) d h = refl

finish-after : (s : Thing) (o : Origin) (t : Thing) → IsNotOwn o → one_thing finish (after_thing (before s o) t) ≡ map_out (after_thing nothing) (one_thing finish t)
finish-after s o (plain v) h = refl
finish-after s o (building d) h = λ i. done (plain (result_of (start-finish s o d h i)))
finish-after s o (several ts) h = refl

one_thing-after : (k : One) (o : Origin) (s t : Thing) → OneKeeps k o → one_thing k (after_thing (before s o) t) ≡ map_out (after_thing (before s (one_origin k o))) (one_thing k t)
one_thing-after neg o s t h = on_value-after negated (before s o) nothing t
one_thing-after not o s t h = on_value-after contrary (before s o) nothing t
one_thing-after (cast k) o s t h = on_value-after (cast_to k) (before s o) nothing t
one_thing-after len o s t h = on_value-after length_of (before s o) nothing t
one_thing-after (field n) o s t h =
    field_of-after n (before s o) t ∙ ap (λ u. map_out (after_thing u) (field_of n t)) (sym (before-field_origin s n o))
one_thing-after finish o s t h = finish-after s o t h
one_thing-after (started b) o s t h =
    (λ i. and_then (as_value-after (before s o) t i) (λ v. started_builder b (Some v))) ∙ after-nothing _

two_thing-after : MergesAfter → (k : Two) (o : Origin) (s t : Thing) (p q : Outcome Thing) → value_out q ≡ value_out p → two_thing k (after_thing (before s o) t) q ≡ map_out (after_thing (before s (two_origin k o))) (two_thing k t p)
two_thing-after law (binary op) o s t p q e = on_values-after (operated op) (before s o) nothing t p q e
two_thing-after law and o s t p q e = chosen_values-after (before s o) nothing t _ _ _ _ e refl
two_thing-after law or o s t p q e = chosen_values-after (before s o) nothing t _ _ _ _ refl e
two_thing-after law look_up o s t p q e = on_values-after looked_up (before s o) nothing t p q e
two_thing-after law key_exists o s t p q e = on_values-after has_key (before s o) nothing t p q e
two_thing-after law merge o s t p q e = merged-after law (before s o) t p q e

three_thing-after : (k : Three) (e f : ExprTree) (g : Named Origin) (x s t : Thing) (o p q u : Outcome Thing) → ThreeKeeps k e f g → p ≡ map_out (after_thing (before s (origin e g))) o → u ≡ map_out (after_thing (before s (origin f g))) q → three_thing k (after_thing x t) p u ≡ map_out (after_thing (before s (three_origin k (origin e g)))) (three_thing k t o q)
three_thing-after if_else e f g x s t o p q u h a b =
    chosen-after x (before s (origin e g)) t o p q u a (b ∙ ap (λ r. map_out (after_thing (before s r)) q) (sym (same_origins e f g h.same)))
three_thing-after select e f g x s t o p q u h a b = on_three-after selected x nothing t o p q u (value_out-after _ o p a) (value_out-after _ q u b)
three_thing-after slice e f g x s t o p q u h a b = on_three-after sliced x nothing t o p q u (value_out-after _ o p a) (value_out-after _ q u b)

many_thing-after : (k : Many) (os : Origins) (s : Thing) (ts : Things) → many_thing k (after_things (all_before s os) ts) ≡ map_out (after_thing (before s (many_origin k os))) (many_thing k ts)
many_thing-after make_vec os s ts =
    ap (map_out (λ vs. plain (list vs))) (as_values-after (all_before s os) ts) ∙ after-plain nothing list (as_values ts)
many_thing-after make_struct os s ts = ap done (struct_of-before s os ts)

more_things-after : (a : Thing) (bs : Things) (o : Outcome Thing) (q : Outcome Things) → and_then (map_out (after_thing a) o) (λ t. map_out (more_things t) (map_out (after_things bs) q)) ≡ map_out (after_things (more_things a bs)) (and_then o (λ t. map_out (more_things t) q))
more_things-after a bs (done t) (done ts) = refl
more_things-after a bs (done t) fault = refl
more_things-after a bs (done t) stuck = refl
more_things-after a bs fault q = refl
more_things-after a bs stuck q = refl

-- ---- loops and turns

related-in_body : (g : Named Origin) (s : Thing) (env later : Env) (b n x : Binder) (o : Origin) (t i r : Thing) → after_thing nothing i ≡ i → after_thing nothing r ≡ r → Related g s env later → Related (in_body b n x o g) (before s o) (with_row b n x t i r env) (with_row b n x (after_thing (before s o) t) i r later)
related-in_body g s env later b n x o t i r ei er rel =
    related-bind _ _ _ _ x.sym.0 value r r (sym er)
    (related-bind _ _ _ _ n.sym.0 value i i (sym ei)
    (related-bind _ _ _ _ b.sym.0 (own_paths o) t (after_thing (before s o) t) (ap (λ u. after_thing u t) (sym (before-own_paths s o)))
    (related-outside g s (before s o) env later rel)))

-- what a loop comes to over rows that are known
rows-after : (a : Thing) (f g : Row → Thing → Outcome Thing) → ((r : Row) (t : Thing) → g r (after_thing a t) ≡ map_out (after_thing a) (f r t)) → (o p : Outcome Thing) → p ≡ map_out (after_thing a) o → (rows : List Value) → and_then p (λ t. run (number_from 0 rows) t g) ≡ map_out (after_thing a) (and_then o (λ t. run (number_from 0 rows) t f))
rows-after a f g h o p e rows =
    ap (λ q. and_then q (λ t. run (number_from 0 rows) t g)) e
    ∙ and_then-map_out (after_thing a) (after_thing a) o (λ t. run (number_from 0 rows) t g) (λ t. run (number_from 0 rows) t f) (run-after a f g h (number_from 0 rows))

-- ---- the induction

mutual
  pub commutes : MergesAfter → (e : ExprTree) (g : Named Origin) (s : Thing) (env later : Env) → Keeps e g → Related g s env later → eval e later ≡ map_out (after_thing (before s (origin e g))) (eval e env)
  commutes law (leaf a l) g s env later h r = leaf_thing-after l g s env later h r
  commutes law (one a k e) g s env later h r =
      ap (λ o. and_then o (one_thing k)) (commutes law e g s env later h.0 r)
      ∙ and_then-map_out _ _ (eval e env) (one_thing k) (one_thing k) (λ t. one_thing-after k (origin e g) s t h.1)
  commutes law (two a k e f) g s env later h r =
      let q = value_out-after _ (eval f env) (eval f later) (commutes law f g s env later h.1 r) in
      ap (λ o. and_then o (λ t. two_thing k t (eval f later))) (commutes law e g s env later h.0 r)
      ∙ and_then-map_out _ _ (eval e env) (λ t. two_thing k t (eval f later)) (λ t. two_thing k t (eval f env)) (λ t. two_thing-after law k (origin e g) s t (eval f env) (eval f later) q)
  commutes law (three a k c e f) g s env later h r =
      let p = commutes law e g s env later h.1 r in
      let q = commutes law f g s env later h.2 r in
      ap (λ o. and_then o (λ t. three_thing k t (eval e later) (eval f later))) (commutes law c g s env later h.0 r)
      ∙ and_then-map_out _ _ (eval c env) (λ t. three_thing k t (eval e later) (eval f later)) (λ t. three_thing k t (eval e env) (eval f env))
      (λ t. three_thing-after k e f g (before s (origin c g)) s t (eval e env) (eval e later) (eval f env) (eval f later) h.3 p q)
  commutes law (many a k es) g s env later h r =
      ap (λ o. and_then o (many_thing k)) (commute law es g s env later h r)
      ∙ and_then-map_out _ _ (eval_all es env) (many_thing k) (many_thing k) (λ ts. many_thing-after k (origins es g) s ts)
  commutes law (let_in a b e f) g s env later h r =
      ap (λ o. and_then o (λ t. eval f ((b.sym.0, t) ∷ later))) (commutes law e g s env later h.0 r)
      ∙ and_then-map_out _ _ (eval e env) (λ t. eval f ((b.sym.0, t) ∷ later)) (λ t. eval f ((b.sym.0, t) ∷ env))
      (λ t. commutes law f ((b.sym.0, origin e g) ∷ g) s _ _ h.1 (related-bind g s env later b.sym.0 (origin e g) t _ refl r))
  commutes law (loop a ls e b n x f) g s env later h r =
      let o = origin e g in
      let body : Env → Row → Thing → Outcome Thing = λ names row t. eval f (with_row b n x t (plain (whole_number row.0)) (plain row.1) names) in
      let step : (row : Row) (t : Thing) → body later row (after_thing (before s o) t) ≡ map_out (after_thing (before s o)) (body env row t) =
      λ row t. commutes law f (in_body b n x o g) (before s o) _ _ h.2 (related-in_body g s env later b n x o t (plain (whole_number row.0)) (plain row.1) refl refl r)
      ∙ ap (λ u. map_out (after_thing u) (body env row t)) (ap (before (before s o)) h.3 ∙ before-own_paths s o) in
      ap (λ legs. and_then legs (λ ls. and_then (rows_of ls) (λ rows. and_then (eval e later) (λ t. run (number_from 0 rows) t (body later))))) (legs_commute law ls g s env later h.0 r)
      ∙ map_out-and_then (after_thing (before s o)) (eval_legs ls env) (λ ls. and_then (rows_of ls) (λ rows. and_then (eval e later) (λ t. run (number_from 0 rows) t (body later)))) (λ ls. and_then (rows_of ls) (λ rows. and_then (eval e env) (λ t. run (number_from 0 rows) t (body env))))
      (λ legs. map_out-and_then (after_thing (before s o)) (rows_of legs) (λ rows. and_then (eval e later) (λ t. run (number_from 0 rows) t (body later))) (λ rows. and_then (eval e env) (λ t. run (number_from 0 rows) t (body env)))
      (rows-after (before s o) (body env) (body later) step (eval e env) (eval e later) (commutes law e g s env later h.1 r)))
  commutes law (iterate a e b f) g s env later h r =
      let start = value_out-after _ (eval e env) (eval e later) (commutes law e g s env later h.0 r) in
      let turn : (w : Value) → value_out (eval f ((b.sym.0, plain w) ∷ later)) ≡ value_out (eval f ((b.sym.0, plain w) ∷ env)) =
      λ w. value_out-after _ (eval f ((b.sym.0, plain w) ∷ env)) (eval f ((b.sym.0, plain w) ∷ later)) (commutes law f (in_turn b g) s _ _ h.1 (related-bind (outside g) s env later b.sym.0 value (plain w) (plain w) refl (related-outside g s s env later r))) in
      (λ i. and_then (start i) (λ v. map_out plain (turns turn_limit v (λ w. turn w i))))
      ∙ map_out-and_then (after_thing nothing) (value_out (eval e env)) (λ v. map_out plain (turns turn_limit v (λ w. value_out (eval f ((b.sym.0, plain w) ∷ env))))) (λ v. map_out plain (turns turn_limit v (λ w. value_out (eval f ((b.sym.0, plain w) ∷ env)))))
      (λ v. after-plain nothing (λ w. w) (turns turn_limit v (λ w. value_out (eval f ((b.sym.0, plain w) ∷ env)))))

  commute : MergesAfter → (es : ExprTrees) (g : Named Origin) (s : Thing) (env later : Env) → AllKeep es g → Related g s env later → eval_all es later ≡ map_out (after_things (all_before s (origins es g))) (eval_all es env)
  commute law no_exprs g s env later h r = refl
  commute law (more_exprs e es) g s env later h r =
      (λ i. and_then (commutes law e g s env later h.0 r i) (λ t. map_out (more_things t) (commute law es g s env later h.1 r i)))
      ∙ more_things-after (before s (origin e g)) (all_before s (origins es g)) (eval e env) (eval_all es env)

  leg_commutes : MergesAfter → (l : LegTree) (g : Named Origin) (s : Thing) (env later : Env) → LegKeeps l g → Related g s env later → eval_leg l later ≡ eval_leg l env
  leg_commutes law (whole e) g s env later h r =
      ap (λ o. and_then o elements_of) (value_out-after _ (eval e env) (eval e later) (commutes law e g s env later h r))
  leg_commutes law (strided e f k m) g s env later h r =
      let p = value_out-after _ (eval e env) (eval e later) (commutes law e g s env later h.0 r) in
      let q = value_out-after _ (eval f env) (eval f later) (commutes law f g s env later h.1 r) in
      let u = value_out-after _ (eval k env) (eval k later) (commutes law k g s env later h.2 r) in
      let w = value_out-after _ (eval m env) (eval m later) (commutes law m g s env later h.3 r) in
      λ i. and_then (p i) (λ v. and_then (q i) (λ from. and_then (u i) (λ to. and_then (w i) (λ d. strided_of v from to d))))

  legs_commute : MergesAfter → (ls : LegTrees) (g : Named Origin) (s : Thing) (env later : Env) → LegsKeep ls g → Related g s env later → eval_legs ls later ≡ eval_legs ls env
  legs_commute law no_legs g s env later h r = refl
  legs_commute law (more_legs l ls) g s env later h r =
      λ i. and_then (leg_commutes law l g s env later h.0 r i) (λ vs. map_out (λ rest. vs ∷ rest) (legs_commute law ls g s env later h.1 r i))
