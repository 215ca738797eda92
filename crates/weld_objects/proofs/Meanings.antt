-- An expression under other numbers comes to what it came to.
use Rattle.std.proofs.Common.{◌≡◌, ap, refl, ◌∷◌}
use Rattle.weld_data.specs.Value.{Value}
use Rattle.weld_tree.specs.ExprTree.{ExprTree, leaf, one, two, three, many, let_in, loop, iterate, ExprTrees, no_exprs, more_exprs, LegTree, whole, strided, LegTrees, no_legs, more_legs, Leaf, int, truth, chars, name, fresh}
use Rattle.weld_builders.specs.Outcome.{and_then, map_out}
use Rattle.weld_meaning.specs.Thing.{Thing, plain, more_things}
use Rattle.weld_meaning.specs.Evaluation.{Env, found, whole_number, elements_of, strided_of, value_out, leaf_thing, one_thing, two_thing, three_thing, many_thing, Row, number_from, rows_of, run, turns, turn_limit, with_row, eval, eval_all, eval_leg, eval_legs}
use Rattle.weld_meaning.specs.Names.{Binds, AllBind, LegBinds, LegsBind}
use Rattle.weld_objects.specs.Renamed.{Renaming, renamed_binder, renamed_leaf, renamed, all_renamed, leg_renamed, legs_renamed, IsAlone, HaveMoved}
use Rattle.weld_objects.proofs.Numbers.{moved_bind, moved_body}

leaf_means : (r : Renaming) (l : Leaf) (env later : Env) → HaveMoved r env later → leaf_thing (renamed_leaf r l) later ≡ leaf_thing l env
leaf_means r (int k x) env later m = refl
leaf_means r (truth b) env later m = refl
leaf_means r (chars bs) env later m = refl
leaf_means r (name s) env later m = ap found (m.same s)
leaf_means r (fresh b) env later m = refl

mutual
  pub means : (r : Renaming) (e : ExprTree) (env later : Env) → Binds (IsAlone r) e → HaveMoved r env later → eval (renamed r e) later ≡ eval e env
  means r (leaf a l) env later b m = leaf_means r l env later m
  means r (one a o e) env later b m = ap (λ t. and_then t (one_thing o)) (means r e env later b m)
  means r (two a o e f) env later b m =
      let p = means r e env later b.0 m in let q = means r f env later b.1 m in
      λ i. and_then (p i) (λ t. two_thing o t (q i))
  means r (three a o c e f) env later b m =
      let p = means r c env later b.0 m in let q = means r e env later b.1 m in let u = means r f env later b.2 m in
      λ i. and_then (p i) (λ t. three_thing o t (q i) (u i))
  means r (many a o es) env later b m = ap (λ t. and_then t (many_thing o)) (all_mean r es env later b m)
  means r (let_in a x e f) env later b m =
      let p = means r e env later b.1 m in
      let q : (t : Thing) → eval (renamed r f) ((r x.sym.0, t) ∷ later) ≡ eval f ((x.sym.0, t) ∷ env) =
      λ t. means r f _ _ b.2 (moved_bind r x.sym.0 t env later b.0 m) in
      λ i. and_then (p i) (λ t. q t i)
  means r (loop a ls e s n x f) env later b m =
      let p = legs_mean r ls env later b.3 m in let q = means r e env later b.4 m in
      let body : (w : Row) (t : Thing) → eval (renamed r f) (with_row (renamed_binder r s) (renamed_binder r n) (renamed_binder r x) t (plain (whole_number w.0)) (plain w.1) later) ≡ eval f (with_row s n x t (plain (whole_number w.0)) (plain w.1) env) =
      λ w t. means r f _ _ b.5 (moved_body r s.sym.0 n.sym.0 x.sym.0 t (plain (whole_number w.0)) (plain w.1) env later b.0 b.1 b.2 m) in
      λ i. and_then (p i) (λ legs. and_then (rows_of legs) (λ rows. and_then (q i) (λ t. run (number_from 0 rows) t (λ w u. body w u i))))
  means r (iterate a e x f) env later b m =
      let p = means r e env later b.1 m in
      let q : (w : Value) → eval (renamed r f) ((r x.sym.0, plain w) ∷ later) ≡ eval f ((x.sym.0, plain w) ∷ env) =
      λ w. means r f _ _ b.2 (moved_bind r x.sym.0 (plain w) env later b.0 m) in
      λ i. and_then (value_out (p i)) (λ v. map_out plain (turns turn_limit v (λ w. value_out (q w i))))

  all_mean : (r : Renaming) (es : ExprTrees) (env later : Env) → AllBind (IsAlone r) es → HaveMoved r env later → eval_all (all_renamed r es) later ≡ eval_all es env
  all_mean r no_exprs env later b m = refl
  all_mean r (more_exprs e es) env later b m =
      let p = means r e env later b.0 m in let q = all_mean r es env later b.1 m in λ i. and_then (p i) (λ t. map_out (more_things t) (q i))

  leg_means : (r : Renaming) (l : LegTree) (env later : Env) → LegBinds (IsAlone r) l → HaveMoved r env later → eval_leg (leg_renamed r l) later ≡ eval_leg l env
  leg_means r (whole e) env later b m = ap (λ t. and_then (value_out t) elements_of) (means r e env later b m)
  leg_means r (strided e f g h) env later b m =
      let p = means r e env later b.0 m in let q = means r f env later b.1 m in
      let u = means r g env later b.2 m in let w = means r h env later b.3 m in
      λ i. and_then (value_out (p i)) (λ v. and_then (value_out (q i)) (λ from. and_then (value_out (u i)) (λ to. and_then (value_out (w i)) (λ d. strided_of v from to d))))

  legs_mean : (r : Renaming) (ls : LegTrees) (env later : Env) → LegsBind (IsAlone r) ls → HaveMoved r env later → eval_legs (legs_renamed r ls) later ≡ eval_legs ls env
  legs_mean r no_legs env later b m = refl
  legs_mean r (more_legs l ls) env later b m =
      let p = leg_means r l env later b.0 m in let q = legs_mean r ls env later b.1 m in λ i. and_then (p i) (λ vs. map_out (λ rest. vs ∷ rest) (q i))
