-- Where the parts of a node may be replaced, so may the node: lists of parts, loops and `iterate`; and so all forms.
use Rattle.std.proofs.Common.{◌≡◌, ◌||◌, refl, ap, sym, subst, ◌∙◌, ◌∷◌}
use Rattle.weld_data.specs.Value.{Value, values}
use Rattle.weld_tree.specs.declared.binder.Binder.{Binder}
use Rattle.weld_tree.specs.TypeTree.{TypeTree}
use Rattle.weld_tree.specs.ExprTree.{At, ExprTree, many, loop, iterate, ExprTrees, LegTrees, Many, leaf}
use Rattle.weld_tree.specs.HasValue.{HasValue, AllAre}
use Rattle.weld_builders.specs.Outcome.{Outcome, and_then, map_out}
use Rattle.weld_meaning.specs.Environment.{Named}
use Rattle.weld_meaning.specs.Thing.{Thing, plain}
use Rattle.weld_meaning.specs.Typing.{Types, HasType, body_types}
use Rattle.weld_meaning.specs.ThingType.{HasThing, EnvFits}
use Rattle.weld_meaning.specs.Evaluation.{Env, Row, value_out, whole_number, with_row, rows_of, number_from, run, turns, turn_limit, many_thing, eval, eval_legs}
use Rattle.weld_meaning.specs.Origin.{Origin, own_paths, many_origin, origin, in_body}
use Rattle.weld_meaning.specs.Linear.{Keeps}
use Rattle.weld_meaning.specs.Available.{takes, TakesAll, Splits}
use Rattle.weld_meaning.proofs.Good.{free_value_type, value_out_good}
use Rattle.weld_meaning.proofs.ValuesGood.{LegsFit, rows_good, turn_type}
use Rattle.weld_meaning.proofs.PartsGood.{KeyLaws}
use Rattle.weld_meaning.proofs.NeverStuck.{Of, never_stuck, fits_bind, fits_body}
use Rattle.weld_rewriting.specs.Placed.{IsPlaced}
use Rattle.weld_rewriting.specs.Replacing.{MayReplace}
use Rattle.weld_rewriting.specs.Shape.{AllRelate, LegsRelate, IsCongruence}
use Rattle.weld_rewriting.proofs.Outcomes.{then_same, run_same, turns_same}
use Rattle.weld_rewriting.proofs.Rows.{legs_good, rows_have}
use Rattle.weld_rewriting.proofs.Parts.{noted_at, parts_of_many, legs_of_loop, start_of_loop, body_of_loop, state_of_iterate, body_of_iterate}
use Rattle.weld_rewriting.proofs.Nodes.{apart_same, may_itself, one_may, two_may, three_may, let_may}
use Rattle.weld_rewriting.proofs.ReplacingLists.{all_origins, all_taken, all_placed, all_mean, legs_taken, legs_placed, legs_mean}

-- ---- lists of parts

many_placed : (a : At) (o : Many) (ds es : ExprTrees) → AllRelate MayReplace ds es → (types : Types) (g : Named Origin) (t : TypeTree) → IsPlaced (many a o es) types g t → IsPlaced (many a o ds) types g t
many_placed a o ds es r types g t p =
    let q = all_placed ds es r types g p.typed.0 (parts_of_many a o es types g t p) in
    let typed : HasType (many a o ds) types t = (p.typed.0, q.typed, p.typed.2) in
    record {
      formed = p.formed;
      forms = p.forms;
      typed = typed;
      keeps = q.keep;
      splits = q.split;
      noted = (q.noted, noted_at a (many a o ds) (many a o es) types t p.noted.1 p.typed typed);
    }

many_may : (a : At) (o : Many) (ds es : ExprTrees) → AllRelate MayReplace ds es → MayReplace (many a o ds) (many a o es)
many_may a o ds es r = record {
  same_origin = λ g. ap (many_origin o) (all_origins ds es r g);
  same_chain = λ x p. p;
  placed = many_placed a o ds es r;
  taken = λ types g t p. all_taken ds es r types g p.typed.0 (parts_of_many a o es types g t p);
  means = λ types g t env p fit. ap (λ x. and_then x (many_thing o)) (all_mean ds es r types g p.typed.0 env (parts_of_many a o es types g t p) fit);
}

-- ---- loops

loop_placed : (a : At) (ks ls : LegTrees) (c e : ExprTree) (b n x : Binder) (d f : ExprTree) → LegsRelate MayReplace ks ls → MayReplace c e → MayReplace d f → (types : Types) (g : Named Origin) (t : TypeTree) → IsPlaced (loop a ls e b n x f) types g t → IsPlaced (loop a ks c b n x d) types g t
loop_placed a ks ls c e b n x d f l r u types g t p =
    let y = legs_of_loop a ls e b n x f types g t p in
    let z = start_of_loop a ls e b n x f types g t p in
    let w = body_of_loop a ls e b n x f types g t p in
    let i = legs_placed ks ls l types g p.typed.0 y in
    let j = r.placed types g t z in
    let k = u.placed _ _ t w in
    let same = sym (r.same_origin g) in
    let takes_same : takes d (in_body b n x (origin c g) g) ≡ takes f (in_body b n x (origin e g) g) =
    ap (λ o. takes d (in_body b n x o g)) (r.same_origin g) ∙ u.taken _ _ t w in
    let typed : HasType (loop a ks c b n x d) types t =
    (p.typed.0, p.typed.1, i.typed, p.typed.3, j.typed, p.typed.5, p.typed.6, p.typed.7, p.typed.8, k.typed) in
    record {
      formed = p.formed;
      forms = p.forms;
      typed = typed;
      keeps = (
        i.keep,
        j.keeps,
        subst (λ o. Keeps d (in_body b n x o g)) same k.keeps,
        subst (λ o. origin d (in_body b n x o g) ≡ own_paths o) same (u.same_origin (in_body b n x (origin e g) g) ∙ p.keeps.3),
      );
      splits = (
        i.split,
        j.splits,
        apart_same _ _ _ _ (legs_taken ks ls l types g p.typed.0 y) (r.taken types g t z) p.splits.2,
        subst (λ o. Splits d (in_body b n x o g)) same k.splits,
        subst (λ o. TakesAll b.sym.0 (own_paths o) (takes d (in_body b n x (origin c g) g))) same (subst (TakesAll b.sym.0 (own_paths (origin e g))) (sym takes_same) p.splits.4),
      );
      noted = (
        i.noted,
        j.noted,
        (p.typed.0, p.typed.1, t, i.typed, p.typed.3, j.typed, k.noted),
        noted_at a (loop a ks c b n x d) (loop a ls e b n x f) types t p.noted.3 p.typed typed,
      );
    }

loop_means : KeyLaws → (a : At) (ks ls : LegTrees) (c e : ExprTree) (b n x : Binder) (d f : ExprTree) → LegsRelate MayReplace ks ls → MayReplace c e → MayReplace d f → (types : Types) (g : Named Origin) (t : TypeTree) (env : Env) → IsPlaced (loop a ls e b n x f) types g t → EnvFits types env → eval (loop a ks c b n x d) env ≡ eval (loop a ls e b n x f) env
loop_means laws a ks ls c e b n x d f l r u types g t env p fit =
    let h = p.typed in
    let w = body_of_loop a ls e b n x f types g t p in
    let i = legs_mean ks ls l types g h.0 env (legs_of_loop a ls e b n x f types g t p) fit in
    let j = r.means types g t env (start_of_loop a ls e b n x f types g t p) fit in
    let body : (k : ExprTree) → Row → Thing → Outcome Thing = λ k row s. eval k (with_row b n x s (plain (whole_number row.0)) (plain row.1) env) in
    let fits : (row : Row) (s : Thing) → HasValue h.1 row.1 → HasThing s t → EnvFits (body_types b n x t h.1 types) (with_row b n x s (plain (whole_number row.0)) (plain row.1) env) =
    λ row s hv hs. fits_body types env b n x t h.1 s row.1 row.0 hs hv fit in
    (λ m. and_then (i m) (λ legs. and_then (rows_of legs) (λ rows. and_then (j m) (λ s. run (number_from 0 rows) s (body d)))))
    ∙ then_same (LegsFit h.0) (eval_legs ls env) _ _ (legs_good laws ls types h.0 env h.2 p.formed fit) (λ legs q.
    then_same (λ vs. AllAre (HasValue h.1) (values vs)) (rows_of legs) _ _ (rows_good h.0 h.1 legs h.3 q) (λ rows v.
    then_same (Of t) (eval e env) _ _ (never_stuck laws e types t env h.4 p.formed fit) (λ s hs.
    run_same h.1 (Of t) (body d) (body f)
    (λ row y hv hy. never_stuck laws d _ t _ (u.placed _ _ t w).typed w.formed (fits row y hv hy))
    (λ row y hv hy. u.means _ _ t _ w (fits row y hv hy))
    (number_from 0 rows) s (rows_have h.1 0 rows v) hs)))

loop_may : KeyLaws → (a : At) (ks ls : LegTrees) (c e : ExprTree) (b n x : Binder) (d f : ExprTree) → LegsRelate MayReplace ks ls → MayReplace c e → MayReplace d f → MayReplace (loop a ks c b n x d) (loop a ls e b n x f)
loop_may laws a ks ls c e b n x d f l r u = record {
  same_origin = r.same_origin;
  same_chain = λ y p. p;
  placed = loop_placed a ks ls c e b n x d f l r u;
  taken = λ types g t p.
      let y = legs_taken ks ls l types g p.typed.0 (legs_of_loop a ls e b n x f types g t p) in
      let z = r.taken types g t (start_of_loop a ls e b n x f types g t p) in
      λ i s q. y i s q || z i s q;
  means = loop_means laws a ks ls c e b n x d f l r u;
}

-- ---- `iterate`

iterate_placed : (a : At) (c e : ExprTree) (b : Binder) (d f : ExprTree) → MayReplace c e → MayReplace d f → (types : Types) (g : Named Origin) (t : TypeTree) → IsPlaced (iterate a e b f) types g t → IsPlaced (iterate a c b d) types g t
iterate_placed a c e b d f r u types g t p =
    let q = r.placed types g t (state_of_iterate a e b f types g t p) in
    let w = u.placed _ _ _ (body_of_iterate a e b f types g t p) in
    let typed : HasType (iterate a c b d) types t = (q.typed, p.typed.1, p.typed.2, w.typed) in
    record {
      formed = p.formed;
      forms = p.forms;
      typed = typed;
      keeps = (q.keeps, w.keeps);
      splits = (q.splits, w.splits);
      noted = (q.noted, (t, q.typed, w.noted), noted_at a (iterate a c b d) (iterate a e b f) types t p.noted.2 p.typed typed);
    }

iterate_means : KeyLaws → (a : At) (c e : ExprTree) (b : Binder) (d f : ExprTree) → MayReplace c e → MayReplace d f → (types : Types) (g : Named Origin) (t : TypeTree) (env : Env) → IsPlaced (iterate a e b f) types g t → EnvFits types env → eval (iterate a c b d) env ≡ eval (iterate a e b f) env
iterate_means laws a c e b d f r u types g t env p fit =
    let w = body_of_iterate a e b f types g t p in
    let x = r.means types g t env (state_of_iterate a e b f types g t p) fit in
    let free = free_value_type t p.typed.1 in
    let body : (k : ExprTree) → Value → Outcome Value = λ k v. value_out (eval k ((b.sym.0, plain v) ∷ env)) in
    let fits : (v : Value) → HasValue t v → EnvFits ((b.sym.0, t) ∷ types) ((b.sym.0, plain v) ∷ env) = λ v h. fits_bind types env b.sym.0 t (plain v) h fit in
    (λ i. and_then (value_out (x i)) (λ v. map_out plain (turns turn_limit v (body d))))
    ∙ then_same (HasValue t) (value_out (eval e env)) _ _ (value_out_good t free (never_stuck laws e types t env p.typed.0 p.formed fit)) (λ v h.
    ap (map_out plain) (turns_same t (body d) (body f)
    (λ y q. value_out_good (turn_type t) (p.typed.1, (tt, tt)) (never_stuck laws d _ (turn_type t) _ (u.placed _ _ _ w).typed w.formed (fits y q)))
    (λ y q. ap value_out (u.means _ _ _ _ w (fits y q)))
    turn_limit v h))

iterate_may : KeyLaws → (a : At) (c e : ExprTree) (b : Binder) (d f : ExprTree) → MayReplace c e → MayReplace d f → MayReplace (iterate a c b d) (iterate a e b f)
iterate_may laws a c e b d f r u = record {
  same_origin = λ g. refl;
  same_chain = λ x p. p;
  placed = iterate_placed a c e b d f r u;
  taken = λ types g t p. r.taken types g t (state_of_iterate a e b f types g t p);
  means = iterate_means laws a c e b d f r u;
}

-- ---- all forms

pub may_through : KeyLaws → IsCongruence MayReplace
may_through laws = record {
  at_leaf = λ a l. may_itself (leaf a l);
  at_one = one_may;
  at_two = two_may;
  at_three = three_may;
  at_many = many_may;
  at_let = let_may laws;
  at_loop = loop_may laws;
  at_iterate = iterate_may laws;
}
