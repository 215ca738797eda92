-- A row of a loop does in place what it means.
use Rattle.std.proofs.Common.{◌≡◌, ◌≢◌, ℕ, [], ◌∷◌, Result, Ok, Err, refl, ap, sym, subst, ◌∙◌}
use Rattle.weld_data.specs.Value.{Value}
use Rattle.weld_data.specs.declared.stop.Stop.{Stop}
use Rattle.weld_data.specs.declared.stop.Stop.TheVariants.{Fault, Memory}
use Rattle.weld_tree.specs.declared.binder.Binder.{Binder}
use Rattle.weld_tree.specs.ExprTree.{ExprTree, At, LegTrees, loop}
use Rattle.weld_tree.specs.HasValue.{HasValue}
use Rattle.weld_builders.specs.Outcome.{Outcome}
use Rattle.weld_meaning.specs.Thing.{Thing, plain, bare_thing}
use Rattle.weld_meaning.specs.ThingType.{HasThing}
use Rattle.weld_meaning.specs.Origin.{origin, in_body}
use Rattle.weld_meaning.specs.Names.{IsFree, AgreeOn}
use Rattle.weld_meaning.specs.Typing.{body_types}
use Rattle.weld_meaning.specs.Evaluation.{Env, whole_number, with_row}
use Rattle.weld_meaning.proofs.Names.{agree_bind}
use Rattle.weld_meaning.proofs.WellFormed.{type_formed}
use Rattle.weld_eval.specs.Fit.{IsFit}
use Rattle.weld_eval.specs.Takes.{row_of}
use Rattle.weld_eval.proofs.LoopSteps.{named_body}
use Rattle.weld_eval_plain.specs.Rows.{row_step, HoldsRow, RowAnswer}
use Rattle.weld_acts.specs.Act.{IsOwnAct, AreDirect, act, Acts, Besides}
use Rattle.weld_acts.specs.ActFits.{ActFits}
use Rattle.weld_acts.proofs.InPlace.{agree_own, stands_own, in_place}
use Rattle.weld_acts.proofs.Keeps.{bare_typed}

-- the own name may stand for anything in a row
agree_row : (c n x : Binder) (f : ExprTree) (t u count row : Thing) (env : Env) → AgreeOn (Besides (IsFree f) c.sym.0) (with_row c n x t count row env) (with_row c n x u count row env)
agree_row c n x f t u count row env =
    agree_bind (Besides (λ y. IsFree f y × (y ≢ x.sym.0)) c.sym.0) (Besides (IsFree f) c.sym.0) x.sym.0 row _ _ (λ y g ne. ((g.0, ne), g.1))
    (agree_bind (Besides (λ y. IsFree f y × (y ≢ x.sym.0) × (y ≢ n.sym.0)) c.sym.0) (Besides (λ y. IsFree f y × (y ≢ x.sym.0)) c.sym.0) n.sym.0 count _ _ (λ y g ne. ((g.0.0, g.0.1, ne), g.1))
    (agree_own (λ y. Unit {0}) (λ y. IsFree f y × (y ≢ x.sym.0) × (y ≢ n.sym.0)) c.sym.0 t u env env (λ y g ne. tt) (record { agree = λ y g. refl })))

row_in_place : (a : At) (ls : LegTrees) (e : ExprTree) (b n x : Binder) (f : ExprTree) (env : Env) (h : IsFit (loop a ls e b n x f) env) (i : ℕ) (v : Value) (s own : Thing)
    → IsOwnAct b n x f → HasThing s h.answer → HasValue h.typed.1 v → row_of b n x f env (i, v) s ≡ act f (with_row b n x own (plain (whole_number i)) (plain v) env) s
row_in_place a ls e b n x f env h i v s own is hs hv =
    let k = named_body a ls e b n x f env h i v s hs hv in
    in_place f b.sym.0 [] (with_row b n x s (plain (whole_number i)) (plain v) env) (with_row b n x own (plain (whole_number i)) (plain v) env) s (body_types b n x h.answer h.typed.1 h.names) h.answer is.2
    (stands_own b n x s (plain (whole_number i)) (plain v) env is.0 is.1) (agree_row b n x f s own (plain (whole_number i)) (plain v) env)
    (record { formed = k.formed; fits = k.fits }) h.typed.9 h.typed.5 hs

pub acts_of_row : (a : At) (ls : LegTrees) (e : ExprTree) (b n x : Binder) (f : ExprTree) (env : Env) (i : ℕ) (s own : Thing) (v : Value) → AreDirect (loop a ls e b n x f) → HoldsRow (loop a ls e b n x f) env s v
    → row_step (loop a ls e b n x f) env (i, v) s ≡ act f ((x.sym.0, plain v) ∷ (n.sym.0, plain (whole_number i)) ∷ (b.sym.0, own) ∷ env) s
acts_of_row a ls e b n x f env i s own v d k = row_in_place a ls e b n x f env k.fit i v s own d.3 k.has k.row

pub row_acts : (a : At) (ls : LegTrees) (e : ExprTree) (b n x : Binder) (f : ExprTree) (env : Env) (m : ExprTree) (i : ℕ) (s own : Thing) (v : Value) → m ≡ loop a ls e b n x f → AreDirect m → HoldsRow m env s v
    → row_step m env (i, v) s ≡ act f ((x.sym.0, plain v) ∷ (n.sym.0, plain (whole_number i)) ∷ (b.sym.0, own) ∷ env) s
row_acts a ls e b n x f env m i s own v is d k =
    ap (λ l. row_step l env (i, v) s) is ∙ acts_of_row a ls e b n x f env i s own v (subst (λ l. AreDirect l) is d) (subst (λ l. HoldsRow l env s v) is k)

-- the builder is of the type of a loop that is fit to be evaluated
pub record OwnHas (n : ExprTree) (env : Env) (s own : Thing) (v : Value) : Type 0 where
  pub holds : HoldsRow n env s v
  pub own_has : HasThing own holds.fit.answer

row_fit : (a : At) (ls : LegTrees) (e : ExprTree) (b n x : Binder) (f : ExprTree) (env : Env) (i : ℕ) (s own : Thing) (v : Value) → AreDirect (loop a ls e b n x f) → OwnHas (loop a ls e b n x f) env s own v
    → ActFits f ((x.sym.0, plain v) ∷ (n.sym.0, plain (whole_number i)) ∷ (b.sym.0, own) ∷ env) s
row_fit a ls e b n x f env i s own v d k = record {
  fit = record {
    names = body_types b n x k.holds.fit.answer k.holds.fit.typed.1 k.holds.fit.names;
    origins = in_body b n x (origin e k.holds.fit.origins) k.holds.fit.origins;
    named = named_body a ls e b n x f env k.holds.fit i v own k.own_has k.holds.row;
    answer = k.holds.fit.answer;
    typed = k.holds.fit.typed.9;
    keeps = k.holds.fit.keeps.2;
  };
  direct = d.2;
  name = b.sym.0;
  path = [];
  acts = d.3.2;
  builder = k.holds.fit.typed.5;
  has = k.holds.has;
}

pub row_fits : (a : At) (ls : LegTrees) (e : ExprTree) (b n x : Binder) (f : ExprTree) (env : Env) (m : ExprTree) (i : ℕ) (s own : Thing) (v : Value) → m ≡ loop a ls e b n x f → AreDirect m → OwnHas m env s own v
    → ActFits f ((x.sym.0, plain v) ∷ (n.sym.0, plain (whole_number i)) ∷ (b.sym.0, own) ∷ env) s
row_fits a ls e b n x f env m i s own v is d k = row_fit a ls e b n x f env i s own v (subst (λ l. AreDirect l) is d) (subst (λ l. OwnHas l env s own v) is k)

-- what has nothing merged has the type of what it is made from
bare_has_of : (a : At) (ls : LegTrees) (e : ExprTree) (b n x : Binder) (f : ExprTree) (env : Env) (h : IsFit (loop a ls e b n x f) env) (s : Thing) → HasThing s h.answer → HasThing (bare_thing s) h.answer
bare_has_of a ls e b n x f env h s k = bare_typed s h.answer (type_formed e h.names h.answer h.typed.4 h.named.formed) h.typed.5 k

pub bare_of_loop : (a : At) (ls : LegTrees) (e : ExprTree) (b n x : Binder) (f : ExprTree) (env : Env) (m : ExprTree) (h : IsFit m env) (s : Thing) → m ≡ loop a ls e b n x f → HasThing s h.answer → HasThing (bare_thing s) h.answer
bare_of_loop a ls e b n x f env m h s is = subst (λ (l : ExprTree). (g : IsFit l env) → HasThing s g.answer → HasThing (bare_thing s) g.answer) (sym is) (λ g k. bare_has_of a ls e b n x f env g s k) h

-- what is done in place on a row is what the row makes
row_answers : {T : Type 0} (r : Result T Stop) (o : Outcome Thing) (m : ExprTree) (env : Env) (i : ℕ) (s t : Thing) (v : Value) → row_step m env (i, v) s ≡ o → Acts r o t → RowAnswer r m env (i, v) s t
row_answers (Ok x) o m env i s t v e h = e ∙ h
row_answers (Err Fault) o m env i s t v e h = e ∙ h
row_answers (Err Memory) o m env i s t v e h = tt

pub row_by_act : {T : Type 0} (r : Result T Stop) (a : At) (ls : LegTrees) (e : ExprTree) (b n x : Binder) (f : ExprTree) (env : Env) (m : ExprTree) (i : ℕ) (s own t : Thing) (v : Value) → m ≡ loop a ls e b n x f → AreDirect m → HoldsRow m env s v
    → Acts r (act f ((x.sym.0, plain v) ∷ (n.sym.0, plain (whole_number i)) ∷ (b.sym.0, own) ∷ env) s) t → RowAnswer r m env (i, v) s t
row_by_act r a ls e b n x f env m i s own t v is d k h =
    row_answers r (act f ((x.sym.0, plain v) ∷ (n.sym.0, plain (whole_number i)) ∷ (b.sym.0, own) ∷ env) s) m env i s t v (row_acts a ls e b n x f env m i s own v is d k) h
