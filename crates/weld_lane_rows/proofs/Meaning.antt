-- What the rows of a loop merge whose body steps mean.
use Rattle.std.proofs.Common.{◌≡◌, ℕ, ◌==◌, Bool, false, if◌then◌else◌, ℤ, List, ◌∷◌, map, Option, Some, IfSome, refl, sym, ap, subst, ◌∙◌}
use Rattle.std.proofs.lemmas.Bool.{eq-eqb}
use Rattle.weld_data.specs.declared.kind.Kind.{Kind}
use Rattle.weld_data.specs.Value.{Value, number}
use Rattle.weld_tree.specs.declared.binder.Binder.{Binder}
use Rattle.weld_tree.specs.declared.sym.Sym.{Sym}
use Rattle.weld_tree.specs.ExprTree.{ExprTree, At, LegTrees, leaf, one, two, three, many, let_in, loop, iterate}
use Rattle.weld_tree.specs.HasValue.{HasValue}
use Rattle.weld_builders.specs.Outcome.{done}
use Rattle.weld_meaning.specs.Environment.{look_for}
use Rattle.weld_meaning.specs.Evaluation.{Env, eval, merged, whole_number, with_row}
use Rattle.weld_meaning.specs.Thing.{Thing, plain}
use Rattle.weld_meaning.specs.ThingType.{HasThing, EnvFits}
use Rattle.weld_meaning.specs.Typing.{HasType, body_types}
use Rattle.weld_eval.specs.Fit.{IsFit}
use Rattle.weld_eval.specs.RowLists.{row_in}
use Rattle.weld_eval.proofs.LoopSteps.{named_body}
use Rattle.weld_eval_plain.specs.Rows.{row_step}
use Rattle.weld_lanes.specs.Answers.{at, row_answer}
use Rattle.weld_lanes.specs.declared.steps.LaneProgram.{LaneProgram}
use Rattle.weld_lane_form.specs.Bodies.{Stands, row_value, TakesNumber, MeansBody}
use Rattle.weld_lane_form.specs.Made.{lowered_by, MayMeanBody}
use Rattle.weld_lane_form.specs.declared.making.LaneBody.{LaneBody}
use Rattle.weld_lane_form.specs.declared.making.LoopNames.{LoopNames}
use Rattle.weld_lane_rows.specs.Columns.{AreRows}
use Rattle.weld_lane_rows.specs.Outside.{IsLoopOf, OwnIsApart, AreOutside}
use Rattle.weld_lane_rows.specs.Rows.{answer_at, MergesRows}

-- ---- names of a row

here : (s : ℕ) (x : Thing) (env : Env) → look_for s ((s, x) ∷ env) ≡ Some x
here s x env = ap (λ (t : Bool). if t then Some x else look_for s env) (eq-eqb s s refl)

past : (s n : ℕ) (x : Thing) (env : Env) → (s == n) ≡ false → look_for s ((n, x) ∷ env) ≡ look_for s env
past s n x env differs = ap (λ (t : Bool). if t then Some x else look_for s env) differs

-- the names of a row, by their numbers
abbrev row_names : LoopNames → Env → Thing → ℕ → Value → Env
row_names names env s i v = (names.row.0, plain v) ∷ (names.number.0, plain (whole_number i)) ∷ (names.own.0, s) ∷ env

named : (names : LoopNames) (b n x : Binder) (env : Env) (s : Thing) (i : ℕ) (v w : Value) → b.sym.0 ≡ names.own.0 → n.sym.0 ≡ names.number.0 → x.sym.0 ≡ names.row.0 → v ≡ w
    → with_row b n x s (plain (whole_number i)) (plain v) env ≡ row_names names env s i w
named names b n x env s i v w own count row same =
    ap (λ (m : ℕ). (m, plain v) ∷ (n.sym.0, plain (whole_number i)) ∷ (b.sym.0, s) ∷ env) row
    ∙ ap (λ (m : ℕ). (names.row.0, plain v) ∷ (m, plain (whole_number i)) ∷ (b.sym.0, s) ∷ env) count
    ∙ ap (λ (m : ℕ). (names.row.0, plain v) ∷ (names.number.0, plain (whole_number i)) ∷ (m, s) ∷ env) own
    ∙ ap (λ (u : Value). row_names names env s i u) same

own_found : (names : LoopNames) (env : Env) (s : Thing) (i : ℕ) (v : Value) → OwnIsApart names → look_for names.own.0 (row_names names env s i v) ≡ Some s
own_found names env s i v apart =
    past names.own.0 names.row.0 (plain v) ((names.number.0, plain (whole_number i)) ∷ (names.own.0, s) ∷ env) apart.0
    ∙ past names.own.0 names.number.0 (plain (whole_number i)) ((names.own.0, s) ∷ env) apart.1
    ∙ here names.own.0 s env

row_stands : (p : LaneProgram) (syms : List Sym) (names : LoopNames) (us : List ℤ) (a b : ℤ) (env : Env) (s : Thing) (i : ℕ) → AreOutside names p.kind syms us env
    → Stands (lowered_by p syms names.is_pair names.row.0) us a b (row_names names env s i (row_value p.kind names.is_pair a b))
row_stands p syms names us a b env s i h =
    let v : Value = row_value p.kind names.is_pair a b in
    record {
      row = here names.row.0 (plain v) ((names.number.0, plain (whole_number i)) ∷ (names.own.0, s) ∷ env);
      uniform = λ u n q.
          let o = h.each u n q in
          past n.0 names.row.0 (plain v) ((names.number.0, plain (whole_number i)) ∷ (names.own.0, s) ∷ env) o.0.0
          ∙ past n.0 names.number.0 (plain (whole_number i)) ((names.own.0, s) ∷ env) o.0.1
          ∙ past n.0 names.own.0 s env o.0.2
          ∙ o.1;
    }

-- ---- rows

module _ (p : LaneProgram) (syms : List Sym) (names : LoopNames) (body : ExprTree) (us : List ℤ) (env : Env) where
  abbrev Means : Type 0
  Means = MeansBody (lowered_by p syms names.is_pair names.row.0) names.own.0 body

  loop_merges : (at : At) (ls : LegTrees) (e : ExprTree) (b n x : Binder) (f : ExprTree) (c d : ℤ) (i : ℕ) (s : Thing) (v : Value) → IsLoopOf (loop at ls e b n x f) names body → OwnIsApart names → AreOutside names p.kind syms us env → Means
      → v ≡ row_value p.kind names.is_pair c d → row_step (loop at ls e b n x f) env (i, v) s ≡ merged s (done (plain (number p.kind (row_answer p.kind p.steps.items us c d))))
  loop_merges at ls e b n x f c d i s v is apart outside means same =
      let w : Value = row_value p.kind names.is_pair c d in
      ap (λ (g : ExprTree). eval g (with_row b n x s (plain (whole_number i)) (plain v) env)) is.3
      ∙ ap (eval body) (named names b n x env s i v w is.0 is.1 is.2 same)
      ∙ means.merges us c d (row_names names env s i w) s (row_stands p syms names us c d env s i outside) (own_found names env s i w apart)

  loop_fits : (at : At) (ls : LegTrees) (e : ExprTree) (b n x : Binder) (f : ExprTree) (c d : ℤ) (i : ℕ) (s : Thing) (v : Value) (h : IsFit (loop at ls e b n x f) env) → IsLoopOf (loop at ls e b n x f) names body → AreOutside names p.kind syms us env → Means
      → v ≡ row_value p.kind names.is_pair c d → HasThing s h.answer → HasValue h.typed.1 v → TakesNumber p.kind (row_answer p.kind p.steps.items us c d) h.answer
  loop_fits at ls e b n x f c d i s v h is outside means same hs hv =
      let w : Value = row_value p.kind names.is_pair c d in
      let k = named_body at ls e b n x f env h i v s hs hv in
      means.fits us c d (row_names names env s i w) (body_types b n x h.answer h.typed.1 h.names) h.answer (row_stands p syms names us c d env s i outside) k.formed
      (subst (EnvFits (body_types b n x h.answer h.typed.1 h.names)) (named names b n x env s i v w is.0 is.1 is.2 same) k.fits)
      (subst (λ (g : ExprTree). HasType g (body_types b n x h.answer h.typed.1 h.names) h.answer) is.3 h.typed.9)

  all_merge : (m : ExprTree) (lists : List (List Value)) (cs ds : List ℤ) (to : ℕ) → IsLoopOf m names body → OwnIsApart names → AreOutside names p.kind syms us env → AreRows p.kind names.is_pair lists cs ds to → Means
      → MergesRows m env lists p.kind (λ i. row_answer p.kind p.steps.items us (at cs i) (at ds i)) to
  all_merge (loop a ls e b n x f) lists cs ds to is apart outside rows means = record {
    merges = λ i s less. loop_merges a ls e b n x f (at cs i) (at ds i) i s (row_in lists i) is apart outside means (rows.each i less);
    fits = λ i s h less hs hv. loop_fits a ls e b n x f (at cs i) (at ds i) i s (row_in lists i) h is outside means (rows.each i less) hs hv;
  }
  all_merge (leaf a l) lists cs ds to is apart outside rows means = absurd is
  all_merge (one a o e) lists cs ds to is apart outside rows means = absurd is
  all_merge (two a o e f) lists cs ds to is apart outside rows means = absurd is
  all_merge (three a o c e f) lists cs ds to is apart outside rows means = absurd is
  all_merge (many a o es) lists cs ds to is apart outside rows means = absurd is
  all_merge (let_in a b e f) lists cs ds to is apart outside rows means = absurd is
  all_merge (iterate a e b f) lists cs ds to is apart outside rows means = absurd is

-- the same where elements stand for the numbers
pub rows_merge : {T : Type 0} (fn : T → ℤ) (k : Kind) (p : LaneProgram) (syms : List Sym) (names : LoopNames) (body n : ExprTree) (us cs ds : List T) (env : Env) (lists : List (List Value)) (to : ℕ) → p.kind ≡ k → IsLoopOf n names body → OwnIsApart names
    → AreOutside names k syms (map fn us) env → AreRows k names.is_pair lists (map fn cs) (map fn ds) to → MeansBody (lowered_by p syms names.is_pair names.row.0) names.own.0 body → MergesRows n env lists k (answer_at fn k p us cs ds) to
rows_merge fn k p syms names body n us cs ds env lists to same is apart outside rows means =
    subst (λ (m : Kind). MergesRows n env lists m (answer_at fn m p us cs ds) to) same
    (all_merge p syms names body (map fn us) env n lists (map fn cs) (map fn ds) to is apart
    (subst (λ (m : Kind). AreOutside names m syms (map fn us) env) (sym same) outside)
    (subst (λ (m : Kind). AreRows m names.is_pair lists (map fn cs) (map fn ds) to) (sym same) rows) means)

-- ---- as the code has it

pub if_some : {A : Type 0} (o : Option A) (x : A) (P : A → Type 0) → o ≡ Some x → IfSome o P → P x
if_some {A} o x P e h = subst (λ (y : Option A). IfSome y P) e h

pub meant : (o : Option LaneBody) (made : LaneBody) (pair : Bool) (row own : ℕ) (e : ExprTree) → o ≡ Some made → MayMeanBody pair row own e o → MeansBody (lowered_by made.program made.uniforms.items pair row) own e
meant o made pair row own e is h = subst (λ (y : Option LaneBody). MayMeanBody pair row own e y) is h

pub loop_of : (m : ExprTree) (a : At) (ls : LegTrees) (e : ExprTree) (b n x : Binder) (f : ExprTree) (names : LoopNames) (body : ExprTree) → m ≡ loop a ls e b n x f → b.sym.0 ≡ names.own.0 → n.sym.0 ≡ names.number.0 → x.sym.0 ≡ names.row.0 → f ≡ body → IsLoopOf m names body
loop_of m a ls e b n x f names body is own count row inner = subst (λ (l : ExprTree). IsLoopOf l names body) (sym is) (own, count, row, inner)

pub outside_given : (names : LoopNames) (k : Kind) (ss syms : List Sym) (us vs : List ℤ) (env : Env) → ss ≡ syms → vs ≡ us → AreOutside names k ss us env → AreOutside names k syms vs env
outside_given names k ss syms us vs env e f h = subst (λ (ws : List ℤ). AreOutside names k syms ws env) (sym f) (subst (λ (ts : List Sym). AreOutside names k ts us env) e h)
