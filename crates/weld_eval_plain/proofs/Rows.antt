-- The rows of a loop, one after another.
use Rattle.std.proofs.Common.{◌≡◌, ℕ, zero, suc, ◌+◌, ◌<◌, List, [], ◌∷◌, length, drop, slice_get, Some, sym, ap, ◌∙◌, subst, arith}
use Rattle.weld_data.specs.Value.{Value, values}
use Rattle.weld_tree.specs.declared.binder.Binder.{Binder}
use Rattle.weld_tree.specs.TypeTree.{TypeTree, TypeTrees, scalar, vec, struct as tuple, dict, build, no_types, more_types}
use Rattle.weld_tree.specs.Types.{IsBuilder, AreBuilders, IsWellFormed, AreWellFormed}
use Rattle.weld_tree.specs.ExprTree.{ExprTree, At, LegTrees, loop}
use Rattle.weld_tree.specs.HasValue.{HasValue, AllAre}
use Rattle.weld_builders.specs.Outcome.{done, fault, and_then, map_out}
use Rattle.weld_meaning.specs.Thing.{Thing, plain, building, several, Things, no_things, more_things, bare_thing, bare_things, after_thing}
use Rattle.weld_meaning.specs.ThingType.{HasThing, HaveBuilders}
use Rattle.weld_meaning.specs.Evaluation.{Env, whole_number, run, number_from, rows_of, eval, eval_legs}
use Rattle.weld_meaning.specs.Meaning.{GivesOrFaults}
use Rattle.weld_meaning.proofs.PartsGood.{bare_has}
use Rattle.weld_meaning.proofs.WellFormed.{type_formed}
use Rattle.weld_meaning.proofs.ValuesGood.{LegsFit, rows_good}
use Rattle.weld_meaning.proofs.NeverStuck.{no_builder_value}
use Rattle.weld_eval.specs.Fit.{IsFit, LegsAreFit}
use Rattle.weld_eval.specs.Takes.{Join, row_of}
use Rattle.weld_eval.proofs.Children.{gives, fit_builder, fit_legs}
use Rattle.weld_eval.proofs.LoopSteps.{step, fit_body, row_gives, row_joins}
use Rattle.weld_eval_forms.specs.Legs.{leg_lists}
use Rattle.weld_eval.specs.declared.thing.Held.{Held}
use Rattle.weld_eval_plain.proofs.Legs.{legs_good, some_leg}
use Rattle.weld_eval_plain.specs.Rows.{row_step, rows_from, loop_over, LegsAre, RowIs, RowsAre, HoldsRow, HoldsRows, RunsOn}

-- ---- parts of a loop

pub loop_legs_fit : (a : At) (ls : LegTrees) (e : ExprTree) (b n x : Binder) (f : ExprTree) (env : Env) (m : ExprTree) → m ≡ loop a ls e b n x f → IsFit m env → LegsAreFit ls env
loop_legs_fit a ls e b n x f env m is h = fit_legs a ls e b n x f env (subst (λ k. IsFit k env) is h)

pub loop_builder_fits : (a : At) (ls : LegTrees) (e : ExprTree) (b n x : Binder) (f : ExprTree) (env : Env) (m : ExprTree) → m ≡ loop a ls e b n x f → IsFit m env → IsFit e env
loop_builder_fits a ls e b n x f env m is h = fit_builder a ls e b n x f env (subst (λ k. IsFit k env) is h)

rows_typed : (a : At) (ls : LegTrees) (e : ExprTree) (b n x : Binder) (f : ExprTree) (env : Env) (h : IsFit (loop a ls e b n x f) env) (lists : List (List Value)) (rows : List Value)
    → eval_legs ls env ≡ done lists → rows_of lists ≡ done rows → AllAre (HasValue h.typed.1) (values rows)
rows_typed a ls e b n x f env h lists rows q r =
    let fit = subst (GivesOrFaults (LegsFit h.typed.0)) q (legs_good ls h.names h.typed.0 env h.typed.2 h.named.formed h.named.fits).fits in
    subst (GivesOrFaults (λ vs. AllAre (HasValue h.typed.1) (values vs))) r (rows_good h.typed.0 h.typed.1 lists h.typed.3 fit).fits

holds_start : (a : At) (ls : LegTrees) (e : ExprTree) (b n x : Binder) (f : ExprTree) (env : Env) (lists : List (List Value)) (rows : List Value) (s : Thing) (count : ℕ)
    → IsFit (loop a ls e b n x f) env → eval_legs ls env ≡ done lists → rows_of lists ≡ done rows → length rows ≡ count → eval e env ≡ done s → HoldsRows (loop a ls e b n x f) env lists s count
holds_start a ls e b n x f env lists rows s count h q r len u = record {
  fit = h;
  has = gives e h.names h.origins env h.answer s h.named h.typed.4 u;
  rows = rows;
  are = r;
  count_is = len;
  rows_have = rows_typed a ls e b n x f env h lists rows q r;
}

pub rows_start : (a : At) (ls : LegTrees) (e : ExprTree) (b n x : Binder) (f : ExprTree) (env : Env) (m : ExprTree) (lists : List (List Value)) (rows : List Value) (s : Thing) (count : ℕ)
    → m ≡ loop a ls e b n x f → IsFit m env → eval_legs ls env ≡ done lists → rows_of lists ≡ done rows → length rows ≡ count → eval e env ≡ done s → HoldsRows m env lists s count
rows_start a ls e b n x f env m lists rows s count is h q r len u =
    subst (λ k. HoldsRows k env lists s count) (sym is) (holds_start a ls e b n x f env lists rows s count (subst (λ k. IsFit k env) is h) q r len u)

pub loop_legs_fault : (a : At) (ls : LegTrees) (e : ExprTree) (b n x : Binder) (f : ExprTree) (env : Env) (m : ExprTree) → m ≡ loop a ls e b n x f → eval_legs ls env ≡ fault → eval m env ≡ fault
loop_legs_fault a ls e b n x f env m is q =
    ap (λ k. eval k env) is
    ∙ ap (λ o. and_then o (λ legs. and_then (rows_of legs) (λ rows. and_then (eval e env) (λ s. run (number_from 0 rows) s (λ r t. row_of b n x f env r t))))) q

some_legs : (a : At) (ls : LegTrees) (e : ExprTree) (b n x : Binder) (f : ExprTree) (env : Env) (hs : List Held) → IsFit (loop a ls e b n x f) env → eval_legs ls env ≡ done (leg_lists hs) → 0 < length hs
some_legs a ls e b n x f env hs h q =
    some_leg h.typed.0 h.typed.1 hs h.typed.3 (subst (GivesOrFaults (LegsFit h.typed.0)) q (legs_good ls h.names h.typed.0 env h.typed.2 h.named.formed h.named.fits).fits)

pub legs_there : (a : At) (ls : LegTrees) (e : ExprTree) (b n x : Binder) (f : ExprTree) (env : Env) (m : ExprTree) (hs : List Held) → m ≡ loop a ls e b n x f → IsFit m env → LegsAre m env (leg_lists hs) → 0 < length hs
legs_there a ls e b n x f env m hs is h q = some_legs a ls e b n x f env hs (subst (λ k. IsFit k env) is h) (subst (λ k. LegsAre k env (leg_lists hs)) is q)

pub rows_are_all : (a : At) (ls : LegTrees) (e : ExprTree) (b n x : Binder) (f : ExprTree) (env : Env) (lists : List (List Value)) (rows : List Value) (s : Thing)
    → eval_legs ls env ≡ done lists → rows_of lists ≡ done rows → eval e env ≡ done s → eval (loop a ls e b n x f) env ≡ loop_over (loop a ls e b n x f) env lists s
rows_are_all a ls e b n x f env lists rows s q r u =
    ap (λ o. and_then o (λ legs. and_then (rows_of legs) (λ vs. and_then (eval e env) (λ t. run (number_from 0 vs) t (λ w y. row_of b n x f env w y))))) q
    ∙ ap (λ o. and_then o (λ vs. and_then (eval e env) (λ t. run (number_from 0 vs) t (λ w y. row_of b n x f env w y)))) r
    ∙ ap (λ o. and_then o (λ t. run (number_from 0 rows) t (λ w y. row_of b n x f env w y))) u
    ∙ sym (ap (λ o. and_then o (λ vs. rows_from (loop a ls e b n x f) env 0 vs s)) r)

-- ---- what has nothing merged

mutual
  bare_typed : (s : Thing) (u : TypeTree) → IsWellFormed u → IsBuilder u → HasThing s u → HasThing (bare_thing s) u
  bare_typed (plain v) u w b h = absurd (no_builder_value u v w b h)
  bare_typed (building p) (build c) w b h = (h.0, bare_has p c h.1)
  bare_typed (building p) (scalar k) w b h = h
  bare_typed (building p) (vec t) w b h = h
  bare_typed (building p) (tuple us) w b h = h
  bare_typed (building p) (dict k v) w b h = h
  bare_typed (several ss) (tuple us) w b h = (h.0, bare_all_typed ss us w.1 b h.1)
  bare_typed (several ss) (build c) w b h = h
  bare_typed (several ss) (scalar k) w b h = h
  bare_typed (several ss) (vec t) w b h = h
  bare_typed (several ss) (dict k v) w b h = h

  bare_all_typed : (ss : Things) (us : TypeTrees) → AreWellFormed us → AreBuilders us → HaveBuilders ss us → HaveBuilders (bare_things ss) us
  bare_all_typed no_things no_types w b h = h
  bare_all_typed no_things (more_types u us) w b h = h
  bare_all_typed (more_things s ss) no_types w b h = absurd h
  bare_all_typed (more_things (plain v) ss) (more_types u us) w b h = h
  bare_all_typed (more_things (building p) ss) (more_types u us) w b h = (bare_typed (building p) u w.0 b.0 h.0, bare_all_typed ss us w.1 b.1 h.1)
  bare_all_typed (more_things (several ds) ss) (more_types u us) w b h = (bare_typed (several ds) u w.0 b.0 h.0, bare_all_typed ss us w.1 b.1 h.1)

-- ---- one row

row_body : (a : At) (ls : LegTrees) (e : ExprTree) (b n x : Binder) (f : ExprTree) (env : Env) (i : ℕ) (s : Thing) (v : Value) → HoldsRow (loop a ls e b n x f) env s v
    → IsFit f ((x.sym.0, plain v) ∷ (n.sym.0, plain (whole_number i)) ∷ (b.sym.0, bare_thing s) ∷ env)
row_body a ls e b n x f env i s v k =
    let h = k.fit in
    fit_body a ls e b n x f env h i v (bare_thing s) (bare_typed s h.answer (type_formed e h.names h.answer h.typed.4 h.named.formed) h.typed.5 k.has) k.row

pub row_body_fits : (a : At) (ls : LegTrees) (e : ExprTree) (b n x : Binder) (f : ExprTree) (env : Env) (m : ExprTree) (i : ℕ) (s : Thing) (v : Value) → m ≡ loop a ls e b n x f → HoldsRow m env s v
    → IsFit f ((x.sym.0, plain v) ∷ (n.sym.0, plain (whole_number i)) ∷ (b.sym.0, bare_thing s) ∷ env)
row_body_fits a ls e b n x f env m i s v is k = row_body a ls e b n x f env i s v (subst (λ l. HoldsRow l env s v) is k)

row_joined : (a : At) (ls : LegTrees) (e : ExprTree) (b n x : Binder) (f : ExprTree) (env : Env) (i : ℕ) (s d : Thing) (v : Value) → HoldsRow (loop a ls e b n x f) env s v
    → eval f ((x.sym.0, plain v) ∷ (n.sym.0, plain (whole_number i)) ∷ (b.sym.0, bare_thing s) ∷ env) ≡ done d → Join s d
row_joined a ls e b n x f env i s d v k q = row_joins a ls e b n x f env k.fit i v s d k.has k.row q

pub row_merges : (a : At) (ls : LegTrees) (e : ExprTree) (b n x : Binder) (f : ExprTree) (env : Env) (m : ExprTree) (i : ℕ) (s d : Thing) (v : Value) → m ≡ loop a ls e b n x f → HoldsRow m env s v
    → eval f ((x.sym.0, plain v) ∷ (n.sym.0, plain (whole_number i)) ∷ (b.sym.0, bare_thing s) ∷ env) ≡ done d → Join s d
row_merges a ls e b n x f env m i s d v is k q = row_joined a ls e b n x f env i s d v (subst (λ l. HoldsRow l env s v) is k) q

row_done : (a : At) (ls : LegTrees) (e : ExprTree) (b n x : Binder) (f : ExprTree) (env : Env) (i : ℕ) (s d : Thing) (v : Value) → HoldsRow (loop a ls e b n x f) env s v
    → eval f ((x.sym.0, plain v) ∷ (n.sym.0, plain (whole_number i)) ∷ (b.sym.0, bare_thing s) ∷ env) ≡ done d → row_step (loop a ls e b n x f) env (i, v) s ≡ done (after_thing s d)
row_done a ls e b n x f env i s d v k q = step a ls e b n x f env k.fit (i, v) s k.has ∙ ap (map_out (after_thing s)) q

pub row_makes : (a : At) (ls : LegTrees) (e : ExprTree) (b n x : Binder) (f : ExprTree) (env : Env) (m : ExprTree) (i : ℕ) (s d t : Thing) (v : Value) → m ≡ loop a ls e b n x f → HoldsRow m env s v
    → eval f ((x.sym.0, plain v) ∷ (n.sym.0, plain (whole_number i)) ∷ (b.sym.0, bare_thing s) ∷ env) ≡ done d → t ≡ after_thing s d → row_step m env (i, v) s ≡ done t
row_makes a ls e b n x f env m i s d t v is k q u =
    ap (λ l. row_step l env (i, v) s) is ∙ row_done a ls e b n x f env i s d v (subst (λ l. HoldsRow l env s v) is k) q ∙ ap done (sym u)

row_fault : (a : At) (ls : LegTrees) (e : ExprTree) (b n x : Binder) (f : ExprTree) (env : Env) (i : ℕ) (s : Thing) (v : Value) → HoldsRow (loop a ls e b n x f) env s v
    → eval f ((x.sym.0, plain v) ∷ (n.sym.0, plain (whole_number i)) ∷ (b.sym.0, bare_thing s) ∷ env) ≡ fault → row_step (loop a ls e b n x f) env (i, v) s ≡ fault
row_fault a ls e b n x f env i s v k q = step a ls e b n x f env k.fit (i, v) s k.has ∙ ap (map_out (after_thing s)) q

pub row_faults : (a : At) (ls : LegTrees) (e : ExprTree) (b n x : Binder) (f : ExprTree) (env : Env) (m : ExprTree) (i : ℕ) (s : Thing) (v : Value) → m ≡ loop a ls e b n x f → HoldsRow m env s v
    → eval f ((x.sym.0, plain v) ∷ (n.sym.0, plain (whole_number i)) ∷ (b.sym.0, bare_thing s) ∷ env) ≡ fault → row_step m env (i, v) s ≡ fault
row_faults a ls e b n x f env m i s v is k q =
    ap (λ l. row_step l env (i, v) s) is ∙ row_fault a ls e b n x f env i s v (subst (λ l. HoldsRow l env s v) is k) q

-- ---- row after row

row_has : (n : ExprTree) (env : Env) (h : IsFit n env) (rows : List Value) (i : ℕ) (v : Value) → RowsAre n env h rows → slice_get rows i ≡ Some v → RowIs n env h v
row_has (loop a ls e b n x f) env h rows i v all q = among rows i all q
  where
    among : (rows : List Value) (i : ℕ) → AllAre (HasValue h.typed.1) (values rows) → slice_get rows i ≡ Some v → HasValue h.typed.1 v
    among [] i all q = let no : ⊥ = cc in absurd no
    among (w ∷ ws) zero all q = let same : w ≡ v = cc in subst (HasValue h.typed.1) same all.0
    among (w ∷ ws) (suc i) all q = among ws i all.1 q
row_has _ env h rows i v all q = absurd all

next_has : (n : ExprTree) (env : Env) (h : IsFit n env) (i : ℕ) (v : Value) (s t : Thing) → HasThing s h.answer → RowIs n env h v → row_step n env (i, v) s ≡ done t → HasThing t h.answer
next_has (loop a ls e b n x f) env h i v s t hs hv q = row_gives a ls e b n x f env h i v s t hs hv q
next_has _ env h i v s t hs hv q = absurd hv

drop_row : (rows : List Value) (i : ℕ) (v : Value) → slice_get rows i ≡ Some v → drop i rows ≡ v ∷ drop (i + 1) rows
drop_row [] i v q = let no : ⊥ = cc in absurd no
drop_row (w ∷ ws) zero v q = let same : w ≡ v = cc in ap (λ u. u ∷ ws) same
drop_row (w ∷ ws) (suc i) v q = let more : suc (i + 1) ≡ suc i + 1 = omega arith in drop_row ws i v q ∙ ap (λ n. v ∷ drop n (w ∷ ws)) more

one_row : (n : ExprTree) (env : Env) (rows : List Value) (i : ℕ) (v : Value) (s : Thing) → slice_get rows i ≡ Some v → rows_from n env i (drop i rows) s ≡ and_then (row_step n env (i, v) s) (λ t. rows_from n env (i + 1) (drop (i + 1) rows) t)
one_row n env rows i v s q =
    let more : suc i ≡ i + 1 = omega arith in
    ap (λ l. rows_from n env i l s) (drop_row rows i v q) ∙ ap (λ k. and_then (row_step n env (i, v) s) (λ t. rows_from n env k (drop (i + 1) rows) t)) more

pub runs_start : (n : ExprTree) (env : Env) (lists : List (List Value)) (s : Thing) (count : ℕ) → HoldsRows n env lists s count → RunsOn n env lists count s 0 s
runs_start n env lists s count h = record { holds = h; same = ap (λ o. and_then o (λ rows. rows_from n env 0 rows s)) h.are }

pub runs_row : (n : ExprTree) (env : Env) (lists : List (List Value)) (count : ℕ) (start : Thing) (i : ℕ) (s : Thing) (v : Value) → (h : RunsOn n env lists count start i s) → slice_get h.holds.rows i ≡ Some v → HoldsRow n env s v
runs_row n env lists count start i s v h q = record { fit = h.holds.fit; has = h.holds.has; row = row_has n env h.holds.fit h.holds.rows i v h.holds.rows_have q }

pub runs_on : (n : ExprTree) (env : Env) (lists : List (List Value)) (count : ℕ) (start : Thing) (i : ℕ) (s t : Thing) (v : Value) → (h : RunsOn n env lists count start i s) → slice_get h.holds.rows i ≡ Some v
    → row_step n env (i, v) s ≡ done t → RunsOn n env lists count start (i + 1) t
runs_on n env lists count start i s t v h q r = record {
  holds = record {
    fit = h.holds.fit;
    has = next_has n env h.holds.fit i v s t h.holds.has (row_has n env h.holds.fit h.holds.rows i v h.holds.rows_have q) r;
    rows = h.holds.rows;
    are = h.holds.are;
    count_is = h.holds.count_is;
    rows_have = h.holds.rows_have;
  };
  same = h.same ∙ one_row n env h.holds.rows i v s q ∙ ap (λ o. and_then o (λ u. rows_from n env (i + 1) (drop (i + 1) h.holds.rows) u)) r;
}

pub runs_fault : (n : ExprTree) (env : Env) (lists : List (List Value)) (count : ℕ) (start : Thing) (i : ℕ) (s : Thing) (v : Value) → (h : RunsOn n env lists count start i s) → slice_get h.holds.rows i ≡ Some v
    → row_step n env (i, v) s ≡ fault → loop_over n env lists start ≡ fault
runs_fault n env lists count start i s v h q r =
    h.same ∙ one_row n env h.holds.rows i v s q ∙ ap (λ o. and_then o (λ u. rows_from n env (i + 1) (drop (i + 1) h.holds.rows) u)) r
