-- What is done in place to a builder leaves it of its type.
use Rattle.std.proofs.Common.{◌≡◌, Bool, true, false, if◌then◌else◌, ℕ, suc, [], ◌∷◌, refl, sym, subst, ◌∙◌}
use Rattle.weld_tree.specs.TypeTree.{TypeTree, TypeTrees, BuildTree, scalar, vec, struct as tuple, dict, build, no_types, more_types}
use Rattle.weld_tree.specs.Types.{IsBuilder, AreBuilders, IsWellFormed, AreWellFormed, HasTypes, takes}
use Rattle.weld_tree.specs.ExprTree.{ExprTree, leaf, one, two, three, many, let_in, loop, iterate, ExprTrees, no_exprs, more_exprs, binary, and, or, look_up, key_exists, merge, if_else, select, slice, make_vec, make_struct}
use Rattle.weld_builders.specs.Outcome.{Outcome}
use Rattle.weld_meaning.specs.Thing.{Thing, plain, building, several, Things, no_things, more_things, struct_of, bare_thing, bare_things, fields_of}
use Rattle.weld_meaning.specs.ThingType.{HasThing, HaveBuilders}
use Rattle.weld_meaning.specs.Typing.{Types, HasType, HaveTypes, body_types, truth_type}
use Rattle.weld_meaning.specs.Origin.{Path}
use Rattle.weld_meaning.specs.Evaluation.{Env, whole_number, number_from, with_row, merged, chosen, eval}
use Rattle.weld_meaning.proofs.Good.{Good, good, then_good, map_good, value_out_good, as_value_good, free_value_type}
use Rattle.weld_meaning.proofs.WellFormed.{formed_bind, formed_body, type_formed, row_formed, takes_free}
use Rattle.weld_meaning.proofs.ValuesGood.{rows_good, truth_of_good}
use Rattle.weld_meaning.proofs.PartsGood.{bare_has, merge_good}
use Rattle.weld_meaning.proofs.NeverStuck.{fits_bind, fits_body, no_builder_value, never_stuck, run_good}
use Rattle.weld_eval.proofs.Children.{key_laws}
use Rattle.weld_eval_plain.proofs.Legs.{legs_good}
use Rattle.weld_acts.specs.Act.{IsAct, AllAct, act, act_all}
use Rattle.weld_acts.proofs.InPlace.{Typed, first_has, rest_have, fields_have, rows_have}

-- ---- what has nothing merged

mutual
  pub bare_typed : (s : Thing) (u : TypeTree) → IsWellFormed u → IsBuilder u → HasThing s u → HasThing (bare_thing s) u
  bare_typed (plain v) u w b h = absurd (no_builder_value u v w b h)
  bare_typed (building p) (build c) w b h = (h.0, bare_has p c h.1)
  bare_typed (building p) (scalar k) w b h = h
  bare_typed (building p) (vec t) w b h = h
  bare_typed (building p) (tuple us) w b h = h
  bare_typed (building p) (dict k v) w b h = h
  bare_typed (several ss) (tuple us) w b h = (h.0, all_bare_typed ss us w.1 b h.1)
  bare_typed (several ss) (build c) w b h = h
  bare_typed (several ss) (scalar k) w b h = h
  bare_typed (several ss) (vec t) w b h = h
  bare_typed (several ss) (dict k v) w b h = h

  all_bare_typed : (ss : Things) (us : TypeTrees) → AreWellFormed us → AreBuilders us → HaveBuilders ss us → HaveBuilders (bare_things ss) us
  all_bare_typed no_things no_types w b h = h
  all_bare_typed no_things (more_types u us) w b h = h
  all_bare_typed (more_things s ss) no_types w b h = absurd h
  all_bare_typed (more_things (plain v) ss) (more_types u us) w b h = h
  all_bare_typed (more_things (building p) ss) (more_types u us) w b h = (bare_typed (building p) u w.0 b.0 h.0, all_bare_typed ss us w.1 b.1 h.1)
  all_bare_typed (more_things (several ds) ss) (more_types u us) w b h = (bare_typed (several ds) u w.0 b.0 h.0, all_bare_typed ss us w.1 b.1 h.1)

-- ---- structs

-- the things are builders of these types, one by one
pub more_have : (x : Thing) (xs : Things) (u : TypeTree) (us : TypeTrees) → IsWellFormed u → IsBuilder u → HasThing x u → HaveBuilders xs us → HaveBuilders (more_things x xs) (more_types u us)
more_have (plain v) xs u us w b h k = absurd (no_builder_value u v w b h)
more_have (building p) xs u us w b h k = (h, k)
more_have (several ss) xs u us w b h k = (h, k)

-- a struct of builders is none of values
pub struct_is_several : (xs : Things) (us : TypeTrees) → HasTypes us → HaveBuilders xs us → struct_of xs ≡ several xs
struct_is_several xs no_types some h = absurd some
struct_is_several no_things (more_types u us) some h = absurd h
struct_is_several (more_things (plain v) xs) (more_types u us) some h = absurd h
struct_is_several (more_things (building p) xs) (more_types u us) some h = refl
struct_is_several (more_things (several ss) xs) (more_types u us) some h = refl

struct_has : (xs : Things) (us : TypeTrees) → HasTypes us → HaveBuilders xs us → HasThing (struct_of xs) (tuple us)
struct_has xs us some h = subst (λ y. HasThing y (tuple us)) (sym (struct_is_several xs us some h)) (some, h)

-- ---- merges and choices

merged_has : (b : BuildTree) (x : Thing) {o : Outcome Thing} → HasThing x (build b) → Good (λ y. HasThing y (takes b)) o → Good (λ y. HasThing y (build b)) (merged x o)
merged_has b (plain v) h g = absurd h
merged_has b (building p) h g =
    then_good _ (value_out_good (takes b) (free_value_type (takes b) (takes_free b h.0)) g) (λ v hv. map_good building (merge_good key_laws.total p b v h.1 hv) (λ q hq. (h.0, hq)))
merged_has b (several ts) h g = absurd h

either_good : {P : Thing → Type 0} (x : Thing) {o p : Outcome Thing} → HasThing x truth_type → Good P o → Good P p → Good P (chosen x o p)
either_good {P = P} x {o = o} {p = p} h a b = then_good _ (as_value_good truth_type x tt h) (λ v k. then_good _ (truth_of_good v k) (λ c u. by c))
  where
    by : (c : Bool) → Good P (if c then o else p)
    by true = a
    by false = b

-- ---- the induction

mutual
  pub act_good : (e : ExprTree) (b : ℕ) (p : Path) (env : Env) (s : Thing) (names : Types) (t : TypeTree) → IsAct b p e → Typed names env → HasType e names t → IsBuilder t → HasThing s t → Good (λ y. HasThing y t) (act e env s)
  act_good (leaf a l) b p env s names t is n h k hs = good hs
  act_good (one a o e) b p env s names t is n h k hs = good hs
  act_good (two a (binary op) e v) b p env s names t is n h k hs = absurd is.0
  act_good (two a and e v) b p env s names t is n h k hs = absurd is.0
  act_good (two a or e v) b p env s names t is n h k hs = absurd is.0
  act_good (two a look_up e v) b p env s names t is n h k hs = absurd is.0
  act_good (two a key_exists e v) b p env s names t is n h k hs = absurd is.0
  act_good (two a merge e v) b p env s names t is n h k hs =
      let same : t ≡ build h.4.0 = h.4.3 ∙ h.4.1 in
      let item : Good (λ y. HasThing y (takes h.4.0)) (eval v env) = subst (λ w. Good (λ y. HasThing y w) (eval v env)) h.4.2 (never_stuck key_laws v names h.1 env h.3 n.formed n.fits) in
      then_good _ (act_good e b p env s names t is.1 n (subst (HasType e names) (sym h.4.3) h.2) k hs)
      (λ x hx. subst (λ w. Good (λ y. HasThing y w) (merged x (eval v env))) (sym same) (merged_has h.4.0 x (subst (HasThing x) same hx) item))
  act_good (three a if_else c e f) b p env s names t is n h k hs =
      let x = act_good e b p env s names t is.2 n (subst (HasType e names) h.6.1 h.4) k hs in
      let y = act_good f b p env s names t is.3 n (subst (HasType f names) h.6.2 h.5) k hs in
      then_good _ (never_stuck key_laws c names h.0 env h.3 n.formed n.fits) (λ z hz. either_good z (subst (HasThing z) h.6.0 hz) x y)
  act_good (three a select c e f) b p env s names t is n h k hs = absurd is.0
  act_good (three a slice c e f) b p env s names t is n h k hs = absurd is.0
  act_good (many a make_vec es) b p env s names t is n h k hs = absurd is.0
  act_good (many a make_struct es) b p env s names t is n h k hs =
      let same = h.2.2 in
      let builders : AreBuilders h.0 = subst IsBuilder same k in
      let formed : IsWellFormed (tuple h.0) = subst IsWellFormed same (type_formed (many a make_struct es) names t h n.formed) in
      let fields = fields_have s h.0 formed builders (subst (HasThing s) same hs) in
      map_good struct_of (all_act_good es b p 0 env (fields_of s) names h.0 is.1 n h.1 formed.1 builders fields.1)
      (λ xs g. subst (HasThing (struct_of xs)) (sym same) (struct_has xs h.0 h.2.0 g))
  act_good (let_in a y v e) b p env s names t is n h k hs =
      then_good _ (never_stuck key_laws v names h.0 env h.1 n.formed n.fits)
      (λ x hx. act_good e b p ((y.sym.0, x) ∷ env) s ((y.sym.0, h.0) ∷ names) t is.2
      (record { formed = formed_bind names y.sym.0 h.0 (type_formed v names h.0 h.1 n.formed) n.formed; fits = fits_bind names env y.sym.0 h.0 x hx n.fits }) h.3 k hs)
  act_good (loop a ls e c m x f) b p env s names t is n h k hs =
      let r = h.1 in
      let start = type_formed e names t h.4 n.formed in
      let formed = formed_body c m x t r names start (row_formed ls names h.0 r h.2 h.3 n.formed) n.formed in
      then_good _ (legs_good ls names h.0 env h.2 n.formed n.fits) (λ legs g. then_good _ (rows_good h.0 r legs h.3 g) (λ rows q.
      then_good _ (act_good e b p env s names t is.1 n h.4 k hs) (λ u hu.
      run_good r (λ y. HasThing y t) (λ row w. act f (with_row c m x (bare_thing u) (plain (whole_number row.0)) (plain row.1) env) w)
      (λ row w hv hw.
      act_good f c.sym.0 [] (with_row c m x (bare_thing u) (plain (whole_number row.0)) (plain row.1) env) w (body_types c m x t r names) t is.5
      (record { formed = formed; fits = fits_body names env c m x t r (bare_thing u) row.1 row.0 (bare_typed u t start k hu) hv n.fits }) h.9 k hw)
      (number_from 0 rows) u (rows_have r 0 rows q) hu)))
  act_good (iterate a e y f) b p env s names t is n h k hs = absurd is

  pub all_act_good : (es : ExprTrees) (b : ℕ) (p : Path) (i : ℕ) (env : Env) (ss : Things) (names : Types) (us : TypeTrees) → AllAct b p i es → Typed names env → HaveTypes es names us → AreWellFormed us → AreBuilders us → HaveBuilders ss us → Good (λ xs. HaveBuilders xs us) (act_all es env ss)
  all_act_good no_exprs b p i env ss names no_types is n h w k hs = good tt
  all_act_good no_exprs b p i env ss names (more_types u us) is n h w k hs = absurd h
  all_act_good (more_exprs e es) b p i env ss names no_types is n h w k hs = absurd h
  all_act_good (more_exprs e es) b p i env no_things names (more_types u us) is n h w k hs = absurd hs
  all_act_good (more_exprs e es) b p i env (more_things x xs) names (more_types u us) is n h w k hs =
      then_good _ (act_good e b (i ∷ p) env x names u is.0 n h.0 k.0 (first_has x xs u us hs))
      (λ y hy. map_good (more_things y) (all_act_good es b p (suc i) env xs names us is.1 n h.1 w.1 k.1 (rest_have x xs u us hs)) (λ ys g. more_have y ys u us w.0 k.0 hy g))
