-- The law of loops at every loop of a program that keeps the rules.
use Rattle.std.proofs.Common.{◌≡◌, ℕ, List, [], ◌∷◌, ◌++◌, refl, ap, sym, subst, ◌∙◌, inl, inr}
use Rattle.weld_tree.specs.declared.binder.Binder.{Binder}
use Rattle.weld_tree.specs.TypeTree.{TypeTree, BuildTree, TypeTrees, scalar, vec, struct as tuple, dict, build, list, total, keyed, cells, groups, no_types, more_types}
use Rattle.weld_tree.specs.Types.{IsBuilderFree, AreBuilderFree, IsBuilder, AreBuilders, IsWellFormed, AreWellFormed}
use Rattle.weld_tree.specs.ExprTree.{ExprTree, leaf, one, two, three, many, let_in, loop, iterate, ExprTrees, no_exprs, more_exprs, LegTree, whole, strided, LegTrees, no_legs, more_legs}
use Rattle.weld_builders.specs.Outcome.{Outcome, done, fault, stuck, and_then, map_out}
use Rattle.weld_builders.specs.Part.{Part, Totals, list_part, total_part, totals_part, cells_part, keyed_part, groups_part, shape_of, start_part, bare, after_part}
use Rattle.weld_builders.specs.Range.{TotalsInRange, IsInRange}
use Rattle.weld_meaning.specs.Environment.{Named}
use Rattle.weld_meaning.specs.Thing.{Thing, plain, building, several, Things, no_things, more_things, bare_thing, bare_things, after_thing, after_things}
use Rattle.weld_meaning.specs.Typing.{Types, AreFormed, HasType, RowHas, body_types}
use Rattle.weld_meaning.specs.ThingType.{TotalsFit, AreTotals, HasPart, HasThing, HaveBuilders, EnvFits}
use Rattle.weld_meaning.specs.Evaluation.{Env, Row, whole_number, run}
use Rattle.weld_meaning.specs.Origin.{Origin, value, origin, own_paths, outside, in_body, in_turn}
use Rattle.weld_meaning.specs.Linear.{Keeps, AllKeep, LegKeeps, LegsKeep}
use Rattle.weld_meaning.specs.Loops.{Site, body_of, RowsHave, action, joined, LawOfLoop, IsSite, LoopAt, LoopIn, LoopInLeg, LoopInLegs}
use Rattle.weld_meaning.proofs.Joining.{MergesAfter, run-after}
use Rattle.weld_meaning.proofs.Before.{before, related-bind, related-self}
use Rattle.weld_meaning.proofs.Law.{commutes}
use Rattle.weld_meaning.specs.Meaning.{GivesOrFaults}
use Rattle.weld_meaning.proofs.Good.{Good}
use Rattle.weld_meaning.proofs.WellFormed.{formed_bind, formed_body, type_formed, legs_formed, row_formed}
use Rattle.weld_meaning.proofs.PartsGood.{KeyLaws, bare_has}
use Rattle.weld_meaning.proofs.NeverStuck.{never_stuck, run_good, fits_body, no_builder_value}
use Rattle.weld_meaning.specs.Forms.{HasForm, NamesHaveForms}
use Rattle.weld_meaning.proofs.OriginTypes.{forms_bind, forms_outside, forms_in_body, origin_forms, before_own}
use Rattle.weld_meaning.proofs.Shapes.{Holds, Ends, Shaped, AllShaped, keeps_shape, run_shaped, shaped_in_body}

-- what the proof takes from the laws of builders
pub record PartLaws : Type 0 where
  pub merges : MergesAfter
  pub keys : KeyLaws
  pub bare_shape : (p : Part) → shape_of (bare p) ≡ shape_of p
  pub neutral : (s : Part) → IsInRange s → after_part s (bare s) ≡ s

-- ---- a builder of its type joined with what has nothing merged

totals_in_range : (xs : Totals) (ts : TypeTrees) → TotalsFit xs ts → TotalsInRange xs
totals_in_range [] no_types h = tt
totals_in_range [] (more_types t ts) h = absurd h
totals_in_range (x ∷ xs) no_types h = absurd h
totals_in_range (x ∷ xs) (more_types t ts) h = (h.1, totals_in_range xs ts h.2)

are_in_range : (xs : Totals) (t : TypeTree) → AreTotals xs t → TotalsInRange xs
are_in_range xs (tuple ts) h = totals_in_range xs ts h
are_in_range xs (scalar k) h = absurd h
are_in_range xs (vec t) h = absurd h
are_in_range xs (dict s t) h = absurd h
are_in_range xs (build b) h = absurd h

in_range : (p : Part) (b : BuildTree) → HasPart p b → IsInRange p
in_range (list_part vs) b h = tt
in_range (total_part op k x) (total t o) h = h.2
in_range (total_part op k x) (list t) h = absurd h
in_range (total_part op k x) (keyed s t o) h = absurd h
in_range (total_part op k x) (cells t o) h = absurd h
in_range (total_part op k x) (groups s t) h = absurd h
in_range (totals_part op xs) (total t o) h = are_in_range xs t h.1
in_range (totals_part op xs) (list t) h = absurd h
in_range (totals_part op xs) (keyed s t o) h = absurd h
in_range (totals_part op xs) (cells t o) h = absurd h
in_range (totals_part op xs) (groups s t) h = absurd h
in_range (cells_part op k xs) (cells t o) h = h.2
in_range (cells_part op k xs) (list t) h = absurd h
in_range (cells_part op k xs) (total t o) h = absurd h
in_range (cells_part op k xs) (keyed s t o) h = absurd h
in_range (cells_part op k xs) (groups s t) h = absurd h
in_range (keyed_part op k m) b h = tt
in_range (groups_part m) b h = tt

-- parts of one shape have the same builder with nothing merged
bare_after : PartLaws → (d q : Part) (b : BuildTree) → HasPart d b → shape_of d ≡ shape_of q → after_part d (bare q) ≡ d
bare_after laws d q b h e = ap (λ s. after_part d (start_part s)) (sym e) ∙ laws.neutral d (in_range d b h)

mutual
  -- a builder d, joined with the builder of the shape of s that has nothing merged, is itself where it has that shape
  after-bare : PartLaws → (s d : Thing) (u : TypeTree) → IsWellFormed u → IsBuilder u → HasThing s u → HasThing d u → Shaped s d → after_thing d (bare_thing s) ≡ d
  after-bare laws (plain v) d u w b hs hd e = absurd (no_builder_value u v w b hs)
  after-bare laws (building q) (plain v) u w b hs hd e = absurd (no_builder_value u v w b hd)
  after-bare laws (building q) (building d) (build c) w b hs hd e = ap building (bare_after laws d q c hd.1 e)
  after-bare laws (building q) (building d) (scalar k) w b hs hd e = absurd b
  after-bare laws (building q) (building d) (vec t) w b hs hd e = absurd b
  after-bare laws (building q) (building d) (tuple us) w b hs hd e = absurd hd
  after-bare laws (building q) (building d) (dict k v) w b hs hd e = absurd b
  after-bare laws (building q) (several ds) (build c) w b hs hd e = absurd hd
  after-bare laws (building q) (several ds) (scalar k) w b hs hd e = absurd b
  after-bare laws (building q) (several ds) (vec t) w b hs hd e = absurd b
  after-bare laws (building q) (several ds) (tuple us) w b hs hd e = absurd hs
  after-bare laws (building q) (several ds) (dict k v) w b hs hd e = absurd b
  after-bare laws (several ss) (plain v) u w b hs hd e = absurd (no_builder_value u v w b hd)
  after-bare laws (several ss) (building d) (build c) w b hs hd e = absurd hs
  after-bare laws (several ss) (building d) (scalar k) w b hs hd e = absurd b
  after-bare laws (several ss) (building d) (vec t) w b hs hd e = absurd b
  after-bare laws (several ss) (building d) (tuple us) w b hs hd e = absurd hd
  after-bare laws (several ss) (building d) (dict k v) w b hs hd e = absurd b
  after-bare laws (several ss) (several ds) (tuple us) w b hs hd e = ap several (after-all_bare laws ss ds us w.1 b hs.1 hd.1 e)
  after-bare laws (several ss) (several ds) (scalar k) w b hs hd e = absurd b
  after-bare laws (several ss) (several ds) (vec t) w b hs hd e = absurd b
  after-bare laws (several ss) (several ds) (dict k v) w b hs hd e = absurd b
  after-bare laws (several ss) (several ds) (build c) w b hs hd e = absurd hd

  after-all_bare : PartLaws → (ss ds : Things) (us : TypeTrees) → AreWellFormed us → AreBuilders us → HaveBuilders ss us → HaveBuilders ds us → AllShaped ss ds → after_things ds (bare_things ss) ≡ ds
  after-all_bare laws no_things no_things us w b hs hd e = refl
  after-all_bare laws no_things (more_things d ds) no_types w b hs hd e = absurd hd
  after-all_bare laws no_things (more_things d ds) (more_types u us) w b hs hd e = absurd hs
  after-all_bare laws (more_things s ss) ds no_types w b hs hd e = absurd hs
  after-all_bare laws (more_things s ss) no_things (more_types u us) w b hs hd e = absurd hd
  after-all_bare laws (more_things (plain v) ss) (more_things d ds) (more_types u us) w b hs hd e = absurd hs
  after-all_bare laws (more_things (building q) ss) (more_things (plain v) ds) (more_types u us) w b hs hd e = absurd hd
  after-all_bare laws (more_things (building q) ss) (more_things (building d) ds) (more_types u us) w b hs hd e =
      λ i. more_things (after-bare laws (building q) (building d) u w.0 b.0 hs.0 hd.0 e.0 i) (after-all_bare laws ss ds us w.1 b.1 hs.1 hd.1 e.1 i)
  after-all_bare laws (more_things (building q) ss) (more_things (several es) ds) (more_types u us) w b hs hd e =
      λ i. more_things (after-bare laws (building q) (several es) u w.0 b.0 hs.0 hd.0 e.0 i) (after-all_bare laws ss ds us w.1 b.1 hs.1 hd.1 e.1 i)
  after-all_bare laws (more_things (several qs) ss) (more_things (plain v) ds) (more_types u us) w b hs hd e = absurd hd
  after-all_bare laws (more_things (several qs) ss) (more_things (building d) ds) (more_types u us) w b hs hd e =
      λ i. more_things (after-bare laws (several qs) (building d) u w.0 b.0 hs.0 hd.0 e.0 i) (after-all_bare laws ss ds us w.1 b.1 hs.1 hd.1 e.1 i)
  after-all_bare laws (more_things (several qs) ss) (more_things (several es) ds) (more_types u us) w b hs hd e =
      λ i. more_things (after-bare laws (several qs) (several es) u w.0 b.0 hs.0 hd.0 e.0 i) (after-all_bare laws ss ds us w.1 b.1 hs.1 hd.1 e.1 i)

mutual
  -- a builder has its own shape, also where nothing is merged
  shaped_self : (s : Thing) → Shaped s s
  shaped_self (plain v) = tt
  shaped_self (building p) = refl
  shaped_self (several ss) = all_shaped_self ss

  all_shaped_self : (ss : Things) → AllShaped ss ss
  all_shaped_self no_things = tt
  all_shaped_self (more_things s ss) = (shaped_self s, all_shaped_self ss)

mutual
  bare_shaped : PartLaws → (s : Thing) → Shaped s (bare_thing s)
  bare_shaped laws (plain v) = tt
  bare_shaped laws (building p) = laws.bare_shape p
  bare_shaped laws (several ss) = all_bare_shaped laws ss

  all_bare_shaped : PartLaws → (ss : Things) → AllShaped ss (bare_things ss)
  all_bare_shaped laws no_things = tt
  all_bare_shaped laws (more_things s ss) = (bare_shaped laws s, all_bare_shaped laws ss)

mutual
  bare_of_type : (s : Thing) (u : TypeTree) → IsWellFormed u → IsBuilder u → HasThing s u → HasThing (bare_thing s) u
  bare_of_type (plain v) u w b h = absurd (no_builder_value u v w b h)
  bare_of_type (building p) (build c) w b h = (h.0, bare_has p c h.1)
  bare_of_type (building p) (scalar k) w b h = h
  bare_of_type (building p) (vec t) w b h = h
  bare_of_type (building p) (tuple us) w b h = h
  bare_of_type (building p) (dict k v) w b h = h
  bare_of_type (several ss) (tuple us) w b h = (h.0, bare_of_types ss us w.1 b h.1)
  bare_of_type (several ss) (build c) w b h = h
  bare_of_type (several ss) (scalar k) w b h = h
  bare_of_type (several ss) (vec t) w b h = h
  bare_of_type (several ss) (dict k v) w b h = h

  bare_of_types : (ss : Things) (us : TypeTrees) → AreWellFormed us → AreBuilders us → HaveBuilders ss us → HaveBuilders (bare_things ss) us
  bare_of_types no_things no_types w b h = h
  bare_of_types no_things (more_types u us) w b h = h
  bare_of_types (more_things s ss) no_types w b h = absurd h
  bare_of_types (more_things (plain v) ss) (more_types u us) w b h = h
  bare_of_types (more_things (building p) ss) (more_types u us) w b h = (bare_of_type (building p) u w.0 b.0 h.0, bare_of_types ss us w.1 b.1 h.1)
  bare_of_types (more_things (several ds) ss) (more_types u us) w b h = (bare_of_type (several ds) u w.0 b.0 h.0, bare_of_types ss us w.1 b.1 h.1)

-- ---- one loop

pub run-append : (f : Row → Thing → Outcome Thing) (rows more : List Row) (s : Thing) → run (rows ++ more) s f ≡ and_then (run rows s f) (λ t. run more t f)
run-append f [] more s = refl
run-append f (r ∷ rows) more s = by (f r s) (run-append f rows more)
  where
    by : (o : Outcome Thing) → ((t : Thing) → run (rows ++ more) t f ≡ and_then (run rows t f) (λ u. run more u f)) → and_then o (λ t. run (rows ++ more) t f) ≡ and_then (and_then o (λ t. run rows t f)) (λ u. run more u f)
    by (done t) h = h t
    by fault h = refl
    by stuck h = refl

-- where two ways to go on agree at what is known of a result
and_then_same : {B : Type 0} (P Q : Thing → Type 0) (o : Outcome Thing) (k h : Thing → Outcome B) → GivesOrFaults P o → Holds Q o → ((t : Thing) → P t → Q t → k t ≡ h t) → and_then o k ≡ and_then o h
and_then_same P Q (done t) k h p q e = e t p q
and_then_same P Q fault k h p q e = refl
and_then_same P Q stuck k h p q e = refl

-- what is known of the body of a loop of such a program
record BodyFacts (l : Site) (g : Named Origin) (o : Origin) : Type 0 where
  keeps : Keeps l.body (in_body l.builder_binder l.number_binder l.row_binder o g)
  gives_own : origin l.body (in_body l.builder_binder l.number_binder l.row_binder o g) ≡ own_paths o
  forms : HasForm o l.builder
  formed : IsWellFormed l.builder
  is_builder : IsBuilder l.builder
  typed : HasType l.body (body_types l.builder_binder l.number_binder l.row_binder l.builder l.row l.names) l.builder
  names_formed : AreFormed (body_types l.builder_binder l.number_binder l.row_binder l.builder l.row l.names)

module _ (laws : PartLaws) (l : Site) (g : Named Origin) (o : Origin) (facts : BodyFacts l g o) where
  own_whole : (s : Thing) → HasThing s l.builder → before s (own_paths o) ≡ s
  own_whole s h = before_own s o l.builder facts.forms facts.formed facts.is_builder h

  -- the body commutes with a start that stands before its builder
  step_after : (env : Env) (s : Thing) → HasThing s l.builder → (r : Row) (t : Thing) → body_of l env r (after_thing s t) ≡ map_out (after_thing s) (body_of l env r t)
  step_after env s h r t =
      commutes laws.merges l.body (in_body l.builder_binder l.number_binder l.row_binder o g) s _ _ facts.keeps
      (related-bind _ s _ _ l.row_binder.sym.0 value (plain r.1) (plain r.1) refl
      (related-bind _ s _ _ l.number_binder.sym.0 value (plain (whole_number r.0)) (plain (whole_number r.0)) refl
      (related-bind (outside g) s env env l.builder_binder.sym.0 (own_paths o) t (after_thing s t) (ap (λ u. after_thing u t) (sym (own_whole s h))) (related-self g s env))))
      ∙ ap (λ u. map_out (after_thing u) (body_of l env r t)) (ap (before s) facts.gives_own ∙ own_whole s h)

  loop_after : (env : Env) (s : Thing) (rows : List Row) (t : Thing) → HasThing s l.builder → run rows (after_thing s t) (body_of l env) ≡ map_out (after_thing s) (run rows t (body_of l env))
  loop_after env s rows t h = run-after s (body_of l env) (body_of l env) (step_after env s h) rows t

  starts_bare : (s d : Thing) → HasThing s l.builder → HasThing d l.builder → Shaped s d → after_thing d (bare_thing s) ≡ d
  starts_bare s d h k e = after-bare laws s d l.builder facts.formed facts.is_builder h k e

  whole_law : (env : Env) (s : Thing) (rows : List Row) → HasThing s l.builder → run rows s (body_of l env) ≡ map_out (after_thing s) (action (body_of l env) s rows)
  whole_law env s rows h =
      ap (λ u. run rows u (body_of l env)) (sym (starts_bare s s h h (shaped_self s))) ∙ loop_after env s rows (bare_thing s) h

  action_typed : (env : Env) (s : Thing) (rows : List Row) → EnvFits l.names env → HasThing s l.builder → RowsHave l.row rows → Good (λ d. HasThing d l.builder) (action (body_of l env) s rows)
  action_typed env s rows fit h rs =
      run_good l.row (λ d. HasThing d l.builder) (body_of l env)
      (λ r t hv ht. never_stuck laws.keys l.body _ l.builder _ facts.typed facts.names_formed (fits_body l.names env l.builder_binder l.number_binder l.row_binder l.builder l.row t r.1 r.0 ht hv fit))
      rows (bare_thing s) rs (bare_of_type s l.builder facts.formed facts.is_builder h)

  action_shaped : (env : Env) (s : Thing) (rows : List Row) → HasThing s l.builder → Ends (Shaped s) (action (body_of l env) s rows)
  action_shaped env s rows h =
      run_shaped (Shaped s) (body_of l env)
      (λ r t p. subst (λ u. Ends (Shaped u) (body_of l env r t)) (ap (before s) facts.gives_own ∙ own_whole s h)
      (keeps_shape l.body _ s _ facts.keeps (shaped_in_body g s s l.builder_binder l.number_binder l.row_binder o t (plain (whole_number r.0)) (plain r.1) env (own_whole s h) p)))
      rows (bare_thing s) (bare_shaped laws s)

  parts_law : (env : Env) (s : Thing) (rows more : List Row) → EnvFits l.names env → HasThing s l.builder → RowsHave l.row rows → action (body_of l env) s (rows ++ more) ≡ joined (action (body_of l env) s rows) (action (body_of l env) s more)
  parts_law env s rows more fit h rs =
      run-append (body_of l env) rows more (bare_thing s)
      ∙ and_then_same (λ d. HasThing d l.builder) (Shaped s) (action (body_of l env) s rows) (λ d. run more d (body_of l env)) (λ d. map_out (after_thing d) (action (body_of l env) s more))
      (action_typed env s rows fit h rs).fits (action_shaped env s rows h).holds
      (λ d hd e. ap (λ u. run more u (body_of l env)) (sym (starts_bare s d h hd e)) ∙ loop_after env d more (bare_thing s) hd)

  body_law : LawOfLoop l
  body_law = record { whole = whole_law; parts = parts_law }

-- ---- every loop

row_free : (us : TypeTrees) (r : TypeTree) → AreBuilderFree us → RowHas us r → IsBuilderFree r
row_free no_types r f h = absurd h
row_free (more_types u no_types) r f h = subst IsBuilderFree (sym h) f.0
row_free (more_types u (more_types v us)) r f h = subst IsBuilderFree (sym h) f

site_law : PartLaws → (ls : LegTrees) (e : ExprTree) (b n x : Binder) (f : ExprTree) (g : Named Origin) (types : Types) (l : Site) → Keeps f (in_body b n x (origin e g) g) → origin f (in_body b n x (origin e g) g) ≡ own_paths (origin e g) → AreFormed types → NamesHaveForms g types → IsSite ls e b n x f types l → LawOfLoop l
site_law laws ls e b n x f g types l keeps own w names h =
    let same : ◌≡◌ {A = Site} l (record { builder_binder = b; number_binder = n; row_binder = x; body = f; builder = l.builder; row = l.row; names = types }) =
    λ i. record { builder_binder = h.builder_binder i; number_binder = h.number_binder i; row_binder = h.row_binder i; body = h.body i; builder = l.builder; row = l.row; names = h.names i } in
    subst LawOfLoop (sym same) (body_law laws _ g (origin e g) (record {
      keeps = keeps;
      gives_own = own;
      forms = origin_forms e g types l.builder h.starts w names;
      formed = type_formed e types l.builder h.starts w;
      is_builder = h.is_builder;
      typed = h.gives;
      names_formed = formed_body b n x l.builder l.row types (type_formed e types l.builder h.starts w) (row_formed ls types h.legs.0 l.row h.legs.1 h.legs.2 w) w;
    }))

mutual
  pub law_at : PartLaws → (e : ExprTree) (g : Named Origin) (types : Types) (k : ℕ) (l : Site) → LoopAt e types k l → Keeps e g → AreFormed types → NamesHaveForms g types → LawOfLoop l
  law_at laws (leaf a o) g types k l h r w n = absurd h
  law_at laws (one a o e) g types k l h r w n = law_at laws e g types k l h r.0 w n
  law_at laws (two a o e f) g types k l (inl h) r w n = law_at laws e g types k l h r.0 w n
  law_at laws (two a o e f) g types k l (inr h) r w n = law_at laws f g types h.0 l h.2 r.1 w n
  law_at laws (three a o c e f) g types k l (inl h) r w n = law_at laws c g types k l h r.0 w n
  law_at laws (three a o c e f) g types k l (inr (inl h)) r w n = law_at laws e g types h.0 l h.2 r.1 w n
  law_at laws (three a o c e f) g types k l (inr (inr h)) r w n = law_at laws f g types h.0 l h.2 r.2 w n
  law_at laws (many a o es) g types k l h r w n = law_in laws es g types k l h r w n
  law_at laws (let_in a b e f) g types k l (inl h) r w n = law_at laws e g types k l h r.0 w n
  law_at laws (let_in a b e f) g types k l (inr h) r w n =
      law_at laws f ((b.sym.0, origin e g) ∷ g) ((b.sym.0, h.0) ∷ types) h.2.0 l h.2.2 r.1 (formed_bind types b.sym.0 h.0 (type_formed e types h.0 h.1 w) w) (forms_bind g types b.sym.0 (origin e g) h.0 (origin_forms e g types h.0 h.1 w n) n)
  law_at laws (loop a ls e b m x f) g types k l (inl h) r w n = site_law laws ls e b m x f g types l r.2 r.3 w n h.1
  law_at laws (loop a ls e b m x f) g types k l (inr (inl h)) r w n = law_in_legs laws ls g types h.0 l h.2 r.0 w n
  law_at laws (loop a ls e b m x f) g types k l (inr (inr (inl h))) r w n = law_at laws e g types h.0 l h.2 r.1 w n
  law_at laws (loop a ls e b m x f) g types k l (inr (inr (inr h))) r w n =
      let free = (legs_formed ls types h.0 h.3 w).1 in
      law_at laws f (in_body b m x (origin e g) g) (body_types b m x h.2 h.1 types) h.7.0 l h.7.2 r.2
      (formed_body b m x h.2 h.1 types (type_formed e types h.2 h.5 w) (row_formed ls types h.0 h.1 h.3 h.4 w) w)
      (forms_in_body g types b m x (origin e g) h.2 h.1 (origin_forms e g types h.2 h.5 w n) (row_free h.0 h.1 free h.4) n)
  law_at laws (iterate a e b f) g types k l (inl h) r w n = law_at laws e g types k l h r.0 w n
  law_at laws (iterate a e b f) g types k l (inr h) r w n =
      law_at laws f (in_turn b g) ((b.sym.0, h.0) ∷ types) h.3.0 l h.3.2 r.1 (formed_bind types b.sym.0 h.0 (type_formed e types h.0 h.1 w) w) (forms_bind (outside g) types b.sym.0 value h.0 h.2 (forms_outside g types n))

  law_in : PartLaws → (es : ExprTrees) (g : Named Origin) (types : Types) (k : ℕ) (l : Site) → LoopIn es types k l → AllKeep es g → AreFormed types → NamesHaveForms g types → LawOfLoop l
  law_in laws no_exprs g types k l h r w n = absurd h
  law_in laws (more_exprs e es) g types k l (inl h) r w n = law_at laws e g types k l h r.0 w n
  law_in laws (more_exprs e es) g types k l (inr h) r w n = law_in laws es g types h.0 l h.2 r.1 w n

  law_in_leg : PartLaws → (s : LegTree) (g : Named Origin) (types : Types) (k : ℕ) (l : Site) → LoopInLeg s types k l → LegKeeps s g → AreFormed types → NamesHaveForms g types → LawOfLoop l
  law_in_leg laws (whole e) g types k l h r w n = law_at laws e g types k l h r w n
  law_in_leg laws (strided e f u v) g types k l (inl h) r w n = law_at laws e g types k l h r.0 w n
  law_in_leg laws (strided e f u v) g types k l (inr (inl h)) r w n = law_at laws f g types h.0 l h.2 r.1 w n
  law_in_leg laws (strided e f u v) g types k l (inr (inr (inl h))) r w n = law_at laws u g types h.0 l h.2 r.2 w n
  law_in_leg laws (strided e f u v) g types k l (inr (inr (inr h))) r w n = law_at laws v g types h.0 l h.2 r.3 w n

  law_in_legs : PartLaws → (ls : LegTrees) (g : Named Origin) (types : Types) (k : ℕ) (l : Site) → LoopInLegs ls types k l → LegsKeep ls g → AreFormed types → NamesHaveForms g types → LawOfLoop l
  law_in_legs laws no_legs g types k l h r w n = absurd h
  law_in_legs laws (more_legs s ls) g types k l (inl h) r w n = law_in_leg laws s g types k l h r.0 w n
  law_in_legs laws (more_legs s ls) g types k l (inr h) r w n = law_in_legs laws ls g types h.0 l h.2 r.1 w n
