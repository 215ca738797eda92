-- One row of a loop: the builder joined with what the row makes of the one that has nothing merged.
use Rattle.std.proofs.Common.{◌≡◌, ℕ, [], ◌∷◌, inl, refl, ap, sym, subst, ◌∙◌}
use Rattle.weld_data.specs.Value.{Value}
use Rattle.weld_tree.specs.declared.binder.Binder.{Binder}
use Rattle.weld_tree.specs.TypeTree.{TypeTree, TypeTrees, BuildTree, scalar, vec, struct as tuple, dict, build, list, total, keyed, cells, groups, no_types, more_types}
use Rattle.weld_tree.specs.Types.{IsBuilder, AreBuilders, IsWellFormed, AreWellFormed}
use Rattle.weld_tree.specs.ExprTree.{ExprTree, At, LegTrees, loop}
use Rattle.weld_tree.specs.HasValue.{HasValue}
use Rattle.weld_builders.specs.Outcome.{Outcome, done, fault, stuck, and_then, map_out}
use Rattle.weld_builders.specs.Part.{Part, Totals, list_part, total_part, totals_part, cells_part, keyed_part, groups_part}
use Rattle.weld_builders.specs.Range.{TotalsInRange, IsInRange}
use Rattle.weld_builders.proofs.Joins.{bare_behind, merge_part-after_part}
use Rattle.weld_builders.proofs.Shapes.{shape_of-bare}
use Rattle.weld_meaning.specs.Thing.{Thing, plain, building, several, Things, no_things, more_things, bare_thing, bare_things, after_thing}
use Rattle.weld_meaning.specs.Typing.{body_types}
use Rattle.weld_meaning.specs.ThingType.{TotalsFit, AreTotals, HasPart, HasThing, HaveBuilders}
use Rattle.weld_meaning.specs.Evaluation.{Env, Row, whole_number, with_row}
use Rattle.weld_meaning.specs.Origin.{origin, own_paths, in_body}
use Rattle.weld_meaning.specs.Loops.{Site, LawOfLoop}
use Rattle.weld_meaning.proofs.Before.{before}
use Rattle.weld_meaning.proofs.WellFormed.{formed_body, type_formed, legs_formed, row_formed}
use Rattle.weld_meaning.proofs.PartsGood.{bare_has}
use Rattle.weld_meaning.proofs.NeverStuck.{fits_body, no_builder_value}
use Rattle.weld_meaning.proofs.OriginTypes.{forms_in_body, origin_forms, before_own}
use Rattle.weld_meaning.proofs.Shapes.{Holds, Ends, Shaped, AllShaped, keeps_shape, shaped_in_body}
use Rattle.weld_meaning.proofs.LoopLaw.{PartLaws, law_at}
use Rattle.weld_eval.specs.Fit.{AreNamed, IsFit}
use Rattle.weld_eval.specs.Takes.{Join, AllJoin, row_of}
use Rattle.weld_eval.proofs.Children.{key_laws, gives, row_free}

part_laws : PartLaws
part_laws = record { merges = merge_part-after_part; keys = key_laws; bare_shape = shape_of-bare; neutral = bare_behind }

and_then-done : (o : Outcome Thing) → and_then o (λ t. done t) ≡ o
and_then-done (done t) = refl
and_then-done fault = refl
and_then-done stuck = refl

module _ (a : At) (ls : LegTrees) (e : ExprTree) (b n x : Binder) (f : ExprTree) (env : Env) (h : IsFit (loop a ls e b n x f) env) where
  -- the type of a row
  abbrev pub row_type : TypeTree
  row_type = h.typed.1

  abbrev site : Site
  site = record { builder_binder = b; number_binder = n; row_binder = x; body = f; builder = h.answer; row = h.typed.1; names = h.names }

  law : LawOfLoop site
  law =
      law_at part_laws (loop a ls e b n x f) h.origins h.names 0 site
      (inl (refl, (record { builder_binder = refl; number_binder = refl; row_binder = refl; body = refl; names = refl; legs = (h.typed.0, h.typed.2, h.typed.3); starts = h.typed.4; is_builder = h.typed.5; gives = h.typed.9 })))
      h.keeps h.named.formed h.named.forms

  pub step : (r : Row) (s : Thing) → HasThing s h.answer → row_of b n x f env r s ≡ map_out (after_thing s) (row_of b n x f env r (bare_thing s))
  step r s hs =
      sym (and_then-done (row_of b n x f env r s)) ∙ law.whole env s (r ∷ []) hs ∙ ap (map_out (after_thing s)) (and_then-done (row_of b n x f env r (bare_thing s)))

  builder_formed : IsWellFormed h.answer
  builder_formed = type_formed e h.names h.answer h.typed.4 h.named.formed

  pub named_body : (i : ℕ) (v : Value) (s : Thing) → HasThing s h.answer → HasValue h.typed.1 v
      → AreNamed (body_types b n x h.answer h.typed.1 h.names) (in_body b n x (origin e h.origins) h.origins) (with_row b n x s (plain (whole_number i)) (plain v) env)
  named_body i v s hs hv = record {
    formed = formed_body b n x h.answer h.typed.1 h.names builder_formed (row_formed ls h.names h.typed.0 h.typed.1 h.typed.2 h.typed.3 h.named.formed) h.named.formed;
    fits = fits_body h.names env b n x h.answer h.typed.1 s v i hs hv h.named.fits;
    forms = forms_in_body h.origins h.names b n x (origin e h.origins) h.answer h.typed.1 (origin_forms e h.origins h.names h.answer h.typed.4 h.named.formed h.named.forms) (row_free h.typed.0 h.typed.1 (legs_formed ls h.names h.typed.0 h.typed.2 h.named.formed).1 h.typed.3) h.named.forms;
  }

  pub fit_body : (i : ℕ) (v : Value) (s : Thing) → HasThing s h.answer → HasValue h.typed.1 v → IsFit f (with_row b n x s (plain (whole_number i)) (plain v) env)
  fit_body i v s hs hv = record {
    names = body_types b n x h.answer h.typed.1 h.names;
    origins = in_body b n x (origin e h.origins) h.origins;
    named = named_body i v s hs hv;
    answer = h.answer;
    typed = h.typed.9;
    keeps = h.keeps.2;
  }

  -- what a row gives has the type, and the shape of what it was given
  pub row_gives : (i : ℕ) (v : Value) (s d : Thing) → HasThing s h.answer → HasValue h.typed.1 v → row_of b n x f env (i, v) s ≡ done d → HasThing d h.answer
  row_gives i v s d hs hv is =
      gives f (body_types b n x h.answer h.typed.1 h.names) (in_body b n x (origin e h.origins) h.origins) (with_row b n x s (plain (whole_number i)) (plain v) env) h.answer d (named_body i v s hs hv) h.typed.9 is

  own_whole : (s : Thing) → HasThing s h.answer → before s (own_paths (origin e h.origins)) ≡ s
  own_whole s hs = before_own s (origin e h.origins) h.answer (origin_forms e h.origins h.names h.answer h.typed.4 h.named.formed h.named.forms) builder_formed h.typed.5 hs

  pub row_shaped : (i : ℕ) (v : Value) (s t d : Thing) → HasThing s h.answer → Shaped s t → row_of b n x f env (i, v) t ≡ done d → Shaped s d
  row_shaped i v s t d hs k is =
      let keeps = keeps_shape f _ s _ h.keeps.2 (shaped_in_body h.origins s s b n x (origin e h.origins) t (plain (whole_number i)) (plain v) env (own_whole s hs) k) in
      let ends : Ends (Shaped s) (row_of b n x f env (i, v) t) = subst (λ u. Ends (Shaped u) (row_of b n x f env (i, v) t)) (ap (before s) h.keeps.3 ∙ own_whole s hs) keeps in
      subst (Holds (Shaped s)) is ends.holds

-- ---- builders of one type and shape join

totals_in_range : (xs : Totals) (ts : TypeTrees) → TotalsFit xs ts → TotalsInRange xs
totals_in_range [] no_types h = tt
totals_in_range [] (more_types t ts) h = absurd h
totals_in_range (x ∷ xs) no_types h = absurd h
totals_in_range (x ∷ xs) (more_types t ts) h = (h.1, totals_in_range xs ts h.2)

are_in_range : (xs : Totals) (t : TypeTree) → AreTotals xs t → TotalsInRange xs
are_in_range xs (tuple ts) h = totals_in_range xs ts h
are_in_range xs (scalar k) h = absurd h
are_in_range xs (vec t) h = absurd h
are_in_range xs (dict s t) h = absurd h
are_in_range xs (build b) h = absurd h

in_range : (p : Part) (b : BuildTree) → HasPart p b → IsInRange p
in_range (list_part vs) b h = tt
in_range (total_part op k x) (total t o) h = h.2
in_range (total_part op k x) (list t) h = absurd h
in_range (total_part op k x) (keyed s t o) h = absurd h
in_range (total_part op k x) (cells t o) h = absurd h
in_range (total_part op k x) (groups s t) h = absurd h
in_range (totals_part op xs) (total t o) h = are_in_range xs t h.1
in_range (totals_part op xs) (list t) h = absurd h
in_range (totals_part op xs) (keyed s t o) h = absurd h
in_range (totals_part op xs) (cells t o) h = absurd h
in_range (totals_part op xs) (groups s t) h = absurd h
in_range (cells_part op k xs) (cells t o) h = h.2
in_range (cells_part op k xs) (list t) h = absurd h
in_range (cells_part op k xs) (total t o) h = absurd h
in_range (cells_part op k xs) (keyed s t o) h = absurd h
in_range (cells_part op k xs) (groups s t) h = absurd h
in_range (keyed_part op k m) b h = tt
in_range (groups_part m) b h = tt

mutual
  pub joins : (s d : Thing) (u : TypeTree) → IsWellFormed u → IsBuilder u → HasThing s u → HasThing d u → Shaped s d → Join s d
  joins (plain v) d u w b hs hd e = absurd (no_builder_value u v w b hs)
  joins (building p) (plain v) u w b hs hd e = absurd (no_builder_value u v w b hd)
  joins (building p) (building d) (build c) w b hs hd e = (sym e, in_range p c hs.1)
  joins (building p) (building d) (scalar k) w b hs hd e = absurd b
  joins (building p) (building d) (vec t) w b hs hd e = absurd b
  joins (building p) (building d) (tuple us) w b hs hd e = absurd hd
  joins (building p) (building d) (dict k v) w b hs hd e = absurd b
  joins (building p) (several ds) (build c) w b hs hd e = absurd hd
  joins (building p) (several ds) (scalar k) w b hs hd e = absurd b
  joins (building p) (several ds) (vec t) w b hs hd e = absurd b
  joins (building p) (several ds) (tuple us) w b hs hd e = absurd hs
  joins (building p) (several ds) (dict k v) w b hs hd e = absurd b
  joins (several ss) (plain v) u w b hs hd e = absurd (no_builder_value u v w b hd)
  joins (several ss) (building d) (build c) w b hs hd e = absurd hs
  joins (several ss) (building d) (scalar k) w b hs hd e = absurd b
  joins (several ss) (building d) (vec t) w b hs hd e = absurd b
  joins (several ss) (building d) (tuple us) w b hs hd e = absurd hd
  joins (several ss) (building d) (dict k v) w b hs hd e = absurd b
  joins (several ss) (several ds) (tuple us) w b hs hd e = all_join ss ds us w.1 b hs.1 hd.1 e
  joins (several ss) (several ds) (scalar k) w b hs hd e = absurd b
  joins (several ss) (several ds) (vec t) w b hs hd e = absurd b
  joins (several ss) (several ds) (dict k v) w b hs hd e = absurd b
  joins (several ss) (several ds) (build c) w b hs hd e = absurd hd

  all_join : (ss ds : Things) (us : TypeTrees) → AreWellFormed us → AreBuilders us → HaveBuilders ss us → HaveBuilders ds us → AllShaped ss ds → AllJoin ss ds
  all_join no_things no_things us w b hs hd e = tt
  all_join no_things (more_things d ds) no_types w b hs hd e = absurd hd
  all_join no_things (more_things d ds) (more_types u us) w b hs hd e = absurd hs
  all_join (more_things s ss) ds no_types w b hs hd e = absurd hs
  all_join (more_things s ss) no_things (more_types u us) w b hs hd e = absurd hd
  all_join (more_things (plain v) ss) (more_things d ds) (more_types u us) w b hs hd e = absurd hs
  all_join (more_things (building q) ss) (more_things (plain v) ds) (more_types u us) w b hs hd e = absurd hd
  all_join (more_things (building q) ss) (more_things (building d) ds) (more_types u us) w b hs hd e =
      (joins (building q) (building d) u w.0 b.0 hs.0 hd.0 e.0, all_join ss ds us w.1 b.1 hs.1 hd.1 e.1)
  all_join (more_things (building q) ss) (more_things (several es) ds) (more_types u us) w b hs hd e =
      (joins (building q) (several es) u w.0 b.0 hs.0 hd.0 e.0, all_join ss ds us w.1 b.1 hs.1 hd.1 e.1)
  all_join (more_things (several qs) ss) (more_things (plain v) ds) (more_types u us) w b hs hd e = absurd hd
  all_join (more_things (several qs) ss) (more_things (building d) ds) (more_types u us) w b hs hd e =
      (joins (several qs) (building d) u w.0 b.0 hs.0 hd.0 e.0, all_join ss ds us w.1 b.1 hs.1 hd.1 e.1)
  all_join (more_things (several qs) ss) (more_things (several es) ds) (more_types u us) w b hs hd e =
      (joins (several qs) (several es) u w.0 b.0 hs.0 hd.0 e.0, all_join ss ds us w.1 b.1 hs.1 hd.1 e.1)

-- ---- what has nothing merged

mutual
  bare_shaped : (s : Thing) → Shaped s (bare_thing s)
  bare_shaped (plain v) = tt
  bare_shaped (building p) = shape_of-bare p
  bare_shaped (several ss) = all_bare_shaped ss

  all_bare_shaped : (ss : Things) → AllShaped ss (bare_things ss)
  all_bare_shaped no_things = tt
  all_bare_shaped (more_things s ss) = (bare_shaped s, all_bare_shaped ss)

mutual
  bare_of_type : (s : Thing) (u : TypeTree) → IsWellFormed u → IsBuilder u → HasThing s u → HasThing (bare_thing s) u
  bare_of_type (plain v) u w b h = absurd (no_builder_value u v w b h)
  bare_of_type (building p) (build c) w b h = (h.0, bare_has p c h.1)
  bare_of_type (building p) (scalar k) w b h = h
  bare_of_type (building p) (vec t) w b h = h
  bare_of_type (building p) (tuple us) w b h = h
  bare_of_type (building p) (dict k v) w b h = h
  bare_of_type (several ss) (tuple us) w b h = (h.0, bare_of_types ss us w.1 b h.1)
  bare_of_type (several ss) (build c) w b h = h
  bare_of_type (several ss) (scalar k) w b h = h
  bare_of_type (several ss) (vec t) w b h = h
  bare_of_type (several ss) (dict k v) w b h = h

  bare_of_types : (ss : Things) (us : TypeTrees) → AreWellFormed us → AreBuilders us → HaveBuilders ss us → HaveBuilders (bare_things ss) us
  bare_of_types no_things no_types w b h = h
  bare_of_types no_things (more_types u us) w b h = h
  bare_of_types (more_things s ss) no_types w b h = absurd h
  bare_of_types (more_things (plain v) ss) (more_types u us) w b h = h
  bare_of_types (more_things (building p) ss) (more_types u us) w b h = (bare_of_type (building p) u w.0 b.0 h.0, bare_of_types ss us w.1 b.1 h.1)
  bare_of_types (more_things (several ds) ss) (more_types u us) w b h = (bare_of_type (several ds) u w.0 b.0 h.0, bare_of_types ss us w.1 b.1 h.1)

pub row_joins : (a : At) (ls : LegTrees) (e : ExprTree) (b n x : Binder) (f : ExprTree) (env : Env) (h : IsFit (loop a ls e b n x f) env) (i : ℕ) (v : Value) (s d : Thing)
    → HasThing s h.answer → HasValue h.typed.1 v → row_of b n x f env (i, v) (bare_thing s) ≡ done d → Join s d
row_joins a ls e b n x f env h i v s d hs hv is =
    let formed = type_formed e h.names h.answer h.typed.4 h.named.formed in
    let bare = bare_of_type s h.answer formed h.typed.5 hs in
    joins s d h.answer formed h.typed.5 hs (row_gives a ls e b n x f env h i v (bare_thing s) d bare hv is) (row_shaped a ls e b n x f env h i v s (bare_thing s) d hs (bare_shaped s) is)
