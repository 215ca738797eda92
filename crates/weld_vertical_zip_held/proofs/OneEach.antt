-- A loop that merges once in each row into its list, wherever it holds its builder, makes the list of what each row gives.
use Rattle.std.proofs.Common.{◌≡◌, ◌≢◌, ℕ, suc, true, List, [], ◌∷◌, ◌++◌, Some, refl, ap, sym, subst, ◌∙◌, eq-eqb, ne_eqb, inl, inr, ◌⊎◌}
use Rattle.std.proofs.lemmas.Bool.{cases_eq}
use Rattle.std.proofs.lemmas.List.{append_assoc}
use Rattle.weld_data.specs.Value.{Value, values}
use Rattle.weld_tree.specs.declared.binder.Binder.{Binder}
use Rattle.weld_tree.specs.TypeTree.{TypeTree, build, list}
use Rattle.weld_tree.specs.Types.{IsBuilderFree, IsWellFormed}
use Rattle.weld_tree.specs.ExprTree.{At, ExprTree, leaf, one, loop, whole, LegTrees, fresh, finish}
use Rattle.weld_tree.specs.HasValue.{HasValue, AllAre}
use Rattle.weld_builders.specs.Outcome.{Outcome, done, fault, stuck, and_then, map_out}
use Rattle.weld_meaning.specs.Environment.{Named, look_for}
use Rattle.weld_meaning.specs.Thing.{Thing, plain, building, several, after_thing}
use Rattle.weld_builders.specs.Part.{list_part, total_part, totals_part, cells_part, keyed_part, groups_part}
use Rattle.weld_meaning.specs.ThingType.{HasThing, EnvFits}
use Rattle.weld_meaning.specs.Typing.{Types, body_types}
use Rattle.weld_meaning.specs.Evaluation.{Env, Row, whole_number, with_row, rows_of, number_from, run, eval, eval_leg, eval_legs}
use Rattle.weld_meaning.specs.Loops.{Site, RowsHave, LawOfLoop}
use Rattle.weld_meaning.specs.Meaning.{GivesOrFaults}
use Rattle.weld_meaning.specs.Origin.{Origin, value, own, made, origin_of_name, from_within, outside, in_body}
use Rattle.weld_meaning.proofs.Before.{origin_outside}
use Rattle.weld_meaning.proofs.LoopLaw.{PartLaws, law_at}
use Rattle.weld_meaning.proofs.ValuesGood.{LegsFit, rows_good}
use Rattle.weld_meaning.proofs.NeverStuck.{Of, never_stuck, fits_body}
use Rattle.weld_rewriting.specs.Placed.{IsPlaced}
use Rattle.weld_rewriting.proofs.Parts.{body_of_loop}
use Rattle.weld_rewriting.proofs.Rows.{legs_good, rows_have}
use Rattle.weld_vertical.proofs.Handing.{then_itself, map_twice, collect, list_of, nothing_behind, elements_made}
use Rattle.weld_handing.specs.Handing.{starts_none, own_names}
use Rattle.weld_handing.specs.Merging.{list_merges, always_merges}
use Rattle.weld_handing.proofs.Answering.{IsClear}
use Rattle.weld_handing.proofs.Clearing.{typed_clear}
use Rattle.weld_handing.proofs.Giving.{then_by, fits_done, all_append, listed, append_list, elements_through, elements_listed}
use Rattle.weld_handing.proofs.Placing.{within_none}
use Rattle.weld_handing.proofs.Row.{list_in}
use Rattle.weld_handing.proofs.SameNames.{Same, same_names, own_names_same}
use Rattle.weld_handing.proofs.Unchanged.{Has, none_has, EnvHas, IsSingle, single}
use Rattle.weld_vertical_zip.proofs.Gathering.{gather}

-- what is the same wherever an outcome is good is the same behind it
pub same_at : {A B : Type 0} (P : A → Type 0) (o : Outcome A) (f g : A → Outcome B) → GivesOrFaults P o → ((x : A) → P x → f x ≡ g x) → and_then o f ≡ and_then o g
same_at P (done x) f g h e = e x h
same_at P fault f g h e = refl
same_at P stuck f g h e = absurd h

-- ---- one value a row

-- the only value
abbrev pub only_value : List Value → Outcome Value
only_value [] = stuck
only_value (v ∷ []) = done v
only_value (v ∷ u ∷ vs) = stuck

one_step : (o : Outcome Value) (p g : Outcome (List Value)) → p ≡ g → and_then (map_out (λ v. v ∷ []) o) (λ us. map_out (λ ws. us ++ ws) p) ≡ and_then o (λ v. map_out (λ ys. v ∷ ys) g)
one_step (done u) p g e = ap (map_out (λ ws. u ∷ ws)) e
one_step fault p g e = refl
one_step stuck p g e = refl

-- what rows give that give one value each
pub gathers_ones : (w : ℕ → Value → Outcome Value) (gives : Row → Outcome (List Value)) → ((n : ℕ) (v : Value) → gives (n, v) ≡ map_out (λ y. y ∷ []) (w n v)) → (n : ℕ) (vs : List Value) → collect gives (number_from n vs) ≡ gather w n vs
gathers_ones w gives e n [] = refl
gathers_ones w gives e n (v ∷ vs) =
    ap (λ o. and_then o (λ us. map_out (λ ws. us ++ ws) (collect gives (number_from (suc n) vs)))) (e n v)
    ∙ one_step (w n v) (collect gives (number_from (suc n) vs)) (gather w (suc n) vs) (gathers_ones w gives e (suc n) vs)

module _ (laws : PartLaws) (m p o : At) (item : TypeTree) (ks : LegTrees) (d i r : Binder) (g : ExprTree) (types : Types) (around : Named Origin) (q : IsPlaced (loop p ks (leaf o (fresh (list item))) d i r g) types around (build (list item))) (item_formed : IsWellFormed item) (item_free : IsBuilderFree item) (starts : starts_none (own_names d i r) g ≡ true) (once : list_merges (own_names d i r) g ≡ 1) (always : always_merges (own_names d i r) g ≡ true) (env : Env) (fit : EnvFits types env) where
  abbrev a_row : TypeTree
  a_row = q.typed.1

  abbrev names_before : Named Origin
  names_before = in_body d i r made around

  abbrev types_before : Types
  types_before = body_types d i r (build (list item)) a_row types

  placed_inside : IsPlaced g types_before names_before (build (list item))
  placed_inside = body_of_loop p ks (leaf o (fresh (list item))) d i r g types around (build (list item)) q

  same : Same (build (list item)) i.sym.0 d i r g g (own_names d i r) names_before
  same =
      same_names (build (list item)) i.sym.0 d i r g g types_before (build (list item)) (own_names d i r) names_before (own_names_same types around d i r (build (list item)) a_row q.formed q.forms) placed_inside.keeps placed_inside.typed

  clear : IsClear names_before g
  clear = typed_clear g names_before types_before (build (list item)) (sym same.starts ∙ starts) placed_inside.typed placed_inside.formed placed_inside.forms

  abbrev produces : Row → Thing → Outcome Thing
  produces y s = eval g (with_row d i r s (plain (whole_number y.0)) (plain y.1) env)

  -- what the body makes of an empty list on a row
  abbrev pub row_gives : Row → Outcome (List Value)
  row_gives y = and_then (produces y (list_of [])) list_in

  -- the value that it gives
  abbrev pub own_gives : ℕ → Value → Outcome Value
  own_gives n v = and_then (row_gives (n, v)) only_value

  list_typed : (vs : List Value) → AllAre (HasValue item) (values vs) → HasThing (list_of vs) (build (list item))
  list_typed vs h = ((item_formed, item_free), h)

  row_fits : (y : Row) (vs : List Value) → HasValue a_row y.1 → AllAre (HasValue item) (values vs) → GivesOrFaults (Of (build (list item))) (produces y (list_of vs))
  row_fits y vs h all =
      (never_stuck laws.keys g types_before (build (list item)) (with_row d i r (list_of vs) (plain (whole_number y.0)) (plain y.1) env) placed_inside.typed placed_inside.formed
      (fits_body types env d i r (build (list item)) a_row (list_of vs) y.1 y.0 (list_typed vs all) h fit)).fits

  gives_items : (y : Row) (us : List Value) → HasValue a_row y.1 → row_gives y ≡ done us → AllAre (HasValue item) (values us)
  gives_items y us h e0 =
      let z = then_by (produces y (list_of [])) list_in us e0 in
      listed item z.0 us (fits_done (Of (build (list item))) (produces y (list_of [])) z.0 (row_fits y [] h tt) z.1) z.2

  -- ---- the list

  abbrev site : Site
  site = record { builder_binder = d; number_binder = i; row_binder = r; body = g; builder = build (list item); row = a_row; names = types }

  law : LawOfLoop site
  law =
      law_at laws (loop p ks (leaf o (fresh (list item))) d i r g) around types 0 site
      (inl (
        refl,
        record {
          builder_binder = refl;
          number_binder = refl;
          row_binder = refl;
          body = refl;
          names = refl;
          legs = (q.typed.0, q.typed.2, q.typed.3);
          starts = q.typed.4;
          is_builder = q.typed.5;
          gives = q.typed.9;
        },
      )) q.keeps q.formed q.forms

  appends : (y : Row) (vs : List Value) → HasValue a_row y.1 → AllAre (HasValue item) (values vs) → produces y (list_of vs) ≡ map_out (λ us. list_of (vs ++ us)) (row_gives y)
  appends y vs h all =
      sym (then_itself (produces y (list_of vs))) ∙ law.whole env (list_of vs) (y ∷ []) (list_typed vs all)
      ∙ ap (map_out (after_thing (list_of vs))) (then_itself (produces y (list_of [])))
      ∙ append_list item vs (produces y (list_of [])) (row_fits y [] h tt)

  collects : (rows : List Row) (vs : List Value) → RowsHave a_row rows → AllAre (HasValue item) (values vs) → run rows (list_of vs) produces ≡ map_out (λ ws. list_of (vs ++ ws)) (collect row_gives rows)
  collects [] vs h all = ap (λ ws. done (list_of ws)) (nothing_behind vs)
  collects (y ∷ ys) vs h all =
      ap (λ z. and_then z (λ s. run ys s produces)) (appends y vs h.0 all)
      ∙ by (row_gives y) refl (λ us more. collects ys (vs ++ us) h.1 (all_append (HasValue item) vs us all more))
    where
      by : (u : Outcome (List Value)) → row_gives y ≡ u → ((us : List Value) → AllAre (HasValue item) (values us) → run ys (list_of (vs ++ us)) produces ≡ map_out (λ ws. list_of ((vs ++ us) ++ ws)) (collect row_gives ys)) → and_then (map_out (λ us. list_of (vs ++ us)) u) (λ s. run ys s produces) ≡ map_out (λ ws. list_of (vs ++ ws)) (and_then u (λ us. map_out (λ ws. us ++ ws) (collect row_gives ys)))
      by (done us) is rest =
          rest us (gives_items y us h.0 is)
          ∙ map_twice (collect row_gives ys) (λ ws. us ++ ws) (λ ws. list_of (vs ++ ws)) (λ ws. list_of ((vs ++ us) ++ ws)) (λ ws. ap list_of (append_assoc vs us ws))
      by fault is rest = refl
      by stuck is rest = refl

  elements_are : (vs : List Value) → AllAre (HasValue a_row) (values vs) → elements_made (run (number_from 0 vs) (list_of []) produces) ≡ collect row_gives (number_from 0 vs)
  elements_are vs h = ap elements_made (collects (number_from 0 vs) [] (rows_have a_row 0 vs h) tt) ∙ elements_listed (collect row_gives (number_from 0 vs))

  -- ---- each row gives one value

  -- the names around a body hold its empty list alone
  env_has : (y : Row) → EnvHas [] names_before (with_row d i r (list_of []) (plain (whole_number y.0)) (plain y.1) env)
  env_has y s v h = by (cases_eq s r.sym.0) (cases_eq s i.sym.0) (cases_eq s d.sym.0)
    where
      by : (s ≡ r.sym.0) ⊎ (s ≢ r.sym.0) → (s ≡ i.sym.0) ⊎ (s ≢ i.sym.0) → (s ≡ d.sym.0) ⊎ (s ≢ d.sym.0) → Has [] (origin_of_name s names_before) v
      by (inl u) b j = let there : origin_of_name s names_before ≡ value = rw (eq-eqb s r.sym.0 u) refl in subst (λ z. Has [] z v) (sym there) tt
      by (inr u) (inl b) j = let there : origin_of_name s names_before ≡ value = rw (ne_eqb s r.sym.0 u) (rw (eq-eqb s i.sym.0 b) refl) in subst (λ z. Has [] z v) (sym there) tt
      by (inr u) (inr b) (inl j) =
          let there : origin_of_name s names_before ≡ own [] = rw (ne_eqb s r.sym.0 u) (rw (ne_eqb s i.sym.0 b) (rw (eq-eqb s d.sym.0 j) refl)) in
          let here : look_for s (with_row d i r (list_of []) (plain (whole_number y.0)) (plain y.1) env) ≡ Some (list_of []) = rw (ne_eqb s r.sym.0 u) (rw (ne_eqb s i.sym.0 b) (rw (eq-eqb s d.sym.0 j) refl)) in
          let is : list_of [] ≡ v = let both : Some (list_of []) ≡ Some v = sym here ∙ h in cc in
          subst (λ z. Has [] z v) (sym there) (subst (Has [] (own [])) is refl)
      by (inr u) (inr b) (inr j) =
          let there : origin_of_name s names_before ≡ origin_of_name s (outside around) = rw (ne_eqb s r.sym.0 u) (rw (ne_eqb s i.sym.0 b) (rw (ne_eqb s d.sym.0 j) refl)) in
          subst (λ z. Has [] z v) (sym (there ∙ origin_outside s around)) (none_has [] (from_within (origin_of_name s around)) v (within_none (origin_of_name s around)))

  single_list : (z : Thing) (vs : List Value) → IsSingle z → list_in z ≡ done vs → (v : Value) × (vs ≡ v ∷ [])
  single_list (plain v) vs h is = absurd h
  single_list (building (list_part us)) vs h is = (h.0, let here : us ≡ vs = cc in sym here ∙ h.1)
  single_list (building (total_part op kind y)) vs h is = absurd h
  single_list (building (totals_part op ys)) vs h is = absurd h
  single_list (building (cells_part op kind ys)) vs h is = absurd h
  single_list (building (keyed_part op kind j)) vs h is = absurd h
  single_list (building (groups_part j)) vs h is = absurd h
  single_list (several ts) vs h is = absurd h

  row_single : (y : Row) (vs : List Value) → row_gives y ≡ done vs → (v : Value) × (vs ≡ v ∷ [])
  row_single y vs h =
      let z = then_by (produces y (list_of [])) list_in vs h in
      single_list z.0 vs
      (single g names_before (with_row d i r (list_of []) (plain (whole_number y.0)) (plain y.1) env) z.0 (sym same.always ∙ always) (sym same.merges ∙ once) clear placed_inside.keeps (env_has y) z.1) z.2

  pub gives_one : (n : ℕ) (v : Value) → row_gives (n, v) ≡ map_out (λ y. y ∷ []) (own_gives n v)
  gives_one n v = by (row_gives (n, v)) (λ vs h. row_single (n, v) vs h)
    where
      by : (u : Outcome (List Value)) → ((vs : List Value) → u ≡ done vs → (y : Value) × (vs ≡ y ∷ [])) → u ≡ map_out (λ y. y ∷ []) (and_then u only_value)
      by (done vs) f = let z = f vs refl in subst (λ ws. done ws ≡ map_out (λ y. y ∷ []) (only_value ws)) (sym z.1) refl
      by fault f = refl
      by stuck f = refl

  -- so the leg has what they give
  pub leg_gathers : eval_leg (whole (one m finish (loop p ks (leaf o (fresh (list item))) d i r g))) env ≡ and_then (eval_legs ks env) (λ l. and_then (rows_of l) (gather own_gives 0))
  leg_gathers =
      elements_through (eval_legs ks env) (λ l. and_then (rows_of l) (λ vs. run (number_from 0 vs) (list_of []) produces))
      ∙ same_at (LegsFit q.typed.0) (eval_legs ks env) _ _ (legs_good laws.keys ks types q.typed.0 env q.typed.2 q.formed fit).fits (λ l v.
      elements_through (rows_of l) (λ vs. run (number_from 0 vs) (list_of []) produces)
      ∙ same_at (λ vs. AllAre (HasValue a_row) (values vs)) (rows_of l) _ _ (rows_good q.typed.0 a_row l q.typed.3 v).fits (λ vs h.
      elements_are vs h ∙ gathers_ones own_gives row_gives gives_one 0 vs))
