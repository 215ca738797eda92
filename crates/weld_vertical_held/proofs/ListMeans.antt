-- The one loop that takes the place of a loop over a list and of the loop that makes it comes to what the first comes to.
use Rattle.std.proofs.Common.{◌≡◌, ◌≢◌, ℕ, true, List, [], ◌∷◌, ◌++◌, Some, refl, ap, sym, subst, ◌∙◌, eq-eqb, ne_eqb, inl, inr, ◌⊎◌}
use Rattle.std.proofs.lemmas.Bool.{cases_eq}
use Rattle.std.proofs.lemmas.List.{append_assoc}
use Rattle.weld_data.specs.Value.{Value, values}
use Rattle.weld_tree.specs.declared.binder.Binder.{Binder}
use Rattle.weld_tree.specs.declared.known.Known.TheVariants.{Is}
use Rattle.weld_tree.specs.TypeTree.{TypeTree, build, list}
use Rattle.weld_tree.specs.Types.{IsWellFormed}
use Rattle.weld_tree.specs.ExprTree.{At, ExprTree, whole, LegTrees}
use Rattle.weld_tree.specs.HasValue.{HasValue, AllAre}
use Rattle.weld_builders.specs.Outcome.{Outcome, done, fault, stuck, and_then, map_out}
use Rattle.weld_builders.specs.Part.{list_part, total_part, totals_part, cells_part, keyed_part, groups_part}
use Rattle.weld_meaning.specs.Environment.{Named, look_for}
use Rattle.weld_meaning.specs.Thing.{Thing, plain, building, several, after_thing}
use Rattle.weld_meaning.specs.ThingType.{HasThing, EnvFits}
use Rattle.weld_meaning.specs.Typing.{Types, HasType, body_types}
use Rattle.weld_meaning.specs.Evaluation.{Env, Row, whole_number, with_row, rows_of, number_from, run, eval, eval_leg, eval_legs}
use Rattle.weld_meaning.specs.Loops.{Site, RowsHave, LawOfLoop}
use Rattle.weld_meaning.specs.Meaning.{GivesOrFaults}
use Rattle.weld_meaning.specs.Origin.{Origin, value, own, made, origin_of_name, from_within, outside, in_body}
use Rattle.weld_meaning.specs.Names.{IsFree, answer_of}
use Rattle.weld_meaning.proofs.Before.{origin_outside}
use Rattle.weld_meaning.proofs.Good.{Good}
use Rattle.weld_meaning.proofs.LoopLaw.{PartLaws, law_at}
use Rattle.weld_meaning.proofs.Names.{agree_bind, eval_free, same_answers}
use Rattle.weld_meaning.proofs.WellFormed.{formed_body}
use Rattle.weld_meaning.proofs.ValuesGood.{LegsFit, rows_good}
use Rattle.weld_meaning.proofs.NeverStuck.{Of, never_stuck, fits_body}
use Rattle.weld_rewriting.specs.Placed.{IsPlaced}
use Rattle.weld_rewriting.specs.Tidy.{IsTidy}
use Rattle.weld_rewriting.proofs.Rows.{legs_good, rows_have}
use Rattle.weld_substitution.specs.Uses.{uses}
use Rattle.weld_vertical.proofs.Spine.{unnamed}
use Rattle.weld_vertical.proofs.Handing.{then_then, then_itself, map_twice, answers_at, answers_swap, collect, list_of, nothing_behind, Steps, steps_of_one, steps_of_any, handed as handed_rows, one_leg, elements_made}
use Rattle.weld_handing.specs.Handing.{starts_none, own_names}
use Rattle.weld_handing.specs.Merging.{list_merges, always_merges}
use Rattle.weld_handing.proofs.Answers.{answers_when}
use Rattle.weld_handing.proofs.Row.{at_number, run_more, run_builds, row_meets, list_in, row_means}
use Rattle.weld_handing.proofs.Unchanged.{Has, none_has, EnvHas, IsSingle, single}
use Rattle.weld_handing.proofs.Placing.{within_none}
use Rattle.weld_handing.proofs.Giving.{then_by, fits_done, all_append, listed, append_list, elements_through, elements_listed, run_alike, run_any}
use Rattle.weld_vertical_held.proofs.ListPlaced.{producer, produced, pattern, body, answer, Tidily, Known, w, k, inside, row_is_formed, row_is_free, builder_formed, body_typed, same, no_start, clear, comes, placed_so, noted_is}

module _ (laws : PartLaws) (a m p o : At) (t item : TypeTree) (noted : a.ty ≡ Is t) (ks : LegTrees) (d i r : Binder) (g e : ExprTree) (c n x : Binder) (f : ExprTree) (starts : starts_none (own_names d i r) g ≡ true) (once : list_merges (own_names d i r) g ≡ 1) (numbered : (always_merges (own_names d i r) g ≡ true) ⊎ (uses f n.sym.0 ≡ 0)) where
  module _ (tidy : IsTidy (pattern a m p o t item noted ks d i r g e c n x f starts)) (types : Types) (around : Named Origin) (q : IsPlaced (pattern a m p o t item noted ks d i r g e c n x f starts) types around t) (env : Env) (fit : EnvFits types env) where
    abbrev tidied : Tidily a m p o t item noted ks d i r g e c n x f starts
    tidied = w a m p o t item noted ks d i r g e c n x f starts tidy types around q

    abbrev is_known : Known a m p o t item noted ks d i r g e c n x f starts types around q
    is_known = k a m p o t item noted ks d i r g e c n x f starts tidy types around q

    abbrev a_row : TypeTree
    a_row = is_known.producer.typed.1

    abbrev names_before : Named Origin
    names_before = in_body d i r made around

    abbrev types_before : Types
    types_before = body_types d i r (build (list item)) a_row types

    abbrev now : ExprTree
    now = body a m p o t item noted ks d i r g e c n x f starts

    placed_inside : IsPlaced g types_before names_before (build (list item))
    placed_inside = inside a m p o t item noted ks d i r g e c n x f starts tidy types around q

    abbrev produces : Row → Thing → Outcome Thing
    produces y s = eval g (with_row d i r s (plain (whole_number y.0)) (plain y.1) env)

    abbrev consumes : Row → Thing → Outcome Thing
    consumes y s = eval f (with_row c n x s (plain (whole_number y.0)) (plain y.1) env)

    abbrev does_both : Row → Thing → Outcome Thing
    does_both y s = eval now (with_row d i r s (plain (whole_number y.0)) (plain y.1) env)

    -- what the body makes of an empty list on a row
    abbrev row_gives : Row → Outcome (List Value)
    row_gives y = and_then (produces y (list_of [])) list_in

    abbrev list_formed : IsWellFormed (build (list item))
    list_formed = (is_known.item_formed, is_known.item_free)

    list_typed : (vs : List Value) → AllAre (HasValue item) (values vs) → HasThing (list_of vs) (build (list item))
    list_typed vs h = (list_formed, h)

    row_fits : (y : Row) (vs : List Value) → HasValue a_row y.1 → AllAre (HasValue item) (values vs) → GivesOrFaults (Of (build (list item))) (produces y (list_of vs))
    row_fits y vs h all =
        (never_stuck laws.keys g types_before (build (list item)) (with_row d i r (list_of vs) (plain (whole_number y.0)) (plain y.1) env) placed_inside.typed placed_inside.formed
        (fits_body types env d i r (build (list item)) a_row (list_of vs) y.1 y.0 (list_typed vs all) h fit)).fits

    gives_items : (y : Row) (us : List Value) → HasValue a_row y.1 → row_gives y ≡ done us → AllAre (HasValue item) (values us)
    gives_items y us h e0 =
        let z = then_by (produces y (list_of [])) list_in us e0 in
        listed item z.0 us (fits_done (Of (build (list item))) (produces y (list_of [])) z.0 (row_fits y [] h tt) z.1) z.2

    -- ---- the list that is made

    abbrev site : Site
    site = record { builder_binder = d; number_binder = i; row_binder = r; body = g; builder = build (list item); row = a_row; names = types }

    law : LawOfLoop site
    law =
        law_at laws (producer a m p o t item noted ks d i r g e c n x f starts) around types 0 site
        (inl (
          refl,
          record {
            builder_binder = refl;
            number_binder = refl;
            row_binder = refl;
            body = refl;
            names = refl;
            legs = (is_known.producer.typed.0, is_known.producer.typed.2, is_known.producer.typed.3);
            starts = is_known.producer.typed.4;
            is_builder = is_known.producer.typed.5;
            gives = is_known.producer.typed.9;
          },
        )) is_known.producer.keeps q.formed q.forms

    appends : (y : Row) (vs : List Value) → HasValue a_row y.1 → AllAre (HasValue item) (values vs) → produces y (list_of vs) ≡ map_out (λ us. list_of (vs ++ us)) (row_gives y)
    appends y vs h all =
        sym (then_itself (produces y (list_of vs))) ∙ law.whole env (list_of vs) (y ∷ []) (list_typed vs all)
        ∙ ap (map_out (after_thing (list_of vs))) (then_itself (produces y (list_of [])))
        ∙ append_list item vs (produces y (list_of [])) (row_fits y [] h tt)

    collects : (rows : List Row) (vs : List Value) → RowsHave a_row rows → AllAre (HasValue item) (values vs) → run rows (list_of vs) produces ≡ map_out (λ ws. list_of (vs ++ ws)) (collect row_gives rows)
    collects [] vs h all = ap (λ ws. done (list_of ws)) (nothing_behind vs)
    collects (y ∷ ys) vs h all =
        ap (λ z. and_then z (λ s. run ys s produces)) (appends y vs h.0 all)
        ∙ by (row_gives y) refl (λ us more. collects ys (vs ++ us) h.1 (all_append (HasValue item) vs us all more))
      where
        by : (u : Outcome (List Value)) → row_gives y ≡ u → ((us : List Value) → AllAre (HasValue item) (values us) → run ys (list_of (vs ++ us)) produces ≡ map_out (λ ws. list_of ((vs ++ us) ++ ws)) (collect row_gives ys)) → and_then (map_out (λ us. list_of (vs ++ us)) u) (λ s. run ys s produces) ≡ map_out (λ ws. list_of (vs ++ ws)) (and_then u (λ us. map_out (λ ws. us ++ ws) (collect row_gives ys)))
        by (done us) is rest =
            rest us (gives_items y us h.0 is)
            ∙ map_twice (collect row_gives ys) (λ ws. us ++ ws) (λ ws. list_of (vs ++ ws)) (λ ws. list_of ((vs ++ us) ++ ws)) (λ ws. ap list_of (append_assoc vs us ws))
        by fault is rest = refl
        by stuck is rest = refl

    elements_are : (vs : List Value) → AllAre (HasValue a_row) (values vs) → elements_made (run (number_from 0 vs) (list_of []) produces) ≡ collect row_gives (number_from 0 vs)
    elements_are vs h = ap elements_made (collects (number_from 0 vs) [] (rows_have a_row 0 vs h) tt) ∙ elements_listed (collect row_gives (number_from 0 vs))

    -- ---- rows and their numbers

    -- the names around a body hold its empty list alone
    env_has : (y : Row) → EnvHas [] names_before (with_row d i r (list_of []) (plain (whole_number y.0)) (plain y.1) env)
    env_has y s v h = by (cases_eq s r.sym.0) (cases_eq s i.sym.0) (cases_eq s d.sym.0)
      where
        by : (s ≡ r.sym.0) ⊎ (s ≢ r.sym.0) → (s ≡ i.sym.0) ⊎ (s ≢ i.sym.0) → (s ≡ d.sym.0) ⊎ (s ≢ d.sym.0) → Has [] (origin_of_name s names_before) v
        by (inl u) b j = let there : origin_of_name s names_before ≡ value = rw (eq-eqb s r.sym.0 u) refl in subst (λ z. Has [] z v) (sym there) tt
        by (inr u) (inl b) j = let there : origin_of_name s names_before ≡ value = rw (ne_eqb s r.sym.0 u) (rw (eq-eqb s i.sym.0 b) refl) in subst (λ z. Has [] z v) (sym there) tt
        by (inr u) (inr b) (inl j) =
            let there : origin_of_name s names_before ≡ own [] = rw (ne_eqb s r.sym.0 u) (rw (ne_eqb s i.sym.0 b) (rw (eq-eqb s d.sym.0 j) refl)) in
            let here : look_for s (with_row d i r (list_of []) (plain (whole_number y.0)) (plain y.1) env) ≡ Some (list_of []) = rw (ne_eqb s r.sym.0 u) (rw (ne_eqb s i.sym.0 b) (rw (eq-eqb s d.sym.0 j) refl)) in
            let is : list_of [] ≡ v = let both : Some (list_of []) ≡ Some v = sym here ∙ h in cc in
            subst (λ z. Has [] z v) (sym there) (subst (Has [] (own [])) is refl)
        by (inr u) (inr b) (inr j) =
            let there : origin_of_name s names_before ≡ origin_of_name s (outside around) = rw (ne_eqb s r.sym.0 u) (rw (ne_eqb s i.sym.0 b) (rw (ne_eqb s d.sym.0 j) refl)) in
            subst (λ z. Has [] z v) (sym (there ∙ origin_outside s around)) (none_has [] (from_within (origin_of_name s around)) v (within_none (origin_of_name s around)))

    single_list : (z : Thing) (vs : List Value) → IsSingle z → list_in z ≡ done vs → (v : Value) × (vs ≡ v ∷ [])
    single_list (plain v) vs h is = absurd h
    single_list (building (list_part us)) vs h is = (h.0, let here : us ≡ vs = cc in sym here ∙ h.1)
    single_list (building (total_part op kind y)) vs h is = absurd h
    single_list (building (totals_part op ys)) vs h is = absurd h
    single_list (building (cells_part op kind ys)) vs h is = absurd h
    single_list (building (keyed_part op kind j)) vs h is = absurd h
    single_list (building (groups_part j)) vs h is = absurd h
    single_list (several ts) vs h is = absurd h

    -- where the body merges in every row, each row gives one value
    row_single : always_merges (own_names d i r) g ≡ true → (y : Row) (vs : List Value) → row_gives y ≡ done vs → (v : Value) × (vs ≡ v ∷ [])
    row_single always y vs h =
        let z = then_by (produces y (list_of [])) list_in vs h in
        let it = same a m p o t item noted ks d i r g e c n x f starts tidy types around q in
        single_list z.0 vs
        (single g names_before (with_row d i r (list_of []) (plain (whole_number y.0)) (plain y.1) env) z.0 (sym it.always ∙ always) (sym it.merges ∙ once) (clear a m p o t item noted ks d i r g e c n x f starts tidy types around q) placed_inside.keeps (env_has y) z.1)
        z.2

    any : uses f n.sym.0 ≡ 0 → (l j : ℕ) (v : Value) (s : Thing) → consumes (l, v) s ≡ consumes (j, v) s
    any none l j v s =
        eval_free f _ _
        (agree_bind (λ u. IsFree f u × (u ≢ x.sym.0)) (IsFree f) x.sym.0 (plain v) _ _ (λ u y ne. (y, ne))
        (record { agree = λ u y. let other : u ≢ n.sym.0 = λ z. unnamed n.sym.0 f tidied.own_number none (subst (IsFree f) z y.0) in rw (ne_eqb u n.sym.0 other) refl }))

    steps : Steps row_gives consumes
    steps = by numbered
      where
        by : (always_merges (own_names d i r) g ≡ true) ⊎ (uses f n.sym.0 ≡ 0) → Steps row_gives consumes
        by (inl always) = steps_of_one row_gives consumes (row_single always)
        by (inr none) = steps_of_any row_gives consumes (any none)

    -- the other loop on what a row gives, with that row's number or its own
    numbered_alike : (y : Row) (s : Thing) (vs : List Value) → row_gives y ≡ done vs → run (at_number y.0 vs) s consumes ≡ run (number_from y.0 vs) s consumes
    numbered_alike y s vs h = by numbered
      where
        by : (always_merges (own_names d i r) g ≡ true) ⊎ (uses f n.sym.0 ≡ 0) → run (at_number y.0 vs) s consumes ≡ run (number_from y.0 vs) s consumes
        by (inl always) = let z = row_single always y vs h in subst (λ us. run (at_number y.0 us) s consumes ≡ run (number_from y.0 us) s consumes) (sym z.1) refl
        by (inr none) = run_any consumes (any none) y.0 y.0 vs s

    -- ---- row by row

    is_formed : IsWellFormed t
    is_formed = builder_formed a m p o t item noted ks d i r g e c n x f starts tidy types around q

    consumer_typed : HasType f (body_types c n x t item types) t
    consumer_typed = subst (λ u. HasType f (body_types c n x t u types) t) is_known.row_is q.typed.9

    consumes_well : (y : Row) (z : Thing) → HasValue item y.1 → HasThing z t → Good (Of t) (consumes y z)
    consumes_well y z h has =
        never_stuck laws.keys f (body_types c n x t item types) t (with_row c n x z (plain (whole_number y.0)) (plain y.1) env) consumer_typed
        (formed_body c n x t item types is_formed is_known.item_formed q.formed) (fits_body types env c n x t item z y.1 y.0 has h fit)

    one_row : (y : Row) (s : Thing) → HasValue a_row y.1 → HasThing s t → answer_of (does_both y s) ≡ answer_of (and_then (row_gives y) (λ vs. run (number_from y.0 vs) s consumes))
    one_row y s h has =
        ap (λ z. answer_of (eval z (with_row d i r s (plain (whole_number y.0)) (plain y.1) env))) (same a m p o t item noted ks d i r g e c n x f starts tidy types around q).turns
        ∙ row_means laws.keys t i.sym.0 c n x f item env y.0 tidied.builder_count (λ vs. run (at_number y.0 vs) s consumes) (λ vs v. run_more y.0 consumes vs v s)
        (λ vs z all is. run_builds item t y.0 consumes s is_formed q.typed.5 has consumes_well vs z all is) g types_before names_before
        (with_row d i r (list_of []) (plain (whole_number y.0)) (plain y.1) env) (with_row d i r s (plain (whole_number y.0)) (plain y.1) env) tidied.aside (tidied.not_builder, tidied.not_number) placed_inside.typed placed_inside.keeps placed_inside.splits
        (no_start a m p o t item noted ks d i r g e c n x f starts tidy types around q)
        (row_meets d i r c n x f item a_row env y.0 y.1 (λ vs. run (at_number y.0 vs) s consumes) types around [] s q.formed q.forms fit is_known.item_formed is_known.item_free
        (row_is_formed a m p o t item noted ks d i r g e c n x f starts tidy types around q) (row_is_free a m p o t item noted ks d i r g e c n x f starts tidy types around q) h tt refl tidied.number_row tidied.behind_list tidied.behind_number tidied.behind_row)
        (comes a m p o t item noted ks d i r g e c n x f starts tidy types around q)
        ∙ answers_when (row_gives y) (λ vs. run (at_number y.0 vs) s consumes) (λ vs. run (number_from y.0 vs) s consumes) (λ vs is. ap answer_of (numbered_alike y s vs is))

    does_well : (y : Row) (s z : Thing) → HasValue a_row y.1 → HasThing s t → does_both y s ≡ done z → HasThing z t
    does_well y s z h has is =
        fits_done (Of t) (does_both y s) z
        (never_stuck laws.keys now (body_types d i r t a_row types) t (with_row d i r s (plain (whole_number y.0)) (plain y.1) env) (body_typed a m p o t item noted ks d i r g e c n x f starts tidy types around q)
        (formed_body d i r t a_row types is_formed (row_is_formed a m p o t item noted ks d i r g e c n x f starts tidy types around q) q.formed) (fits_body types env d i r t a_row s y.1 y.0 has h fit)).fits is

    abbrev consumed : List Value → Outcome Thing
    consumed vs = and_then (eval e env) (λ s. run (number_from 0 vs) s consumes)

    start_fits : GivesOrFaults (Of t) (eval e env)
    start_fits = (never_stuck laws.keys e types t env q.typed.4 q.formed fit).fits

    over_rows : (vs : List Value) → AllAre (HasValue a_row) (values vs) → answer_of (and_then (eval e env) (λ s. run (number_from 0 vs) s does_both)) ≡ answer_of (and_then (collect row_gives (number_from 0 vs)) consumed)
    over_rows vs h =
        answers_at (Of t) (eval e env) (λ s. run (number_from 0 vs) s does_both) (λ s. and_then (collect row_gives (number_from 0 vs)) (λ us. run (number_from 0 us) s consumes)) start_fits
        (λ s has. run_alike t a_row does_both (λ y u. and_then (row_gives y) (λ us. run (number_from y.0 us) u consumes)) one_row does_well (number_from 0 vs) s (rows_have a_row 0 vs h) has
        ∙ sym (handed_rows row_gives consumes steps 0 vs s))
        ∙ answers_swap (eval e env) (collect row_gives (number_from 0 vs)) (λ s us. run (number_from 0 us) s consumes)

    -- ---- both loops

    abbrev by_rows : (List Value → Outcome Thing) → Outcome Thing
    by_rows y = and_then (eval_legs ks env) (λ l. and_then (rows_of l) y)

    pattern_is : eval (pattern a m p o t item noted ks d i r g e c n x f starts) env ≡ by_rows (λ vs. and_then (elements_made (run (number_from 0 vs) (list_of []) produces)) consumed)
    pattern_is =
        one_leg (eval_leg (whole (produced a m p o t item noted ks d i r g e c n x f starts)) env) (λ l. and_then (rows_of l) consumed)
        ∙ ap (λ u. and_then u consumed) (elements_through (eval_legs ks env) (λ l. and_then (rows_of l) (λ vs. run (number_from 0 vs) (list_of []) produces)) ∙ (λ j. and_then (eval_legs ks env) (λ l. elements_through (rows_of l) (λ vs. run (number_from 0 vs) (list_of []) produces) j)))
        ∙ then_then (eval_legs ks env) (λ l. and_then (rows_of l) (λ vs. elements_made (run (number_from 0 vs) (list_of []) produces))) consumed
        ∙ (λ j. and_then (eval_legs ks env) (λ l. then_then (rows_of l) (λ vs. elements_made (run (number_from 0 vs) (list_of []) produces)) consumed j))

    alike_by_rows : (y z : List Value → Outcome Thing) → ((vs : List Value) → AllAre (HasValue a_row) (values vs) → answer_of (y vs) ≡ answer_of (z vs)) → answer_of (by_rows y) ≡ answer_of (by_rows z)
    alike_by_rows y z h =
        answers_at (LegsFit is_known.producer.typed.0) (eval_legs ks env) (λ l. and_then (rows_of l) y) (λ l. and_then (rows_of l) z)
        (legs_good laws.keys ks types is_known.producer.typed.0 env is_known.producer.typed.2 q.formed fit).fits
        (λ l v. answers_at (λ vs. AllAre (HasValue a_row) (values vs)) (rows_of l) y z (rows_good is_known.producer.typed.0 a_row l is_known.producer.typed.3 v).fits h)

    answers_alike : answer_of (eval (answer a m p o t item noted ks d i r g e c n x f starts) env) ≡ answer_of (eval (pattern a m p o t item noted ks d i r g e c n x f starts) env)
    answers_alike =
        alike_by_rows (λ vs. and_then (eval e env) (λ s. run (number_from 0 vs) s does_both)) (λ vs. and_then (elements_made (run (number_from 0 vs) (list_of []) produces)) consumed)
        (λ vs h. over_rows vs h ∙ ap (λ u. answer_of (and_then u consumed)) (sym (elements_are vs h)))
        ∙ ap answer_of (sym pattern_is)

    pub means_so : eval (answer a m p o t item noted ks d i r g e c n x f starts) env ≡ eval (pattern a m p o t item noted ks d i r g e c n x f starts) env
    means_so =
        same_answers (Of t) (Of t) (eval (answer a m p o t item noted ks d i r g e c n x f starts) env) (eval (pattern a m p o t item noted ks d i r g e c n x f starts) env) (never_stuck laws.keys (answer a m p o t item noted ks d i r g e c n x f starts) types t env (placed_so a m p o t item noted ks d i r g e c n x f starts tidy types around q).typed q.formed fit).fits
        (never_stuck laws.keys (pattern a m p o t item noted ks d i r g e c n x f starts) types t env q.typed q.formed fit).fits answers_alike

  pub means : IsTidy (pattern a m p o t item noted ks d i r g e c n x f starts) → (types : Types) (around : Named Origin) (u : TypeTree) (env : Env) → IsPlaced (pattern a m p o t item noted ks d i r g e c n x f starts) types around u → EnvFits types env → eval (answer a m p o t item noted ks d i r g e c n x f starts) env ≡ eval (pattern a m p o t item noted ks d i r g e c n x f starts) env
  means tidy types around u env q fit =
      let e0 = noted_is a m p o t item noted ks d i r g e c n x f starts types around u q in means_so tidy types around (subst (IsPlaced (pattern a m p o t item noted ks d i r g e c n x f starts) types around) (sym e0) q) env fit
