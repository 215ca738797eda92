-- The one loop over all legs comes to what the loop over the `zip` comes to.
use Rattle.std.proofs.Common.{◌≡◌, ◌≢◌, ℕ, zero, suc, false, ◌≤◌, List, [], ◌∷◌, Some, refl, ap, sym, subst, ◌∙◌, eq-eqb, ne_eqb, inl, inr, ◌⊎◌}
use Rattle.std.proofs.lemmas.Bool.{cases_eq}
use Rattle.weld_data.specs.Value.{Value, number, list as list_value, struct as struct_value, dict as dict_value, Values, no_values, and_value, values}
use Rattle.weld_tree.specs.TypeTree.{TypeTree, TypeTrees, struct as tuple, no_types, more_types}
use Rattle.weld_tree.specs.Types.{HasTypes, IsWellFormed}
use Rattle.weld_tree.specs.ExprTree.{leaf, truth}
use Rattle.weld_tree.specs.Blank.{blank_at}
use Rattle.weld_tree.specs.HasValue.{HasValue, HaveValues, AllAre}
use Rattle.weld_builders.specs.Outcome.{Outcome, done, fault, stuck, and_then, map_out}
use Rattle.weld_meaning.specs.Environment.{Named, look_for}
use Rattle.weld_meaning.specs.Thing.{Thing, plain}
use Rattle.weld_meaning.specs.ThingType.{HasThing, EnvFits}
use Rattle.weld_meaning.specs.Typing.{Types}
use Rattle.weld_meaning.specs.Evaluation.{Env, Row, whole_number, with_row, rows_of, number_from, run, eval, eval_legs}
use Rattle.weld_meaning.specs.Origin.{Origin}
use Rattle.weld_meaning.specs.Names.{IsFree, AgreeOn, answer_of}
use Rattle.weld_meaning.proofs.Good.{Good}
use Rattle.weld_meaning.proofs.LoopLaw.{PartLaws}
use Rattle.weld_meaning.proofs.Names.{agree_bind, eval_free, same_answers}
use Rattle.weld_meaning.proofs.Putting.{put_means}
use Rattle.weld_meaning.proofs.WellFormed.{formed_body, formed_bind}
use Rattle.weld_meaning.proofs.ValuesGood.{LegsFit, rows_good}
use Rattle.weld_meaning.proofs.NeverStuck.{Of, never_stuck, fits_bind, fits_body}
use Rattle.weld_rewriting.specs.Placed.{IsPlaced}
use Rattle.weld_rewriting.specs.Tidy.{IsTidy}
use Rattle.weld_rewriting.proofs.Rows.{legs_good, rows_have}
use Rattle.weld_substitution.proofs.Bindings.{agree_over}
use Rattle.weld_vertical.proofs.Handing.{then_then, then_itself, answers_at, answers_swap, list_of, Steps, steps_of_one, handed as handed_rows}
use Rattle.weld_horizontal.specs.Twice.{items, count}
use Rattle.weld_horizontal.proofs.RowItems.{row_of}
use Rattle.weld_handing.specs.Handing.{unnoted}
use Rattle.weld_handing.proofs.Common.{IsBehind}
use Rattle.weld_handing.proofs.Giving.{fits_done, run_alike}
use Rattle.weld_handing.proofs.Meeting.{Meets}
use Rattle.weld_handing.proofs.Row.{at_number, run_more, run_builds, row_meets, list_in, row_means}
use Rattle.weld_vertical_zip.specs.Zipping.{all_items}
use Rattle.weld_vertical_zip.proofs.Gathering.{map_map, same_then, gather, values_behind, as_row, on_fields, on_fields_at}
use Rattle.weld_vertical_zip.proofs.LegsJoined.{same_rows}
use Rattle.weld_vertical_zip.proofs.MadeRows.{among, Apiece, apiece, stands, part_gives_so}
use Rattle.weld_vertical_zip.proofs.Splice.{Splice, places, pattern, row, body, all_legs, old_legs, Tidily}
use Rattle.weld_vertical_zip.proofs.SplicePlaced.{row_several, found_first, Known, several_all, all_have, row_has}
use Rattle.weld_vertical_zip_held.proofs.OneEach.{gathers_ones, own_gives as gives_of, gives_one, leg_gathers}
use Rattle.weld_vertical_zip_held.proofs.WholeRow.{whole_gives}
use Rattle.weld_vertical_zip_held.proofs.ZipHeld.{Held, made, consumer, Apart, one_body, one_loop}
use Rattle.weld_vertical_zip_held.proofs.ZipPlaced.{w, v, k, before, list_types, later_types, there, row_is_formed, row_is_free, builder_formed, same, no_start, comes, outer, item_types, consumer_typed, body_typed, placed_so, noted_is}

-- ---- values

-- the fields of a struct
abbrev fields_in : Value → Values
fields_in (number kind x) = no_values
fields_in (list_value vs) = no_values
fields_in (struct_value fs) = fs
fields_in (dict_value es) = no_values

-- a value of a struct's type is a struct
struct_is : (us : TypeTrees) (y : Value) → HasValue (tuple us) y → (y ≡ struct_value (fields_in y)) × HaveValues us (fields_in y)
struct_is us (number kind x) h = absurd h
struct_is us (list_value vs) h = absurd h
struct_is us (struct_value fs) h = (refl, h)
struct_is us (dict_value es) h = absurd h

-- one less
abbrev less_one : ℕ → ℕ
less_one zero = zero
less_one (suc j) = j

-- what gives one value gives a list of it
single_out : (o : Outcome Value) (vs : List Value) → map_out (λ y. y ∷ []) o ≡ done vs → (y : Value) × (vs ≡ y ∷ [])
single_out (done y) vs h = (y, let same : ◌≡◌ {A = List Value} (y ∷ []) vs = cc in sym same)
single_out fault vs h = let nothing : ⊥ = cc in absurd nothing
single_out stuck vs h = let nothing : ⊥ = cc in absurd nothing

module _ (laws : PartLaws) (c : Splice) (h : Held c) where
  module _ (tidy : IsTidy (pattern c)) (types : Types) (around : Named Origin) (q : IsPlaced (pattern c) types around h.t) (env : Env) (fit : EnvFits types env) where
    abbrev tidied : Tidily c
    tidied = w c h tidy types around q

    abbrev apart : Apart c
    apart = v c h tidy types around q

    abbrev is_known : Known c types around h.t q
    is_known = k c h tidy types around q

    abbrev all : TypeTrees
    all = all_items (places c)

    abbrev a_row : TypeTree
    a_row = row_of all

    several : 2 ≤ count all
    several = several_all c types around h.t q is_known

    is_formed : IsWellFormed h.t
    is_formed = builder_formed c h tidy types around q

    -- ---- what a row gives

    -- of the loop that makes the list
    abbrev own_gives : ℕ → Value → Outcome Value
    own_gives = gives_of laws c.m c.p c.o c.item c.ks c.d c.i c.r c.g types around is_known.producer is_known.item_formed is_known.item_free h.starts h.once h.always env fit

    -- and over all legs, whole
    abbrev rows_give : ℕ → Value → Outcome Value
    rows_give n y = map_out struct_value (on_fields (count (items c.bs)) (count (items c.ks)) (λ m gs. own_gives m (as_row (less_one (count (items c.ks))) gs)) n (fields_in y))

    rows_give_so : (j n : ℕ) (fs : Values) → suc j ≡ count (items c.ks) → HaveValues all fs → rows_give n (struct_value fs) ≡ map_out struct_value (on_fields (count (items c.bs)) (count (items c.ks)) (λ m gs. own_gives m (as_row j gs)) n fs)
    rows_give_so j n fs e y = ap (λ l. map_out struct_value (on_fields (count (items c.bs)) (count (items c.ks)) (λ m gs. own_gives m (as_row (less_one l) gs)) n fs)) (sym e)

    joined_rows : answer_of (and_then (eval_legs (all_legs c) env) (λ l. and_then (rows_of l) (gather rows_give 0))) ≡ answer_of (and_then (eval_legs (old_legs c) env) rows_of)
    joined_rows =
        same_rows c laws.keys types around h.t q is_known env fit own_gives rows_give
        (leg_gathers laws c.m c.p c.o c.item c.ks c.d c.i c.r c.g types around is_known.producer is_known.item_formed is_known.item_free h.starts h.once h.always env fit) rows_give_so

    -- ---- on a row

    abbrev consumes : Row → Thing → Outcome Thing
    consumes y s = eval c.f (with_row c.b c.n c.x s (plain (whole_number y.0)) (plain y.1) env)

    abbrev does_both : Row → Thing → Outcome Thing
    does_both y s = eval (one_body c h) (with_row c.d c.i c.r s (plain (whole_number y.0)) (plain y.1) env)

    -- the names in the body on a row over all legs, before anything is merged
    abbrev in_row : ℕ → Value → Env
    in_row n y = with_row c.d c.i c.r (list_of []) (plain (whole_number n)) (plain y) env

    -- the consumer's body on an item, with its row rebuilt
    abbrev consumes_item : Value → Row → Thing → Outcome Thing
    consumes_item z y s = eval (consumer c) (with_row c.b c.n (unnoted c.x) s (plain (whole_number y.0)) (plain y.1) ((c.r.sym.0, plain z) ∷ env))

    fits_row : (fs : Values) → HaveValues all fs → HasValue a_row (struct_value fs)
    fits_row fs y = subst (λ u. HasValue u (struct_value fs)) (sym (row_several all several)) y

    -- with its row rebuilt, the body of the loop that makes the list gives what it gave
    body_gives : (n : ℕ) (fs : Values) (a : Apiece (places c) fs) (j : ℕ) → HaveValues all fs → suc j ≡ count (items c.ks) → and_then (eval (body c) (in_row n (struct_value fs))) list_in ≡ map_out (λ y. y ∷ []) (own_gives n (as_row j a.within))
    body_gives n fs a j y e =
        ap (λ o. and_then o list_in)
        (put_means c.g c.r.sym.0 (row c) (plain (as_row j a.within)) (in_row n (struct_value fs)) (in_row n (as_row j a.within)) tidied.clear
        (record {
          others = λ s ne. rw (ne_eqb s c.r.sym.0 (λ p. ne (sym p))) refl;
          there = found_first c.r.sym.0 (plain (as_row j a.within)) ((c.i.sym.0, plain (whole_number n)) ∷ (c.d.sym.0, list_of []) ∷ env);
          comes_to = gives;
        }))
        ∙ gives_one laws c.m c.p c.o c.item c.ks c.d c.i c.r c.g types around is_known.producer is_known.item_formed is_known.item_free h.starts h.once h.always env fit n (as_row j a.within)
      where
        gives : eval (row c) (in_row n (struct_value fs)) ≡ done (plain (as_row j a.within))
        gives =
            part_gives_so c.a.place c.r.sym.0 all (count (items c.bs)) (items c.ks) j a.within (in_row n (struct_value fs)) (struct_value fs) e
            (found_first c.r.sym.0 (plain (struct_value fs)) ((c.i.sym.0, plain (whole_number n)) ∷ (c.d.sym.0, list_of []) ∷ env)) (fits_row fs y) (among (places c)).within a.within_fit
            (stands c.a.place c.r.sym.0 (places c) fs a several).within

    -- on an item the rebuilt body comes to what the consumer's does on the whole row
    item_means : (n : ℕ) (fs : Values) (a : Apiece (places c) fs) (y : Value) (s : Thing) → HaveValues all fs → consumes_item (struct_value fs) (n, y) s ≡ consumes (n, struct_value (values_behind a.before (and_value y a.after))) s
    item_means n fs a y s have =
        put_means c.f c.x.sym.0 (made c) (plain whole) on_item on_whole apart.made_clear
        (record {
          others = λ z ne. rw (ne_eqb z c.x.sym.0 (λ p. ne (sym p))) refl;
          there = found_first c.x.sym.0 (plain whole) ((c.n.sym.0, plain (whole_number n)) ∷ (c.b.sym.0, s) ∷ (c.r.sym.0, plain (struct_value fs)) ∷ env);
          comes_to = whole_gives c.a.place c.r.sym.0 (places c) c.x.sym.0 fs a y on_item row_there item_there (fits_row fs have) several;
        })
        ∙ sym (eval_free c.f (with_row c.b c.n c.x s (plain (whole_number n)) (plain whole) env) on_whole
        (agree_bind (λ z. IsFree c.f z × (z ≢ c.x.sym.0)) (IsFree c.f) c.x.sym.0 (plain whole) _ _ (λ z u ne. (u, ne))
        (agree_bind (λ z. IsFree c.f z × (z ≢ c.x.sym.0) × (z ≢ c.n.sym.0)) (λ z. IsFree c.f z × (z ≢ c.x.sym.0)) c.n.sym.0 (plain (whole_number n)) _ _ (λ z u ne. (u.0, u.1, ne))
        (agree_bind (λ z. IsFree c.f z × (z ≢ c.x.sym.0) × (z ≢ c.n.sym.0) × (z ≢ c.b.sym.0)) (λ z. IsFree c.f z × (z ≢ c.x.sym.0) × (z ≢ c.n.sym.0)) c.b.sym.0 s env ((c.r.sym.0, plain (struct_value fs)) ∷ env) (λ z u ne. (u.0, u.1, u.2, ne))
        (agree_over _ c.r.sym.0 (plain (struct_value fs)) env (λ u. apart.no_row u.0))))))
      where
        whole : Value
        whole = struct_value (values_behind a.before (and_value y a.after))

        on_item : Env
        on_item = with_row c.b c.n c.x s (plain (whole_number n)) (plain y) ((c.r.sym.0, plain (struct_value fs)) ∷ env)

        on_whole : Env
        on_whole = with_row c.b c.n c.x s (plain (whole_number n)) (plain whole) ((c.r.sym.0, plain (struct_value fs)) ∷ env)

        row_there : look_for c.r.sym.0 on_item ≡ Some (plain (struct_value fs))
        row_there = rw (ne_eqb c.r.sym.0 c.x.sym.0 apart.row_row) (rw (ne_eqb c.r.sym.0 c.n.sym.0 apart.row_number) (rw (ne_eqb c.r.sym.0 c.b.sym.0 apart.row_builder) (rw (eq-eqb c.r.sym.0 c.r.sym.0 refl) refl)))

        item_there : look_for c.x.sym.0 on_item ≡ Some (plain y)
        item_there = found_first c.x.sym.0 (plain y) ((c.n.sym.0, plain (whole_number n)) ∷ (c.b.sym.0, s) ∷ (c.r.sym.0, plain (struct_value fs)) ∷ env)

    -- what the one body comes to, by what the list's body makes of an empty list
    item_well : (z : Value) → HasValue a_row z → (y : Row) (s : Thing) → HasValue c.item y.1 → HasThing s h.t → Good (Of h.t) (consumes_item z y s)
    item_well z has y s item_has thing_has =
        never_stuck laws.keys (consumer c) (item_types c h tidy types around q) h.t (with_row c.b c.n (unnoted c.x) s (plain (whole_number y.0)) (plain y.1) ((c.r.sym.0, plain z) ∷ env)) (consumer_typed c h tidy types around q)
        (formed_body c.b c.n c.x h.t c.item (outer c h tidy types around q) is_formed is_known.item_formed (formed_bind types c.r.sym.0 a_row (row_is_formed c h tidy types around q) q.formed))
        (fits_body (outer c h tidy types around q) ((c.r.sym.0, plain z) ∷ env) c.b c.n c.x h.t c.item s y.1 y.0 thing_has item_has (fits_bind types env c.r.sym.0 a_row (plain z) has fit))

    meets : (n : ℕ) (z : Value) (s : Thing) → HasValue a_row z → Meets c.i.sym.0 c.b c.n (unnoted c.x) (consumer c) c.item ((c.r.sym.0, plain z) ∷ env) n (λ vs. run (at_number n vs) s (consumes_item z)) (list_types c h tidy types around q) (before c h tidy types around q) (in_row n z) (with_row c.d c.i c.r s (plain (whole_number n)) (plain z) env)
    meets n z s has =
        let r = row_meets c.d c.i c.r c.b c.n (unnoted c.x) (leaf blank_at (truth false)) c.item a_row env n z (λ vs. run (at_number n vs) s (consumes_item z)) types around [] s q.formed q.forms fit is_known.item_formed is_known.item_free
        (row_is_formed c h tidy types around q) (row_is_free c h tidy types around q) has tt refl apart.number_row (λ y. y) (λ y. y) (λ y. y) in
        record { formed = r.formed; forms = r.forms; held = r.held; fits = r.fits; handed = r.handed; behind = behind; row = r.row }
      where
        later : Env
        later = with_row c.d c.i c.r s (plain (whole_number n)) (plain z) env

        by : (a : ℕ) → IsBehind (consumer c) c.b.sym.0 c.n.sym.0 c.x.sym.0 a → (a ≡ c.r.sym.0) ⊎ (a ≢ c.r.sym.0) → look_for a ((c.r.sym.0, plain z) ∷ env) ≡ look_for a later
        by a y (inl e) = rw (eq-eqb a c.r.sym.0 e) refl
        by a y (inr ne) =
            rw (ne_eqb a c.r.sym.0 ne)
            (rw (ne_eqb a c.i.sym.0 (λ u. apart.behind_number (subst (IsFree (consumer c)) u y.0))) (rw (ne_eqb a c.d.sym.0 (λ u. apart.behind_list (subst (IsFree (consumer c)) u y.0))) refl))

        behind : AgreeOn (IsBehind (consumer c) c.b.sym.0 c.n.sym.0 c.x.sym.0) ((c.r.sym.0, plain z) ∷ env) later
        behind = record { agree = λ a y. by a y (cases_eq a c.r.sym.0) }

    body_means : (n : ℕ) (z : Value) (s : Thing) → HasValue a_row z → HasThing s h.t → answer_of (does_both (n, z) s) ≡ answer_of (and_then (and_then (eval (body c) (in_row n z)) list_in) (λ vs. run (at_number n vs) s (consumes_item z)))
    body_means n z s has thing_has =
        ap (λ u. answer_of (eval u (with_row c.d c.i c.r s (plain (whole_number n)) (plain z) env))) (same c h tidy types around q).turns
        ∙ row_means laws.keys h.t c.i.sym.0 c.b c.n (unnoted c.x) (consumer c) c.item ((c.r.sym.0, plain z) ∷ env) n apart.builder_count (λ vs. run (at_number n vs) s (consumes_item z))
        (λ vs y. run_more n (consumes_item z) vs y s)
        (λ vs u all_are is. run_builds c.item h.t n (consumes_item z) s is_formed q.typed.5 thing_has (item_well z has) vs u all_are is) (body c) (list_types c h tidy types around q) (before c h tidy types around q)
        (in_row n z) (with_row c.d c.i c.r s (plain (whole_number n)) (plain z) env) apart.aside (apart.not_builder, apart.not_number) (there c h tidy types around q).typed (there c h tidy types around q).keeps (there c h tidy types around q).splits
        (no_start c h tidy types around q) (meets n z s has) (comes c h tidy types around q)

    -- the one body on a row is the consumer's on the whole row that it gives
    row_so : (n : ℕ) (fs : Values) (s : Thing) → HaveValues all fs → HasThing s h.t → answer_of (does_both (n, struct_value fs) s) ≡ answer_of (and_then (rows_give n (struct_value fs)) (λ u. consumes (n, u) s))
    row_so n fs s have thing_has = by (apiece (places c) fs have)
      where
        some_within : (us : TypeTrees) → HasTypes us → (j : ℕ) × (suc j ≡ count us)
        some_within no_types y = absurd y
        some_within (more_types u us) y = (count us, refl)

        after_one : (a : Apiece (places c) fs) (o : Outcome Value) → answer_of (and_then (map_out (λ y. y ∷ []) o) (λ vs. run (at_number n vs) s (consumes_item (struct_value fs)))) ≡ answer_of (and_then (map_out (λ y. struct_value (values_behind a.before (and_value y a.after))) o) (λ u. consumes (n, u) s))
        after_one a (done y) = ap answer_of (then_itself (consumes_item (struct_value fs) (n, y) s) ∙ item_means n fs a y s have)
        after_one a fault = refl
        after_one a stuck = refl

        by : Apiece (places c) fs → answer_of (does_both (n, struct_value fs) s) ≡ answer_of (and_then (rows_give n (struct_value fs)) (λ u. consumes (n, u) s))
        by a =
            let j = some_within (items c.ks) is_known.some in
            body_means n (struct_value fs) s (fits_row fs have) thing_has
            ∙ ap (λ o. answer_of (and_then o (λ vs. run (at_number n vs) s (consumes_item (struct_value fs))))) (body_gives n fs a j.0 have j.1)
            ∙ after_one a (own_gives n (as_row j.0 a.within))
            ∙ sym (ap (λ o. answer_of (and_then o (λ u. consumes (n, u) s)))
            (rows_give_so j.0 n fs j.1 have
            ∙ ap (λ gs. map_out struct_value (on_fields (count (items c.bs)) (count (items c.ks)) (λ m gs. own_gives m (as_row j.0 gs)) n gs)) a.are
            ∙ ap (map_out struct_value) (on_fields_at (items c.bs) (items c.ks) (λ m gs. own_gives m (as_row j.0 gs)) n a.before a.within a.after a.before_fit a.within_fit)
            ∙ map_map struct_value (λ y. values_behind a.before (and_value y a.after)) (own_gives n (as_row j.0 a.within))))

    abbrev ones : Row → Outcome (List Value)
    ones y = map_out (λ u. u ∷ []) (rows_give y.0 y.1)

    one_row : (y : Row) (s : Thing) → HasValue a_row y.1 → HasThing s h.t → answer_of (does_both y s) ≡ answer_of (and_then (ones y) (λ us. run (number_from y.0 us) s consumes))
    one_row y s has thing_has =
        let z = struct_is all y.1 (subst (λ u. HasValue u y.1) (row_several all several) has) in
        subst (λ u. answer_of (does_both (y.0, u) s) ≡ answer_of (and_then (rows_give y.0 u) (λ u. consumes (y.0, u) s))) (sym z.0) (row_so y.0 (fields_in y.1) s z.1 thing_has)
        ∙ sym (ap answer_of (of_one (rows_give y.0 y.1)))
      where
        of_one : (o : Outcome Value) → and_then (map_out (λ u. u ∷ []) o) (λ us. run (number_from y.0 us) s consumes) ≡ and_then o (λ u. consumes (y.0, u) s)
        of_one (done u) = then_itself (consumes (y.0, u) s)
        of_one fault = refl
        of_one stuck = refl

    does_well : (y : Row) (s z : Thing) → HasValue a_row y.1 → HasThing s h.t → does_both y s ≡ done z → HasThing z h.t
    does_well y s z has thing_has is =
        fits_done (Of h.t) (does_both y s) z
        (never_stuck laws.keys (one_body c h) (later_types c h tidy types around q) h.t (with_row c.d c.i c.r s (plain (whole_number y.0)) (plain y.1) env) (body_typed c h tidy types around q)
        (formed_body c.d c.i c.r h.t a_row types is_formed (row_is_formed c h tidy types around q) q.formed) (fits_body types env c.d c.i c.r h.t a_row s y.1 y.0 thing_has has fit)).fits is

    -- ---- over all rows

    abbrev consumed : List Value → Outcome Thing
    consumed rows = and_then (eval c.e env) (λ s. run (number_from 0 rows) s consumes)

    steps : Steps ones consumes
    steps = steps_of_one ones consumes (λ y vs e. single_out (rows_give y.0 y.1) vs e)

    over_rows : (vs : List Value) → AllAre (HasValue a_row) (values vs) → answer_of (and_then (eval c.e env) (λ s. run (number_from 0 vs) s does_both)) ≡ answer_of (and_then (gather rows_give 0 vs) consumed)
    over_rows vs y =
        answers_at (Of h.t) (eval c.e env) (λ s. run (number_from 0 vs) s does_both) (λ s. and_then (gather rows_give 0 vs) (λ us. run (number_from 0 us) s consumes))
        (never_stuck laws.keys c.e types h.t env q.typed.4 q.formed fit).fits
        (λ s has.
        run_alike h.t a_row does_both (λ y u. and_then (ones y) (λ us. run (number_from y.0 us) u consumes)) one_row does_well (number_from 0 vs) s (rows_have a_row 0 vs y) has
        ∙ sym (handed_rows ones consumes steps 0 vs s)
        ∙ ap (λ o. answer_of (and_then o (λ us. run (number_from 0 us) s consumes))) (gathers_ones rows_give ones (λ n u. refl) 0 vs))
        ∙ answers_swap (eval c.e env) (gather rows_give 0 vs) (λ s us. run (number_from 0 us) s consumes)

    answers_alike : answer_of (eval (one_loop c h) env) ≡ answer_of (eval (pattern c) env)
    answers_alike =
        answers_at (LegsFit all) (eval_legs (all_legs c) env) (λ l. and_then (rows_of l) (λ vs. and_then (eval c.e env) (λ s. run (number_from 0 vs) s does_both))) (λ l. and_then (rows_of l) (λ vs. and_then (gather rows_give 0 vs) consumed))
        (legs_good laws.keys (all_legs c) types all env (all_have c types around h.t q is_known) q.formed fit).fits
        (λ l y.
        answers_at (λ vs. AllAre (HasValue a_row) (values vs)) (rows_of l) (λ vs. and_then (eval c.e env) (λ s. run (number_from 0 vs) s does_both)) (λ vs. and_then (gather rows_give 0 vs) consumed)
        (rows_good all a_row l (row_has c types around h.t q is_known) y).fits over_rows)
        ∙ sym (ap answer_of (then_then (eval_legs (all_legs c) env) (λ l. and_then (rows_of l) (gather rows_give 0)) consumed ∙ (λ j. and_then (eval_legs (all_legs c) env) (λ l. then_then (rows_of l) (gather rows_give 0) consumed j))))
        ∙ same_then (and_then (eval_legs (all_legs c) env) (λ l. and_then (rows_of l) (gather rows_give 0))) (and_then (eval_legs (old_legs c) env) rows_of) consumed joined_rows
        ∙ ap answer_of (then_then (eval_legs (old_legs c) env) rows_of consumed)

    means_so : eval (one_loop c h) env ≡ eval (pattern c) env
    means_so =
        same_answers (Of h.t) (Of h.t) (eval (one_loop c h) env) (eval (pattern c) env) (never_stuck laws.keys (one_loop c h) types h.t env (placed_so c h tidy types around q).typed q.formed fit).fits
        (never_stuck laws.keys (pattern c) types h.t env q.typed q.formed fit).fits answers_alike

  pub means : IsTidy (pattern c) → (types : Types) (around : Named Origin) (u : TypeTree) (env : Env) → IsPlaced (pattern c) types around u → EnvFits types env → eval (one_loop c h) env ≡ eval (pattern c) env
  means tidy types around u env q fit =
      let e0 = noted_is c h types around u q in means_so tidy types around (subst (IsPlaced (pattern c) types around) (sym e0) q) env fit
