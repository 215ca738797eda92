-- A loop over what another loop makes may be rewritten to one loop.
use Rattle.std.proofs.Common.{◌≡◌, ◌≢◌, ℕ, suc, ◌+◌, ◌≤◌, Bool, true, false, ◌||◌, List, [], ◌∷◌, ◌++◌, Some, refl, ap, sym, subst, ◌∙◌, eq-eqb, ne_eqb, arith, length-append, inl, inr}
use Rattle.weld_data.specs.Value.{Value, values}
use Rattle.weld_tree.specs.declared.binder.Binder.{Binder}
use Rattle.weld_tree.specs.declared.known.Known.TheVariants.{Is}
use Rattle.weld_tree.specs.TypeTree.{TypeTree, TypeTrees, BuildTree, vec, build, list, no_types, more_types}
use Rattle.weld_tree.specs.Types.{IsBuilderFree, IsWellFormed, gives}
use Rattle.weld_tree.specs.ExprTree.{At, ExprTree, leaf, one, loop, whole, LegTrees, no_legs, more_legs, fresh, finish}
use Rattle.weld_tree.specs.Program.{loops, bound, bound_in_legs, IsOneOf, AreDistinct}
use Rattle.weld_tree.specs.HasValue.{HasValue, AllAre}
use Rattle.weld_builders.specs.Outcome.{Outcome, and_then, map_out}
use Rattle.weld_builders.specs.Part.{list_part}
use Rattle.weld_meaning.specs.Environment.{Named, look_for}
use Rattle.weld_meaning.specs.Thing.{Thing, plain, building}
use Rattle.weld_meaning.specs.ThingType.{EnvFits}
use Rattle.weld_meaning.specs.Typing.{Types, NoteFits, place_type, HasType, LegsHave, RowHas, body_types}
use Rattle.weld_meaning.specs.Evaluation.{Env, Row, whole_number, with_row, rows_of, number_from, run, eval, eval_leg, eval_legs}
use Rattle.weld_meaning.specs.Origin.{Origin, value, made, origin, own_paths, outside, in_body}
use Rattle.weld_meaning.specs.Available.{takes, legs_take}
use Rattle.weld_meaning.specs.Names.{IsFree, AgreeOn, Binds, answer_of}
use Rattle.weld_meaning.proofs.Names.{agree_bind, eval_free, same_answers}
use Rattle.weld_meaning.proofs.OneType.{one_type}
use Rattle.weld_meaning.proofs.OriginTypes.{origin_forms, forms_in_body}
use Rattle.weld_meaning.proofs.WellFormed.{type_formed, formed_body, row_formed}
use Rattle.weld_meaning.proofs.ValuesGood.{LegsFit, rows_good}
use Rattle.weld_meaning.proofs.PartsGood.{KeyLaws}
use Rattle.weld_meaning.proofs.NeverStuck.{Of, never_stuck, fits_body}
use Rattle.weld_rewriting.specs.Placed.{IsPlaced}
use Rattle.weld_rewriting.specs.Within.{times, legs, StaysWithin}
use Rattle.weld_rewriting.specs.Tidy.{IsTidy}
use Rattle.weld_rewriting.specs.Rewriting.{Rewrites}
use Rattle.weld_rewriting.proofs.Counts.{times-append, one_of_times, distinct_times, times_distinct}
use Rattle.weld_rewriting.proofs.Parts.{row_free, noted_at, part_of_one, body_of_loop}
use Rattle.weld_rewriting.proofs.Rows.{legs_good, rows_have}
use Rattle.weld_substitution.proofs.Bindings.{agree_over, agree_after}
use Rattle.weld_substitution.proofs.Clear.{first_of, second_of, binds_each}
use Rattle.weld_substitution.proofs.Following.{or_left}
use Rattle.weld_substitution.proofs.Unnamed.{binds_so}
use Rattle.weld_substitution.specs.Uses.{uses}
use Rattle.weld_vertical.specs.Sinking.{is_spine, merges, is_consumer, sunk, fused}
use Rattle.weld_vertical.proofs.Spine.{sunk_counted, unnamed, Named as NamedIn, sunk_named}
use Rattle.weld_vertical.proofs.Related.{IsAside, IsElse, IsBehind}
use Rattle.weld_vertical.proofs.SinkPlaced.{Consumer, Related, Sunk, sinks_all}
use Rattle.weld_vertical.proofs.SinkMeans.{row_values, row_single, row_appends, row_values_free, row_hands}
use Rattle.weld_vertical.proofs.Recognised.{Numbered, consumer_by}
use Rattle.weld_vertical.proofs.Handing.{then_then, answers_at, answers, answers_swap, collect, list_of, run_collects, Steps, steps_of_one, steps_of_any, handed, run_rows, elements_collected, one_leg}

-- ---- types

-- a row over one leg is its item
only_type : (v : ExprTree) (g : Types) (us : TypeTrees) (r : TypeTree) → LegsHave (more_legs (whole v) no_legs) g us → RowHas us r → (u : TypeTree) × HasType v g (vec u) × (r ≡ u)
only_type v g no_types r h k = absurd h
only_type v g (more_types u no_types) r h k = (u, h.0, k)
only_type v g (more_types u (more_types w us)) r h k = absurd h.1

same_item : (u w item : TypeTree) (b : BuildTree) → w ≡ build b → vec u ≡ gives b → w ≡ build (list item) → u ≡ item
same_item u w item b e h k =
    let same : b ≡ list item = let it : build b ≡ build (list item) = sym e ∙ k in cc in
    let items : vec u ≡ vec item = h ∙ ap gives same in cc

twice_more : (c : Bool) → c ≡ ((c || false) || false)
twice_more true = refl
twice_more false = refl

module _ (a m p o : At) (item : TypeTree) (ks : LegTrees) (d i r : Binder) (g e : ExprTree) (b n x : Binder) (f : ExprTree) (spine : is_spine d.sym.0 g ≡ true) (once : merges g ≡ 1) (numbered : Numbered n.sym.0 f d.sym.0 g) where
  abbrev empty : ExprTree
  empty = leaf o (fresh (list item))

  abbrev producer : ExprTree
  producer = loop p ks empty d i r g

  abbrev produced : ExprTree
  produced = one m finish producer

  abbrev only : LegTrees
  only = more_legs (whole produced) no_legs

  abbrev pattern : ExprTree
  pattern = loop a only e b n x f

  abbrev body : ExprTree
  body = sunk a.ty b.sym.0 i.sym.0 n x f g

  abbrev answer : ExprTree
  answer = loop a ks e b i r body

  -- ---- binders

  abbrev inner : List ℕ
  inner = d.sym.0 ∷ i.sym.0 ∷ r.sym.0 ∷ bound g

  abbrev mine : List ℕ
  mine = b.sym.0 ∷ n.sym.0 ∷ x.sym.0 ∷ bound f

  all_times : (s : ℕ) → times (bound pattern) s ≡ times (bound_in_legs ks) s + times inner s + times (bound e) s + times mine s
  all_times s =
      omega (
        arith,
        times-append ((bound_in_legs ks ++ inner) ++ []) (bound e ++ mine) s,
        times-append (bound_in_legs ks ++ inner) [] s,
        times-append (bound_in_legs ks) inner s,
        times-append (bound e) mine s,
      )

  record Tidily : Type 0 where
    pub aside : Binds (IsAside d.sym.0 b.sym.0 i.sym.0 n.sym.0 f) g
    pub not_builder : IsFree g b.sym.0 → ⊥
    pub not_number : IsFree g n.sym.0 → ⊥
    pub number_row : i.sym.0 ≢ r.sym.0
    pub behind_number : IsFree f i.sym.0 → ⊥
    pub behind_row : IsFree f r.sym.0 → ⊥
    pub builder_number : b.sym.0 ≢ n.sym.0
    pub builder_row : b.sym.0 ≢ x.sym.0
    pub builder_count : b.sym.0 ≢ i.sym.0
    pub builder_item : b.sym.0 ≢ r.sym.0
    pub own_number : Binds (λ z. n.sym.0 ≢ z) f

  tidily : IsTidy pattern → Tidily
  tidily tidy = record {
    aside = binds_each g (IsAside d.sym.0 b.sym.0 i.sym.0 n.sym.0 f) (λ z h. (
      (λ q. distinct.0 (subst (IsOneOf (i.sym.0 ∷ r.sym.0 ∷ bound g)) q (inr (inr h)))),
      (λ q. apart z (inr (inr (inr h))) (inl q)),
      (λ q. distinct.1.0 (subst (IsOneOf (r.sym.0 ∷ bound g)) q (inr h))),
      (λ q. apart z (inr (inr (inr h))) (inr (inl q))),
      not_free z (inr (inr (inr h))),
    ));
    not_builder = not_in b.sym.0 (inl refl);
    not_number = not_in n.sym.0 (inr (inl refl));
    number_row = λ q. distinct.1.0 (inl q);
    behind_number = not_free i.sym.0 (inr (inl refl));
    behind_row = not_free r.sym.0 (inr (inr (inl refl)));
    builder_number = λ q. own.0 (inl q);
    builder_row = λ q. own.0 (inr (inl q));
    builder_count = λ q. apart b.sym.0 (inr (inl q)) (inl refl);
    builder_item = λ q. apart b.sym.0 (inr (inr (inl q))) (inl refl);
    own_number = binds_each f (λ z. n.sym.0 ≢ z) (λ z h q. own.1.0 (subst (IsOneOf (x.sym.0 ∷ bound f)) (sym q) (inr h)));
  }
    where
      once_each : (s : ℕ) → times (bound pattern) s ≤ 1
      once_each = distinct_times (bound pattern) tidy.distinct

      distinct : AreDistinct inner
      distinct = times_distinct inner (λ s. omega (arith, once_each s, all_times s))

      own : AreDistinct mine
      own = times_distinct mine (λ s. omega (arith, once_each s, all_times s))

      apart : (s : ℕ) → IsOneOf inner s → IsOneOf mine s → ⊥
      apart s h k = absurd (omega (arith, once_each s, all_times s, one_of_times inner s h, one_of_times mine s k))

      in_inner : (s : ℕ) → IsOneOf inner s → IsOneOf (bound pattern) s
      in_inner s h =
          first_of ((bound_in_legs ks ++ inner) ++ []) (bound e ++ mine) s (first_of (bound_in_legs ks ++ inner) [] s (second_of (bound_in_legs ks) inner s h))

      in_mine : (s : ℕ) → IsOneOf mine s → IsOneOf (bound pattern) s
      in_mine s h = second_of ((bound_in_legs ks ++ inner) ++ []) (bound e ++ mine) s (second_of (bound e) mine s h)

      not_free : (z : ℕ) → IsOneOf inner z → IsFree f z → ⊥
      not_free z h k = tidy.apart z (in_inner z h) (inr (inr (k, λ q. apart z h (inr (inr (inl q))), λ q. apart z h (inr (inl q)), λ q. apart z h (inl q))))

      not_in : (z : ℕ) → IsOneOf mine z → IsFree g z → ⊥
      not_in z h k = tidy.apart z (in_mine z h) (inl (inl (inr (inr (k, λ q. apart z (inr (inr (inl q))) h, λ q. apart z (inr (inl q)) h, λ q. apart z (inl q) h)))))

  -- ---- in its place

  record Known (types : Types) (around : Named Origin) (t : TypeTree) (q : IsPlaced pattern types around t) : Type 0 where
    pub item_formed : IsWellFormed item
    pub item_free : IsBuilderFree item
    pub row_is : q.typed.1 ≡ item
    pub producer : IsPlaced producer types around (build (list item))

  known : (types : Types) (around : Named Origin) (t : TypeTree) (q : IsPlaced pattern types around t) → Known types around t q
  known types around t q =
      let u = only_type produced types q.typed.0 q.typed.1 q.typed.2 q.typed.3 in
      let list_placed : IsPlaced produced types around (vec u.0) = record { formed = q.formed; forms = q.forms; typed = u.1; keeps = q.keeps.0.0; splits = q.splits.0.0; noted = q.noted.0.0 } in
      let w = part_of_one m finish producer types around (vec u.0) list_placed in
      let is = w.typed.4 in
      record {
        item_formed = is.1.0;
        item_free = is.1.1;
        row_is = u.2 ∙ same_item u.0 u.1.0 item u.1.2.0 u.1.2.1 u.1.2.2 is.2;
        producer = subst (IsPlaced producer types around) is.2 w;
      }

  abbrev Place : Types → Named Origin → TypeTree → TypeTree → Type 0
  Place types around t row =
      Sunk d.sym.0 i.sym.0 a b n x f item t types around (origin e around) (body_types d i r (build (list item)) row types) (body_types b i r t row types) (in_body d i r made around)
      (in_body b i r (origin e around) around) g

  sunk_there : IsTidy pattern → (types : Types) (around : Named Origin) (t : TypeTree) (q : IsPlaced pattern types around t) (k : Known types around t q) → Place types around t k.producer.typed.1
  sunk_there tidy types around t q k =
      sinks_all d.sym.0 i.sym.0 a b n x f item t types around (origin e around) consumer g spine (body_types d i r (build (list item)) row types) (body_types b i r t row types) (in_body d i r made around)
      (in_body b i r (origin e around) around) w.aside w.not_builder w.not_number related (body_of_loop p ks empty d i r g types around (build (list item)) k.producer)
    where
      row : TypeTree
      row = k.producer.typed.1

      w : Tidily
      w = tidily tidy

      Else : ℕ → Type 0
      Else s = IsElse d.sym.0 b.sym.0 s

      Behind : ℕ → Type 0
      Behind s = IsBehind f x.sym.0 n.sym.0 s

      other_builder : {A : Type 0} (y z : A) (l : Named A) → AgreeOn Else ((d.sym.0, y) ∷ l) ((b.sym.0, z) ∷ l)
      other_builder y z l = record { agree = λ s k. rw (ne_eqb s d.sym.0 k.0) (rw (ne_eqb s b.sym.0 k.1) refl) }

      others : {A : Type 0} (y z u v : A) (l : Named A) → AgreeOn Else ((r.sym.0, v) ∷ (i.sym.0, u) ∷ (d.sym.0, y) ∷ l) ((r.sym.0, v) ∷ (i.sym.0, u) ∷ (b.sym.0, z) ∷ l)
      others y z u v l = agree_bind Else Else r.sym.0 v _ _ (λ s k ne. k) (agree_bind Else Else i.sym.0 u _ _ (λ s k ne. k) (other_builder y z l))

      behind : {A : Type 0} (z u v : A) (l : Named A) → AgreeOn Behind ((b.sym.0, z) ∷ l) ((r.sym.0, v) ∷ (i.sym.0, u) ∷ (b.sym.0, z) ∷ l)
      behind z u v l =
          agree_after Behind ((b.sym.0, z) ∷ l) ((i.sym.0, u) ∷ (b.sym.0, z) ∷ l) _ (agree_over Behind i.sym.0 u _ (λ k. w.behind_number k.0)) (agree_over Behind r.sym.0 v _ (λ k. w.behind_row k.0))

      number : {A : Type 0} (u v : A) (l : Named A) → look_for i.sym.0 ((r.sym.0, v) ∷ (i.sym.0, u) ∷ l) ≡ Some u
      number u v l = rw (ne_eqb i.sym.0 r.sym.0 w.number_row) (rw (eq-eqb i.sym.0 i.sym.0 refl) refl)

      builder : {A : Type 0} (z u v : A) (l : Named A) → look_for b.sym.0 ((r.sym.0, v) ∷ (i.sym.0, u) ∷ (b.sym.0, z) ∷ l) ≡ Some z
      builder z u v l = rw (ne_eqb b.sym.0 r.sym.0 w.builder_item) (rw (ne_eqb b.sym.0 i.sym.0 w.builder_count) (rw (eq-eqb b.sym.0 b.sym.0 refl) refl))

      related : Related d.sym.0 i.sym.0 a b n x f item t types around (origin e around) (body_types d i r (build (list item)) row types) (body_types b i r t row types) (in_body d i r made around) (in_body b i r (origin e around) around)
      related = record {
        types = others (build (list item)) t place_type row types;
        origins = others (own_paths made) (own_paths (origin e around)) value value (outside around);
        behind_types = behind t place_type row types;
        behind_origins = behind (own_paths (origin e around)) value value (outside around);
        number_type = number place_type row ((b.sym.0, t) ∷ types);
        number_origin = number value value ((b.sym.0, own_paths (origin e around)) ∷ outside around);
        builder_type = builder t place_type row types;
        builder_origin = builder (own_paths (origin e around)) value value (outside around);
        formed = formed_body b i r t row types (type_formed e types t q.typed.4 q.formed) (row_formed ks types k.producer.typed.0 row k.producer.typed.2 k.producer.typed.3 q.formed) q.formed;
        forms = (forms_in_body around types b i r (origin e around) t row (origin_forms e around types t q.typed.4 q.formed q.forms)
            (row_free ks types k.producer.typed.0 row k.producer.typed.2 k.producer.typed.3 q.formed) q.forms);
      }

      consumer : Consumer d.sym.0 i.sym.0 a b n x f item t types around (origin e around)
      consumer = record {
        note = q.noted.3.1 ∙ ap Is (one_type pattern types q.noted.3.0 t q.noted.3.2 q.typed);
        item_formed = k.item_formed;
        item_free = k.item_free;
        number_note = q.typed.7;
        row_note = subst (NoteFits x.note) k.row_is q.typed.8;
        body = subst (λ u. IsPlaced f (body_types b n x t u types) (in_body b n x (origin e around) around) t) k.row_is (body_of_loop a only e b n x f types around t q);
        comes = q.keeps.3;
        all = q.splits.4;
        builder_number = w.builder_number;
        builder_row = w.builder_row;
      }

  placed : IsTidy pattern → (types : Types) (around : Named Origin) (t : TypeTree) → IsPlaced pattern types around t → IsPlaced answer types around t
  placed tidy types around t q =
      let k = known types around t q in
      let h = k.producer.typed in
      let s = sunk_there tidy types around t q k in
      let typed : HasType answer types t = (h.0, h.1, h.2, h.3, q.typed.4, q.typed.5, q.typed.6, h.7, h.8, s.placed.typed) in
      record {
        formed = q.formed;
        forms = q.forms;
        typed = typed;
        keeps = (k.producer.keeps.0, q.keeps.1, s.placed.keeps, s.comes);
        splits = (
          k.producer.splits.0,
          q.splits.1,
          record { apart = λ y w u v. q.splits.2.apart y w (or_left (legs_take ks around y w || false) false (or_left (legs_take ks around y w) false u)) v },
          s.placed.splits,
          record { all = s.whole },
        );
        noted = (
          k.producer.noted.0,
          q.noted.1,
          (h.0, h.1, t, h.2, h.3, q.typed.4, s.placed.noted),
          noted_at a answer pattern types t q.noted.3 q.typed typed,
        );
      }

  taken : (types : Types) (around : Named Origin) (t : TypeTree) → IsPlaced pattern types around t → takes answer around ≡ takes pattern around
  taken types around t q = λ j s w. twice_more (legs_take ks around s w) j || takes e around s w

  -- ---- what it comes to

  means : KeyLaws → IsTidy pattern → (types : Types) (around : Named Origin) (t : TypeTree) (env : Env) → IsPlaced pattern types around t → EnvFits types env → eval answer env ≡ eval pattern env
  means laws tidy types around t env q fit =
      same_answers (Of t) (Of t) (eval answer env) (eval pattern env) (never_stuck laws answer types t env (placed tidy types around t q).typed q.formed fit).fits
      (never_stuck laws pattern types t env q.typed q.formed fit).fits (by_rows ∙ ap answer_of (sym pattern_is))
    where
      w : Tidily
      w = tidily tidy

      k : Known types around t q
      k = known types around t q

      row : TypeTree
      row = k.producer.typed.1

      -- what the producer's body gives on a row
      row_gives : Row → Outcome (List Value)
      row_gives y = row_values g (with_row d i r (building (list_part [])) (plain (whole_number y.0)) (plain y.1) env)

      produces : Row → Thing → Outcome Thing
      produces y s = eval g (with_row d i r s (plain (whole_number y.0)) (plain y.1) env)

      consumes : Row → Thing → Outcome Thing
      consumes y s = eval f (with_row b n x s (plain (whole_number y.0)) (plain y.1) env)

      does_both : Row → Thing → Outcome Thing
      does_both y s = eval body (with_row b i r s (plain (whole_number y.0)) (plain y.1) env)

      apart : Binds (λ z. d.sym.0 ≢ z) g
      apart = binds_so (IsAside d.sym.0 b.sym.0 i.sym.0 n.sym.0 f) (λ z. d.sym.0 ≢ z) (λ z c e. c.0 (sym e)) g w.aside

      builder_there : (s : Thing) (y : Row) → look_for d.sym.0 (with_row d i r s (plain (whole_number y.0)) (plain y.1) env) ≡ Some s
      builder_there s y = rw (ne_eqb d.sym.0 r.sym.0 row_other) (rw (ne_eqb d.sym.0 i.sym.0 number_other) (rw (eq-eqb d.sym.0 d.sym.0 refl) refl))
        where
          once_each : (s : ℕ) → times inner s ≤ 1
          once_each s = omega (arith, distinct_times (bound pattern) tidy.distinct s, all_times s)

          distinct : AreDistinct inner
          distinct = times_distinct inner once_each

          row_other : d.sym.0 ≢ r.sym.0
          row_other e = distinct.0 (inr (inl e))

          number_other : d.sym.0 ≢ i.sym.0
          number_other e = distinct.0 (inl e)

      -- the row's values don't go by what was merged before
      gives_free : (y : Row) (s : Thing) → row_values g (with_row d i r s (plain (whole_number y.0)) (plain y.1) env) ≡ row_gives y
      gives_free y s =
          row_values_free d.sym.0 g spine apart _ _
          (agree_bind (λ u. u ≢ d.sym.0) (λ u. u ≢ d.sym.0) r.sym.0 (plain y.1) _ _ (λ u c ne. c)
          (agree_bind (λ u. u ≢ d.sym.0) (λ u. u ≢ d.sym.0) i.sym.0 (plain (whole_number y.0)) _ _ (λ u c ne. c)
          (record { agree = λ u ne. rw (ne_eqb u d.sym.0 ne) refl })))

      appends : (y : Row) (vs : List Value) → produces y (list_of vs) ≡ map_out (λ us. list_of (vs ++ us)) (row_gives y)
      appends y vs = row_appends d.sym.0 g spine apart _ vs (builder_there (list_of vs) y) ∙ ap (map_out (λ us. list_of (vs ++ us))) (gives_free y (list_of vs))

      -- rows keep their numbers, or those aren't used
      steps : Steps row_gives consumes
      steps = by numbered
        where
          any : uses f n.sym.0 ≡ 0 → (k l : ℕ) (v : Value) (s : Thing) → consumes (k, v) s ≡ consumes (l, v) s
          any none k l v s =
              eval_free f _ _
              (agree_bind (λ u. IsFree f u × (u ≢ x.sym.0)) (IsFree f) x.sym.0 (plain v) _ _ (λ u y ne. (y, ne))
              (record { agree = λ u y. let other : u ≢ n.sym.0 = λ q. unnamed n.sym.0 f w.own_number none (subst (IsFree f) q y.0) in rw (ne_eqb u n.sym.0 other) refl }))

          by : Numbered n.sym.0 f d.sym.0 g → Steps row_gives consumes
          by (inl ends) = steps_of_one row_gives consumes (λ y vs h. row_single d.sym.0 g _ vs ends h)
          by (inr none) = steps_of_any row_gives consumes (any none)

      -- ---- the pattern

      collected : eval_leg (whole produced) env ≡ and_then (eval_legs ks env) (λ l. and_then (rows_of l) (λ vs. collect row_gives (number_from 0 vs)))
      collected =
          elements_collected (eval_legs ks env) rows_of (λ vs. run (number_from 0 vs) (building (list_part [])) produces) row_gives
          (λ vs. run_collects row_gives produces appends (number_from 0 vs) [])

      consumed : List Value → Outcome Thing
      consumed vs = and_then (eval e env) (λ s. run (number_from 0 vs) s consumes)

      pattern_is : eval pattern env ≡ and_then (eval_legs ks env) (λ l. and_then (rows_of l) (λ vs. and_then (collect row_gives (number_from 0 vs)) consumed))
      pattern_is =
          one_leg (eval_leg (whole produced) env) (λ l. and_then (rows_of l) consumed)
          ∙ ap (λ u. and_then u consumed) collected
          ∙ then_then (eval_legs ks env) (λ l. and_then (rows_of l) (λ vs. collect row_gives (number_from 0 vs))) consumed
          ∙ (λ j. and_then (eval_legs ks env) (λ l. then_then (rows_of l) (λ vs. collect row_gives (number_from 0 vs)) consumed j))

      -- ---- row by row

      one_row : (y : Row) (s : Thing) → HasValue row y.1 → does_both y s ≡ and_then (row_gives y) (λ vs. run (number_from y.0 vs) s consumes)
      one_row y s h =
          row_hands laws a.ty d.sym.0 i.sym.0 b n x f item k.item_free env s y.0 g spine (body_types d i r (build (list item)) row types)
          (with_row d i r (building (list_part [])) (plain (whole_number y.0)) (plain y.1) env) (with_row b i r s (plain (whole_number y.0)) (plain y.1) env) w.aside w.not_builder w.not_number k.producer.typed.9
          (formed_body d i r (build (list item)) row types (k.item_formed, k.item_free) (row_formed ks types k.producer.typed.0 row k.producer.typed.2 k.producer.typed.3 q.formed) q.formed)
          (fits_body types env d i r (build (list item)) row (building (list_part [])) y.1 y.0 ((k.item_formed, k.item_free), tt) h fit)
          (agree_bind Else Else r.sym.0 (plain y.1) _ _ (λ u c ne. c)
          (agree_bind Else Else i.sym.0 (plain (whole_number y.0)) _ _ (λ u c ne. c) (record { agree = λ u c. rw (ne_eqb u d.sym.0 c.0) (rw (ne_eqb u b.sym.0 c.1) refl) })))
          (agree_after Behind ((b.sym.0, s) ∷ env) ((i.sym.0, plain (whole_number y.0)) ∷ (b.sym.0, s) ∷ env) _
          (agree_over Behind i.sym.0 (plain (whole_number y.0)) _ (λ c. w.behind_number c.0)) (agree_over Behind r.sym.0 (plain y.1) _ (λ c. w.behind_row c.0)))
          (rw (ne_eqb i.sym.0 r.sym.0 w.number_row) (rw (eq-eqb i.sym.0 i.sym.0 refl) refl))
          (rw (ne_eqb b.sym.0 r.sym.0 w.builder_item) (rw (ne_eqb b.sym.0 i.sym.0 w.builder_count) (rw (eq-eqb b.sym.0 b.sym.0 refl) refl)))
        where
          Else : ℕ → Type 0
          Else u = IsElse d.sym.0 b.sym.0 u

          Behind : ℕ → Type 0
          Behind u = IsBehind f x.sym.0 n.sym.0 u

      over_rows : (vs : List Value) → AllAre (HasValue row) (values vs) → answer_of (and_then (eval e env) (λ s. run (number_from 0 vs) s does_both)) ≡ answer_of (and_then (collect row_gives (number_from 0 vs)) consumed)
      over_rows vs h =
          answers (eval e env) (λ s. run (number_from 0 vs) s does_both) (λ s. and_then (collect row_gives (number_from 0 vs)) (λ us. run (number_from 0 us) s consumes))
          (λ s. ap answer_of (run_rows row does_both (λ y u. and_then (row_gives y) (λ vs. run (number_from y.0 vs) u consumes)) one_row (number_from 0 vs) s (rows_have row 0 vs h)) ∙ sym (handed row_gives consumes steps 0 vs s))
          ∙ answers_swap (eval e env) (collect row_gives (number_from 0 vs)) (λ s us. run (number_from 0 us) s consumes)

      by_rows : answer_of (eval answer env) ≡ answer_of (and_then (eval_legs ks env) (λ l. and_then (rows_of l) (λ vs. and_then (collect row_gives (number_from 0 vs)) consumed)))
      by_rows =
          answers_at (LegsFit k.producer.typed.0) (eval_legs ks env) (λ l. and_then (rows_of l) (λ vs. and_then (eval e env) (λ s. run (number_from 0 vs) s does_both)))
          (λ l. and_then (rows_of l) (λ vs. and_then (collect row_gives (number_from 0 vs)) consumed)) (legs_good laws ks types k.producer.typed.0 env k.producer.typed.2 q.formed fit).fits
          (λ l c.
          answers_at (λ vs. AllAre (HasValue row) (values vs)) (rows_of l) (λ vs. and_then (eval e env) (λ s. run (number_from 0 vs) s does_both))
          (λ vs. and_then (collect row_gives (number_from 0 vs)) consumed) (rows_good k.producer.typed.0 row l k.producer.typed.3 c).fits over_rows)

  -- ---- what is counted

  within : IsTidy pattern → StaysWithin answer pattern
  within tidy =
      let c = sunk_counted a.ty d.sym.0 b.sym.0 i.sym.0 n x f g spine once in
      record {
        binds = λ s.
            omega (
              arith,
              c.binds s,
              all_times s,
              times-append (bound_in_legs ks) (bound e ++ (b.sym.0 ∷ i.sym.0 ∷ r.sym.0 ∷ bound body)) s,
              times-append (bound e) (b.sym.0 ∷ i.sym.0 ∷ r.sym.0 ∷ bound body) s,
            );
        names = λ s h. named s h;
        no_more_loops = omega (arith, c.loop_count);
        no_more_legs = omega (arith, c.leg_count);
        no_more_binders =
            omega (
              arith,
              c.binder_count,
              length-append (bound_in_legs ks) (bound e ++ (b.sym.0 ∷ i.sym.0 ∷ r.sym.0 ∷ bound body)),
              length-append (bound e) (b.sym.0 ∷ i.sym.0 ∷ r.sym.0 ∷ bound body),
              length-append ((bound_in_legs ks ++ inner) ++ []) (bound e ++ mine),
              length-append (bound_in_legs ks ++ inner) [],
              length-append (bound_in_legs ks) inner,
              length-append (bound e) mine,
            );
        well_made = λ h. (h.1.0.1.0, h.1.0.1.1, h.2, c.made h.1.0.1.3 h.3);
        spellable = λ h. (h.0.0.1.0, h.1, h.2, h.0.0.1.3, h.0.0.1.4, c.spellable h.3 h.4 h.0.0.1.5 h.5);
      }
    where
      w : Tidily
      w = tidily tidy

      named : (s : ℕ) → IsFree answer s → IsFree pattern s
      named s (inl k) = inl (inl (inl k))
      named s (inr (inl k)) = inr (inl k)
      named s (inr (inr k)) = by (sunk_named a.ty d.sym.0 b.sym.0 i.sym.0 n x f g spine (binds_so (IsAside d.sym.0 b.sym.0 i.sym.0 n.sym.0 f) (λ z. d.sym.0 ≢ z) (λ z c e. c.0 (sym e)) g w.aside) s k.0)
        where
          by : NamedIn d.sym.0 b.sym.0 i.sym.0 n.sym.0 x.sym.0 f g s → IsFree pattern s
          by (inl j) = inl (inl (inr (inr (j.0, k.1, k.2, j.1))))
          by (inr (inl j)) = absurd (k.2 j)
          by (inr (inr (inl j))) = absurd (k.3 j)
          by (inr (inr (inr j))) = inr (inr (j.0, j.1, j.2, k.3))

  pub sink_rewrites : KeyLaws → IsTidy pattern → Rewrites answer pattern
  sink_rewrites laws tidy = record {
    replaces = record {
      same_origin = λ q. refl;
      same_chain = λ c h. let nothing : ⊥ = cc in absurd nothing;
      placed = placed tidy;
      taken = taken;
      means = means laws tidy;
    };
    within = within tidy;
  }

  pub one_loop_less : loops pattern ≡ suc (loops answer)
  one_loop_less = let c = sunk_counted a.ty d.sym.0 b.sym.0 i.sym.0 n x f g spine once in omega (arith, c.loop_count)

  pub one_leg_less : legs pattern ≡ suc (legs answer)
  one_leg_less = let c = sunk_counted a.ty d.sym.0 b.sym.0 i.sym.0 n x f g spine once in omega (arith, c.leg_count)

-- ---- the laws

pub consumer_rewrites : KeyLaws → (e : ExprTree) → IsTidy e → is_consumer e ≡ true → Rewrites (fused e) e
consumer_rewrites laws e tidy h =
    consumer_by (λ e. IsTidy e → Rewrites (fused e) e)
    (λ a e b n x f m p o item ks d i r g spine once numbered tidy. sink_rewrites a m p o item ks d i r g e b n x f spine once numbered laws tidy) e h tidy

pub consumer_loops : (e : ExprTree) → is_consumer e ≡ true → loops e ≡ suc (loops (fused e))
consumer_loops =
    consumer_by (λ e. loops e ≡ suc (loops (fused e))) (λ a e b n x f m p o item ks d i r g spine once numbered. one_loop_less a m p o item ks d i r g e b n x f spine once numbered)

pub consumer_legs : (e : ExprTree) → is_consumer e ≡ true → legs e ≡ suc (legs (fused e))
consumer_legs =
    consumer_by (λ e. legs e ≡ suc (legs (fused e))) (λ a e b n x f m p o item ks d i r g spine once numbered. one_leg_less a m p o item ks d i r g e b n x f spine once numbered)
