-- The one loop that takes the place of a loop over a list and of the loop that makes it stands where the first stood.
use Rattle.std.proofs.Common.{◌≡◌, ◌≢◌, ℕ, ◌+◌, ◌≤◌, true, false, ◌||◌, List, [], ◌∷◌, ◌++◌, Some, None, option_map, refl, ap, sym, subst, ◌∙◌, eq-eqb, ne_eqb, arith, inl, inr, ◌⊎◌}
use Rattle.std.proofs.lemmas.Bool.{cases_eq}
use Rattle.weld_tree.specs.declared.binder.Binder.{Binder}
use Rattle.weld_tree.specs.declared.known.Known.{Known as Noted}
use Rattle.weld_tree.specs.declared.known.Known.TheVariants.{Is}
use Rattle.weld_tree.specs.TypeTree.{TypeTree, vec, build, list}
use Rattle.weld_tree.specs.Types.{IsBuilderFree, IsWellFormed}
use Rattle.weld_tree.specs.ExprTree.{At, ExprTree, leaf, one, loop, whole, LegTrees, no_legs, more_legs, fresh, finish}
use Rattle.weld_tree.specs.Program.{bound, bound_in_legs, IsOneOf, AreDistinct}
use Rattle.weld_meaning.specs.Environment.{Named, look_for}
use Rattle.weld_meaning.specs.Typing.{Types, NoteFits, HasType, body_types}
use Rattle.weld_meaning.specs.Origin.{Path, Origin, value, made, own, known_origin, origin_of_name, origin, own_paths, from_within, outside, in_body}
use Rattle.weld_meaning.specs.Linear.{Keeps}
use Rattle.weld_meaning.specs.Available.{is_builder_path, takes, legs_take, TakesAll, Splits}
use Rattle.weld_check_types.specs.Notes.{AreNoted}
use Rattle.weld_meaning.specs.Names.{IsFree, Binds}
use Rattle.weld_meaning.proofs.Before.{look_for-map, origin_outside}
use Rattle.weld_meaning.proofs.OneType.{one_type}
use Rattle.weld_meaning.proofs.OriginTypes.{origin_forms}
use Rattle.weld_meaning.proofs.WellFormed.{type_formed, row_formed}
use Rattle.weld_rewriting.specs.Placed.{IsPlaced}
use Rattle.weld_rewriting.specs.Within.{times}
use Rattle.weld_rewriting.specs.Tidy.{IsTidy}
use Rattle.weld_rewriting.proofs.Counts.{times-append, one_of_times, distinct_times, times_distinct}
use Rattle.weld_rewriting.proofs.Parts.{row_free, noted_at, part_of_one, body_of_loop}
use Rattle.weld_substitution.proofs.Clear.{first_of, second_of, binds_each}
use Rattle.weld_substitution.proofs.Following.{or_left, both_true}
use Rattle.weld_handing.specs.Handing.{handed_type, unnoted, handed, starts_none, own_names}
use Rattle.weld_handing.proofs.Common.{IsAside}
use Rattle.weld_handing.proofs.Traces.{handed_origin, Alike, handed_none}
use Rattle.weld_handing.proofs.Answering.{IsClear, Consumes, Names}
use Rattle.weld_handing.proofs.Keeping.{from_there, handed_keeps}
use Rattle.weld_handing.proofs.Cutting.{cut, cut_builds}
use Rattle.weld_handing.proofs.Taking.{handed_takes}
use Rattle.weld_handing.proofs.Splitting.{Body, handed_splits}
use Rattle.weld_handing.proofs.Clearing.{typed_clear}
use Rattle.weld_handing.proofs.SameNames.{Same, same_names, own_names_same}
use Rattle.weld_handing.proofs.Types.{Typed, TypesRelate, handed_typed}
use Rattle.weld_handing.proofs.Notes.{handed_noted}
use Rattle.weld_handing.proofs.Starting.{relate_start}
use Rattle.weld_handing.proofs.Placing.{only_type, same_item, builder_origin, within_none, within_alike}

module _ (a m p o : At) (t item : TypeTree) (noted : a.ty ≡ Is t) (ks : LegTrees) (d i r : Binder) (g e : ExprTree) (c n x : Binder) (f : ExprTree) (starts : starts_none (own_names d i r) g ≡ true) where
  abbrev pub empty : ExprTree
  empty = leaf o (fresh (list item))

  abbrev pub producer : ExprTree
  producer = loop p ks empty d i r g

  abbrev pub produced : ExprTree
  produced = one m finish producer

  abbrev pub only : LegTrees
  only = more_legs (whole produced) no_legs

  abbrev pub pattern : ExprTree
  pattern = loop a only e c n x f

  abbrev pub body : ExprTree
  body = handed t i.sym.0 c n x f (own_names d i r) g

  abbrev pub answer : ExprTree
  answer = loop a ks e (unnoted d) i r body

  -- ---- binders

  abbrev pub inner : List ℕ
  inner = d.sym.0 ∷ i.sym.0 ∷ r.sym.0 ∷ bound g

  abbrev pub mine : List ℕ
  mine = c.sym.0 ∷ n.sym.0 ∷ x.sym.0 ∷ bound f

  pub all_times : (s : ℕ) → times (bound pattern) s ≡ times (bound_in_legs ks) s + times inner s + times (bound e) s + times mine s
  all_times s =
      omega (
        arith,
        times-append ((bound_in_legs ks ++ inner) ++ []) (bound e ++ mine) s,
        times-append (bound_in_legs ks ++ inner) [] s,
        times-append (bound_in_legs ks) inner s,
        times-append (bound e) mine s,
      )

  pub record Tidily : Type 0 where
    pub aside : Binds (IsAside c.sym.0 n.sym.0 x.sym.0 i.sym.0 f) g
    pub not_builder : IsFree g c.sym.0 → ⊥
    pub not_number : IsFree g n.sym.0 → ⊥
    pub not_row : IsFree g x.sym.0 → ⊥
    pub number_row : i.sym.0 ≢ r.sym.0
    pub list_number : d.sym.0 ≢ i.sym.0
    pub list_row : d.sym.0 ≢ r.sym.0
    pub behind_list : IsFree f d.sym.0 → ⊥
    pub behind_number : IsFree f i.sym.0 → ⊥
    pub behind_row : IsFree f r.sym.0 → ⊥
    pub builder_number : c.sym.0 ≢ n.sym.0
    pub builder_row : c.sym.0 ≢ x.sym.0
    pub builder_count : c.sym.0 ≢ i.sym.0
    pub number_count : n.sym.0 ≢ i.sym.0
    pub own_number : Binds (λ z. n.sym.0 ≢ z) f

  pub tidily : IsTidy pattern → Tidily
  tidily tidy = record {
    aside = binds_each g (IsAside c.sym.0 n.sym.0 x.sym.0 i.sym.0 f) (λ z h. (
      (λ q. apart z (inr (inr (inr h))) (inl q)),
      (λ q. apart z (inr (inr (inr h))) (inr (inl q))),
      (λ q. apart z (inr (inr (inr h))) (inr (inr (inl q)))),
      (λ q. distinct.1.0 (subst (IsOneOf (r.sym.0 ∷ bound g)) q (inr h))),
      not_free z (inr (inr (inr h))),
    ));
    not_builder = not_in c.sym.0 (inl refl);
    not_number = not_in n.sym.0 (inr (inl refl));
    not_row = not_in x.sym.0 (inr (inr (inl refl)));
    number_row = λ q. distinct.1.0 (inl q);
    list_number = λ q. distinct.0 (inl q);
    list_row = λ q. distinct.0 (inr (inl q));
    behind_list = not_free d.sym.0 (inl refl);
    behind_number = not_free i.sym.0 (inr (inl refl));
    behind_row = not_free r.sym.0 (inr (inr (inl refl)));
    builder_number = λ q. mine_distinct.0 (inl q);
    builder_row = λ q. mine_distinct.0 (inr (inl q));
    builder_count = λ q. apart c.sym.0 (inr (inl q)) (inl refl);
    number_count = λ q. apart n.sym.0 (inr (inl q)) (inr (inl refl));
    own_number = binds_each f (λ z. n.sym.0 ≢ z) (λ z h q. mine_distinct.1.0 (subst (IsOneOf (x.sym.0 ∷ bound f)) (sym q) (inr h)));
  }
    where
      once_each : (s : ℕ) → times (bound pattern) s ≤ 1
      once_each = distinct_times (bound pattern) tidy.distinct

      distinct : AreDistinct inner
      distinct = times_distinct inner (λ s. omega (arith, once_each s, all_times s))

      mine_distinct : AreDistinct mine
      mine_distinct = times_distinct mine (λ s. omega (arith, once_each s, all_times s))

      apart : (s : ℕ) → IsOneOf inner s → IsOneOf mine s → ⊥
      apart s h k = absurd (omega (arith, once_each s, all_times s, one_of_times inner s h, one_of_times mine s k))

      in_inner : (s : ℕ) → IsOneOf inner s → IsOneOf (bound pattern) s
      in_inner s h =
          first_of ((bound_in_legs ks ++ inner) ++ []) (bound e ++ mine) s (first_of (bound_in_legs ks ++ inner) [] s (second_of (bound_in_legs ks) inner s h))

      in_mine : (s : ℕ) → IsOneOf mine s → IsOneOf (bound pattern) s
      in_mine s h = second_of ((bound_in_legs ks ++ inner) ++ []) (bound e ++ mine) s (second_of (bound e) mine s h)

      not_free : (z : ℕ) → IsOneOf inner z → IsFree f z → ⊥
      not_free z h k = tidy.apart z (in_inner z h) (inr (inr (k, λ q. apart z h (inr (inr (inl q))), λ q. apart z h (inr (inl q)), λ q. apart z h (inl q))))

      not_in : (z : ℕ) → IsOneOf mine z → IsFree g z → ⊥
      not_in z h k = tidy.apart z (in_mine z h) (inl (inl (inr (inr (k, λ q. apart z (inr (inr (inl q))) h, λ q. apart z (inr (inl q)) h, λ q. apart z (inl q) h)))))

  -- ---- in its place

  pub record Known (types : Types) (around : Named Origin) (q : IsPlaced pattern types around t) : Type 0 where
    pub item_formed : IsWellFormed item
    pub item_free : IsBuilderFree item
    pub row_is : q.typed.1 ≡ item
    pub producer : IsPlaced producer types around (build (list item))

  pub known : (types : Types) (around : Named Origin) (q : IsPlaced pattern types around t) → Known types around q
  known types around q =
      let u = only_type produced types q.typed.0 q.typed.1 q.typed.2 q.typed.3 in
      let list_placed : IsPlaced produced types around (vec u.0) = record { formed = q.formed; forms = q.forms; typed = u.1; keeps = q.keeps.0.0; splits = q.splits.0.0; noted = q.noted.0.0 } in
      let w = part_of_one m finish producer types around (vec u.0) list_placed in
      let is = w.typed.4 in
      record {
        item_formed = is.1.0;
        item_free = is.1.1;
        row_is = u.2 ∙ same_item u.0 u.1.0 item u.1.2.0 u.1.2.1 u.1.2.2 is.2;
        producer = subst (IsPlaced producer types around) is.2 w;
      }

  -- the body in its place, and what is known of all
  module _ (tidy : IsTidy pattern) (types : Types) (around : Named Origin) (q : IsPlaced pattern types around t) where
    pub w : Tidily
    w = tidily tidy

    pub k : Known types around q
    k = known types around q

    abbrev pub row : TypeTree
    row = k.producer.typed.1

    abbrev pub start : Origin
    start = origin e around

    abbrev pub before : Named Origin
    before = in_body d i r made around

    abbrev pub later : Named Origin
    later = in_body (unnoted d) i r (origin e around) around

    abbrev pub list_types : Types
    list_types = body_types d i r (build (list item)) row types

    pub inside : IsPlaced g list_types before (build (list item))
    inside = body_of_loop p ks empty d i r g types around (build (list item)) k.producer

    pub row_is_formed : IsWellFormed row
    row_is_formed = row_formed ks types k.producer.typed.0 row k.producer.typed.2 k.producer.typed.3 q.formed

    pub row_is_free : IsBuilderFree row
    row_is_free = row_free ks types k.producer.typed.0 row k.producer.typed.2 k.producer.typed.3 q.formed

    pub builder_formed : IsWellFormed t
    builder_formed = type_formed e types t q.typed.4 q.formed

    pub same : Same t i.sym.0 c n x f g (own_names d i r) before
    same = same_names t i.sym.0 c n x f g list_types (build (list item)) (own_names d i r) before (own_names_same types around d i r (build (list item)) row q.formed q.forms) inside.keeps inside.typed

    pub no_start : starts_none before g ≡ true
    no_start = sym same.starts ∙ starts

    pub clear : IsClear before g
    clear = typed_clear g before list_types (build (list item)) no_start inside.typed inside.formed inside.forms

    pub comes : origin g before ≡ own []
    comes = k.producer.keeps.3

    consumed_body : IsPlaced f (body_types c n x t item types) (in_body c n x (origin e around) around) t
    consumed_body = subst (λ u. IsPlaced f (body_types c n x t u types) (in_body c n x (origin e around) around) t) k.row_is (body_of_loop a only e c n x f types around t q)

    -- ---- types

    types_known : Typed t item i.sym.0 c n x f types
    types_known = record {
      builder = q.typed.5;
      builder_note = q.typed.6;
      number_note = q.typed.7;
      row_note = subst (NoteFits x.note) k.row_is q.typed.8;
      body = consumed_body.typed;
      apart = λ y. w.builder_count (sym y);
    }

    relate : TypesRelate t item i.sym.0 c n x f types before list_types (body_types d i r t row types)
    relate =
        relate_start t item d i r row c n x f types around k.item_formed k.item_free row_is_formed row_is_free q.formed q.forms (λ y. w.behind_list y.0) (λ y. w.behind_number y.0) (λ y. w.behind_row y.0) w.number_row

    elsewhere : (s : ℕ) → IsFree g s → (s ≢ c.sym.0) × (s ≢ n.sym.0) × (s ≢ x.sym.0)
    elsewhere s h = ((λ y. w.not_builder (subst (IsFree g) y h)), (λ y. w.not_number (subst (IsFree g) y h)), (λ y. w.not_row (subst (IsFree g) y h)))

    pub body_typed : HasType body (body_types (unnoted d) i r t row types) t
    body_typed =
        subst (λ z. HasType z (body_types d i r t row types) t) (sym same.turns)
        (subst (λ z. HasType (handed t i.sym.0 c n x f before g) (body_types d i r t row types) (handed_to z)) comes
        (handed_typed t item i.sym.0 c n x f types types_known g before list_types (body_types d i r t row types) (build (list item)) w.aside elsewhere no_start inside.keeps relate inside.typed))
      where
        handed_to : Origin → TypeTree
        handed_to z = handed_type t z (build (list item))

    body_noted : AreNoted body (body_types (unnoted d) i r t row types)
    body_noted =
        subst (λ z. AreNoted z (body_types d i r t row types)) (sym same.turns)
        (handed_noted t item i.sym.0 c n x f types types_known consumed_body.noted g before list_types (body_types d i r t row types) w.aside elsewhere no_start inside.keeps relate inside.noted)

    -- ---- origins

    consumes : Consumes t i.sym.0 c n x f start around
    consumes = record {
      builds = builder_origin start t builder_formed q.typed.5 (origin_forms e around types t q.typed.4 q.formed q.forms);
      comes = q.keeps.3;
      builder_number = w.builder_count;
      count_number = w.number_count;
      builder_count = w.builder_number;
      builder_row = w.builder_row;
    }

    body_known : Body t i.sym.0 c n x f start around
    body_known = record { consumes = consumes; keeps = q.keeps.2; splits = q.splits.3; all = q.splits.4 }

    names : Names t i.sym.0 c n x f start around before before later
    names = record {
      alike = λ s. alike_at s (cases_eq s r.sym.0) (cases_eq s i.sym.0) (cases_eq s d.sym.0);
      handed = λ s. handed_at s (cases_eq s r.sym.0) (cases_eq s i.sym.0) (cases_eq s d.sym.0);
      behind = record { agree = λ s h. sym (rw (ne_eqb s r.sym.0 (λ y. w.behind_row (subst (IsFree f) y h.0))) (rw (ne_eqb s i.sym.0 (λ y. w.behind_number (subst (IsFree f) y h.0))) (rw (ne_eqb s d.sym.0 (λ y. w.behind_list (subst (IsFree f) y h.0))) refl))) };
      number = ap known_origin (number_there (own_paths start));
    }
      where
        number_there : (z : Origin) → look_for i.sym.0 ((r.sym.0, value) ∷ (i.sym.0, value) ∷ (d.sym.0, z) ∷ outside around) ≡ Some value
        number_there z = rw (ne_eqb i.sym.0 r.sym.0 w.number_row) (rw (eq-eqb i.sym.0 i.sym.0 refl) refl)

        alike_at : (s : ℕ) → (s ≡ r.sym.0) ⊎ (s ≢ r.sym.0) → (s ≡ i.sym.0) ⊎ (s ≢ i.sym.0) → (s ≡ d.sym.0) ⊎ (s ≢ d.sym.0) → Alike (origin_of_name s before) (origin_of_name s before)
        alike_at s (inl y) u v = let there : origin_of_name s before ≡ value = rw (eq-eqb s r.sym.0 y) refl in subst (λ z. Alike z z) (sym there) tt
        alike_at s (inr y) (inl u) v = let there : origin_of_name s before ≡ value = rw (ne_eqb s r.sym.0 y) (rw (eq-eqb s i.sym.0 u) refl) in subst (λ z. Alike z z) (sym there) tt
        alike_at s (inr y) (inr u) (inl v) =
            let there : origin_of_name s before ≡ own [] = rw (ne_eqb s r.sym.0 y) (rw (ne_eqb s i.sym.0 u) (rw (eq-eqb s d.sym.0 v) refl)) in subst (λ z. Alike z z) (sym there) (refl, tt)
        alike_at s (inr y) (inr u) (inr v) =
            let there : origin_of_name s before ≡ origin_of_name s (outside around) = rw (ne_eqb s r.sym.0 y) (rw (ne_eqb s i.sym.0 u) (rw (ne_eqb s d.sym.0 v) refl)) in
            subst (λ z. Alike z z) (sym (there ∙ origin_outside s around)) (within_alike (origin_of_name s around))

        handed_at : (s : ℕ) → (s ≡ r.sym.0) ⊎ (s ≢ r.sym.0) → (s ≡ i.sym.0) ⊎ (s ≢ i.sym.0) → (s ≡ d.sym.0) ⊎ (s ≢ d.sym.0) → look_for s later ≡ option_map (handed_origin start (origin_of_name s before)) (look_for s before)
        handed_at s (inl y) u v = rw (eq-eqb s r.sym.0 y) refl
        handed_at s (inr y) (inl u) v = rw (ne_eqb s r.sym.0 y) (rw (eq-eqb s i.sym.0 u) refl)
        handed_at s (inr y) (inr u) (inl v) = rw (ne_eqb s r.sym.0 y) (rw (ne_eqb s i.sym.0 u) (rw (eq-eqb s d.sym.0 v) refl))
        handed_at s (inr y) (inr u) (inr v) = rw (ne_eqb s r.sym.0 y) (rw (ne_eqb s i.sym.0 u) (rw (ne_eqb s d.sym.0 v) (around_same s)))
          where
            around_same : (s : ℕ) → look_for s (outside around) ≡ option_map (handed_origin start (known_origin (look_for s (outside around)))) (look_for s (outside around))
            around_same s = subst (λ m. m ≡ option_map (handed_origin start (known_origin m)) m) (sym (look_for-map from_within s around)) (by (look_for s around))
              where
                by : (m : _) → option_map from_within m ≡ option_map (handed_origin start (known_origin (option_map from_within m))) (option_map from_within m)
                by None = refl
                by (Some z) = ap Some (sym (handed_none start (from_within z) (from_within z) (within_none z)))

    turns_back : (P : ExprTree → Type 0) → P (handed t i.sym.0 c n x f before g) → P body
    turns_back P h = subst P (sym same.turns) h

    body_keeps : Keeps body later
    body_keeps = turns_back (λ z. Keeps z later) (handed_keeps t i.sym.0 c n x f start around consumes q.keeps.2 g before later w.aside w.not_builder w.not_number clear names inside.keeps)

    body_comes : origin body later ≡ own_paths start
    body_comes =
        turns_back (λ z. origin z later ≡ own_paths start)
        ((from_there t i.sym.0 c n x f start around consumes g before later w.aside w.not_builder w.not_number clear names).1 ∙ (λ j. handed_origin start (comes j) (comes j)))

    body_splits : Splits body later
    body_splits = turns_back (λ z. Splits z later) (handed_splits t i.sym.0 c n x f start around body_known g before later w.aside w.not_builder w.not_number clear names inside.keeps inside.splits)

    body_all : TakesAll d.sym.0 (own_paths start) (takes body later)
    body_all = turns_back (λ z. TakesAll d.sym.0 (own_paths start) (takes z later)) (record { all = all })
      where
        list_before : origin_of_name d.sym.0 before ≡ own []
        list_before = rw (ne_eqb d.sym.0 r.sym.0 w.list_row) (rw (ne_eqb d.sym.0 i.sym.0 w.list_number) (rw (eq-eqb d.sym.0 d.sym.0 refl) refl))

        list_later : origin_of_name d.sym.0 later ≡ own_paths start
        list_later = rw (ne_eqb d.sym.0 r.sym.0 w.list_row) (rw (ne_eqb d.sym.0 i.sym.0 w.list_number) (rw (eq-eqb d.sym.0 d.sym.0 refl) refl))

        all : (v : Path) → is_builder_path (own_paths start) v ≡ true → takes (handed t i.sym.0 c n x f before g) later d.sym.0 v ≡ true
        all v h =
            handed_takes t i.sym.0 c n x f start around consumes q.keeps.2 g before later w.aside w.not_builder w.not_number clear names d.sym.0 v
            ∙ both_true (takes g before d.sym.0 (cut (origin_of_name d.sym.0 before) v)) (is_builder_path (origin_of_name d.sym.0 later) v)
            (subst (λ z. takes g before d.sym.0 (cut z v) ≡ true) (sym list_before) (k.producer.splits.4.all (cut (own []) v) (cut_builds start (own []) v h)))
            (subst (λ z. is_builder_path z v ≡ true) (sym list_later) h)

    -- ---- the loop

    pub placed_so : IsPlaced answer types around t
    placed_so =
        let h = k.producer.typed in
        let typed : HasType answer types t = (h.0, h.1, h.2, h.3, q.typed.4, q.typed.5, tt, h.7, h.8, body_typed) in
        record {
          formed = q.formed;
          forms = q.forms;
          typed = typed;
          keeps = (k.producer.keeps.0, q.keeps.1, body_keeps, body_comes);
          splits = (
            k.producer.splits.0,
            q.splits.1,
            record { apart = λ y v u s. q.splits.2.apart y v (or_left (legs_take ks around y v || false) false (or_left (legs_take ks around y v) false u)) s },
            body_splits,
            body_all,
          );
          noted = (
            k.producer.noted.0,
            q.noted.1,
            (h.0, h.1, t, h.2, h.3, q.typed.4, body_noted),
            noted_at a answer pattern types t q.noted.3 q.typed typed,
          );
        }

  -- ---- wherever it stands

  -- the type that is noted is its own
  pub noted_is : (types : Types) (around : Named Origin) (u : TypeTree) → IsPlaced pattern types around u → t ≡ u
  noted_is types around u q =
      let same : ◌≡◌ {A = Noted} (Is t) (Is u) = sym noted ∙ q.noted.3.1 ∙ ap Is (one_type pattern types q.noted.3.0 u q.noted.3.2 q.typed) in cc

  pub placed : IsTidy pattern → (types : Types) (around : Named Origin) (u : TypeTree) → IsPlaced pattern types around u → IsPlaced answer types around u
  placed tidy types around u q =
      let e0 = noted_is types around u q in subst (IsPlaced answer types around) e0 (placed_so tidy types around (subst (IsPlaced pattern types around) (sym e0) q))
