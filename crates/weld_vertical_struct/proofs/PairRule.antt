-- A `let` of a pair, one part of which is a name, may be rewritten to one of the other part.
use Rattle.std.proofs.Common.{◌≡◌, ◌≢◌, ℕ, ◌==◌, if◌then◌else◌, Bool, true, false, ◌||◌, [], ◌∷◌, ◌++◌, Some, length, refl, ap, sym, subst, ◌∙◌, ◌⊎◌, inl, inr, eq-eqb, ne_eqb, arith, length-append}
use Rattle.std.proofs.lemmas.Bool.{cases_eq}
use Rattle.weld_tree.specs.declared.binder.Binder.{Binder}
use Rattle.weld_tree.specs.TypeTree.{TypeTree, TypeTrees, struct as tuple}
use Rattle.weld_tree.specs.ExprTree.{At, ExprTree, leaf, let_in, name}
use Rattle.weld_tree.specs.Program.{bound}
use Rattle.weld_builders.specs.Outcome.{Outcome, done, fault, stuck, and_then, map_out}
use Rattle.weld_meaning.specs.Environment.{Named, look_for}
use Rattle.weld_meaning.specs.Thing.{Thing, field_of}
use Rattle.weld_meaning.specs.ThingType.{EnvFits}
use Rattle.weld_meaning.specs.Typing.{Types, IsField, HasType}
use Rattle.weld_meaning.specs.Evaluation.{Env, found, eval}
use Rattle.weld_meaning.specs.Origin.{Path, Origin, known_origin, origin_of_name, origin}
use Rattle.weld_meaning.specs.Available.{Taken, without, at_path, is_builder, is_builder_path, is_below, takes}
use Rattle.weld_meaning.specs.Names.{IsFree, AgreeOn}
use Rattle.weld_rewriting.specs.Placed.{IsPlaced}
use Rattle.weld_rewriting.specs.Within.{times, StaysWithin}
use Rattle.weld_rewriting.specs.Rewriting.{Rewrites}
use Rattle.weld_rewriting.proofs.Counts.{times-append}
use Rattle.weld_substitution.proofs.Chains.{taken_builds, taken_named}
use Rattle.weld_substitution.proofs.Following.{or_right, same_truth, chain_takes_it, at_path_on}
use Rattle.weld_vertical_struct.specs.Parting.{unnoted}
use Rattle.weld_vertical_struct.proofs.Parts.{Pair, IsPartNumber, IsElse, part, part_first, part_other, IsOfParts, parts}
use Rattle.weld_vertical_struct.proofs.Renaming.{to_end, root_first, tail_first, root_behind, tail_other, tail_else, IsPartOf, ArePaired}
use Rattle.weld_vertical_struct.proofs.Taking.{Moved, origin_parted, taken_moved, splits_parted, keeps_parted}
use Rattle.weld_vertical_struct.proofs.Typing.{TypesArePaired, type_parted, noted_parted, ThingsArePaired, eval_parted}
use Rattle.weld_vertical_struct.proofs.Counting.{bound_stay, loops_stay, legs_stay, IsNamed, parted_named, parted_made, parted_spellable, not_named}
use Rattle.weld_vertical_struct.proofs.Pairs.{IsPairOf}

module _ (m : Pair) (a w : At) (b : Binder) (own : b.sym.0 ≡ m.s) (v f g : ExprTree) (shape : IsPairOf m v (leaf w (name m.x)) f) (uses : IsOfParts m g) (unnamed : IsFree v m.s → ⊥) where
  abbrev pub pattern : ExprTree
  pattern = let_in a b v g

  abbrev pub answer : ExprTree
  answer = let_in a (unnoted b) f (parts m g)

  abbrev part_leaf : ExprTree
  part_leaf = leaf w (name m.x)

  abbrev s : ℕ
  s = b.sym.0

  -- ---- names

  first : {A : Type 0} (y : A) (g : Named A) → look_for m.s ((s, y) ∷ g) ≡ Some y
  first y g = rw (eq-eqb m.s s (sym own)) refl

  behind : {A : Type 0} (t : ℕ) (y : A) (g : Named A) → t ≢ m.s → look_for t ((s, y) ∷ g) ≡ look_for t g
  behind t y g ne = rw (ne_eqb t s (λ e. ne (e ∙ own))) refl

  part_there : (n : ℕ) (o : Origin) (g : Named Origin) → n ≡ m.i → origin_of_name (part m n) ((s, o) ∷ g) ≡ origin_of_name m.x g
  part_there n o g e = ap (λ t. origin_of_name t ((s, o) ∷ g)) (ap (part m) e ∙ part_first m) ∙ ap known_origin (behind m.x o g (λ y. m.apart (sym y)))

  rest_there : (n : ℕ) (o : Origin) (g : Named Origin) → n ≡ m.j → origin_of_name (part m n) ((s, o) ∷ g) ≡ o
  rest_there n o g e = ap (λ t. origin_of_name t ((s, o) ∷ g)) (ap (part m) e ∙ part_other m) ∙ ap known_origin (first o g)

  others : {A : Type 0} (y z : A) (g : Named A) → AgreeOn (IsElse m) ((s, y) ∷ g) ((s, z) ∷ g)
  others y z g = record { agree = λ t h. behind t y g h.0 ∙ sym (behind t z g h.0) }

  abbrev before : Named Origin → Named Origin
  before h = (s, origin v h) ∷ h

  abbrev now : Named Origin → Named Origin
  now h = (s, origin f h) ∷ h

  paired : (h : Named Origin) → ArePaired m (before h) (now h)
  paired h = record {
    parts = λ n k. subst (λ o. IsPartOf m o n (origin_of_name (part m n) (now h))) (sym (ap known_origin (first (origin v h) h))) (by n k);
    others = others (origin v h) (origin f h) h;
  }
    where
      by : (n : ℕ) → IsPartNumber m n → IsPartOf m (origin v h) n (origin_of_name (part m n) (now h))
      by n (inl e) = subst (IsPartOf m (origin v h) n) (sym (part_there n (origin f h) h e)) (subst (λ k. IsPartOf m (origin v h) k (origin_of_name m.x h)) (sym e) (shape.part h))
      by n (inr e) = subst (IsPartOf m (origin v h) n) (sym (rest_there n (origin f h) h e)) (subst (λ k. IsPartOf m (origin v h) k (origin f h)) (sym e) (shape.rest h))

  same_origin : (h : Named Origin) → origin answer h ≡ origin pattern h
  same_origin h = sym (origin_parted m g (before h) (now h) uses (paired h))

  -- ---- what is taken

  moved : (h : Named Origin) → Moved m (takes (parts m g) (now h)) (takes g (before h))
  moved h = taken_moved m g (before h) (now h) uses (paired h)

  of_name : (h : Named Origin) (q : Path) → takes (parts m g) (now h) m.x q ≡ takes g (before h) m.s (q ++ m.i ∷ [])
  of_name h q = moved h m.x q ∙ (λ i. takes g (before h) (root_first m m.x refl i) (q ++ tail_first m m.x refl i))

  of_rest : (h : Named Origin) (q : Path) → takes (parts m g) (now h) m.s q ≡ takes g (before h) m.s (q ++ m.j ∷ [])
  of_rest h q = moved h m.s q ∙ (λ i. takes g (before h) (root_behind m m.s m.apart i) (q ++ tail_other m m.s refl i))

  of_else : (h : Named Origin) (t : ℕ) (q : Path) → IsElse m t → takes (parts m g) (now h) t q ≡ takes g (before h) t q
  of_else h t q k = moved h t q ∙ (λ i. takes g (before h) (root_behind m t k.1 i) (q ++ tail_else m t k i)) ∙ ap (takes g (before h) t) (to_end q)

  pair_there : (h : Named Origin) → origin_of_name m.s (before h) ≡ origin v h
  pair_there h = ap known_origin (first (origin v h) h)

  part_builds : (h : Named Origin) (q : Path) → is_builder_path (origin v h) (q ++ m.i ∷ []) ≡ is_builder_path (origin_of_name m.x h) q
  part_builds h q = ap is_builder (at_path_on q (m.i ∷ []) (origin v h) ∙ ap (at_path q) (shape.part h).leads)

  rest_builds : (h : Named Origin) (q : Path) → is_builder_path (origin v h) (q ++ m.j ∷ []) ≡ is_builder_path (origin f h) q
  rest_builds h q = ap is_builder (at_path_on q (m.j ∷ []) (origin v h) ∙ ap (at_path q) (shape.rest h).leads)

  below_all : (q : Path) → is_below [] q ≡ true
  below_all [] = refl
  below_all (k ∷ q) = below_all q

  -- the name is taken by the pair where its part is taken of the pair
  name_taken : (h : Named Origin) (q : Path) → takes g (before h) m.s (q ++ m.i ∷ []) ≡ true → takes part_leaf h m.x q ≡ true
  name_taken h q e =
      let builds : is_builder_path (origin v h) (q ++ m.i ∷ []) ≡ true = subst (λ o. is_builder_path o (q ++ m.i ∷ []) ≡ true) (pair_there h) (taken_builds g (before h) m.s (q ++ m.i ∷ []) e) in
      chain_takes_it part_leaf (m.x, []) h m.x q refl refl (below_all q) (sym (part_builds h q) ∙ builds)

  not_free : (t : ℕ) → IsFree part_leaf t → t ≢ m.s
  not_free t k e = m.apart (sym e ∙ k)

  -- ---- in its place

  module _ (types : Types) (h : Named Origin) (t : TypeTree) (p : IsPlaced pattern types h t) where
    types_paired : (u y z : TypeTree) → look_for m.x types ≡ Some y → ((us : TypeTrees) (c : TypeTree) → u ≡ tuple us → IsField m.i us c → c ≡ y) → ((us : TypeTrees) (c : TypeTree) → u ≡ tuple us → IsField m.j us c → c ≡ z) → TypesArePaired m ((s, u) ∷ types) ((s, z) ∷ types)
    types_paired u y z there k l = record {
      parts = λ n us c q e is. by n us c q (let it : Some u ≡ Some (tuple us) = sym (first u types) ∙ e in cc) is;
      others = others u z types;
    }
      where
        by : (n : ℕ) (us : TypeTrees) (c : TypeTree) → IsPartNumber m n → u ≡ tuple us → IsField n us c → look_for (part m n) ((s, z) ∷ types) ≡ Some c
        by n us c (inl e) is q =
            ap (λ d. look_for d ((s, z) ∷ types)) (ap (part m) e ∙ part_first m) ∙ behind m.x z types (λ y. m.apart (sym y)) ∙ there
            ∙ ap (λ d. Some d) (sym (k us c is (subst (λ d. IsField d us c) e q)))
        by n us c (inr e) is q =
            ap (λ d. look_for d ((s, z) ∷ types)) (ap (part m) e ∙ part_other m) ∙ first z types ∙ ap (λ d. Some d) (sym (l us c is (subst (λ d. IsField d us c) e q)))

    typed_so : (y : TypeTree) → HasType pattern types y → HasType answer types y
    typed_so y d = let k = shape.typed types d.0 d.1 in (k.1, k.3, tt, type_parted m g _ _ y uses (types_paired d.0 k.0 k.1 k.2 k.4 k.5) d.3)

    placed : IsPlaced answer types h t
    placed = record {
      formed = p.formed;
      forms = p.forms;
      typed = typed_so t p.typed;
      keeps = (shape.keeps h p.keeps.0, keeps_parted m g (before h) (now h) uses (paired h) p.keeps.1);
      splits = (
        (shape.splits h p.splits.0).0,
        splits_parted m g (before h) (now h) uses (paired h) p.splits.1,
        record { apart = λ y q d e. apart y q d (without_there y q e) },
        record { all = λ q e. subst (λ y. takes (parts m g) (now h) y q ≡ true) (sym own) (of_rest h q ∙ subst (λ y. takes g (before h) y (q ++ m.j ∷ []) ≡ true) own (p.splits.3.all (q ++ m.j ∷ []) (rest_builds h q ∙ e))) },
      );
      noted = (
        shape.noted types p.noted.0,
        (let d = p.noted.1 in let k = shape.typed types d.0 d.1 in (k.1, k.3, noted_parted m g _ _ uses (types_paired d.0 k.0 k.1 k.2 k.4 k.5) d.2)),
        (p.noted.2.0, p.noted.2.1, typed_so p.noted.2.0 p.noted.2.2),
      );
    }
      where
        without_there : (y : ℕ) (q : Path) → without s (takes (parts m g) (now h)) y q ≡ true → (y ≢ m.s) × (takes (parts m g) (now h) y q ≡ true)
        without_there y q e = by (cases_eq y m.s) e
          where
            by : (y ≡ m.s) ⊎ (y ≢ m.s) → (if s == y then false else takes (parts m g) (now h) y q) ≡ true → (y ≢ m.s) × (takes (parts m g) (now h) y q ≡ true)
            by (inl d) e = let no : (if s == y then false else takes (parts m g) (now h) y q) ≡ false = ap (λ c. if c then false else takes (parts m g) (now h) y q) (eq-eqb s y (own ∙ sym d)) in let nothing : ⊥ = cc in absurd nothing
            by (inr d) e = (d, sym (ap (λ c. if c then false else takes (parts m g) (now h) y q) (ne_eqb s y (λ c. d (sym c ∙ own)))) ∙ e)

        apart : (y : ℕ) (q : Path) → takes f h y q ≡ true → (y ≢ m.s) × (takes (parts m g) (now h) y q ≡ true) → ⊥
        apart y q d k = by (cases_eq y m.x)
          where
            by : (y ≡ m.x) ⊎ (y ≢ m.x) → ⊥
            by (inl e) =
                let there : takes g (before h) m.s (q ++ m.i ∷ []) ≡ true = sym (of_name h q) ∙ subst (λ c. takes (parts m g) (now h) c q ≡ true) e k.1 in
                (shape.splits h p.splits.0).1.apart m.x q (name_taken h q there) (subst (λ c. takes f h c q ≡ true) e d)
            by (inr ne) =
                p.splits.2.apart y q (shape.taken h y q ∙ or_right (takes part_leaf h y q) (takes f h y q) d)
                (ap (λ c. if c then false else takes g (before h) y q) (ne_eqb s y (λ c. k.0 (sym c ∙ own))) ∙ sym (of_else h y q (k.0, ne)) ∙ k.1)

    taken : takes answer h ≡ takes pattern h
    taken = λ i y q. (by y q (cases_eq y m.s)) i
      where
        here : (y : ℕ) (A : Taken) (q : Path) → y ≡ m.s → without s A y q ≡ false
        here y A q e = ap (λ c. if c then false else A y q) (eq-eqb s y (own ∙ sym e))

        there : (y : ℕ) (A : Taken) (q : Path) → y ≢ m.s → without s A y q ≡ A y q
        there y A q ne = ap (λ c. if c then false else A y q) (ne_eqb s y (λ e. ne (sym e ∙ own)))

        nothing_of : (e : ExprTree) (y : ℕ) (q : Path) → (IsFree e y → ⊥) → takes e h y q ≡ false
        nothing_of e y q n = no (takes e h y q) refl
          where
            no : (c : Bool) → takes e h y q ≡ c → c ≡ false
            no true k = absurd (n (taken_named e h y q k))
            no false k = refl

        name_all : (q : Path) → takes g (before h) m.s (q ++ m.i ∷ []) ≡ takes part_leaf h m.x q
        name_all q =
            same_truth (takes g (before h) m.s (q ++ m.i ∷ [])) (takes part_leaf h m.x q) (name_taken h q)
            (λ k. subst (λ y. takes g (before h) y (q ++ m.i ∷ []) ≡ true) own (p.splits.3.all (q ++ m.i ∷ []) (part_builds h q ∙ taken_builds part_leaf h m.x q k)))

        turned : (c d : Bool) → (c || d) ≡ ((d || c) || false)
        turned true true = refl
        turned true false = refl
        turned false true = refl
        turned false false = refl

        at_name : (q : Path) → (takes f h m.x q || takes (parts m g) (now h) m.x q) ≡ (takes v h m.x q || takes g (before h) m.x q)
        at_name q =
            let none : takes g (before h) m.x q ≡ false = none_of (takes g (before h) m.x q) refl in
            (λ i. takes f h m.x q || (of_name h q ∙ name_all q) i) ∙ turned (takes f h m.x q) (takes part_leaf h m.x q) ∙ sym (λ i. shape.taken h m.x q i || none i)
          where
            none_of : (c : Bool) → takes g (before h) m.x q ≡ c → c ≡ false
            none_of true k = absurd (not_named m g uses (taken_named g (before h) m.x q k))
            none_of false k = refl

        at_else : (y : ℕ) (q : Path) → IsElse m y → (takes f h y q || takes (parts m g) (now h) y q) ≡ (takes v h y q || takes g (before h) y q)
        at_else y q k =
            let none : takes part_leaf h y q ≡ false = nothing_of part_leaf y q (λ e. k.1 e) in
            (λ i. takes f h y q || of_else h y q k i) ∙ sym (λ i. (shape.taken h y q ∙ (λ j. none j || takes f h y q)) i || takes g (before h) y q)

        by : (y : ℕ) (q : Path) → (y ≡ m.s) ⊎ (y ≢ m.s) → (takes f h y q || without s (takes (parts m g) (now h)) y q) ≡ (takes v h y q || without s (takes g (before h)) y q)
        by y q (inl e) =
            let none_f : takes f h y q ≡ false = nothing_of f y q (λ k. unnamed (subst (IsFree v) e (shape.rest_names y k))) in
            let none_v : takes v h y q ≡ false = nothing_of v y q (λ k. unnamed (subst (IsFree v) e k)) in
            (λ i. none_f i || here y (takes (parts m g) (now h)) q e i) ∙ sym (λ i. none_v i || here y (takes g (before h)) q e i)
        by y q (inr ne) =
            (λ i. takes f h y q || there y (takes (parts m g) (now h)) q ne i)
            ∙ further (cases_eq y m.x)
            ∙ sym (λ i. takes v h y q || there y (takes g (before h)) q ne i)
          where
            further : (y ≡ m.x) ⊎ (y ≢ m.x) → (takes f h y q || takes (parts m g) (now h) y q) ≡ (takes v h y q || takes g (before h) y q)
            further (inl e) = subst (λ c. (takes f h c q || takes (parts m g) (now h) c q) ≡ (takes v h c q || takes g (before h) c q)) (sym e) (at_name q)
            further (inr nx) = at_else y q (ne, nx)

    -- ---- what it comes to

    means : (env : Env) → EnvFits types env → eval answer env ≡ eval pattern env
    means env fit =
        let k = shape.typed types p.typed.0 p.typed.1 in
        let x = fit.finds m.x k.0 k.2 in
        let there : eval part_leaf env ≡ done x.0 = ap found x.1 in
        after (eval f env) x.0 x.1 ∙ sym (ap (λ o. and_then o (λ y. eval g ((s, y) ∷ env))) (shape.means env x.0 there))
      where
        things_paired : (y u : Thing) → look_for m.x env ≡ Some y → ThingsArePaired m ((s, shape.things y u) ∷ env) ((s, u) ∷ env)
        things_paired y u e = record {
          parts = λ n k. ap (λ o. and_then (found o) (field_of n)) (first (shape.things y u) env) ∙ by n k;
          others = others (shape.things y u) u env;
        }
          where
            by : (n : ℕ) → IsPartNumber m n → field_of n (shape.things y u) ≡ found (look_for (part m n) ((s, u) ∷ env))
            by n (inl k) =
                ap (λ d. field_of d (shape.things y u)) k ∙ shape.part_thing y u
                ∙ sym (ap (λ d. found (look_for d ((s, u) ∷ env))) (ap (part m) k ∙ part_first m) ∙ ap found (behind m.x u env (λ d. m.apart (sym d)) ∙ e))
            by n (inr k) =
                ap (λ d. field_of d (shape.things y u)) k ∙ shape.rest_thing y u
                ∙ sym (ap (λ d. found (look_for d ((s, u) ∷ env))) (ap (part m) k ∙ part_other m) ∙ ap found (first u env))

        after : (o : Outcome Thing) (y : Thing) → look_for m.x env ≡ Some y → and_then o (λ u. eval (parts m g) ((s, u) ∷ env)) ≡ and_then (map_out (shape.things y) o) (λ z. eval g ((s, z) ∷ env))
        after (done u) y e = sym (eval_parted m g ((s, shape.things y u) ∷ env) ((s, u) ∷ env) uses (things_paired y u e))
        after fault y e = refl
        after stuck y e = refl

  -- ---- what is counted

  within : StaysWithin answer pattern
  within = record {
    binds = λ t.
        omega (
          arith,
          shape.binds t,
          ap (λ bs. times bs t) (bound_stay m g),
          times-append (bound f) (bound (parts m g)) t,
          times-append (bound v) (bound g) t,
        );
    names = λ t k. named t k;
    no_more_loops = omega (arith, shape.loop_count, loops_stay m g);
    no_more_legs = omega (arith, shape.leg_count, legs_stay m g);
    no_more_binders =
        omega (
          arith,
          shape.binders,
          ap length (bound_stay m g),
          length-append (bound f) (bound (parts m g)),
          length-append (bound v) (bound g),
        );
    well_made = λ k. (shape.made k.0, parted_made m g k.1);
    spellable = λ k. (tt, shape.spellable k.1, parted_spellable m g k.2);
  }
    where
      named : (t : ℕ) → IsFree f t ⊎ (IsFree (parts m g) t × (t ≢ s)) → IsFree v t ⊎ (IsFree g t × (t ≢ s))
      named t (inl k) = inl (shape.rest_names t k)
      named t (inr k) = by (parted_named m g t k.0)
        where
          by : IsNamed m (IsFree g t) t → IsFree v t ⊎ (IsFree g t × (t ≢ s))
          by (inl y) = inr (y, k.1)
          by (inr (inl e)) = inl (shape.part_names t e)
          by (inr (inr e)) = absurd (k.1 (e ∙ sym own))

  pub pair_rewrites : Rewrites answer pattern
  pair_rewrites = record {
    replaces = record {
      same_origin = same_origin;
      same_chain = λ c e. let nothing : ⊥ = cc in absurd nothing;
      placed = placed;
      taken = taken;
      means = λ types h t env p fit. means types h t p env fit;
    };
    within = within;
  }
