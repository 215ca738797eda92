-- A producer's body that merges whole rows: what it holds, where it stands, and what it gives.
use Rattle.std.proofs.Common.{◌≡◌, ◌≢◌, ℕ, ◌+◌, ◌<◌, ◌≤◌, ◌^◌, ◌==◌, if◌then◌else◌, true, false, ◌||◌, ◌∷◌, ◌++◌, Some, refl, ap, sym, subst, ◌∙◌, eq-eqb, ne_eqb, arith, ◌⊎◌, inl, inr}
use Rattle.weld_data.specs.Value.{Value, struct as struct_value, Values, and_value}
use Rattle.weld_tree.specs.declared.binder.Binder.{Binder}
use Rattle.weld_tree.specs.declared.known.Known.TheVariants.{Is}
use Rattle.weld_tree.specs.declared.place.Place.{Place}
use Rattle.weld_tree.specs.TypeTree.{TypeTree, build, list}
use Rattle.weld_tree.specs.Types.{IsBuilderFree, AreBuilderFree, IsWellFormed, takes as taken_type}
use Rattle.weld_tree.specs.ExprTree.{At, ExprTree, leaf, two, let_in, name, merge}
use Rattle.weld_tree.specs.Program.{loops, bound, IsWellMade}
use Rattle.weld_tree.specs.HasValue.{HasValue}
use Rattle.weld_builders.specs.Outcome.{and_then, map_out}
use Rattle.weld_meaning.specs.Environment.{Named, look_for}
use Rattle.weld_meaning.specs.Thing.{plain}
use Rattle.weld_meaning.specs.Typing.{Types, AreFormed, HasType}
use Rattle.weld_meaning.specs.Evaluation.{Env, eval}
use Rattle.weld_meaning.specs.Origin.{Path, Origin, value, origin_of_name, origin}
use Rattle.weld_meaning.specs.Available.{takes}
use Rattle.weld_meaning.specs.Names.{IsFree, AgreeOn, Binds}
use Rattle.weld_meaning.proofs.Names.{agree_bind, agree_less}
use Rattle.weld_meaning.specs.Forms.{HasForm, NamesHaveForms}
use Rattle.weld_meaning.proofs.OriginTypes.{origin_forms, forms_bind}
use Rattle.weld_meaning.proofs.WellFormed.{type_formed, formed_bind}
use Rattle.weld_print.specs.Spellable.{IsSpellable}
use Rattle.weld_rewriting.specs.Placed.{IsPlaced}
use Rattle.weld_rewriting.specs.Within.{legs}
use Rattle.weld_rewriting.proofs.Forms.{free_origin}
use Rattle.weld_rewriting.proofs.Parts.{second_of_two, value_of_let, body_of_let}
use Rattle.weld_substitution.proofs.Gaining.{without_is, else_without}
use Rattle.weld_substitution.proofs.Unnamed.{binds_so}
use Rattle.weld_substitution.proofs.Values.{look_behind}
use Rattle.weld_substitution.specs.Uses.{uses}
use Rattle.weld_vertical.specs.Sinking.{at_of, ends_in_merge}
use Rattle.weld_vertical.proofs.Spine.{ends_by, unnamed}
use Rattle.weld_vertical.proofs.Related.{placed_free, let_placed}
use Rattle.weld_horizontal.specs.Twice.{count}
use Rattle.weld_horizontal.proofs.RowItems.{row_of}
use Rattle.weld_vertical_zip.specs.Zipping.{Sides, all_items, whole_row, made_row, widened}
use Rattle.weld_vertical_zip.proofs.Merging.{row_value}
use Rattle.weld_vertical_zip.proofs.Gathering.{map_then, values_behind}
use Rattle.weld_vertical_zip.proofs.MadeRows.{Apiece, made_typed, made_noted, made_so, made_small, made_uses, made_gives}

module _ (place : Place) (d r : ℕ) (s : Sides) where
  -- the builder's type, before and now
  abbrev pub items_built : TypeTree
  items_built = build (list s.item)

  abbrev pub rows_built : TypeTree
  rows_built = build (list (whole_row s))

  -- a binder of the body that gets in nobody's way
  abbrev pub Clear : ℕ → Type 0
  Clear z = (z ≢ d) × (z ≢ r)

  abbrev wide : ExprTree → ExprTree
  wide g = widened place d r s g

  -- ---- what it holds

  pub record Counted (g : ExprTree) : Type 0 where
    pub binds : bound (widened place d r s g) ≡ bound g
    pub loop_count : loops (widened place d r s g) ≡ loops g
    pub leg_count : legs (widened place d r s g) ≡ legs g
    pub names : (t : ℕ) → IsFree (widened place d r s g) t → (t ≡ r) ⊎ IsFree g t
    pub made : IsWellMade g → IsWellMade (widened place d r s g)
    pub spellable : IsSpellable g → IsSpellable (widened place d r s g)
    pub use_count : uses (widened place d r s g) d ≡ uses g d
    pub ends : ends_in_merge d (widened place d r s g) ≡ true

  module _ (few : count (all_items s) < 10 ^ 9) (apart : d ≢ r) where
    let_counted : (a : At) (z : Binder) (v h : ExprTree) → uses v d ≡ 0 → Counted h → Counted (let_in a z v h)
    let_counted a z v h none c = record {
      binds = ap (λ ks. z.sym.0 ∷ (bound v ++ ks)) c.binds;
      loop_count = omega (arith, c.loop_count);
      leg_count = omega (arith, c.leg_count);
      names = λ t f. by t f;
      made = λ m. (m.0, c.made m.1);
      spellable = λ m. (m.0, m.1, c.spellable m.2);
      use_count = omega (arith, c.use_count);
      ends = c.ends;
    }
      where
        inside : (t : ℕ) → t ≢ z.sym.0 → (t ≡ r) ⊎ IsFree h t → (t ≡ r) ⊎ IsFree (let_in a z v h) t
        inside t ne (inl e) = inl e
        inside t ne (inr f) = inr (inr (f, ne))

        by : (t : ℕ) → IsFree (wide (let_in a z v h)) t → (t ≡ r) ⊎ IsFree (let_in a z v h) t
        by t (inl f) = inr (inl f)
        by t (inr f) = inside t f.1 (c.names t f.0)

    merge_counted : (a c : At) (v : ExprTree) → uses v d ≡ 0 → Counted (two a merge (leaf c (name d)) v)
    merge_counted a c v none =
        let k = made_small place r s v few in
        record {
          binds = k.binds;
          loop_count = omega (arith, k.loop_count);
          leg_count = omega (arith, k.leg_count);
          names = λ t f. by t f;
          made = λ m. (tt, (k.some, k.made m.1));
          spellable = λ m. (tt, k.spellable m.1);
          use_count = ap (λ n. uses (leaf c (name d)) d + n) (made_uses place r s v d apart);
          ends = eq-eqb d d refl;
        }
      where
        from_row : (t : ℕ) → (t ≡ r) ⊎ IsFree v t → (t ≡ r) ⊎ IsFree (two a merge (leaf c (name d)) v) t
        from_row t (inl e) = inl e
        from_row t (inr f) = inr (inr f)

        by : (t : ℕ) → IsFree (wide (two a merge (leaf c (name d)) v)) t → (t ≡ r) ⊎ IsFree (two a merge (leaf c (name d)) v) t
        by t (inl f) = inr (inl f)
        by t (inr f) = from_row t ((made_small place r s v few).names t f)

    pub wide_counted : (g : ExprTree) → ends_in_merge d g ≡ true → uses g d ≡ 1 → Counted g
    wide_counted = ends_by d Counted let_counted merge_counted

  -- ---- where it stands

  -- what is known of the rows
  pub record Known : Type 0 where
    pub item_formed : IsWellFormed s.item
    pub item_free : IsBuilderFree s.item
    pub before_free : AreBuilderFree s.before
    pub after_free : AreBuilderFree s.after

  -- names stand for the same but for the builder, and the row is one over all legs
  pub record Related (h k : Types) (q : Named Origin) : Type 0 where
    pub types : AgreeOn (λ t. t ≢ d) h k
    pub builder_type : look_for d k ≡ Some rows_built
    pub row_type : look_for r k ≡ Some (row_of (all_items s))
    pub row_origin : origin_of_name r q ≡ value
    pub formed : AreFormed k
    pub forms : NamesHaveForms q k

  look_over : {A : Type 0} (t z : ℕ) (y : A) (g : Named A) (w : A) → z ≢ t → look_for t g ≡ Some w → look_for t ((z, y) ∷ g) ≡ Some w
  look_over t z y g w ne e = rw (ne_eqb t z (λ c. ne (sym c))) e

  related_bind : (z : ℕ) (u : TypeTree) (o : Origin) (h k : Types) (q : Named Origin) → Clear z → IsWellFormed u → HasForm o u → Related h k q → Related ((z, u) ∷ h) ((z, u) ∷ k) ((z, o) ∷ q)
  related_bind z u o h k q c w m rel = record {
    types = agree_bind (λ t. t ≢ d) (λ t. t ≢ d) z u h k (λ t f ne. f) rel.types;
    builder_type = look_over d z u k rows_built c.0 rel.builder_type;
    row_type = look_over r z u k (row_of (all_items s)) c.1 rel.row_type;
    row_origin = look_behind r z o q (λ e. c.1 (sym e)) ∙ rel.row_origin;
    formed = formed_bind k z u w rel.formed;
    forms = (forms_bind q k z o u m rel.forms);
  }

  -- it stands there, comes from where the body came, and takes what that took
  pub record Widened (k : Types) (q : Named Origin) (g : ExprTree) : Type 0 where
    pub placed : IsPlaced (widened place d r s g) k q rows_built
    pub comes : origin (widened place d r s g) q ≡ origin g q
    pub taken : (t : ℕ) (y : Path) → takes (widened place d r s g) q t y ≡ takes g q t y

  abbrev pub Widens : ExprTree → Type 0
  Widens g = (h k : Types) (q : Named Origin) → Binds Clear g → Related h k q → IsPlaced g h q items_built → Widened k q g

  not_d : (v : ExprTree) → Binds Clear v → uses v d ≡ 0 → (t : ℕ) → IsFree v t → t ≢ d
  not_d v c none t f e = unnamed d v (binds_so Clear (λ z. d ≢ z) (λ z k p. k.0 (sym p)) v c) none (subst (IsFree v) e f)

  widens_let : (a : At) (z : Binder) (v g : ExprTree) → uses v d ≡ 0 → Widens g → Widens (let_in a z v g)
  widens_let a z v g none widens h k q c rel m =
      let u = m.typed.0 in
      let o = origin v q in
      let outer = value_of_let a z v g h q items_built m in
      let there : IsPlaced v k q u = placed_free v h k q q u (agree_less (λ t. t ≢ d) (IsFree v) h k (not_d v c.1 none) rel.types) (record { agree = λ t f. refl }) rel.formed rel.forms outer in
      let form = origin_forms v q h u outer.typed outer.formed outer.forms in
      let inner = related_bind z.sym.0 u o h k q c.0 (type_formed v h u outer.typed outer.formed) form rel in
      let it = widens ((z.sym.0, u) ∷ h) ((z.sym.0, u) ∷ k) ((z.sym.0, o) ∷ q) c.2 inner (body_of_let a z v g h q items_built m) in
      record {
        placed =
            let_placed (at_of a (Is rows_built)) z v (wide g) k q u rows_built o refl refl m.typed.2 there it.placed
            (record {
              apart = λ t y e l.
                  let f = without_is z.sym.0 t y (takes (wide g) ((z.sym.0, o) ∷ q)) l in
                  m.splits.2.apart t y e (else_without z.sym.0 t y (takes g ((z.sym.0, o) ∷ q)) f.0 (sym (it.taken t y) ∙ f.1));
            })
            (record { all = λ y e. it.taken z.sym.0 y ∙ m.splits.3.all y e });
        comes = it.comes;
        taken = λ t y. λ i. takes v q t y || (if z.sym.0 == t then false else it.taken t y i);
      }

  widens_merge : Known → (a c : At) (v : ExprTree) → uses v d ≡ 0 → Widens (two a merge (leaf c (name d)) v)
  widens_merge known a c v none h k q cl rel m =
      let same : list s.item ≡ m.typed.4.0 = let e : build (list s.item) ≡ build m.typed.4.0 = m.typed.4.3 ∙ m.typed.4.1 in cc in
      let outer : IsPlaced v h q s.item = subst (IsPlaced v h q) (m.typed.4.2 ∙ ap taken_type (sym same)) (second_of_two a merge (leaf c (name d)) v h q items_built m) in
      let there : IsPlaced v k q s.item = placed_free v h k q q s.item (agree_less (λ t. t ≢ d) (IsFree v) h k (not_d v cl.1 none) rel.types) (record { agree = λ t f. refl }) rel.formed rel.forms outer in
      let from = free_origin (origin v q) s.item known.item_formed known.item_free (origin_forms v q k s.item there.typed there.formed there.forms) in
      let so = made_so place r s v q rel.row_origin from there.keeps there.splits in
      let row : HasType (made_row place r s v) k (whole_row s) = made_typed place r s v k rel.row_type known.before_free known.item_free known.after_free there.typed in
      let typed : HasType (wide (two a merge (leaf c (name d)) v)) k rows_built = (rows_built, whole_row s, rel.builder_type, row, (list (whole_row s), refl, refl, refl)) in
      record {
        placed = record {
          formed = rel.formed;
          forms = rel.forms;
          typed = typed;
          keeps = (m.keeps.0, so.keeps);
          splits = (tt, so.splits, record { apart = λ t y e l. m.splits.2.apart t y e (sym (so.taken t y) ∙ l) }, tt);
          noted = (
            (rows_built, refl, rel.builder_type),
            made_noted place r s v k rel.row_type known.before_free known.item_free known.after_free there.typed there.noted,
            (rows_built, refl, typed),
          );
        };
        comes = refl;
        taken = λ t y. λ i. takes (leaf c (name d)) q t y || so.taken t y i;
      }

  pub widens_all : Known → (g : ExprTree) → ends_in_merge d g ≡ true → uses g d ≡ 1 → Widens g
  widens_all known = ends_by d Widens widens_let (widens_merge known)

  -- ---- what it gives

  module _ (fs : Values) (fields : Apiece s fs) (fit : HasValue (row_of (all_items s)) (struct_value fs)) (several : 2 ≤ count (all_items s)) where
    -- the whole row round an item
    abbrev pub round : Value → Value
    round y = struct_value (values_behind fields.before (and_value y fields.after))

    abbrev Gives : ExprTree → Type 0
    Gives g = Binds Clear g → (env : Env) → look_for r env ≡ Some (plain (struct_value fs)) → row_value (widened place d r s g) env ≡ map_out round (row_value g env)

    gives_let : (a : At) (z : Binder) (v h : ExprTree) → uses v d ≡ 0 → Gives h → Gives (let_in a z v h)
    gives_let a z v h none f c env l =
        (λ i. and_then (eval v env) (λ t. f c.2 ((z.sym.0, t) ∷ env) (look_over r z.sym.0 t env (plain (struct_value fs)) c.0.1 l) i))
        ∙ sym (map_then round (eval v env) (λ t. row_value h ((z.sym.0, t) ∷ env)))

    gives_merge : (a c : At) (v : ExprTree) → uses v d ≡ 0 → Gives (two a merge (leaf c (name d)) v)
    gives_merge a c v none cl env l = made_gives place r s v fs fields env l fit several

    pub wide_gives : (g : ExprTree) → ends_in_merge d g ≡ true → uses g d ≡ 1 → Gives g
    wide_gives = ends_by d Gives gives_let gives_merge
