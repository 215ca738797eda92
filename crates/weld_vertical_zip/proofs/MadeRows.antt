-- A part of a row over all legs, and the row that is made of such parts and a value: typed, noted, and what they take, hold and come to.
use Rattle.std.proofs.Common.{◌≡◌, ◌≢◌, ℕ, zero, suc, ◌+◌, ◌≤◌, ◌<◌, ◌^◌, if◌then◌else◌, Bool, true, false, List, ◌||◌, ◌&&◌, [], ◌∷◌, ◌++◌, Some, refl, ap, sym, subst, ◌∙◌, arith, ne_eqb, ◌⊎◌, inl, inr}
use Rattle.weld_data.specs.Value.{Value, struct as struct_value, Values, no_values, and_value}
use Rattle.weld_tree.specs.declared.place.Place.{Place}
use Rattle.weld_tree.specs.TypeTree.{TypeTree, TypeTrees, struct, no_types, more_types}
use Rattle.weld_tree.specs.Types.{IsBuilderFree, AreBuilderFree, HasTypes}
use Rattle.weld_tree.specs.ExprTree.{ExprTree, many, ExprTrees, no_exprs, more_exprs, make_struct}
use Rattle.weld_tree.specs.Program.{loops, loops_in, bound, bound_in, HasExprs, IsWellMade, AreWellMade}
use Rattle.weld_tree.specs.HasValue.{HasValue, HaveValues}
use Rattle.weld_builders.specs.Outcome.{Outcome, done, fault, stuck, and_then, map_out}
use Rattle.weld_meaning.specs.Environment.{Named, look_for}
use Rattle.weld_meaning.specs.Thing.{Thing, plain, building, several, Things, more_things, as_value, as_values, struct_from, struct_of}
use Rattle.weld_meaning.specs.Evaluation.{Env, value_out, eval, eval_all}
use Rattle.weld_meaning.specs.Typing.{Types, IsField, HasType, HaveTypes}
use Rattle.weld_meaning.specs.Origin.{Path, Origin, value, struct as struct_path, are_values, is_value, origin_of_name, origin, origins}
use Rattle.weld_meaning.specs.Linear.{Keeps, AllKeep}
use Rattle.weld_meaning.specs.Available.{takes, some_take, Splits, AllSplit}
use Rattle.weld_meaning.specs.Names.{IsFree, AreFree}
use Rattle.weld_check_types.specs.Notes.{AreNoted, AllAreNoted}
use Rattle.weld_print.specs.Spellable.{IsSpellable, AreSpellable}
use Rattle.weld_rewriting.specs.Within.{legs, legs_in}
use Rattle.weld_substitution.specs.Uses.{uses, uses_in}
use Rattle.weld_horizontal.specs.Twice.{node_of, item_at, items_from, count}
use Rattle.weld_horizontal.proofs.Columns.{nth_value}
use Rattle.weld_horizontal.proofs.RowItems.{row_of, field_below, Within, within_next, within_here, item_typed, item_noted, items_typed, items_noted, fields_of, item_gives, plains, Give, all_give, are_plain}
use Rattle.weld_horizontal.proofs.RowHolds.{IdleAt, item_idle, AllIdle, items_idle, all_values, none_taken, all_keep, all_split, item_named, Small, AreSmall, item_small, EachSmall, all_small, items_small}
use Rattle.weld_vertical_zip.specs.Zipping.{types_behind, exprs_behind, Sides, all_items, whole_row, part_of_row, made_row}
use Rattle.weld_vertical_zip.proofs.Gathering.{map_map, values_behind, as_row}

-- ---- items of parts stand among all

within_behind : (n : ℕ) (ts us all : TypeTrees) → Within n (types_behind ts us) all → Within n ts all
within_behind n no_types us all w = record { at = λ k t f. absurd f }
within_behind n (more_types t ts) us all w = record { at = λ k u f. w.at k u (field_first k u (more_types t ts) us f) }
  where
    field_first : (k : ℕ) (u : TypeTree) (ts us : TypeTrees) → IsField k ts u → IsField k (types_behind ts us) u
    field_first k u no_types us f = absurd f
    field_first zero u (more_types t ts) us f = f
    field_first (suc k) u (more_types t ts) us f = field_first k u ts us f

within_later : (n : ℕ) (ts us all : TypeTrees) → Within n (types_behind ts us) all → Within (n + count ts) us all
within_later n no_types us all w = let same : n ≡ n + 0 = omega arith in subst (λ m. Within m us all) same w
within_later n (more_types t ts) us all w =
    let same : suc n + count ts ≡ n + suc (count ts) = omega arith in subst (λ m. Within m us all) same (within_later (suc n) ts us all (within_next n t (types_behind ts us) all w))

pub record Among (s : Sides) : Type 0 where
  pub before : Within 0 s.before (all_items s)
  pub within : Within (count s.before) s.within (all_items s)
  pub after : Within (count s.before + count s.within) s.after (all_items s)

pub among : (s : Sides) → Among s
among s =
    let all : Within 0 (all_items s) (all_items s) = record { at = λ k t f. let same : k ≡ 0 + k = omega arith in subst (λ m. IsField m (all_items s) t) same f } in
    let later : Within (count s.before) (types_behind s.within s.after) (all_items s) =
    let same : 0 + count s.before ≡ count s.before = omega arith in subst (λ m. Within m (types_behind s.within s.after) (all_items s)) same (within_later 0 s.before (types_behind s.within s.after) (all_items s) all) in
    record {
      before = within_behind 0 s.before (types_behind s.within s.after) (all_items s) all;
      within = within_behind (count s.before) s.within s.after (all_items s) later;
      after = within_later (count s.before) s.within s.after (all_items s) later;
    }

-- ---- values of parts stand among all

nth_behind : (ts : TypeTrees) (rs vs : Values) (k : ℕ) → HaveValues ts rs → nth_value (count ts + k) (values_behind rs vs) ≡ nth_value k vs
nth_behind no_types no_values vs k h = let same : 0 + k ≡ k = omega arith in ap (λ m. nth_value m vs) same
nth_behind no_types (and_value r rs) vs k h = absurd h
nth_behind (more_types t ts) no_values vs k h = absurd h
nth_behind (more_types t ts) (and_value r rs) vs k h =
    let same : suc (count ts) + k ≡ suc (count ts + k) = omega arith in ap (λ m. nth_value m (and_value r (values_behind rs vs))) same ∙ nth_behind ts rs vs k h.1

-- within what is asked for
nth_first : (ts : TypeTrees) (rs vs : Values) (k : ℕ) (t : TypeTree) → HaveValues ts rs → IsField k ts t → nth_value k (values_behind rs vs) ≡ nth_value k rs
nth_first no_types rs vs k t h f = absurd f
nth_first (more_types u ts) no_values vs k t h f = absurd h
nth_first (more_types u ts) (and_value r rs) vs zero t h f = refl
nth_first (more_types u ts) (and_value r rs) vs (suc k) t h f = nth_first ts rs vs k t h.1 f

pub record Apiece (s : Sides) (fs : Values) : Type 0 where
  pub before : Values
  pub within : Values
  pub after : Values
  pub are : fs ≡ values_behind before (values_behind within after)
  pub before_fit : HaveValues s.before before
  pub within_fit : HaveValues s.within within
  pub after_fit : HaveValues s.after after

values_apart : (ts us : TypeTrees) (fs : Values) → HaveValues (types_behind ts us) fs → (rs : Values) × (vs : Values) × (fs ≡ values_behind rs vs) × HaveValues ts rs × HaveValues us vs
values_apart no_types us fs h = (no_values, fs, refl, tt, h)
values_apart (more_types t ts) us no_values h = absurd h
values_apart (more_types t ts) us (and_value f fs) h =
    let r = values_apart ts us fs h.1 in (and_value f r.0, r.1, ap (and_value f) r.2, (h.0, r.3), r.4)

pub apiece : (s : Sides) (fs : Values) → HaveValues (all_items s) fs → Apiece s fs
apiece s fs h =
    let r = values_apart s.before (types_behind s.within s.after) fs h in
    let q = values_apart s.within s.after r.1 r.4 in
    record { before = r.0; within = q.0; after = q.1; are = r.2 ∙ ap (values_behind r.0) q.2; before_fit = r.3; within_fit = q.3; after_fit = q.4 }

module _ (place : Place) (x : ℕ) where
  -- ---- a part of a row

  pub part_typed : (all : TypeTrees) (n : ℕ) (us : TypeTrees) (g : Types) → look_for x g ≡ Some (row_of all) → Within n us all → HasTypes us → AreBuilderFree us → HasType (part_of_row place x all n us) g (row_of us)
  part_typed all n no_types g l w some free = absurd some
  part_typed all n (more_types t no_types) g l w some free = item_typed place x all n t g l (within_here n t no_types all w)
  part_typed all n (more_types t (more_types u us)) g l w some free =
      (more_types t (more_types u us), items_typed place x all n (more_types t (more_types u us)) g l w, (tt, inl free, refl))

  pub part_noted : (all : TypeTrees) (n : ℕ) (us : TypeTrees) (g : Types) → look_for x g ≡ Some (row_of all) → Within n us all → HasTypes us → AreBuilderFree us → AreNoted (part_of_row place x all n us) g
  part_noted all n no_types g l w some free = absurd some
  part_noted all n (more_types t no_types) g l w some free = item_noted place x all n t g l (within_here n t no_types all w)
  part_noted all n (more_types t (more_types u us)) g l w some free = (
    items_noted place x all n (more_types t (more_types u us)) g l w,
    (struct (more_types t (more_types u us)), refl, part_typed all n (more_types t (more_types u us)) g l w some free),
  )

  struct_idle : (a : TypeTree) (es : ExprTrees) (g : Named Origin) → AllIdle place x es g → IdleAt place x (many (node_of place a) make_struct es) g
  struct_idle a es g k = record {
    from = ap (λ b. if b then value else struct_path (origins es g)) (all_values place x es g k);
    none = none_taken place x es g k;
    keeps = all_keep place x es g k;
    splits = all_split place x es g k;
  }

  pub part_idle : (all : TypeTrees) (n : ℕ) (us : TypeTrees) (g : Named Origin) → origin_of_name x g ≡ value → IdleAt place x (part_of_row place x all n us) g
  part_idle all n no_types g h = struct_idle (struct no_types) no_exprs g tt
  part_idle all n (more_types t no_types) g h = item_idle place x all n t g h
  part_idle all n (more_types t (more_types u us)) g h =
      struct_idle (struct (more_types t (more_types u us))) (items_from place x all n (more_types t (more_types u us))) g (items_idle place x all n (more_types t (more_types u us)) g h)

  pub part_named : (all : TypeTrees) (n : ℕ) (us : TypeTrees) → HasTypes us → IsFree (part_of_row place x all n us) x
  part_named all n no_types some = absurd some
  part_named all n (more_types t no_types) some = item_named place x all n t
  part_named all n (more_types t (more_types u us)) some = inl (item_named place x all n t)

  -- it holds nothing and names the row alone
  pub record PartSmall (us : TypeTrees) (e : ExprTree) : Type 0 where
    pub binds : bound e ≡ []
    pub no_loops : loops e ≡ 0
    pub no_legs : legs e ≡ 0
    pub names : (t : ℕ) → IsFree e t → t ≡ x
    pub made : HasTypes us → IsWellMade e
    pub spellable : IsSpellable e

  pub part_small : (all : TypeTrees) (n : ℕ) (us : TypeTrees) → Within n us all → count all < 10 ^ 9 → PartSmall us (part_of_row place x all n us)
  part_small all n no_types w b = record { binds = refl; no_loops = refl; no_legs = refl; names = λ t h. absurd h; made = λ some. absurd some; spellable = tt }
  part_small all n (more_types t no_types) w b =
      let k = item_small place x all n t (omega (arith, b, field_below n all t (within_here n t no_types all w))) in
      record { binds = k.binds; no_loops = k.no_loops; no_legs = k.no_legs; names = k.names; made = λ some. k.made; spellable = k.spellable }
  part_small all n (more_types t (more_types u us)) w b =
      let k = all_small place x (items_from place x all n (more_types t (more_types u us))) (items_small place x all n (more_types t (more_types u us)) w b) in
      record { binds = k.binds; no_loops = k.no_loops; no_legs = k.no_legs; names = k.names; made = λ some. (tt, k.made); spellable = k.spellable }

  struct_gives : (a : TypeTree) (es : ExprTrees) (vs : Values) (env : Env) → Give place x es vs env → eval (many (node_of place a) make_struct es) env ≡ done (plain (struct_value vs))
  struct_gives a es vs env h =
      ap (λ o. and_then o (λ ts. done (struct_of ts))) (all_give place x es vs env h) ∙ ap (λ o. done (struct_from (plains place x vs) o)) (are_plain place x vs)

  -- the values of the part stand among those of the row from the number on
  abbrev pub StandAt : TypeTrees → TypeTrees → Value → ℕ → Values → Type 0
  StandAt us all w n vs = (k : ℕ) (t : TypeTree) → IsField k us t → nth_value (n + k) (fields_of place x all w) ≡ nth_value k vs

  pub items_come : (all : TypeTrees) (n : ℕ) (us : TypeTrees) (vs : Values) (env : Env) (w : Value) → look_for x env ≡ Some (plain w) → HasValue (row_of all) w → Within n us all → HaveValues us vs → StandAt us all w n vs → Give place x (items_from place x all n us) vs env
  items_come all n no_types no_values env w l h i k f = tt
  items_come all n no_types (and_value v vs) env w l h i k f = absurd k
  items_come all n (more_types u us) no_values env w l h i k f = absurd k
  items_come all n (more_types u us) (and_value v vs) env w l h i k f =
      let here : n + 0 ≡ n = omega arith in (
        item_gives place x all n u env w l h (within_here n u us all i) ∙ ap (λ m. done (plain (nth_value m (fields_of place x all w)))) (sym here) ∙ ap (λ y. done (plain y)) (f 0 u refl),
        items_come all (suc n) us vs env w l h (within_next n u us all i) k.1 (λ m t e. let same : suc n + m ≡ n + suc m = omega arith in ap (λ y. nth_value y (fields_of place x all w)) same ∙ f (suc m) t e),
      )

  pub part_gives : (all : TypeTrees) (n : ℕ) (t : TypeTree) (us : TypeTrees) (vs : Values) (env : Env) (w : Value) → look_for x env ≡ Some (plain w) → HasValue (row_of all) w → Within n (more_types t us) all → HaveValues (more_types t us) vs → StandAt (more_types t us) all w n vs → eval (part_of_row place x all n (more_types t us)) env ≡ done (plain (as_row (count us) vs))
  part_gives all n t no_types no_values env w l h i k f = absurd k
  part_gives all n t no_types (and_value v vs) env w l h i k f =
      let here : n + 0 ≡ n = omega arith in
      item_gives place x all n t env w l h (within_here n t no_types all i) ∙ ap (λ m. done (plain (nth_value m (fields_of place x all w)))) (sym here) ∙ ap (λ y. done (plain y)) (f 0 t refl)
  part_gives all n t (more_types u us) vs env w l h i k f =
      struct_gives (struct (more_types t (more_types u us))) (items_from place x all n (more_types t (more_types u us))) vs env (items_come all n (more_types t (more_types u us)) vs env w l h i k f)

  pub part_gives_so : (all : TypeTrees) (n : ℕ) (us : TypeTrees) (k : ℕ) (vs : Values) (env : Env) (w : Value) → suc k ≡ count us → look_for x env ≡ Some (plain w) → HasValue (row_of all) w → Within n us all → HaveValues us vs → StandAt us all w n vs → eval (part_of_row place x all n us) env ≡ done (plain (as_row k vs))
  part_gives_so all n no_types k vs env w e l h i f s = absurd (omega (arith, e))
  part_gives_so all n (more_types t us) k vs env w e l h i f s =
      let same : count us ≡ k = omega (arith, e) in part_gives all n t us vs env w l h i f s ∙ ap (λ m. done (plain (as_row m vs))) same

  fields_are : (us : TypeTrees) (fs : Values) → 2 ≤ count us → fields_of place x us (struct_value fs) ≡ fs
  fields_are no_types fs h = absurd (omega (arith, h))
  fields_are (more_types t no_types) fs h = absurd (omega (arith, h))
  fields_are (more_types t (more_types u us)) fs h = refl

  pub record Stands (s : Sides) (fs : Values) (a : Apiece s fs) : Type 0 where
    pub before : StandAt s.before (all_items s) (struct_value fs) 0 a.before
    pub within : StandAt s.within (all_items s) (struct_value fs) (count s.before) a.within
    pub after : StandAt s.after (all_items s) (struct_value fs) (count s.before + count s.within) a.after

  pub stands : (s : Sides) (fs : Values) (a : Apiece s fs) → 2 ≤ count (all_items s) → Stands s fs a
  stands s fs a b =
      let all : fields_of place x (all_items s) (struct_value fs) ≡ values_behind a.before (values_behind a.within a.after) = fields_are (all_items s) fs b ∙ a.are in
      record {
        before = λ k t f.
            let same : 0 + k ≡ k = omega arith in
            ap (λ vs. nth_value (0 + k) vs) all ∙ ap (λ m. nth_value m (values_behind a.before (values_behind a.within a.after))) same
            ∙ nth_first s.before a.before (values_behind a.within a.after) k t a.before_fit f;
        within = λ k t f.
            ap (λ vs. nth_value (count s.before + k) vs) all ∙ nth_behind s.before a.before (values_behind a.within a.after) k a.before_fit
            ∙ nth_first s.within a.within a.after k t a.within_fit f;
        after = λ k t f.
            let same : count s.before + count s.within + k ≡ count s.before + (count s.within + k) = omega arith in
            ap (λ vs. nth_value (count s.before + count s.within + k) vs) all ∙ ap (λ m. nth_value m (values_behind a.before (values_behind a.within a.after))) same
            ∙ nth_behind s.before a.before (values_behind a.within a.after) (count s.within + k) a.before_fit ∙ nth_behind s.within a.within a.after k a.within_fit;
      }

  -- ---- expressions behind others

  typed_together : (es fs : ExprTrees) (g : Types) (ts us : TypeTrees) → HaveTypes es g ts → HaveTypes fs g us → HaveTypes (exprs_behind es fs) g (types_behind ts us)
  typed_together no_exprs fs g no_types us h k = k
  typed_together no_exprs fs g (more_types t ts) us h k = absurd h
  typed_together (more_exprs e es) fs g no_types us h k = absurd h
  typed_together (more_exprs e es) fs g (more_types t ts) us h k = (h.0, typed_together es fs g ts us h.1 k)

  noted_together : (es fs : ExprTrees) (g : Types) → AllAreNoted es g → AllAreNoted fs g → AllAreNoted (exprs_behind es fs) g
  noted_together no_exprs fs g h k = k
  noted_together (more_exprs e es) fs g h k = (h.0, noted_together es fs g h.1 k)

  -- what it takes is what the one that isn't idle does
  pub record IdleBut (v : ExprTree) (es : ExprTrees) (g : Named Origin) : Type 0 where
    pub values : are_values (origins es g) ≡ true
    pub taken : (s : ℕ) (q : Path) → some_take es g s q ≡ takes v g s q
    pub keep : AllKeep es g
    pub split : AllSplit es g

  first_but : (v : ExprTree) (es : ExprTrees) (g : Named Origin) → origin v g ≡ value → Keeps v g → Splits v g → AllIdle place x es g → IdleBut v (more_exprs v es) g
  first_but v es g o k s h =
      let none = none_taken place x es g h in
      record {
        values = let r = all_values place x es g h in λ i. is_value (o i) && r i;
        taken = λ t q. ap (λ b. takes v g t q || b) (none t q) ∙ no_more (takes v g t q);
        keep = (k, all_keep place x es g h);
        split = (s, all_split place x es g h, record { apart = λ t q y z. let e = none t q in let nothing : ⊥ = cc in nothing });
      }
    where
      no_more : (b : Bool) → (b || false) ≡ b
      no_more true = refl
      no_more false = refl

  more_but : (v e : ExprTree) (es : ExprTrees) (g : Named Origin) → IdleAt place x e g → IdleBut v es g → IdleBut v (more_exprs e es) g
  more_but v e es g i b = record {
    values = λ j. is_value (i.from j) && b.values j;
    taken = λ t q. ap (λ c. c || some_take es g t q) (i.none t q) ∙ b.taken t q;
    keep = (i.keeps, b.keep);
    split = (i.splits, b.split, record { apart = λ t q y z. let e = i.none t q in let nothing : ⊥ = cc in nothing });
  }

  but_together : (v : ExprTree) (es fs : ExprTrees) (g : Named Origin) → AllIdle place x es g → IdleBut v fs g → IdleBut v (exprs_behind es fs) g
  but_together v no_exprs fs g h b = b
  but_together v (more_exprs e es) fs g h b = more_but v e (exprs_behind es fs) g h.0 (but_together v es fs g h.1 b)

  -- ---- the row that is made

  abbrev fronts : Sides → ExprTrees
  fronts s = items_from place x (all_items s) 0 s.before

  abbrev backs : Sides → ExprTrees
  backs s = items_from place x (all_items s) (count s.before + count s.within) s.after

  some_types : (ts us : TypeTrees) (t : TypeTree) → HasTypes (types_behind ts (more_types t us))
  some_types no_types us t = tt
  some_types (more_types u ts) us t = tt

  free_types : (ts us : TypeTrees) (t : TypeTree) → AreBuilderFree ts → IsBuilderFree t → AreBuilderFree us → AreBuilderFree (types_behind ts (more_types t us))
  free_types no_types us t f h k = (h, k)
  free_types (more_types u ts) us t f h k = (f.0, free_types ts us t f.1 h k)

  pub made_typed : (s : Sides) (v : ExprTree) (g : Types) → look_for x g ≡ Some (row_of (all_items s)) → AreBuilderFree s.before → IsBuilderFree s.item → AreBuilderFree s.after → HasType v g s.item → HasType (made_row place x s v) g (whole_row s)
  made_typed s v g l f h k typed =
      let a = among s in (
        types_behind s.before (more_types s.item s.after),
        typed_together (fronts s) (more_exprs v (backs s)) g s.before (more_types s.item s.after) (items_typed place x (all_items s) 0 s.before g l a.before)
            (typed, items_typed place x (all_items s) (count s.before + count s.within) s.after g l a.after),
        (some_types s.before s.after s.item, inl (free_types s.before s.after s.item f h k), refl),
      )

  pub made_noted : (s : Sides) (v : ExprTree) (g : Types) → look_for x g ≡ Some (row_of (all_items s)) → AreBuilderFree s.before → IsBuilderFree s.item → AreBuilderFree s.after → HasType v g s.item → AreNoted v g → AreNoted (made_row place x s v) g
  made_noted s v g l f h k typed noted =
      let a = among s in (
        noted_together (fronts s) (more_exprs v (backs s)) g (items_noted place x (all_items s) 0 s.before g l a.before) (noted, items_noted place x (all_items s) (count s.before + count s.within) s.after g l a.after),
        (whole_row s, refl, made_typed s v g l f h k typed),
      )

  made_but : (s : Sides) (v : ExprTree) (g : Named Origin) → origin_of_name x g ≡ value → origin v g ≡ value → Keeps v g → Splits v g → IdleBut v (exprs_behind (fronts s) (more_exprs v (backs s))) g
  made_but s v g r o k p =
      but_together v (fronts s) (more_exprs v (backs s)) g (items_idle place x (all_items s) 0 s.before g r)
      (first_but v (backs s) g o k p (items_idle place x (all_items s) (count s.before + count s.within) s.after g r))

  -- what it takes is what the value takes
  pub record MadeSo (s : Sides) (v : ExprTree) (g : Named Origin) : Type 0 where
    pub from : origin (made_row place x s v) g ≡ value
    pub taken : (t : ℕ) (q : Path) → takes (made_row place x s v) g t q ≡ takes v g t q
    pub keeps : Keeps (made_row place x s v) g
    pub splits : Splits (made_row place x s v) g

  pub made_so : (s : Sides) (v : ExprTree) (g : Named Origin) → origin_of_name x g ≡ value → origin v g ≡ value → Keeps v g → Splits v g → MadeSo s v g
  made_so s v g r o k p = let b = made_but s v g r o k p in record {
    from = ap (λ c. if c then value else struct_path (origins (exprs_behind (fronts s) (more_exprs v (backs s))) g)) b.values;
    taken = b.taken;
    keeps = b.keep;
    splits = b.split;
  }

  -- ---- what it holds

  -- what it holds is what the one does that isn't small
  pub record SmallBut (v : ExprTree) (es : ExprTrees) : Type 0 where
    pub binds : bound_in es ≡ bound v
    pub loop_count : loops_in es ≡ loops v
    pub leg_count : legs_in es ≡ legs v
    pub names : (t : ℕ) → AreFree es t → (t ≡ x) ⊎ IsFree v t
    pub some : HasExprs es
    pub made : IsWellMade v → AreWellMade es
    pub spellable : IsSpellable v → AreSpellable es

  no_more_bound : {A : Type 0} (xs : List A) → xs ++ [] ≡ xs
  no_more_bound [] = refl
  no_more_bound (y ∷ xs) = ap (λ ys. y ∷ ys) (no_more_bound xs)

  first_small : (v : ExprTree) (es : ExprTrees) → AreSmall place x es → SmallBut v (more_exprs v es)
  first_small v es h = record {
    binds = ap (λ ys. bound v ++ ys) h.binds ∙ no_more_bound (bound v);
    loop_count = omega (arith, h.no_loops);
    leg_count = omega (arith, h.no_legs);
    names = λ t f. by t f;
    some = tt;
    made = λ m. (m, h.made);
    spellable = λ m. (m, h.spellable);
  }
    where
      by : (t : ℕ) → IsFree v t ⊎ AreFree es t → (t ≡ x) ⊎ IsFree v t
      by t (inl f) = inr f
      by t (inr f) = inl (h.names t f)

  more_small : (v e : ExprTree) (es : ExprTrees) → Small place x e → SmallBut v es → SmallBut v (more_exprs e es)
  more_small v e es h b = record {
    binds = ap (λ ys. ys ++ bound_in es) h.binds ∙ b.binds;
    loop_count = omega (arith, h.no_loops, b.loop_count);
    leg_count = omega (arith, h.no_legs, b.leg_count);
    names = λ t f. by t f;
    some = tt;
    made = λ m. (h.made, b.made m);
    spellable = λ m. (h.spellable, b.spellable m);
  }
    where
      by : (t : ℕ) → IsFree e t ⊎ AreFree es t → (t ≡ x) ⊎ IsFree v t
      by t (inl f) = inl (h.names t f)
      by t (inr f) = b.names t f

  small_together : (v : ExprTree) (es fs : ExprTrees) → EachSmall place x es → SmallBut v fs → SmallBut v (exprs_behind es fs)
  small_together v no_exprs fs h b = b
  small_together v (more_exprs e es) fs h b = more_small v e (exprs_behind es fs) h.0 (small_together v es fs h.1 b)

  pub made_small : (s : Sides) (v : ExprTree) → count (all_items s) < 10 ^ 9 → SmallBut v (exprs_behind (fronts s) (more_exprs v (backs s)))
  made_small s v b =
      let a = among s in
      small_together v (fronts s) (more_exprs v (backs s)) (items_small place x (all_items s) 0 s.before a.before b)
      (first_small v (backs s) (all_small place x (backs s) (items_small place x (all_items s) (count s.before + count s.within) s.after a.after b)))

  item_unused : (us : TypeTrees) (n : ℕ) (u : TypeTree) (d : ℕ) → d ≢ x → uses (item_at place x us n u) d ≡ 0
  item_unused no_types n u d ne = rw (ne_eqb d x ne) refl
  item_unused (more_types t no_types) n u d ne = rw (ne_eqb d x ne) refl
  item_unused (more_types t (more_types s ts)) n u d ne = rw (ne_eqb d x ne) refl

  pub items_unused : (all : TypeTrees) (n : ℕ) (us : TypeTrees) (d : ℕ) → d ≢ x → uses_in (items_from place x all n us) d ≡ 0
  items_unused all n no_types d ne = refl
  items_unused all n (more_types u us) d ne = omega (arith, item_unused all n u d ne, items_unused all (suc n) us d ne)

  pub part_unused : (all : TypeTrees) (n : ℕ) (us : TypeTrees) (d : ℕ) → d ≢ x → uses (part_of_row place x all n us) d ≡ 0
  part_unused all n no_types d ne = refl
  part_unused all n (more_types t no_types) d ne = item_unused all n t d ne
  part_unused all n (more_types t (more_types u us)) d ne = items_unused all n (more_types t (more_types u us)) d ne

  uses_together : (es fs : ExprTrees) (d : ℕ) → uses_in (exprs_behind es fs) d ≡ uses_in es d + uses_in fs d
  uses_together no_exprs fs d = omega arith
  uses_together (more_exprs e es) fs d = omega (arith, uses_together es fs d)

  pub made_uses : (s : Sides) (v : ExprTree) (d : ℕ) → d ≢ x → uses (made_row place x s v) d ≡ uses v d
  made_uses s v d ne =
      omega (
        arith,
        uses_together (fronts s) (more_exprs v (backs s)) d,
        items_unused (all_items s) 0 s.before d ne,
        items_unused (all_items s) (count s.before + count s.within) s.after d ne,
      )

  -- ---- what it comes to

  abbrev things_behind : Values → Things → Things
  things_behind no_values ts = ts
  things_behind (and_value v vs) ts = more_things (plain v) (things_behind vs ts)

  same_out : (o : Outcome Things) → o ≡ map_out (things_behind no_values) o
  same_out (done ts) = refl
  same_out fault = refl
  same_out stuck = refl

  front_things : (es fs : ExprTrees) (vs : Values) (env : Env) → Give place x es vs env → eval_all (exprs_behind es fs) env ≡ map_out (things_behind vs) (eval_all fs env)
  front_things no_exprs fs no_values env h = same_out (eval_all fs env)
  front_things no_exprs fs (and_value v vs) env h = absurd h
  front_things (more_exprs e es) fs no_values env h = absurd h
  front_things (more_exprs e es) fs (and_value v vs) env h =
      let rest = front_things es fs vs env h.1 in
      (λ i. and_then (h.0 i) (λ t. map_out (more_things t) (rest i))) ∙ map_map (more_things (plain v)) (things_behind vs) (eval_all fs env)

  front_values : (vs ws : Values) (ts : Things) → as_values ts ≡ done ws → as_values (things_behind vs ts) ≡ done (values_behind vs ws)
  front_values no_values ws ts e = e
  front_values (and_value v vs) ws ts e = ap (map_out (and_value v)) (front_values vs ws ts e)

  front_stuck : (vs : Values) (ts : Things) → as_values ts ≡ stuck → as_values (things_behind vs ts) ≡ stuck
  front_stuck no_values ts e = e
  front_stuck (and_value v vs) ts e = ap (map_out (and_value v)) (front_stuck vs ts e)

  made_out : (rs ts : Values) (o : Outcome Thing) → value_out (and_then (map_out (things_behind rs) (and_then o (λ t. map_out (more_things t) (done (plains place x ts))))) (λ us. done (struct_of us))) ≡ map_out (λ y. struct_value (values_behind rs (and_value y ts))) (value_out o)
  made_out rs ts (done (plain y)) =
      let us = things_behind rs (more_things (plain y) (plains place x ts)) in
      ap (λ o. as_value (struct_from us o)) (front_values rs (and_value y ts) (more_things (plain y) (plains place x ts)) (ap (map_out (and_value y)) (are_plain place x ts)))
  made_out rs ts (done (building p)) =
      let us = things_behind rs (more_things (building p) (plains place x ts)) in
      ap (λ o. as_value (struct_from us o)) (front_stuck rs (more_things (building p) (plains place x ts)) refl)
  made_out rs ts (done (several qs)) =
      let us = things_behind rs (more_things (several qs) (plains place x ts)) in
      ap (λ o. as_value (struct_from us o)) (front_stuck rs (more_things (several qs) (plains place x ts)) refl)
  made_out rs ts fault = refl
  made_out rs ts stuck = refl

  pub made_gives : (s : Sides) (v : ExprTree) (fs : Values) (a : Apiece s fs) (env : Env) → look_for x env ≡ Some (plain (struct_value fs)) → HasValue (row_of (all_items s)) (struct_value fs) → 2 ≤ count (all_items s) → value_out (eval (made_row place x s v) env) ≡ map_out (λ y. struct_value (values_behind a.before (and_value y a.after))) (value_out (eval v env))
  made_gives s v fs a env l h b =
      let m = among s in
      let k = stands s fs a b in
      let front = items_come (all_items s) 0 s.before a.before env (struct_value fs) l h m.before a.before_fit k.before in
      let back = items_come (all_items s) (count s.before + count s.within) s.after a.after env (struct_value fs) l h m.after a.after_fit k.after in
      ap (λ o. value_out (and_then o (λ us. done (struct_of us))))
      (front_things (fronts s) (more_exprs v (backs s)) a.before env front
      ∙ ap (λ o. map_out (things_behind a.before) (and_then (eval v env) (λ t. map_out (more_things t) o))) (all_give place x (backs s) a.after env back))
      ∙ made_out a.before a.after (eval v env)
