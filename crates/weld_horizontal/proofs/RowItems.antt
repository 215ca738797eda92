-- The items of a row, each as an expression of the row's name.
use Rattle.std.proofs.Common.{◌≡◌, ℕ, zero, suc, ◌+◌, ◌<◌, Some, refl, ap, sym, subst, ◌∙◌, arith, inl}
use Rattle.weld_data.specs.Value.{Value, number, list as list_value, struct as struct_value, dict as dict_value, Values, no_values, and_value}
use Rattle.weld_tree.specs.declared.place.Place.{Place}
use Rattle.weld_tree.specs.TypeTree.{TypeTree, TypeTrees, struct, no_types, more_types}
use Rattle.weld_tree.specs.Types.{IsBuilderFree, AreBuilderFree, HasTypes}
use Rattle.weld_tree.specs.ExprTree.{ExprTree, ExprTrees, no_exprs, more_exprs, LegTree, LegTrees, no_legs, more_legs}
use Rattle.weld_tree.specs.HasValue.{HasValue, HaveValues}
use Rattle.weld_builders.specs.Outcome.{done, and_then, map_out}
use Rattle.weld_meaning.specs.Environment.{look_for}
use Rattle.weld_meaning.specs.Thing.{plain, Things, no_things, more_things, as_values, struct_from, struct_of, value_at, field_of}
use Rattle.weld_meaning.specs.Evaluation.{Env, found, eval, eval_all}
use Rattle.weld_meaning.specs.Typing.{Types, IsField, HasType, HaveTypes, LegHas, LegsHave}
use Rattle.weld_check_types.specs.Notes.{AreNoted, AllAreNoted}
use Rattle.weld_horizontal.specs.Twice.{Places, item_at, items_from, items, count, type_at, with_type, with_expr, rebuilt}
use Rattle.weld_horizontal.proofs.Columns.{with_value, nth_value}
use Rattle.weld_horizontal.proofs.Legs.{nth_leg}

-- ---- types of rows

abbrev pub row_of : TypeTrees → TypeTree
row_of no_types = struct no_types
row_of (more_types t no_types) = t
row_of (more_types t (more_types s ts)) = struct (more_types t (more_types s ts))

pub field_below : (n : ℕ) (us : TypeTrees) (t : TypeTree) → IsField n us t → n < count us
field_below n no_types t f = absurd f
field_below zero (more_types u us) t f = omega arith
field_below (suc n) (more_types u us) t f = omega (arith, field_below n us t f)

-- these stand in all from a number on
pub record Within (n : ℕ) (us all : TypeTrees) : Type 0 where
  pub at : (k : ℕ) (t : TypeTree) → IsField k us t → IsField (n + k) all t

pub within_all : (all : TypeTrees) → Within 0 all all
within_all all = record { at = λ k t f. let same : k ≡ 0 + k = omega arith in subst (λ m. IsField m all t) same f }

pub within_next : (n : ℕ) (u : TypeTree) (us all : TypeTrees) → Within n (more_types u us) all → Within (suc n) us all
within_next n u us all w = record { at = λ k t f. let same : n + suc k ≡ suc n + k = omega arith in subst (λ m. IsField m all t) same (w.at (suc k) t f) }

pub within_here : (n : ℕ) (u : TypeTree) (us all : TypeTrees) → Within n (more_types u us) all → IsField n all u
within_here n u us all w = let same : n + 0 ≡ n = omega arith in subst (λ m. IsField m all u) same (w.at 0 u refl)

pub nth_field : (n : ℕ) (l : LegTree) (ls : LegTrees) → nth_leg n ls ≡ Some l → IsField n (items ls) (type_at n (items ls))
nth_field n l no_legs h = let nothing : ⊥ = cc in absurd nothing
nth_field zero l (more_legs m ls) h = refl
nth_field (suc n) l (more_legs m ls) h = nth_field n l ls h

pub nth_typed : (n : ℕ) (l : LegTree) (ls : LegTrees) (g : Types) (us : TypeTrees) → nth_leg n ls ≡ Some l → LegsHave ls g us → LegHas l g (type_at n us)
nth_typed n l no_legs g us h k = let nothing : ⊥ = cc in absurd nothing
nth_typed n l (more_legs m ls) g no_types h k = absurd k
nth_typed zero l (more_legs m ls) g (more_types u us) h k = let same : m ≡ l = cc in subst (λ i. LegHas i g u) same k.0
nth_typed (suc n) l (more_legs m ls) g (more_types u us) h k = nth_typed n l ls g us h k.1

pub with_some : (n : ℕ) (u : TypeTree) (us : TypeTrees) → HasTypes (with_type n u us)
with_some zero u us = tt
with_some (suc n) u no_types = tt
with_some (suc n) u (more_types v us) = tt

pub with_free : (n : ℕ) (u : TypeTree) (us : TypeTrees) → IsBuilderFree u → AreBuilderFree us → AreBuilderFree (with_type n u us)
with_free zero u us f h = (f, h)
with_free (suc n) u no_types f h = (f, tt)
with_free (suc n) u (more_types v us) f h = (h.0, with_free n u us f h.1)

pub type_at_free : (n : ℕ) (us : TypeTrees) → AreBuilderFree us → IsBuilderFree (type_at n us)
type_at_free n no_types h = tt
type_at_free zero (more_types u us) h = h.0
type_at_free (suc n) (more_types u us) h = type_at_free n us h.1

module _ (place : Place) (x : ℕ) where
  -- ---- types and notes

  pub item_typed : (us : TypeTrees) (n : ℕ) (u : TypeTree) (g : Types) → look_for x g ≡ Some (row_of us) → IsField n us u → HasType (item_at place x us n u) g u
  item_typed no_types n u g l f = absurd f
  item_typed (more_types t no_types) zero u g l f = l ∙ ap Some (sym f)
  item_typed (more_types t no_types) (suc n) u g l f = absurd f
  item_typed (more_types t (more_types s ts)) n u g l f = (struct (more_types t (more_types s ts)), l, (more_types t (more_types s ts), refl, f))

  pub item_noted : (us : TypeTrees) (n : ℕ) (u : TypeTree) (g : Types) → look_for x g ≡ Some (row_of us) → IsField n us u → AreNoted (item_at place x us n u) g
  item_noted no_types n u g l f = absurd f
  item_noted (more_types t no_types) zero u g l f = (u, refl, l ∙ ap Some (sym f))
  item_noted (more_types t no_types) (suc n) u g l f = absurd f
  item_noted (more_types t (more_types s ts)) n u g l f =
      let all = more_types t (more_types s ts) in ((struct all, refl, l), (u, refl, (struct all, l, (all, refl, f))))

  pub items_typed : (all : TypeTrees) (n : ℕ) (us : TypeTrees) (g : Types) → look_for x g ≡ Some (row_of all) → Within n us all → HaveTypes (items_from place x all n us) g us
  items_typed all n no_types g l w = tt
  items_typed all n (more_types u us) g l w = (item_typed all n u g l (within_here n u us all w), items_typed all (suc n) us g l (within_next n u us all w))

  pub items_noted : (all : TypeTrees) (n : ℕ) (us : TypeTrees) (g : Types) → look_for x g ≡ Some (row_of all) → Within n us all → AllAreNoted (items_from place x all n us) g
  items_noted all n no_types g l w = tt
  items_noted all n (more_types u us) g l w = (item_noted all n u g l (within_here n u us all w), items_noted all (suc n) us g l (within_next n u us all w))

  with_typed : (n : ℕ) (e : ExprTree) (es : ExprTrees) (u : TypeTree) (us : TypeTrees) (g : Types) → HasType e g u → HaveTypes es g us → HaveTypes (with_expr n e es) g (with_type n u us)
  with_typed zero e es u us g h k = (h, k)
  with_typed (suc n) e no_exprs u no_types g h k = (h, tt)
  with_typed (suc n) e no_exprs u (more_types v us) g h k = absurd k
  with_typed (suc n) e (more_exprs f es) u no_types g h k = absurd k
  with_typed (suc n) e (more_exprs f es) u (more_types v us) g h k = (k.0, with_typed n e es u us g h k.1)

  with_all_noted : (n : ℕ) (e : ExprTree) (es : ExprTrees) (g : Types) → AreNoted e g → AllAreNoted es g → AllAreNoted (with_expr n e es) g
  with_all_noted zero e es g h k = (h, k)
  with_all_noted (suc n) e no_exprs g h k = (h, tt)
  with_all_noted (suc n) e (more_exprs f es) g h k = (k.0, with_all_noted n e es g h k.1)

  pub rebuilt_typed : (us : TypeTrees) (p : Places) (g : Types) → look_for x g ≡ Some (row_of us) → AreBuilderFree us → IsField p.first us (type_at p.first us) → HasType (rebuilt place x us p) g (struct (with_type p.second (type_at p.first us) us))
  rebuilt_typed us p g l free f = (
    with_type p.second (type_at p.first us) us,
    with_typed p.second _ _ (type_at p.first us) us g (item_typed us p.first (type_at p.first us) g l f) (items_typed us 0 us g l (within_all us)),
    (with_some p.second (type_at p.first us) us, inl (with_free p.second (type_at p.first us) us (type_at_free p.first us free) free), refl),
  )

  pub rebuilt_noted : (us : TypeTrees) (p : Places) (g : Types) → look_for x g ≡ Some (row_of us) → AreBuilderFree us → IsField p.first us (type_at p.first us) → AreNoted (rebuilt place x us p) g
  rebuilt_noted us p g l free f = (
    with_all_noted p.second _ _ g (item_noted us p.first (type_at p.first us) g l f) (items_noted us 0 us g l (within_all us)),
    (struct (with_type p.second (type_at p.first us) us), refl, rebuilt_typed us p g l free f),
  )

  -- ---- what they come to

  -- the fields of a row over such items: the row itself where there is one
  abbrev pub fields_of : TypeTrees → Value → Values
  fields_of no_types w = no_values
  fields_of (more_types t no_types) w = and_value w no_values
  fields_of (more_types t (more_types s ts)) (struct_value vs) = vs
  fields_of (more_types t (more_types s ts)) _ = no_values

  nth_there : (n : ℕ) (us : TypeTrees) (u : TypeTree) (vs : Values) → IsField n us u → HaveValues us vs → value_at n vs ≡ done (nth_value n vs)
  nth_there n no_types u vs f h = absurd f
  nth_there zero (more_types t us) u no_values f h = absurd h
  nth_there zero (more_types t us) u (and_value v vs) f h = refl
  nth_there (suc n) (more_types t us) u no_values f h = absurd h
  nth_there (suc n) (more_types t us) u (and_value v vs) f h = nth_there n us u vs f h.1

  pub item_gives : (us : TypeTrees) (n : ℕ) (u : TypeTree) (env : Env) (w : Value) → look_for x env ≡ Some (plain w) → HasValue (row_of us) w → IsField n us u → eval (item_at place x us n u) env ≡ done (plain (nth_value n (fields_of us w)))
  item_gives no_types n u env w l h f = absurd f
  item_gives (more_types t no_types) zero u env w l h f = ap found l
  item_gives (more_types t no_types) (suc n) u env w l h f = absurd f
  item_gives (more_types t (more_types s ts)) n u env (number k i) l h f = absurd h
  item_gives (more_types t (more_types s ts)) n u env (list_value vs) l h f = absurd h
  item_gives (more_types t (more_types s ts)) n u env (struct_value vs) l h f =
      ap (λ m. and_then (found m) (field_of n)) l ∙ ap (map_out plain) (nth_there n (more_types t (more_types s ts)) u vs f h)
  item_gives (more_types t (more_types s ts)) n u env (dict_value es) l h f = absurd h

  -- the fields of a row of the type
  fields_fit : (us : TypeTrees) (w : Value) → HasTypes us → HasValue (row_of us) w → HaveValues us (fields_of us w)
  fields_fit no_types w some h = absurd some
  fields_fit (more_types t no_types) w some h = (h, tt)
  fields_fit (more_types t (more_types s ts)) (number k i) some h = absurd h
  fields_fit (more_types t (more_types s ts)) (list_value vs) some h = absurd h
  fields_fit (more_types t (more_types s ts)) (struct_value vs) some h = h
  fields_fit (more_types t (more_types s ts)) (dict_value es) some h = absurd h

  abbrev pub plains : Values → Things
  plains no_values = no_things
  plains (and_value v vs) = more_things (plain v) (plains vs)

  -- each comes to the value at its place
  abbrev pub Give : ExprTrees → Values → Env → Type 0
  Give no_exprs no_values env = Unit {0}
  Give no_exprs (and_value v vs) env = ⊥
  Give (more_exprs e es) no_values env = ⊥
  Give (more_exprs e es) (and_value v vs) env = (eval e env ≡ done (plain v)) × Give es vs env

  pub items_give : (all : TypeTrees) (n : ℕ) (us : TypeTrees) (vs : Values) (env : Env) (w : Value) → look_for x env ≡ Some (plain w) → HasValue (row_of all) w → Within n us all → HaveValues us vs → ((k : ℕ) → nth_value (n + k) (fields_of all w) ≡ nth_value k vs) → Give (items_from place x all n us) vs env
  items_give all n no_types no_values env w l h i k f = tt
  items_give all n no_types (and_value v vs) env w l h i k f = absurd k
  items_give all n (more_types u us) no_values env w l h i k f = absurd k
  items_give all n (more_types u us) (and_value v vs) env w l h i k f =
      let here : n + 0 ≡ n = omega arith in (
        item_gives all n u env w l h (within_here n u us all i) ∙ ap (λ m. done (plain (nth_value m (fields_of all w)))) (sym here) ∙ ap (λ y. done (plain y)) (f 0),
        items_give all (suc n) us vs env w l h (within_next n u us all i) k.1 (λ m. let same : suc n + m ≡ n + suc m = omega arith in ap (λ y. nth_value y (fields_of all w)) same ∙ f (suc m)),
      )

  with_give : (n : ℕ) (e : ExprTree) (es : ExprTrees) (v : Value) (vs : Values) (env : Env) → eval e env ≡ done (plain v) → Give es vs env → Give (with_expr n e es) (with_value n v vs) env
  with_give zero e es v vs env h k = (h, k)
  with_give (suc n) e no_exprs v no_values env h k = (h, tt)
  with_give (suc n) e no_exprs v (and_value w vs) env h k = absurd k
  with_give (suc n) e (more_exprs f es) v no_values env h k = absurd k
  with_give (suc n) e (more_exprs f es) v (and_value w vs) env h k = (k.0, with_give n e es v vs env h k.1)

  pub all_give : (es : ExprTrees) (vs : Values) (env : Env) → Give es vs env → eval_all es env ≡ done (plains vs)
  all_give no_exprs no_values env h = refl
  all_give no_exprs (and_value v vs) env h = absurd h
  all_give (more_exprs e es) no_values env h = absurd h
  all_give (more_exprs e es) (and_value v vs) env h = let k = all_give es vs env h.1 in λ i. and_then (h.0 i) (λ t. map_out (more_things t) (k i))

  pub are_plain : (vs : Values) → as_values (plains vs) ≡ done vs
  are_plain no_values = refl
  are_plain (and_value v vs) = ap (map_out (and_value v)) (are_plain vs)

  pub rebuilt_gives : (us : TypeTrees) (p : Places) (env : Env) (w : Value) → look_for x env ≡ Some (plain w) → HasTypes us → HasValue (row_of us) w → IsField p.first us (type_at p.first us) → eval (rebuilt place x us p) env ≡ done (plain (struct_value (with_value p.second (nth_value p.first (fields_of us w)) (fields_of us w))))
  rebuilt_gives us p env w l some h f =
      let fs = fields_of us w in
      let first = item_gives us p.first (type_at p.first us) env w l h f in
      let rest = items_give us 0 us fs env w l h (within_all us) (fields_fit us w some h) (λ k. let same : 0 + k ≡ k = omega arith in ap (λ y. nth_value y fs) same) in
      let vs = with_value p.second (nth_value p.first fs) fs in
      ap (λ o. and_then o (λ ts. done (struct_of ts))) (all_give _ vs env (with_give p.second _ _ (nth_value p.first fs) fs env first rest))
      ∙ ap (λ o. done (struct_from (plains vs) o)) (are_plain vs)
