-- The evaluation of an expression that has a type, in an environment of fitting things, isn't stuck and gives a thing of the type.
use Rattle.std.proofs.Common.{◌≡◌, ℕ, zero, suc, pos, Bool, true, false, if◌then◌else◌, List, [], ◌∷◌, map, Option, Some, refl, sym, subst, ◌∙◌, inl, inr, ◌⊎◌, ◌==◌}
use Rattle.std.specs.Cmp.{IsTotalOrder}
use Rattle.weld_data.specs.declared.kind.Kind.TheVariants as kinds
use Rattle.weld_data.specs.Operation.{answer_kind}
use Rattle.weld_data.specs.Value.{Value, number, list, struct as struct_value, dict as dict_value, Values, no_values, and_value, values}
use Rattle.weld_tree.specs.declared.binder.Binder.{Binder}
use Rattle.weld_tree.specs.TypeTree.{TypeTree, BuildTree, TypeTrees, scalar, vec, struct, dict, build, list as list_of, total, keyed, cells, groups, no_types, more_types}
use Rattle.weld_tree.specs.Types.{IsBuilderFree, AreBuilderFree, IsBuilder, AreBuilders, HasTypes, IsWellFormed, IsWellFormedBuild, AreWellFormed, takes, gives}
use Rattle.weld_tree.specs.ExprTree.{ExprTree, leaf, one, two, three, many, let_in, loop, iterate, ExprTrees, no_exprs, more_exprs, LegTree, whole, strided, LegTrees, no_legs, more_legs, Leaf, int, truth, chars, name, fresh, One, neg, not, cast, len, field, finish, started, Two, binary, and, or, look_up, key_exists, merge, Three, if_else, select, slice, Many, make_vec, make_struct}
use Rattle.weld_tree.specs.HasValue.{HasValue, HaveValues, AllAre}
use Rattle.weld_builders.specs.Outcome.{Outcome, done, and_then, map_out}
use Rattle.weld_builders.specs.ValueOrder.{value_cmp}
use Rattle.weld_meaning.specs.Environment.{look_for}
use Rattle.weld_meaning.specs.Thing.{Thing, plain, building, several, Things, no_things, more_things, as_value, as_values, struct_from, struct_of, thing_at, field_of}
use Rattle.weld_meaning.specs.Typing.{Types, AreFormed, truth_type, place_type, IsField, AreAll, StartHas, LeafHas, OneHas, TwoHas, ThreeHas, ManyHas, HasType, HaveTypes, LegHas, LegsHave, body_types}
use Rattle.weld_meaning.specs.ThingType.{HasThing, HaveBuilders, EnvFits}
use Rattle.weld_meaning.specs.Evaluation.{Env, found, byte_value, whole_number, elements_of, operated, looked_up, has_key, selected, sliced, negated, contrary, cast_to, length_of, value_out, on_value, on_values, on_three, chosen, merged, finished, leaf_thing, one_thing, two_thing, three_thing, many_thing, Row, number_from, run, turn_limit, with_row, eval, eval_all, eval_leg, eval_legs}
use Rattle.weld_meaning.specs.Loops.{RowsHave}
use Rattle.weld_meaning.proofs.Good.{Good, good, then_good, map_good, IsValueType, free_value_type, value_of_thing, as_value_good, value_out_good}
use Rattle.weld_meaning.proofs.ValuesGood.{truth_has, whole_number_has, wrapped_has, truth_of_good, negated_good, contrary_good, cast_good, operated_good, elements_good, length_good, look_up_good, look_key_good, has_key_good, slice_good, strided_good, selected_good, value_field_good, LegsFit, rows_good, turn_type, turns_good}
use Rattle.weld_meaning.proofs.WellFormed.{key_free, merger_free, takes_free, formed_bind, formed_body, type_formed, types_formed, row_formed}
use Rattle.weld_meaning.proofs.PartsGood.{KeyLaws, fresh_good, started_good, merge_good, result_has}

-- things of a type
abbrev pub Of : TypeTree → Thing → Type 0
Of t x = HasThing x t

-- ---- environments

pub fits_bind : (g : Types) (env : Env) (s : ℕ) (t : TypeTree) (x : Thing) → HasThing x t → EnvFits g env → EnvFits ((s, t) ∷ g) ((s, x) ∷ env)
fits_bind g env s t x h fit = record { finds = λ y u e. by (y == s) u (look_for y g) (look_for y env) (fit.finds y u) e }
  where
    by : (b : Bool) (u : TypeTree) (m : Option TypeTree) (n : Option Thing) → (m ≡ Some u → (thing : Thing) × (n ≡ Some thing) × HasThing thing u) → (if b then Some t else m) ≡ Some u → (thing : Thing) × ((if b then Some x else n) ≡ Some thing) × HasThing thing u
    by true u m n k e = let same : t ≡ u = cc in (x, refl, subst (HasThing x) same h)
    by false u m n k e = k e

pub fits_body : (g : Types) (env : Env) (b n x : Binder) (t r : TypeTree) (s : Thing) (v : Value) (i : ℕ) → HasThing s t → HasValue r v → EnvFits g env → EnvFits (body_types b n x t r g) (with_row b n x s (plain (whole_number i)) (plain v) env)
fits_body g env b n x t r s v i hs hv fit =
    fits_bind _ _ x.sym.0 r (plain v) hv (fits_bind _ _ n.sym.0 place_type (plain (whole_number i)) (whole_number_has i) (fits_bind g env b.sym.0 t s hs fit))

-- ---- the door

on_value_good : (f : Value → Outcome Value) (u t : TypeTree) (x : Thing) → IsValueType u → HasThing x u → ((v : Value) → HasValue u v → Good (HasValue t) (f v)) → Good (Of t) (on_value f x)
on_value_good f u t x free h k = map_good plain (then_good f (as_value_good u x free h) k) (λ v g. g)

on_values_good : (f : Value → Value → Outcome Value) (u v t : TypeTree) (x : Thing) {o : Outcome Thing} → IsValueType u → IsValueType v → HasThing x u → Good (Of v) o → ((a b : Value) → HasValue u a → HasValue v b → Good (HasValue t) (f a b)) → Good (Of t) (on_values f x o)
on_values_good f u v t x p q h g k =
    map_good plain (then_good _ (as_value_good u x p h) (λ a ha. then_good (f a) (value_out_good v q g) (λ b hb. k a b ha hb))) (λ w r. r)

on_three_good : (f : Value → Value → Value → Outcome Value) (u v w t : TypeTree) (x : Thing) {o p : Outcome Thing} → IsValueType u → IsValueType v → IsValueType w → HasThing x u → Good (Of v) o → Good (Of w) p → ((a b c : Value) → HasValue u a → HasValue v b → HasValue w c → Good (HasValue t) (f a b c)) → Good (Of t) (on_three f x o p)
on_three_good f u v w t x fu fv fw h g i k =
    map_good plain (then_good _ (as_value_good u x fu h) (λ a ha. then_good _ (value_out_good v fv g) (λ b hb. then_good (f a b) (value_out_good w fw i) (λ c hc. k a b c ha hb hc)))) (λ y r. r)

choose_good : {A : Type 0} (P : A → Type 0) (x : Thing) {o p : Outcome A} → HasThing x truth_type → Good P o → Good P p → Good P (chosen x o p)
choose_good P x {o} {p} h g k = then_good _ (as_value_good truth_type x tt h) (λ v hv. then_good _ (truth_of_good v hv) (λ c u. by c))
  where
    by : (c : Bool) → Good P (if c then o else p)
    by true = g
    by false = k

-- ---- node by node

bytes_have : (bs : List ℕ) → AllAre (HasValue (scalar kinds.I8)) (values (map byte_value bs))
bytes_have [] = tt
bytes_have (b ∷ bs) = (wrapped_has kinds.I8 (pos b), bytes_have bs)

-- a type that is known by an equation
at_type : {t u : TypeTree} {o : Outcome Thing} → t ≡ u → Good (Of u) o → Good (Of t) o
at_type {o = o} e h = subst (λ s. Good (Of s) o) (sym e) h

leaf_good : (l : Leaf) (g : Types) (t : TypeTree) (env : Env) → LeafHas l g t → EnvFits g env → Good (Of t) (leaf_thing l env)
leaf_good (int k x) g t env h fit = at_type h.2 (good (refl, h.1))
leaf_good (truth b) g t env h fit = at_type h (good (truth_has b))
leaf_good (chars bs) g t env h fit = at_type h (good (bytes_have bs))
leaf_good (name s) g t env h fit = let p = fit.finds s t h in subst (λ m. Good (Of t) (found m)) (sym p.1) (good p.2)
leaf_good (fresh b) g t env h fit = at_type h.2 (fresh_good b h.0 h.1)

thing_at_good : (n : ℕ) (ts : Things) (us : TypeTrees) (t : TypeTree) → HaveBuilders ts us → IsField n us t → Good (Of t) (thing_at n ts)
thing_at_good zero ts no_types t h f = absurd f
thing_at_good (suc n) ts no_types t h f = absurd f
thing_at_good zero no_things (more_types u us) t h f = absurd h
thing_at_good zero (more_things (plain v) ts) (more_types u us) t h f = absurd h
thing_at_good zero (more_things (building p) ts) (more_types u us) t h f = at_type f (good h.0)
thing_at_good zero (more_things (several ss) ts) (more_types u us) t h f = at_type f (good h.0)
thing_at_good (suc n) no_things (more_types u us) t h f = absurd h
thing_at_good (suc n) (more_things (plain v) ts) (more_types u us) t h f = absurd h
thing_at_good (suc n) (more_things (building p) ts) (more_types u us) t h f = thing_at_good n ts us t h.1 f
thing_at_good (suc n) (more_things (several ss) ts) (more_types u us) t h f = thing_at_good n ts us t h.1 f

field_good : (n : ℕ) (us : TypeTrees) (t : TypeTree) (x : Thing) → IsField n us t → HasThing x (struct us) → Good (Of t) (field_of n x)
field_good n us t (plain v) f h = map_good plain (value_field_good n us t v f h) (λ w g. g)
field_good n us t (building p) f h = absurd h
field_good n us t (several ts) f h = thing_at_good n ts us t h.1 f

finish_good : KeyLaws → (b : BuildTree) (x : Thing) → HasThing x (build b) → Good (Of (gives b)) (finished x)
finish_good laws b (plain v) h = absurd h
finish_good laws b (building p) h = good (result_has laws p b h.0 h.1)
finish_good laws b (several ts) h = absurd h

start_free : (b : BuildTree) (u : TypeTree) → IsWellFormedBuild b → StartHas b u → IsValueType u
start_free (list_of t) u w s = absurd s
start_free (total t op) u w s = subst IsValueType (sym s) (free_value_type t (merger_free t w))
start_free (keyed k t op) u w s = absurd s
start_free (cells t op) u w s = subst IsValueType (sym s) tt
start_free (groups k t) u w s = absurd s

one_good : KeyLaws → (o : One) (u t : TypeTree) (x : Thing) → OneHas o u t → HasThing x u → Good (Of t) (one_thing o x)
one_good laws neg u t x h p =
    at_type h.3 (on_value_good negated (scalar h.0) (scalar h.0) x tt (subst (HasThing x) h.2 p) (λ v g. negated_good h.0 v g))
one_good laws not u t x h p = at_type h.1 (on_value_good contrary truth_type truth_type x tt (subst (HasThing x) h.0 p) contrary_good)
one_good laws (cast k) u t x h p =
    at_type h.3 (on_value_good (cast_to k) (scalar h.0) (scalar k) x tt (subst (HasThing x) h.2 p) (λ v g. cast_good k h.0 v g))
one_good laws len u t x h p = at_type h.2 (on_value_good length_of (vec h.0) place_type x tt (subst (HasThing x) h.1 p) (length_good h.0))
one_good laws (field n) u t x h p = field_good n h.0 t x h.2 (subst (HasThing x) h.1 p)
one_good laws finish u t x h p = at_type h.2 (finish_good laws h.0 x (subst (HasThing x) h.1 p))
one_good laws (started b) u t x h p =
    at_type h.2 (then_good _ (as_value_good u x (start_free b u h.0 h.1) p) (λ v g. started_good b u v h.0 h.1 g))

merged_good : IsTotalOrder value_cmp → (b : BuildTree) (x : Thing) {o : Outcome Thing} → HasThing x (build b) → Good (Of (takes b)) o → Good (Of (build b)) (merged x o)
merged_good law b (plain v) h g = absurd h
merged_good law b (building p) h g =
    then_good _ (value_out_good (takes b) (free_value_type (takes b) (takes_free b h.0)) g) (λ v hv. map_good building (merge_good law p b v h.1 hv) (λ q hq. (h.0, hq)))
merged_good law b (several ts) h g = absurd h

-- the outcome is of another name of its type
of_type : {t u : TypeTree} {o : Outcome Thing} → t ≡ u → Good (Of t) o → Good (Of u) o
of_type {o = o} e h = subst (λ s. Good (Of s) o) e h

two_good : KeyLaws → (o : Two) (u v t : TypeTree) (x : Thing) {p : Outcome Thing} → TwoHas o u v t → IsWellFormed u → HasThing x u → Good (Of v) p → Good (Of t) (two_thing o x p)
two_good laws (binary op) u v t x h w a b =
    let k = h.0 in
    at_type h.4 (on_values_good (operated op) (scalar k) (scalar k) (scalar (answer_kind op k)) x tt tt (subst (HasThing x) h.2 a) (of_type h.3 b) (operated_good op k))
two_good laws and u v t x h w a b =
    at_type h.2 (map_good plain (choose_good (HasValue truth_type) x (subst (HasThing x) h.0 a) (value_out_good truth_type tt (of_type h.1 b)) (good (truth_has false))) (λ y g. g))
two_good laws or u v t x h w a b =
    at_type h.2 (map_good plain (choose_good (HasValue truth_type) x (subst (HasThing x) h.0 a) (good (truth_has true)) (value_out_good truth_type tt (of_type h.1 b))) (λ y g. g))
two_good laws look_up u v t x (inl h) w a b =
    on_values_good looked_up (vec t) place_type t x tt tt (subst (HasThing x) h.0 a) (of_type h.1 b) (look_up_good t)
two_good laws look_up u v t x (inr h) w a b =
    let f : IsWellFormed (dict v t) = subst IsWellFormed h w in
    on_values_good looked_up (dict v t) v t x tt (free_value_type v (key_free v f.0)) (subst (HasThing x) h a) b (λ c d p q. look_key_good v t c d p)
two_good laws key_exists u v t x h w a b =
    let f : IsWellFormed (dict v h.0) = subst IsWellFormed h.1 w in
    at_type h.2 (on_values_good has_key (dict v h.0) v truth_type x tt (free_value_type v (key_free v f.0)) (subst (HasThing x) h.1 a) b (λ c d p q. has_key_good v h.0 c d p))
two_good laws merge u v t x h w a b = at_type (h.3 ∙ h.1) (merged_good laws.total h.0 x (subst (HasThing x) h.1 a) (of_type h.2 b))

three_good : (o : Three) (u v w t : TypeTree) (x : Thing) {p q : Outcome Thing} → ThreeHas o u v w t → HasThing x u → Good (Of v) p → Good (Of w) q → Good (Of t) (three_thing o x p q)
three_good if_else u v w t x h a b c = choose_good (Of t) x (subst (HasThing x) h.0 a) (of_type h.1 b) (of_type h.2 c)
three_good select u v w t x h a b c =
    let f = free_value_type t h.3 in
    on_three_good selected truth_type t t t x tt f f (subst (HasThing x) h.0 a) (of_type h.1 b) (of_type h.2 c) (selected_good t)
three_good slice u v w t x h a b c =
    at_type (h.4 ∙ h.1) (on_three_good sliced (vec h.0) place_type place_type (vec h.0) x tt tt tt (subst (HasThing x) h.1 a) (of_type h.2 b) (of_type h.3 c) (slice_good h.0))

-- ---- vectors and structs

-- each thing is of its type
abbrev pub HaveThings : Things → TypeTrees → Type 0
HaveThings no_things no_types = Unit {0}
HaveThings no_things (more_types u us) = ⊥
HaveThings (more_things x xs) no_types = ⊥
HaveThings (more_things x xs) (more_types u us) = HasThing x u × HaveThings xs us

elements_are : (u : TypeTree) → IsBuilderFree u → (xs : Things) (us : TypeTrees) → HaveThings xs us → AreAll us u → Good (AllAre (HasValue u)) (as_values xs)
elements_are u f no_things us h a = good tt
elements_are u f (more_things x xs) no_types h a = absurd h
elements_are u f (more_things x xs) (more_types v us) h a =
    then_good _ (as_value_good u x (free_value_type u f) (subst (HasThing x) a.0 h.0)) (λ w p. map_good (and_value w) (elements_are u f xs us h.1 a.1) (λ ws ps. (p, ps)))

fields_are : (xs : Things) (us : TypeTrees) → AreBuilderFree us → HaveThings xs us → (vs : Values) × (as_values xs ≡ done vs) × HaveValues us vs
fields_are no_things no_types f h = (no_values, refl, tt)
fields_are no_things (more_types u us) f h = absurd h
fields_are (more_things x xs) no_types f h = absurd h
fields_are (more_things x xs) (more_types u us) f h =
    let p = value_of_thing u x (free_value_type u f.0) h.0 in
    let q = fields_are xs us f.1 h.1 in
    (and_value p.0 q.0, (λ i. and_then (as_value (p.1 i)) (λ v. map_out (and_value v) (q.1 i))), (p.2, q.2))

mutual
  -- no value is a builder
  pub no_builder_value : (u : TypeTree) (v : Value) → IsWellFormed u → IsBuilder u → HasValue u v → ⊥
  no_builder_value (scalar k) v w b h = b
  no_builder_value (vec t) v w b h = b
  no_builder_value (struct us) (number k x) w b h = h
  no_builder_value (struct us) (list vs) w b h = h
  no_builder_value (struct us) (struct_value vs) w b h = no_builder_values us vs w.0 w.1 b h
  no_builder_value (struct us) (dict_value es) w b h = h
  no_builder_value (dict k t) v w b h = b
  no_builder_value (build c) v w b h = h

  no_builder_values : (us : TypeTrees) (vs : Values) → HasTypes us → AreWellFormed us → AreBuilders us → HaveValues us vs → ⊥
  no_builder_values no_types vs some w b h = some
  no_builder_values (more_types u us) no_values some w b h = h
  no_builder_values (more_types u us) (and_value v vs) some w b h = no_builder_value u v w.0 b.0 h.0

builders_have : (xs : Things) (us : TypeTrees) → AreWellFormed us → AreBuilders us → HaveThings xs us → HaveBuilders xs us
builders_have no_things no_types w b h = tt
builders_have no_things (more_types u us) w b h = absurd h
builders_have (more_things x xs) no_types w b h = absurd h
builders_have (more_things (plain v) xs) (more_types u us) w b h = absurd (no_builder_value u v w.0 b.0 h.0)
builders_have (more_things (building p) xs) (more_types u us) w b h = (h.0, builders_have xs us w.1 b.1 h.1)
builders_have (more_things (several ss) xs) (more_types u us) w b h = (h.0, builders_have xs us w.1 b.1 h.1)

-- a struct whose first field is a builder is none of values
struct_of_builders : (xs : Things) (us : TypeTrees) → HasTypes us → HaveBuilders xs us → HasThing (struct_of xs) (struct us)
struct_of_builders xs no_types some h = absurd some
struct_of_builders no_things (more_types u us) some h = absurd h
struct_of_builders (more_things (plain v) xs) (more_types u us) some h = absurd h
struct_of_builders (more_things (building p) xs) (more_types u us) some h = (some, h)
struct_of_builders (more_things (several ss) xs) (more_types u us) some h = (some, h)

struct_good : (xs : Things) (us : TypeTrees) → HasTypes us → AreWellFormed us → AreBuilderFree us ⊎ AreBuilders us → HaveThings xs us → HasThing (struct_of xs) (struct us)
struct_good xs us some w (inl f) h =
    let p = fields_are xs us f h in subst (λ o. HasThing (struct_from xs o) (struct us)) (sym p.1) p.2
struct_good xs us some w (inr b) h = struct_of_builders xs us some (builders_have xs us w b h)

many_good : (o : Many) (us : TypeTrees) (t : TypeTree) (xs : Things) → ManyHas o us t → AreWellFormed us → HaveThings xs us → Good (Of t) (many_thing o xs)
many_good make_vec us t xs h w a = at_type h.4 (map_good (λ vs. plain (list vs)) (elements_are h.0 h.3 xs us a h.2) (λ vs g. g))
many_good make_struct us t xs h w a = at_type h.2 (good (struct_good xs us h.0 w h.1 a))

-- ---- loops

rows_numbered : (r : TypeTree) (n : ℕ) (vs : List Value) → AllAre (HasValue r) (values vs) → RowsHave r (number_from n vs)
rows_numbered r n [] h = tt
rows_numbered r n (v ∷ vs) h = (h.0, rows_numbered r (suc n) vs h.1)

pub run_good : (r : TypeTree) (P : Thing → Type 0) (f : Row → Thing → Outcome Thing) → ((row : Row) (s : Thing) → HasValue r row.1 → P s → Good P (f row s)) → (rows : List Row) (s : Thing) → RowsHave r rows → P s → Good P (run rows s f)
run_good r P f k [] s h p = good p
run_good r P f k (row ∷ rows) s h p = then_good _ (k row s h.0 p) (λ t q. run_good r P f k rows t h.1 q)

-- ---- the induction

mutual
  pub never_stuck : KeyLaws → (e : ExprTree) (g : Types) (t : TypeTree) (env : Env) → HasType e g t → AreFormed g → EnvFits g env → Good (Of t) (eval e env)
  never_stuck laws (leaf a l) g t env h w fit = leaf_good l g t env h fit
  never_stuck laws (one a o e) g t env h w fit =
      then_good (one_thing o) (never_stuck laws e g h.0 env h.1 w fit) (λ x p. one_good laws o h.0 t x h.2 p)
  never_stuck laws (two a o e f) g t env h w fit =
      let q = never_stuck laws f g h.1 env h.3 w fit in
      then_good _ (never_stuck laws e g h.0 env h.2 w fit) (λ x p. two_good laws o h.0 h.1 t x h.4 (type_formed e g h.0 h.2 w) p q)
  never_stuck laws (three a o e f k) g t env h w fit =
      let q = never_stuck laws f g h.1 env h.4 w fit in
      let r = never_stuck laws k g h.2 env h.5 w fit in
      then_good _ (never_stuck laws e g h.0 env h.3 w fit) (λ x p. three_good o h.0 h.1 h.2 t x h.6 p q r)
  never_stuck laws (many a o es) g t env h w fit =
      then_good (many_thing o) (all_never_stuck laws es g h.0 env h.1 w fit) (λ xs p. many_good o h.0 t xs h.2 (types_formed es g h.0 h.1 w) p)
  never_stuck laws (let_in a b e f) g t env h w fit =
      then_good _ (never_stuck laws e g h.0 env h.1 w fit) (λ x p.
      never_stuck laws f ((b.sym.0, h.0) ∷ g) t ((b.sym.0, x) ∷ env) h.3 (formed_bind g b.sym.0 h.0 (type_formed e g h.0 h.1 w) w) (fits_bind g env b.sym.0 h.0 x p fit))
  never_stuck laws (loop a ls e b n x f) g t env h w fit =
      let r = h.1 in
      let formed = formed_body b n x t r g (type_formed e g t h.4 w) (row_formed ls g h.0 r h.2 h.3 w) w in
      then_good _ (legs_never_stuck laws ls g h.0 env h.2 w fit) (λ legs p. then_good _ (rows_good h.0 r legs h.3 p) (λ rows q.
      then_good _ (never_stuck laws e g t env h.4 w fit) (λ s hs.
      run_good r (Of t) (λ row u. eval f (with_row b n x u (plain (whole_number row.0)) (plain row.1) env))
      (λ row u hv hu. never_stuck laws f (body_types b n x t r g) t _ h.9 formed (fits_body g env b n x t r u row.1 row.0 hu hv fit))
      (number_from 0 rows) s (rows_numbered r 0 rows q) hs)))
  never_stuck laws (iterate a e b f) g t env h w fit =
      let free = free_value_type t h.1 in
      let formed = formed_bind g b.sym.0 t (type_formed e g t h.0 w) w in
      then_good _ (value_out_good t free (never_stuck laws e g t env h.0 w fit)) (λ v p.
      map_good plain (turns_good t (λ u. value_out (eval f ((b.sym.0, plain u) ∷ env)))
      (λ u q. value_out_good (turn_type t) (h.1, (tt, tt)) (never_stuck laws f ((b.sym.0, t) ∷ g) (turn_type t) ((b.sym.0, plain u) ∷ env) h.3 formed (fits_bind g env b.sym.0 t (plain u) q fit)))
      turn_limit v p) (λ u q. q))

  all_never_stuck : KeyLaws → (es : ExprTrees) (g : Types) (us : TypeTrees) (env : Env) → HaveTypes es g us → AreFormed g → EnvFits g env → Good (λ xs. HaveThings xs us) (eval_all es env)
  all_never_stuck laws no_exprs g no_types env h w fit = good tt
  all_never_stuck laws no_exprs g (more_types u us) env h w fit = absurd h
  all_never_stuck laws (more_exprs e es) g no_types env h w fit = absurd h
  all_never_stuck laws (more_exprs e es) g (more_types u us) env h w fit =
      then_good _ (never_stuck laws e g u env h.0 w fit) (λ x p. map_good (more_things x) (all_never_stuck laws es g us env h.1 w fit) (λ xs ps. (p, ps)))

  leg_never_stuck : KeyLaws → (l : LegTree) (g : Types) (u : TypeTree) (env : Env) → LegHas l g u → AreFormed g → EnvFits g env → Good (λ vs. AllAre (HasValue u) (values vs)) (eval_leg l env)
  leg_never_stuck laws (whole e) g u env h w fit =
      then_good elements_of (value_out_good (vec u) tt (never_stuck laws e g (vec u) env h w fit)) (λ v p. elements_good u v p)
  leg_never_stuck laws (strided e f k i) g u env h w fit =
      let q = never_stuck laws f g place_type env h.1 w fit in
      let r = never_stuck laws k g place_type env h.2 w fit in
      let s = never_stuck laws i g place_type env h.3 w fit in
      then_good _ (value_out_good (vec u) tt (never_stuck laws e g (vec u) env h.0 w fit)) (λ v p.
      then_good _ (value_out_good place_type tt q) (λ from a. then_good _ (value_out_good place_type tt r) (λ to b. then_good _ (value_out_good place_type tt s) (λ d c.
      strided_good u v from to d p a b c))))

  legs_never_stuck : KeyLaws → (ls : LegTrees) (g : Types) (us : TypeTrees) (env : Env) → LegsHave ls g us → AreFormed g → EnvFits g env → Good (LegsFit us) (eval_legs ls env)
  legs_never_stuck laws no_legs g no_types env h w fit = good tt
  legs_never_stuck laws no_legs g (more_types u us) env h w fit = absurd h
  legs_never_stuck laws (more_legs l ls) g no_types env h w fit = absurd h
  legs_never_stuck laws (more_legs l ls) g (more_types u us) env h w fit =
      then_good _ (leg_never_stuck laws l g u env h.0 w fit) (λ vs p. map_good (λ rest. vs ∷ rest) (legs_never_stuck laws ls g us env h.1 w fit) (λ rest q. (p, q)))
