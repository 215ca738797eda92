-- A loop gives its builder back in the shape that it had: as many cells, and the same operators and kinds.
use Rattle.std.proofs.Common.{◌≡◌, ℕ, zero, suc, ℤ, pos, negsuc, Bool, true, false, if◌then◌else◌, List, [], ◌∷◌, length, slice_get, slice_set, Option, Some, None, refl, ap, sym, subst, ◌∙◌, ◌==◌}
use Rattle.weld_data.specs.declared.kind.Kind.{Kind}
use Rattle.weld_data.specs.declared.op.MergeOp.{MergeOp}
use Rattle.weld_data.specs.Value.{Value, Values}
use Rattle.weld_tree.specs.declared.binder.Binder.{Binder}
use Rattle.weld_tree.specs.ExprTree.{ExprTree, leaf, one, two, three, many, let_in, loop, iterate, ExprTrees, no_exprs, more_exprs, Leaf, int, truth, chars, name, fresh, One, neg, not, cast, len, field, finish, started, Two, binary, and, or, look_up, key_exists, merge, Three, if_else, select, slice, Many, make_vec, make_struct}
use Rattle.weld_builders.specs.Outcome.{Outcome, done, fault, stuck, and_then, map_out, or_fault}
use Rattle.weld_builders.specs.Part.{Part, Totals, list_part, total_part, totals_part, totals_shape, kinds_of, merge_totals, as_fields, cells_part, keyed_part, groups_part, cells_shape, shape_of, merge_cell, merge_part, as_number, as_pair}
use Rattle.weld_meaning.specs.Environment.{Named, look_for}
use Rattle.weld_meaning.specs.Thing.{Thing, plain, building, several, Things, no_things, more_things, as_value, as_values, struct_from, struct_of, thing_at, value_field, field_of, nothing, fields_of, first_of, rest_of}
use Rattle.weld_meaning.specs.Evaluation.{Env, found, value_out, truth_of, merged, leaf_thing, one_thing, two_thing, three_thing, many_thing, chosen, Row, number_from, rows_of, run, with_row, whole_number, eval, eval_all, eval_legs}
use Rattle.weld_meaning.specs.Origin.{Origin, value, made, own, outer, named, struct, Origins, no_origins, more_origins, are_values, struct_origin, known_origin, origin_of_name, leaf_origin, one_origin, two_origin, three_origin, many_origin, origin, origins, own_paths, outside, in_body}
use Rattle.weld_meaning.specs.Linear.{IsSeen, LeafKeeps, ThreeKeeps, Keeps, AllKeep}
use Rattle.weld_meaning.proofs.Joining.{nth}
use Rattle.weld_meaning.proofs.Tracing.{same_origins}
use Rattle.weld_meaning.proofs.Before.{before, all_before, before-field_origin, before-own_paths, HasNone, HaveNone, none_within, none_from_within, origin_outside}

-- ---- what holds of a result, where there is one

abbrev pub Holds : {A : Type 0} → (A → Type 0) → Outcome A → Type 0
Holds P (done x) = P x
Holds P fault = Unit {0}
Holds P stuck = Unit {0}

-- where the outcome is done its result has the property
pub record Ends {A : Type 0} (P : A → Type 0) (o : Outcome A) : Type 0 where
  pub holds : Holds P o

ends : {A : Type 0} {P : A → Type 0} {x : A} → P x → Ends P (done x)
ends h = record { holds = h }

anyhow_holds : {A : Type 0} (P : A → Type 0) (o : Outcome A) → ((x : A) → P x) → Holds P o
anyhow_holds P (done x) h = h x
anyhow_holds P fault h = tt
anyhow_holds P stuck h = tt

anyhow : {A : Type 0} {P : A → Type 0} (o : Outcome A) → ((x : A) → P x) → Ends P o
anyhow {P = P} o h = record { holds = anyhow_holds P o h }

then_holds : {A B : Type 0} (P : A → Type 0) (Q : B → Type 0) (o : Outcome A) (f : A → Outcome B) → Holds P o → ((x : A) → P x → Ends Q (f x)) → Ends Q (and_then o f)
then_holds P Q (done x) f h k = k x h
then_holds P Q fault f h k = record { holds = tt }
then_holds P Q stuck f h k = record { holds = tt }

then_ends : {A B : Type 0} {P : A → Type 0} {Q : B → Type 0} {o : Outcome A} (f : A → Outcome B) → Ends P o → ((x : A) → P x → Ends Q (f x)) → Ends Q (and_then o f)
then_ends {P = P} {Q = Q} {o = o} f h k = then_holds P Q o f h.holds k

map_holds : {A B : Type 0} (P : A → Type 0) (Q : B → Type 0) (f : A → B) (o : Outcome A) → Holds P o → ((x : A) → P x → Q (f x)) → Ends Q (map_out f o)
map_holds P Q f (done x) h k = ends (k x h)
map_holds P Q f fault h k = record { holds = tt }
map_holds P Q f stuck h k = record { holds = tt }

map_ends : {A B : Type 0} {P : A → Type 0} {Q : B → Type 0} {o : Outcome A} (f : A → B) → Ends P o → ((x : A) → P x → Q (f x)) → Ends Q (map_out f o)
map_ends {P = P} {Q = Q} {o = o} f h k = map_holds P Q f o h.holds k

-- whatever came before
after_anything : {A B : Type 0} {Q : B → Type 0} (o : Outcome A) (f : A → Outcome B) → ((x : A) → Ends Q (f x)) → Ends Q (and_then o f)
after_anything o f k = then_ends {P = λ x. Unit {0}} f (anyhow o (λ x. tt)) (λ x u. k x)

-- ---- a merge keeps the shape

length-slice_set : (xs : List ℤ) (i : ℕ) (z : ℤ) → length (slice_set xs i z) ≡ length xs
length-slice_set [] i z = refl
length-slice_set (x ∷ xs) zero z = refl
length-slice_set (x ∷ xs) (suc i) z = ap suc (length-slice_set xs i z)

cell_keeps : (op : MergeOp) (k : Kind) (xs : List ℤ) (i y : ℤ) → Ends (λ ys. length ys ≡ length xs) (merge_cell op k xs i y)
cell_keeps op k xs (pos i) y = map_ends {P = λ x. Unit {0}} _ (anyhow (or_fault (slice_get xs i)) (λ x. tt)) (λ x u. length-slice_set xs i _)
cell_keeps op k xs (negsuc i) y = record { holds = tt }

totals_keep : (op : MergeOp) (xs : Totals) (ys : List ℤ) → Ends (λ zs. kinds_of zs ≡ kinds_of xs) (merge_totals op xs ys)
totals_keep op [] [] = ends refl
totals_keep op [] (y ∷ ys) = record { holds = tt }
totals_keep op (x ∷ xs) [] = record { holds = tt }
totals_keep op (x ∷ xs) (y ∷ ys) = map_ends _ (totals_keep op xs ys) (λ zs h i. x.0 ∷ h i)

merge_keeps : (p : Part) (v : Value) → Ends (λ q. shape_of q ≡ shape_of p) (merge_part p v)
merge_keeps (list_part vs) v = ends refl
merge_keeps (total_part op k x) v = map_ends {P = λ y. Unit {0}} _ (anyhow (as_number v) (λ y. tt)) (λ y u. refl)
merge_keeps (totals_part op xs) v =
    after_anything (as_fields v) _ (λ ys. map_ends (totals_part op) (totals_keep op xs ys) (λ zs h. ap (totals_shape op) h))
merge_keeps (cells_part op k xs) v =
    after_anything (as_pair v) _ (λ e. after_anything (as_number e.0) _ (λ i. after_anything (as_number e.1) _ (λ y. map_ends (cells_part op k) (cell_keeps op k xs i y) (λ ys h. ap (cells_shape op k) h))))
merge_keeps (keyed_part op k m) v =
    after_anything (as_pair v) _ (λ e. map_ends {P = λ y. Unit {0}} _ (anyhow (as_number e.1) (λ y. tt)) (λ y u. refl))
merge_keeps (groups_part m) v = map_ends {P = λ e. Unit {0}} _ (anyhow (as_pair v) (λ e. tt)) (λ e u. refl)

-- ---- shapes of things

abbrev pub ShapedPart : Thing → Part → Type 0
ShapedPart (plain v) d = Unit {0}
ShapedPart (building q) d = shape_of d ≡ shape_of q
ShapedPart (several ss) d = Unit {0}

-- the second has the shape of the first, where this is a builder
abbrev mutual
  pub Shaped : Thing → Thing → Type 0
  Shaped s (plain v) = Unit {0}
  Shaped s (building d) = ShapedPart s d
  Shaped s (several ds) = AllShaped (fields_of s) ds

  pub AllShaped : Things → Things → Type 0
  AllShaped ss no_things = Unit {0}
  AllShaped ss (more_things d ds) = Shaped (first_of ss) d × AllShaped (rest_of ss) ds

mutual
  shaped_nothing : (t : Thing) → Shaped nothing t
  shaped_nothing (plain v) = tt
  shaped_nothing (building d) = tt
  shaped_nothing (several ds) = all_shaped_nothing ds

  all_shaped_nothing : (ts : Things) → AllShaped no_things ts
  all_shaped_nothing no_things = tt
  all_shaped_nothing (more_things t ts) = (shaped_nothing t, all_shaped_nothing ts)

mutual
  shaped_none : (s t : Thing) (o : Origin) → HasNone o → Shaped (before s o) t
  shaped_none s t value h = shaped_nothing t
  shaped_none s t made h = absurd h
  shaped_none s t (own p) h = absurd h
  shaped_none s t outer h = absurd h
  shaped_none s t (named x p) h = absurd h
  shaped_none s (plain v) (struct os) h = tt
  shaped_none s (building d) (struct os) h = tt
  shaped_none s (several ds) (struct os) h = all_shaped_none s ds os h

  all_shaped_none : (s : Thing) (ts : Things) (os : Origins) → HaveNone os → AllShaped (all_before s os) ts
  all_shaped_none s ts no_origins h = all_shaped_nothing ts
  all_shaped_none s no_things (more_origins o os) h = tt
  all_shaped_none s (more_things t ts) (more_origins o os) h = (shaped_none s t o h.0, all_shaped_none s ts os h.1)

-- each name that is seen stands for a thing of the shape of what stands before its origin
pub record EnvShaped (g : Named Origin) (s : Thing) (env : Env) : Type 0 where
  pub shaped : (x : ℕ) → IsSeen (origin_of_name x g) → (t : Thing) → look_for x env ≡ Some t → Shaped (before s (origin_of_name x g)) t

pub shaped_bind : (g : Named Origin) (s : Thing) (env : Env) (x : ℕ) (o : Origin) (t : Thing) → Shaped (before s o) t → EnvShaped g s env → EnvShaped ((x, o) ∷ g) s ((x, t) ∷ env)
shaped_bind g s env x o t h n = record { shaped = λ y. by (y == x) (look_for y g) (look_for y env) (n.shaped y) }
  where
    by : (b : Bool) (p : Option Origin) (m : Option Thing) → (IsSeen (known_origin p) → (u : Thing) → m ≡ Some u → Shaped (before s (known_origin p)) u) → IsSeen (known_origin (if b then Some o else p)) → (u : Thing) → (if b then Some t else m) ≡ Some u → Shaped (before s (known_origin (if b then Some o else p))) u
    by true p m k seen u e = let same : t ≡ u = cc in subst (Shaped (before s o)) same h
    by false p m k seen u e = k seen u e

pub shaped_outside : (g : Named Origin) (s : Thing) (env : Env) → EnvShaped (outside g) s env
shaped_outside g s env = record {
  shaped = λ x seen t e.
      let none = none_within (origin_of_name x g) (subst IsSeen (origin_outside x g) seen) in
      subst (λ o. Shaped (before s o) t) (sym (origin_outside x g)) (shaped_none s t _ (none_from_within (origin_of_name x g) none));
}

-- ---- node by node

-- the result has the shape of what stands before the origin
abbrev Of : Thing → Origin → Thing → Type 0
Of s o t = Shaped (before s o) t

a_value : (s : Thing) (o : Outcome Thing) → Ends (Of s value) o
a_value s o = anyhow o shaped_nothing

found_ends : (P : Thing → Type 0) (m : Option Thing) → ((t : Thing) → m ≡ Some t → P t) → Ends P (found m)
found_ends P (Some t) h = ends (h t refl)
found_ends P None h = record { holds = tt }

leaf_shaped : (l : Leaf) (g : Named Origin) (s : Thing) (env : Env) → LeafKeeps l g → EnvShaped g s env → Ends (Of s (leaf_origin l g)) (leaf_thing l env)
leaf_shaped (int k x) g s env h n = a_value s _
leaf_shaped (truth b) g s env h n = a_value s _
leaf_shaped (chars bs) g s env h n = a_value s _
leaf_shaped (name x) g s env h n = found_ends (Of s (origin_of_name x g)) (look_for x env) (n.shaped x h)
leaf_shaped (fresh b) g s env h n = a_value s _

thing_at_shaped : (n : ℕ) (ss ts : Things) → AllShaped ss ts → Ends (Shaped (nth n ss)) (thing_at n ts)
thing_at_shaped zero ss no_things h = record { holds = tt }
thing_at_shaped zero ss (more_things t ts) h = ends h.0
thing_at_shaped (suc n) ss no_things h = record { holds = tt }
thing_at_shaped (suc n) ss (more_things t ts) h = thing_at_shaped n (rest_of ss) ts h.1

field_shaped : (n : ℕ) (s t : Thing) → Shaped s t → Ends (Shaped (nth n (fields_of s))) (field_of n t)
field_shaped n s (plain v) h = map_ends {P = λ w. Unit {0}} plain (anyhow (value_field n v) (λ w. tt)) (λ w u. tt)
field_shaped n s (building d) h = record { holds = tt }
field_shaped n s (several ds) h = thing_at_shaped n (fields_of s) ds h

one_shaped : (k : One) (o : Origin) (s t : Thing) → Of s o t → Ends (Of s (one_origin k o)) (one_thing k t)
one_shaped neg o s t h = a_value s _
one_shaped not o s t h = a_value s _
one_shaped (cast k) o s t h = a_value s _
one_shaped len o s t h = a_value s _
one_shaped (field n) o s t h =
    subst (λ u. Ends (Shaped u) (field_of n t)) (sym (before-field_origin s n o)) (field_shaped n (before s o) t h)
one_shaped finish o s t h = a_value s _
one_shaped (started b) o s t h = a_value s _

part_keeps : (s : Thing) (d : Part) (v : Value) → ShapedPart s d → Ends (ShapedPart s) (merge_part d v)
part_keeps (plain w) d v h = anyhow (merge_part d v) (λ q. tt)
part_keeps (building p) d v h = record { holds = by (merge_part d v) (merge_keeps d v).holds }
  where
    by : (o : Outcome Part) → Holds (λ q. shape_of q ≡ shape_of d) o → Holds (ShapedPart (building p)) o
    by (done q) g = g ∙ h
    by fault g = tt
    by stuck g = tt
part_keeps (several ss) d v h = anyhow (merge_part d v) (λ q. tt)

merged_shaped : (s t : Thing) (o : Outcome Thing) → Shaped s t → Ends (Shaped s) (merged t o)
merged_shaped s (plain v) o h = record { holds = tt }
merged_shaped s (building d) o h = after_anything (value_out o) _ (λ v. map_ends building (part_keeps s d v h) (λ q g. g))
merged_shaped s (several ds) o h = record { holds = tt }

two_shaped : (k : Two) (o : Origin) (s t : Thing) (p : Outcome Thing) → Of s o t → Ends (Of s (two_origin k o)) (two_thing k t p)
two_shaped (binary op) o s t p h = a_value s _
two_shaped and o s t p h = a_value s _
two_shaped or o s t p h = a_value s _
two_shaped look_up o s t p h = a_value s _
two_shaped key_exists o s t p h = a_value s _
two_shaped merge o s t p h = merged_shaped (before s o) t p h

chosen_ends : (P : Thing → Type 0) (t : Thing) (o p : Outcome Thing) → Ends P o → Ends P p → Ends P (chosen t o p)
chosen_ends P t o p h g = after_anything (as_value t) _ (λ v. after_anything (truth_of v) _ by)
  where
    by : (c : Bool) → Ends P (if c then o else p)
    by true = h
    by false = g

three_shaped : (k : Three) (e f : ExprTree) (g : Named Origin) (s t : Thing) (o p : Outcome Thing) → ThreeKeeps k e f g → Ends (Of s (origin e g)) o → Ends (Of s (origin f g)) p → Ends (Of s (three_origin k (origin e g))) (three_thing k t o p)
three_shaped if_else e f g s t o p h a b =
    chosen_ends (Of s (origin e g)) t o p a (subst (λ r. Ends (Of s r) p) (sym (same_origins e f g h.same)) b)
three_shaped select e f g s t o p h a b = a_value s _
three_shaped slice e f g s t o p h a b = a_value s _

struct_shaped : (s : Thing) (os : Origins) (ts : Things) → AllShaped (all_before s os) ts → Of s (struct_origin os) (struct_of ts)
struct_shaped s os ts h = by (are_values os) (as_values ts)
  where
    by : (b : Bool) (o : Outcome Values) → Of s (if b then value else struct os) (struct_from ts o)
    by true o = shaped_nothing (struct_from ts o)
    by false (done vs) = tt
    by false fault = h
    by false stuck = h

many_shaped : (k : Many) (os : Origins) (s : Thing) (ts : Things) → AllShaped (all_before s os) ts → Ends (Of s (many_origin k os)) (many_thing k ts)
many_shaped make_vec os s ts h = a_value s _
many_shaped make_struct os s ts h = ends (struct_shaped s os ts h)

pub run_shaped : (P : Thing → Type 0) (f : Row → Thing → Outcome Thing) → ((r : Row) (t : Thing) → P t → Ends P (f r t)) → (rows : List Row) (t : Thing) → P t → Ends P (run rows t f)
run_shaped P f h [] t p = ends p
run_shaped P f h (r ∷ rs) t p = then_ends _ (h r t p) (λ u q. run_shaped P f h rs u q)

-- ---- the induction

-- in the body of a loop whose builder has the shape of what stands before its origin
pub shaped_in_body : (g : Named Origin) (s r : Thing) (b n x : Binder) (o : Origin) (t i row : Thing) (env : Env) → before r (own_paths o) ≡ s → Shaped s t → EnvShaped (in_body b n x o g) r (with_row b n x t i row env)
shaped_in_body g s r b n x o t i row env e h =
    shaped_bind _ r _ x.sym.0 value row (shaped_nothing row) (shaped_bind _ r _ n.sym.0 value i (shaped_nothing i) (shaped_bind _ r _ b.sym.0 (own_paths o) t (subst (λ u. Shaped u t) (sym e) h) (shaped_outside g r env)))

mutual
  pub keeps_shape : (e : ExprTree) (g : Named Origin) (s : Thing) (env : Env) → Keeps e g → EnvShaped g s env → Ends (Of s (origin e g)) (eval e env)
  keeps_shape (leaf a l) g s env h n = leaf_shaped l g s env h n
  keeps_shape (one a k e) g s env h n = then_ends _ (keeps_shape e g s env h.0 n) (λ t p. one_shaped k (origin e g) s t p)
  keeps_shape (two a k e f) g s env h n =
      then_ends _ (keeps_shape e g s env h.0 n) (λ t p. two_shaped k (origin e g) s t (eval f env) p)
  keeps_shape (three a k c e f) g s env h n =
      let p = keeps_shape e g s env h.1 n in
      let q = keeps_shape f g s env h.2 n in
      after_anything (eval c env) _ (λ t. three_shaped k e f g s t (eval e env) (eval f env) h.3 p q)
  keeps_shape (many a k es) g s env h n = then_ends _ (keep_shapes es g s env h n) (λ ts p. many_shaped k (origins es g) s ts p)
  keeps_shape (let_in a b e f) g s env h n =
      then_ends _ (keeps_shape e g s env h.0 n) (λ t p. keeps_shape f ((b.sym.0, origin e g) ∷ g) s ((b.sym.0, t) ∷ env) h.1 (shaped_bind g s env b.sym.0 (origin e g) t p n))
  keeps_shape (loop a ls e b m x f) g s env h n =
      let o = origin e g in
      let closed = before-own_paths s o in
      let step : (r : Row) (t : Thing) → Of s o t → Ends (Of s o) (eval f (with_row b m x t (plain (whole_number r.0)) (plain r.1) env)) =
      λ r t p. subst (λ u. Ends (Shaped u) (eval f (with_row b m x t (plain (whole_number r.0)) (plain r.1) env))) (ap (before (before s o)) h.3 ∙ closed)
      (keeps_shape f (in_body b m x o g) (before s o) _ h.2 (shaped_in_body g (before s o) (before s o) b m x o t (plain (whole_number r.0)) (plain r.1) env closed p)) in
      let start = keeps_shape e g s env h.1 n in
      after_anything (eval_legs ls env) _ (λ legs. after_anything (rows_of legs) _ (λ rows. then_ends _ start (λ t p. run_shaped (Of s o) (λ r u. eval f (with_row b m x u (plain (whole_number r.0)) (plain r.1) env)) step (number_from 0 rows) t p)))
  keeps_shape (iterate a e b f) g s env h n = a_value s _

  keep_shapes : (es : ExprTrees) (g : Named Origin) (s : Thing) (env : Env) → AllKeep es g → EnvShaped g s env → Ends (AllShaped (all_before s (origins es g))) (eval_all es env)
  keep_shapes no_exprs g s env h n = ends tt
  keep_shapes (more_exprs e es) g s env h n =
      then_ends _ (keeps_shape e g s env h.0 n) (λ t p. map_ends (more_things t) (keep_shapes es g s env h.1 n) (λ ts q. (p, q)))
