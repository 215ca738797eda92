-- Outcomes that aren't stuck, and what is known of their results.
use Rattle.std.proofs.Common.{◌≡◌, ℤ, refl, sym, subst}
use Rattle.weld_data.specs.declared.kind.Kind.{Kind}
use Rattle.weld_data.specs.Kind.{InRange}
use Rattle.weld_data.specs.Value.{Value, number, list, struct, dict, Values}
use Rattle.weld_tree.specs.TypeTree.{TypeTree, TypeTrees, scalar, vec, struct as tuple, dict as mapping, build, no_types, more_types}
use Rattle.weld_tree.specs.Types.{IsBuilderFree, AreBuilderFree, HasTypes}
use Rattle.weld_tree.specs.HasValue.{HasValue, AllAre, IsListOf, IsStructOf}
use Rattle.weld_builders.specs.Outcome.{Outcome, done, fault, stuck, and_then, map_out}
use Rattle.weld_builders.specs.Part.{Part}
use Rattle.weld_meaning.specs.Thing.{Thing, plain, building, several, Things, no_things, more_things, as_value}
use Rattle.weld_meaning.specs.Evaluation.{value_out}
use Rattle.weld_meaning.specs.Meaning.{GivesOrFaults}
use Rattle.weld_meaning.specs.ThingType.{HasThing, HaveBuilders}

-- the outcome isn't stuck, and where it is done its result has the property
pub record Good {A : Type 0} (P : A → Type 0) (o : Outcome A) : Type 0 where
  pub fits : GivesOrFaults P o

pub good : {A : Type 0} {P : A → Type 0} {x : A} → P x → Good P (done x)
good h = record { fits = h }

pub good_fault : {A : Type 0} {P : A → Type 0} → Good P fault
good_fault = record { fits = tt }

then_fits : {A B : Type 0} (P : A → Type 0) (Q : B → Type 0) (o : Outcome A) (f : A → Outcome B) → GivesOrFaults P o → ((x : A) → P x → Good Q (f x)) → Good Q (and_then o f)
then_fits P Q (done x) f h k = k x h
then_fits P Q fault f h k = good_fault
then_fits P Q stuck f h k = absurd h

pub then_good : {A B : Type 0} {P : A → Type 0} {Q : B → Type 0} {o : Outcome A} (f : A → Outcome B) → Good P o → ((x : A) → P x → Good Q (f x)) → Good Q (and_then o f)
then_good {P = P} {Q = Q} {o = o} f h k = then_fits P Q o f h.fits k

map_fits : {A B : Type 0} (P : A → Type 0) (Q : B → Type 0) (f : A → B) (o : Outcome A) → GivesOrFaults P o → ((x : A) → P x → Q (f x)) → Good Q (map_out f o)
map_fits P Q f (done x) h k = good (k x h)
map_fits P Q f fault h k = good_fault
map_fits P Q f stuck h k = absurd h

pub map_good : {A B : Type 0} {P : A → Type 0} {Q : B → Type 0} {o : Outcome A} (f : A → B) → Good P o → ((x : A) → P x → Q (f x)) → Good Q (map_out f o)
map_good {P = P} {Q = Q} {o = o} f h k = map_fits P Q f o h.fits k

weaken_fits : {A : Type 0} (P Q : A → Type 0) (o : Outcome A) → GivesOrFaults P o → ((x : A) → P x → Q x) → Good Q o
weaken_fits P Q (done x) h k = good (k x h)
weaken_fits P Q fault h k = good_fault
weaken_fits P Q stuck h k = absurd h

pub weaken_good : {A : Type 0} {P Q : A → Type 0} {o : Outcome A} → Good P o → ((x : A) → P x → Q x) → Good Q o
weaken_good {P = P} {Q = Q} {o = o} h k = weaken_fits P Q o h.fits k

-- ---- values of a type, by what they are

pub by_number : (C : Value → Type 0) (k : Kind) (v : Value) → HasValue (scalar k) v → ((x : ℤ) → InRange k x → C (number k x)) → C v
by_number C k (number m x) h c = subst (λ j. C (number j x)) (sym h.0) (c x h.1)
by_number C k (list vs) h c = absurd h
by_number C k (struct vs) h c = absurd h
by_number C k (dict es) h c = absurd h

pub by_list : (C : Value → Type 0) (P : Value → Type 0) (v : Value) → IsListOf P v → ((vs : Values) → AllAre P vs → C (list vs)) → C v
by_list C P (number m x) h c = absurd h
by_list C P (list vs) h c = c vs h
by_list C P (struct vs) h c = absurd h
by_list C P (dict es) h c = absurd h

pub by_struct : (C : Value → Type 0) (P : Values → Type 0) (v : Value) → IsStructOf P v → ((vs : Values) → P vs → C (struct vs)) → C v
by_struct C P (number m x) h c = absurd h
by_struct C P (list vs) h c = absurd h
by_struct C P (struct vs) h c = c vs h
by_struct C P (dict es) h c = absurd h

-- ---- things of most types are values

-- things of the type are values
abbrev pub IsValueType : TypeTree → Type 0
IsValueType (scalar k) = Unit {0}
IsValueType (vec t) = Unit {0}
IsValueType (tuple us) = AreBuilderFree us
IsValueType (mapping k v) = Unit {0}
IsValueType (build b) = ⊥

pub free_value_type : (t : TypeTree) → IsBuilderFree t → IsValueType t
free_value_type (scalar k) f = tt
free_value_type (vec t) f = tt
free_value_type (tuple us) f = f
free_value_type (mapping k v) f = tt
free_value_type (build b) f = f

not_building : (p : Part) (t : TypeTree) → IsValueType t → HasThing (building p) t → ⊥
not_building p (scalar k) f h = h
not_building p (vec t) f h = h
not_building p (tuple ts) f h = h
not_building p (mapping k v) f h = h
not_building p (build b) f h = f

mutual
  not_several : (ts : Things) (t : TypeTree) → IsValueType t → HasThing (several ts) t → ⊥
  not_several ts (scalar k) f h = h
  not_several ts (vec t) f h = h
  not_several ts (tuple us) f h = not_builders ts us f h.0 h.1
  not_several ts (mapping k v) f h = h
  not_several ts (build b) f h = h

  not_builders : (ts : Things) (us : TypeTrees) → AreBuilderFree us → HasTypes us → HaveBuilders ts us → ⊥
  not_builders ts no_types f some h = some
  not_builders no_things (more_types u us) f some h = h
  not_builders (more_things (plain v) ts) (more_types u us) f some h = h
  not_builders (more_things (building p) ts) (more_types u us) f some h = not_building p u (free_value_type u f.0) h.0
  not_builders (more_things (several ss) ts) (more_types u us) f some h = not_several ss u (free_value_type u f.0) h.0

pub value_of_thing : (t : TypeTree) (x : Thing) → IsValueType t → HasThing x t → (v : Value) × (x ≡ plain v) × HasValue t v
value_of_thing t (plain v) f h = (v, refl, h)
value_of_thing t (building p) f h = absurd (not_building p t f h)
value_of_thing t (several ts) f h = absurd (not_several ts t f h)

pub as_value_good : (t : TypeTree) (x : Thing) → IsValueType t → HasThing x t → Good (HasValue t) (as_value x)
as_value_good t (plain v) f h = good h
as_value_good t (building p) f h = absurd (not_building p t f h)
as_value_good t (several ts) f h = absurd (not_several ts t f h)

pub value_out_good : (t : TypeTree) {o : Outcome Thing} → IsValueType t → Good (λ x. HasThing x t) o → Good (HasValue t) (value_out o)
value_out_good t f h = then_good as_value h (λ x g. as_value_good t x f g)
