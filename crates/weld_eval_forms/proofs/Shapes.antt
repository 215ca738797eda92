-- What things are that a form takes, by the types that they have.
use Rattle.std.proofs.Common.{◌≡◌, ℕ, zero, suc, ◌<◌, length, sym, subst, arith}
use Rattle.weld_data.specs.declared.kind.Kind.{Kind}
use Rattle.weld_data.specs.Kind.{IsInteger as IsIntegerKind}
use Rattle.weld_data.specs.Order.{IsNumber}
use Rattle.weld_data.specs.Value.{Value, number, list, struct, dict, Values, no_values, and_value, list_of_values}
use Rattle.weld_tree.specs.TypeTree.{TypeTree, TypeTrees, scalar, vec, struct as tuple, no_types, more_types}
use Rattle.weld_tree.specs.ExprTree.{neg, not, cast, len, field}
use Rattle.weld_tree.specs.HasValue.{HasValue, HaveValues}
use Rattle.weld_meaning.specs.Thing.{Thing, plain, building, several, Things, no_things, more_things}
use Rattle.weld_meaning.specs.ThingType.{HasThing, HaveBuilders}
use Rattle.weld_meaning.specs.Typing.{IsField}
use Rattle.weld_builders.specs.Part.{Part}
use Rattle.weld_meaning.proofs.Good.{IsValueType, value_of_thing}
use Rattle.weld_eval.specs.Fits.{IsIntegerNumber, IsTruth, IsList, HasField}
use Rattle.weld_eval.specs.Takes.{OneTakes, IsPlain, HasThingAt}

-- a thing of a type of values is a value of it
pub plain_of_type : (t : TypeTree) (x : Thing) → IsValueType t → HasThing x t → IsPlain x
plain_of_type t x f h = let p = value_of_thing t x f h in subst IsPlain (sym p.1) tt

pub value_has : (t : TypeTree) (x : Thing) (v : Value) → HasThing x t → x ≡ plain v → HasValue t v
value_has t x v h e = subst (λ y. HasThing y t) e h

-- ---- one part

pub number_of_kind : (k : Kind) (v : Value) → HasValue (scalar k) v → IsNumber v
number_of_kind k (number m x) h = tt
number_of_kind k (list vs) h = absurd h
number_of_kind k (struct vs) h = absurd h
number_of_kind k (dict es) h = absurd h

pub list_of_type : (t : TypeTree) (v : Value) → HasValue (vec t) v → IsList v
list_of_type t (number m x) h = absurd h
list_of_type t (list vs) h = tt
list_of_type t (struct vs) h = absurd h
list_of_type t (dict es) h = absurd h

pub neg_plain : (x : Thing) → OneTakes neg x → IsPlain x
neg_plain x h = plain_of_type (scalar h.rule.0) x tt (subst (HasThing x) h.rule.2 h.has)

pub neg_number : (x : Thing) (v : Value) → OneTakes neg x → x ≡ plain v → IsIntegerNumber v
neg_number x v h e = (h.rule.0, h.rule.1, value_has (scalar h.rule.0) x v (subst (HasThing x) h.rule.2 h.has) e)

pub not_plain : (x : Thing) → OneTakes not x → IsPlain x
not_plain x h = plain_of_type h.first x (subst IsValueType (sym h.rule.0) tt) h.has

pub not_truth : (x : Thing) (v : Value) → OneTakes not x → x ≡ plain v → IsTruth v
not_truth x v h e = subst (λ t. HasValue t v) h.rule.0 (value_has h.first x v h.has e)

pub cast_plain : (k : Kind) (x : Thing) → OneTakes (cast k) x → IsPlain x
cast_plain k x h = plain_of_type (scalar h.rule.0) x tt (subst (HasThing x) h.rule.2 h.has)

pub cast_number : (k : Kind) (x : Thing) (v : Value) → OneTakes (cast k) x → x ≡ plain v → IsNumber v
cast_number k x v h e = number_of_kind h.rule.0 v (value_has (scalar h.rule.0) x v (subst (HasThing x) h.rule.2 h.has) e)

pub cast_kind : (k : Kind) (x : Thing) → OneTakes (cast k) x → IsIntegerKind k
cast_kind k x h = h.rule.1

pub len_plain : (x : Thing) → OneTakes len x → IsPlain x
len_plain x h = plain_of_type (vec h.rule.0) x tt (subst (HasThing x) h.rule.1 h.has)

pub len_list : (x : Thing) (v : Value) → OneTakes len x → x ≡ plain v → IsList v
len_list x v h e = list_of_type h.rule.0 v (value_has (vec h.rule.0) x v (subst (HasThing x) h.rule.1 h.has) e)

-- ---- fields

field_within : (n : ℕ) (us : TypeTrees) (t : TypeTree) (vs : Values) → IsField n us t → HaveValues us vs → n < length (list_of_values vs)
field_within n no_types t vs f h = absurd f
field_within n (more_types u us) t no_values f h = absurd h
field_within zero (more_types u us) t (and_value v vs) f h = omega arith
field_within (suc n) (more_types u us) t (and_value v vs) f h = let r = field_within n us t vs f h.1 in omega arith

field_in : (n : ℕ) (us : TypeTrees) (t : TypeTree) (v : Value) → IsField n us t → HasValue (tuple us) v → HasField n v
field_in n us t (number k x) f h = absurd h
field_in n us t (list vs) f h = absurd h
field_in n us t (struct vs) f h = field_within n us t vs f h
field_in n us t (dict es) f h = absurd h

pub field_there : (n : ℕ) (v : Value) → OneTakes (field n) (plain v) → HasField n v
field_there n v h = field_in n h.rule.0 h.answer v h.rule.2 (subst (HasThing (plain v)) h.rule.1 h.has)

thing_within : (n : ℕ) (us : TypeTrees) (t : TypeTree) (ts : Things) → IsField n us t → HaveBuilders ts us → HasThingAt n ts
thing_within n no_types t ts f h = absurd f
thing_within n (more_types u us) t no_things f h = absurd h
thing_within zero (more_types u us) t (more_things x ts) f h = tt
thing_within (suc n) (more_types u us) t (more_things (plain v) ts) f h = absurd h
thing_within (suc n) (more_types u us) t (more_things (building p) ts) f h = thing_within n us t ts f h.1
thing_within (suc n) (more_types u us) t (more_things (several ss) ts) f h = thing_within n us t ts f h.1

pub builder_there : (n : ℕ) (ts : Things) → OneTakes (field n) (several ts) → HasThingAt n ts
builder_there n ts h = thing_within n h.rule.0 h.answer ts h.rule.2 (subst (HasThing (several ts)) h.rule.1 h.has).1

pub no_field : (n : ℕ) (p : Part) → OneTakes (field n) (building p) → ⊥
no_field n p h = absurd (subst (HasThing (building p)) h.rule.1 h.has)
