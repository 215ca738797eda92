-- What the three things are that a form takes, by the types that they have.
use Rattle.std.proofs.Common.{◌≡◌, Bool, true, false, if◌then◌else◌, ap, sym, subst}
use Rattle.weld_data.specs.Value.{Value}
use Rattle.weld_tree.specs.TypeTree.{vec}
use Rattle.weld_tree.specs.ExprTree.{select, slice}
use Rattle.weld_builders.specs.Outcome.{Outcome, done, map_out}
use Rattle.weld_meaning.specs.Thing.{Thing, plain}
use Rattle.weld_meaning.specs.ThingType.{HasThing}
use Rattle.weld_meaning.specs.Typing.{truth_type, place_type}
use Rattle.weld_meaning.specs.Evaluation.{truth_of, selected, three_thing}
use Rattle.weld_meaning.proofs.Good.{free_value_type, value_of_thing}
use Rattle.weld_eval.specs.Fits.{IsTruth, IsList, IsPlaceNumber}
use Rattle.weld_eval.specs.Takes.{ThreeTakes, IsPlain}
use Rattle.weld_eval_forms.proofs.Shapes.{plain_of_type, value_has, list_of_type}

pub condition_plain : (x y z : Thing) → ThreeTakes select x y z → IsPlain x
condition_plain x y z h = plain_of_type truth_type x tt (subst (HasThing x) h.rule.0 h.has_first)

pub condition_truth : (x y z : Thing) (v : Value) → ThreeTakes select x y z → x ≡ plain v → IsTruth v
condition_truth x y z v h e = value_has truth_type x v (subst (HasThing x) h.rule.0 h.has_first) e

abbrev choice : (b : Bool) → Thing → Thing → Thing
choice true y z = y
choice false y z = z

chosen : (b : Bool) (v a c : Value) → truth_of v ≡ done b → map_out plain (selected v a c) ≡ done (choice b (plain a) (plain c))
chosen true v a c e = ap (λ (o : Outcome Bool). map_out plain (map_out (λ (t : Bool). if t then a else c) o)) e
chosen false v a c e = ap (λ (o : Outcome Bool). map_out plain (map_out (λ (t : Bool). if t then a else c) o)) e

selects : (b : Bool) (x y z : Thing) (v : Value) → ThreeTakes select x y z → x ≡ plain v → truth_of v ≡ done b → three_thing select x (done y) (done z) ≡ done (choice b y z)
selects b x y z v h e t =
    let f = free_value_type h.answer h.rule.3 in
    let p = value_of_thing h.answer y f (subst (HasThing y) h.rule.1 h.has_second) in
    let q = value_of_thing h.answer z f (subst (HasThing z) h.rule.2 h.has_third) in
    subst (λ k. three_thing select k (done y) (done z) ≡ done (choice b y z)) (sym e)
    (subst (λ k. three_thing select (plain v) (done k) (done z) ≡ done (choice b k z)) (sym p.1)
    (subst (λ k. three_thing select (plain v) (done (plain p.0)) (done k) ≡ done (choice b (plain p.0) k)) (sym q.1) (chosen b v p.0 q.0 t)))

pub selects_second : (x y z : Thing) (v : Value) → ThreeTakes select x y z → x ≡ plain v → truth_of v ≡ done true → three_thing select x (done y) (done z) ≡ done y
selects_second = selects true

pub selects_third : (x y z : Thing) (v : Value) → ThreeTakes select x y z → x ≡ plain v → truth_of v ≡ done false → three_thing select x (done y) (done z) ≡ done z
selects_third = selects false

-- ---- parts of vectors

pub vector_plain : (x y z : Thing) → ThreeTakes slice x y z → IsPlain x
vector_plain x y z h = plain_of_type (vec h.rule.0) x tt (subst (HasThing x) h.rule.1 h.has_first)

pub vector_list : (x y z : Thing) (v : Value) → ThreeTakes slice x y z → x ≡ plain v → IsList v
vector_list x y z v h e = list_of_type h.rule.0 v (value_has (vec h.rule.0) x v (subst (HasThing x) h.rule.1 h.has_first) e)

pub start_plain : (x y z : Thing) → ThreeTakes slice x y z → IsPlain y
start_plain x y z h = plain_of_type place_type y tt (subst (HasThing y) h.rule.2 h.has_second)

pub start_place : (x y z : Thing) (v : Value) → ThreeTakes slice x y z → y ≡ plain v → IsPlaceNumber v
start_place x y z v h e = value_has place_type y v (subst (HasThing y) h.rule.2 h.has_second) e

pub count_plain : (x y z : Thing) → ThreeTakes slice x y z → IsPlain z
count_plain x y z h = plain_of_type place_type z tt (subst (HasThing z) h.rule.3 h.has_third)

pub count_place : (x y z : Thing) (v : Value) → ThreeTakes slice x y z → z ≡ plain v → IsPlaceNumber v
count_place x y z v h e = value_has place_type z v (subst (HasThing z) h.rule.3 h.has_third) e
