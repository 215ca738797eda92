-- Which things a form takes, by the types that they have; and what a row of a loop makes of its builder.
use Rattle.std.specs.Prelude.{◌≡◌, ℕ, zero, suc, IsSome}
use Rattle.weld_data.specs.Kind.{InRange, IsInteger as IsIntegerKind}
use Rattle.weld_tree.specs.TypeTree.{TypeTree, BuildTree, scalar, vec, struct as tuple, dict, build, list, total, keyed, cells, groups}
use Rattle.weld_tree.specs.Types.{IsMergerType, IsWellFormed}
use Rattle.weld_tree.specs.ExprTree.{ExprTree, Leaf, int, truth, chars, name, fresh, One, Two, binary, and, or, look_up, key_exists, merge, Three}
use Rattle.weld_builders.specs.Part.{shape_of}
use Rattle.weld_builders.specs.Range.{IsInRange}
use Rattle.weld_tree.specs.declared.binder.Binder.{Binder}
use Rattle.weld_builders.specs.Outcome.{Outcome}
use Rattle.weld_meaning.specs.Evaluation.{Env, Row, whole_number, with_row, eval}
use Rattle.weld_meaning.specs.Thing.{Thing, plain, building, several, Things, no_things, more_things}
use Rattle.weld_meaning.specs.Environment.{look_for}
use Rattle.weld_meaning.specs.Typing.{OneHas, TwoHas, ThreeHas}
use Rattle.weld_meaning.specs.ThingType.{HasThing}

pub record OneTakes (o : One) (x : Thing) : Type 0 where
  pub first : TypeTree
  pub answer : TypeTree
  pub rule : OneHas o first answer
  pub formed : IsWellFormed first
  pub answer_formed : IsWellFormed answer
  pub has : HasThing x first

pub record TwoTakes (o : Two) (x y : Thing) : Type 0 where
  pub first : TypeTree
  pub second : TypeTree
  pub answer : TypeTree
  pub rule : TwoHas o first second answer
  pub formed : IsWellFormed first
  pub has_first : HasThing x first
  pub has_second : HasThing y second

pub record ThreeTakes (o : Three) (x y z : Thing) : Type 0 where
  pub first : TypeTree
  pub second : TypeTree
  pub third : TypeTree
  pub answer : TypeTree
  pub rule : ThreeHas o first second third answer
  pub has_first : HasThing x first
  pub has_second : HasThing y second
  pub has_third : HasThing z third

-- builders that join: of one shape, the first in the range of its kind, field by field
abbrev mutual
  pub Join : Thing → Thing → Type 0
  Join (building p) (building q) = (shape_of p ≡ shape_of q) × IsInRange p
  Join (several ss) (several ds) = AllJoin ss ds
  Join _ _ = ⊥

  pub AllJoin : Things → Things → Type 0
  AllJoin no_things no_things = Unit {0}
  AllJoin (more_things s ss) (more_things d ds) = Join s d × AllJoin ss ds
  AllJoin _ _ = ⊥

-- a thing that is a value
abbrev pub IsPlain : Thing → Type 0
IsPlain (plain v) = Unit {0}
IsPlain (building p) = ⊥
IsPlain (several ts) = ⊥

-- what the body of a loop makes of a builder on a row
abbrev pub row_of : Binder → Binder → Binder → ExprTree → Env → Row → Thing → Outcome Thing
row_of b n x f env r s = eval f (with_row b n x s (plain (whole_number r.0)) (plain r.1) env)

-- the type is a scalar
abbrev pub IsScalar : TypeTree → Type 0
IsScalar (scalar k) = Unit {0}
IsScalar (vec t) = ⊥
IsScalar (tuple ts) = ⊥
IsScalar (dict k v) = ⊥
IsScalar (build b) = ⊥

-- an integer kind as a type
abbrev pub IsInteger : TypeTree → Type 0
IsInteger (scalar k) = IsIntegerKind k
IsInteger (vec t) = ⊥
IsInteger (tuple ts) = ⊥
IsInteger (dict k v) = ⊥
IsInteger (build b) = ⊥

-- the builder starts without a value
abbrev pub IsFresh : BuildTree → Type 0
IsFresh (list t) = Unit {0}
IsFresh (total t op) = IsMergerType t
IsFresh (keyed k v op) = IsInteger v
IsFresh (cells t op) = ⊥
IsFresh (groups k v) = Unit {0}

-- a number is of its kind, a name is there, and a builder starts without a value
abbrev pub LeafTakes : Leaf → Env → Type 0
LeafTakes (int k x) env = InRange k x
LeafTakes (truth b) env = Unit {0}
LeafTakes (chars bs) env = Unit {0}
LeafTakes (name s) env = IsSome (look_for s env)
LeafTakes (fresh b) env = IsFresh b

-- both parts are always evaluated
abbrev pub IsStrict : Two → Type 0
IsStrict (binary op) = Unit {0}
IsStrict and = ⊥
IsStrict or = ⊥
IsStrict look_up = Unit {0}
IsStrict key_exists = Unit {0}
IsStrict merge = Unit {0}

-- there is a thing of that number, from 0
abbrev pub HasThingAt : ℕ → Things → Type 0
HasThingAt n no_things = ⊥
HasThingAt zero (more_things t ts) = Unit {0}
HasThingAt (suc n) (more_things t ts) = HasThingAt n ts
