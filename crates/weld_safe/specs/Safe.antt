-- Safe expressions: in them nothing stands that can fault.
use Rattle.weld_data.specs.declared.op.BinOp.{BinOp}
use Rattle.weld_data.specs.declared.op.BinOp.TheVariants as op
use Rattle.weld_tree.specs.declared.known.Known.{Known}
use Rattle.weld_tree.specs.declared.known.Known.TheVariants.{Blank, Is}
use Rattle.weld_tree.specs.TypeTree.{TypeTree, BuildTree, scalar, vec, struct, dict, build, list, total, keyed, cells, groups}
use Rattle.weld_tree.specs.ExprTree.{ExprTree, leaf, one, two, three, many, let_in, loop, iterate, ExprTrees, no_exprs, more_exprs, LegTrees, no_legs, more_legs, LegTree, whole, strided, Two, binary, and, or, look_up, key_exists, merge, Three, if_else, select, slice}

-- no operator but `/` and `%` faults
abbrev pub OperatorIsSafe : BinOp → Type 0
OperatorIsSafe op.Div = ⊥
OperatorIsSafe op.Rem = ⊥
OperatorIsSafe _ = Unit {0}

-- no merge faults but one into numbers by places, `vecmerger`
abbrev pub BuilderIsSafe : BuildTree → Type 0
BuilderIsSafe (list t) = Unit {0}
BuilderIsSafe (total t op) = Unit {0}
BuilderIsSafe (keyed k v op) = Unit {0}
BuilderIsSafe (cells t op) = ⊥
BuilderIsSafe (groups k v) = Unit {0}

-- the type is a builder whose merges don't fault
abbrev pub MergesSafely : TypeTree → Type 0
MergesSafely (scalar k) = ⊥
MergesSafely (vec t) = ⊥
MergesSafely (struct ts) = ⊥
MergesSafely (dict k v) = ⊥
MergesSafely (build b) = BuilderIsSafe b

-- what is noted at a merge is such a type
abbrev pub NoteIsSafe : Known → Type 0
NoteIsSafe Blank = ⊥
NoteIsSafe (Is t) = MergesSafely t

-- a form of two parts, with what is noted at it
abbrev pub TwoIsSafe : Known → Two → Type 0
TwoIsSafe known (binary op) = OperatorIsSafe op
TwoIsSafe known and = Unit {0}
TwoIsSafe known or = Unit {0}
TwoIsSafe known look_up = ⊥
TwoIsSafe known key_exists = Unit {0}
TwoIsSafe known merge = NoteIsSafe known

abbrev pub ThreeIsSafe : Three → Type 0
ThreeIsSafe if_else = Unit {0}
ThreeIsSafe select = Unit {0}
ThreeIsSafe slice = ⊥

abbrev mutual
  -- none of `/`, `%`, `lookup`, `slice`, `iter`, `zip`, `iterate` and a merge into a `vecmerger` stands in it
  pub IsSafe : ExprTree → Type 0
  IsSafe (leaf a l) = Unit {0}
  IsSafe (one a o e) = IsSafe e
  IsSafe (two a o e f) = TwoIsSafe a.ty o × IsSafe e × IsSafe f
  IsSafe (three a o c e f) = ThreeIsSafe o × IsSafe c × IsSafe e × IsSafe f
  IsSafe (many a o es) = AllAreSafe es
  IsSafe (let_in a b e f) = IsSafe e × IsSafe f
  IsSafe (loop a ls e b n x f) = IsOneSafeLeg ls × IsSafe e × IsSafe f
  IsSafe (iterate a e b f) = ⊥

  pub AllAreSafe : ExprTrees → Type 0
  AllAreSafe no_exprs = Unit {0}
  AllAreSafe (more_exprs e es) = IsSafe e × AllAreSafe es

  pub LegIsSafe : LegTree → Type 0
  LegIsSafe (whole e) = IsSafe e
  LegIsSafe (strided e f h i) = ⊥

  -- there is one leg, so no `zip`
  pub IsOneSafeLeg : LegTrees → Type 0
  IsOneSafeLeg no_legs = ⊥
  IsOneSafeLeg (more_legs l ls) = LegIsSafe l × IsLastLeg ls

  pub IsLastLeg : LegTrees → Type 0
  IsLastLeg no_legs = Unit {0}
  IsLastLeg (more_legs l ls) = ⊥
