-- The loops of an expression, and their marks.
use Rattle.std.specs.Prelude.{◌≡◌, ◌⊎◌, true, false, List, [], ◌∷◌, ◌++◌, Option, Some, None}
use Rattle.weld_tree.specs.declared.binder.Binder.{Binder}
use Rattle.weld_tree.specs.ExprTree.{ExprTree, leaf, one, two, three, many, let_in, loop, iterate, ExprTrees, no_exprs, more_exprs, LegTree, whole, strided, LegTrees, no_legs, more_legs}
use Rattle.weld_sizes.specs.Lanes.{are_two, legs_kind, has_lane_form}
use Rattle.weld_lane_form.specs.Bodies.{MeansBody}
use Rattle.weld_lane_form.specs.Lowering.{LaneNames}
use Rattle.weld_lane_form.specs.Made.{made_lowered, HasNoSteps}
use Rattle.weld_lane_form.specs.declared.making.LaneBody.{LaneBody}

abbrev mutual
  -- the loops of the expression, in the order in which they begin in the text
  pub loops_in : ExprTree → List ExprTree
  loops_in (leaf a l) = []
  loops_in (one a o e) = loops_in e
  loops_in (two a o e f) = loops_in e ++ loops_in f
  loops_in (three a o c e f) = loops_in c ++ (loops_in e ++ loops_in f)
  loops_in (many a o es) = loops_among es
  loops_in (let_in a b e f) = loops_in e ++ loops_in f
  loops_in (loop a ls e b n x f) = loop a ls e b n x f ∷ (loops_in_legs ls ++ (loops_in e ++ loops_in f))
  loops_in (iterate a e b f) = loops_in e ++ loops_in f

  pub loops_among : ExprTrees → List ExprTree
  loops_among no_exprs = []
  loops_among (more_exprs e es) = loops_in e ++ loops_among es

  pub loops_in_leg : LegTree → List ExprTree
  loops_in_leg (whole e) = loops_in e
  loops_in_leg (strided e f g h) = loops_in e ++ (loops_in f ++ (loops_in g ++ loops_in h))

  pub loops_in_legs : LegTrees → List ExprTree
  loops_in_legs no_legs = []
  loops_in_legs (more_legs l ls) = loops_in_leg l ++ loops_in_legs ls

abbrev pub IsLoopTree : ExprTree → Type 0
IsLoopTree (loop a ls e b n x f) = Unit {0}
IsLoopTree _ = ⊥

-- one for each, in order
abbrev pub AreMarks : (ExprTree → Option LaneBody → Type 0) → List ExprTree → List (Option LaneBody) → Type 0
AreMarks R [] [] = Unit {0}
AreMarks R [] (m ∷ ms) = ⊥
AreMarks R (e ∷ es) [] = ⊥
AreMarks R (e ∷ es) (m ∷ ms) = R e m × AreMarks R es ms

-- the names of a loop
abbrev pub names_of : LegTrees → Binder → Binder → Binder → LaneNames
names_of ls b n x = record { kind = legs_kind ls; is_pair = are_two ls; row = x.sym.0; number = n.sym.0; own = b.sym.0 }

-- steps over numbers of the legs' kind that mean the loop's body
pub record MeansLoop (ls : LegTrees) (b x : Binder) (f : ExprTree) (made : LaneBody) : Type 0 where
  pub kind : made.program.kind ≡ legs_kind ls
  pub body : MeansBody (made_lowered made (are_two ls) x.sym.0) b.sym.0 f

-- the mark of a loop: where it is of the lane form the steps that mean its body, else none
abbrev pub IsMark : ExprTree → Option LaneBody → Type 0
IsMark (leaf a l) m = ⊥
IsMark (one a o e) m = ⊥
IsMark (two a o e f) m = ⊥
IsMark (three a o c e f) m = ⊥
IsMark (many a o es) m = ⊥
IsMark (let_in a b e f) m = ⊥
IsMark (loop a ls e b n x f) (Some made) = (has_lane_form (loop a ls e b n x f) ≡ true) × MeansLoop ls b x f made
IsMark (loop a ls e b n x f) None = has_lane_form (loop a ls e b n x f) ≡ false
IsMark (iterate a e b f) m = ⊥

-- the same where nothing is known of types: a loop of the form may have no steps
abbrev pub MayBeMark : ExprTree → Option LaneBody → Type 0
MayBeMark (leaf a l) m = ⊥
MayBeMark (one a o e) m = ⊥
MayBeMark (two a o e f) m = ⊥
MayBeMark (three a o c e f) m = ⊥
MayBeMark (many a o es) m = ⊥
MayBeMark (let_in a b e f) m = ⊥
MayBeMark (loop a ls e b n x f) (Some made) = (has_lane_form (loop a ls e b n x f) ≡ true) × MeansLoop ls b x f made
MayBeMark (loop a ls e b n x f) None = (has_lane_form (loop a ls e b n x f) ≡ false) ⊎ HasNoSteps (names_of ls b n x) f
MayBeMark (iterate a e b f) m = ⊥

-- the second has, behind the first, a mark for each of the loops
pub record MarkOn (old new : List (Option LaneBody)) (loops : List ExprTree) : Type 0 where
  pub marks : List (Option LaneBody)
  pub is : new ≡ old ++ marks
  pub each : AreMarks MayBeMark loops marks
