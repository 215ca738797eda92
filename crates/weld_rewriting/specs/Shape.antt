-- Relations of expressions that go through every node, and properties of a node's parts.
use Rattle.weld_tree.specs.declared.binder.Binder.{Binder}
use Rattle.weld_tree.specs.ExprTree.{At, ExprTree, leaf, one, two, three, many, let_in, loop, iterate, ExprTrees, no_exprs, more_exprs, LegTree, whole, strided, LegTrees, no_legs, more_legs, Leaf, One, Two, Three, Many}

-- as many expressions, each related to the one at its place
abbrev pub AllRelate : (ExprTree → ExprTree → Type 0) → ExprTrees → ExprTrees → Type 0
AllRelate R no_exprs no_exprs = Unit {0}
AllRelate R no_exprs (more_exprs e es) = ⊥
AllRelate R (more_exprs d ds) no_exprs = ⊥
AllRelate R (more_exprs d ds) (more_exprs e es) = R d e × AllRelate R ds es

-- legs of one form, each part related to the one at its place
abbrev pub LegRelates : (ExprTree → ExprTree → Type 0) → LegTree → LegTree → Type 0
LegRelates R (whole d) (whole e) = R d e
LegRelates R (whole d) (strided e f g h) = ⊥
LegRelates R (strided d i j k) (whole e) = ⊥
LegRelates R (strided d i j k) (strided e f g h) = R d e × R i f × R j g × R k h

-- as many legs, each related to the one at its place
abbrev pub LegsRelate : (ExprTree → ExprTree → Type 0) → LegTrees → LegTrees → Type 0
LegsRelate R no_legs no_legs = Unit {0}
LegsRelate R no_legs (more_legs l ls) = ⊥
LegsRelate R (more_legs k ks) no_legs = ⊥
LegsRelate R (more_legs k ks) (more_legs l ls) = LegRelates R k l × LegsRelate R ks ls

-- where the parts of a node stand in the relation, so do the nodes, whatever form they have
pub record IsCongruence (R : ExprTree → ExprTree → Type 0) : Type 0 where
  pub at_leaf : (a : At) (l : Leaf) → R (leaf a l) (leaf a l)
  pub at_one : (a : At) (o : One) (d e : ExprTree) → R d e → R (one a o d) (one a o e)
  pub at_two : (a : At) (o : Two) (c d e f : ExprTree) → R c e → R d f → R (two a o c d) (two a o e f)
  pub at_three : (a : At) (o : Three) (b c d e f g : ExprTree) → R b e → R c f → R d g → R (three a o b c d) (three a o e f g)
  pub at_many : (a : At) (o : Many) (ds es : ExprTrees) → AllRelate R ds es → R (many a o ds) (many a o es)
  pub at_let : (a : At) (b : Binder) (c d e f : ExprTree) → R c e → R d f → R (let_in a b c d) (let_in a b e f)
  pub at_loop : (a : At) (ks ls : LegTrees) (c e : ExprTree) (b n x : Binder) (d f : ExprTree) → LegsRelate R ks ls → R c e → R d f → R (loop a ks c b n x d) (loop a ls e b n x f)
  pub at_iterate : (a : At) (c e : ExprTree) (b : Binder) (d f : ExprTree) → R c e → R d f → R (iterate a c b d) (iterate a e b f)

-- each of the expressions has the property
abbrev pub EachHas : (ExprTree → Type 0) → ExprTrees → Type 0
EachHas P no_exprs = Unit {0}
EachHas P (more_exprs e es) = P e × EachHas P es

abbrev pub LegHasEach : (ExprTree → Type 0) → LegTree → Type 0
LegHasEach P (whole e) = P e
LegHasEach P (strided e f g h) = P e × P f × P g × P h

-- each part of each leg has it
abbrev pub LegsHaveEach : (ExprTree → Type 0) → LegTrees → Type 0
LegsHaveEach P no_legs = Unit {0}
LegsHaveEach P (more_legs l ls) = LegHasEach P l × LegsHaveEach P ls

-- each part of the node has it
abbrev pub EachPart : (ExprTree → Type 0) → ExprTree → Type 0
EachPart P (leaf a l) = Unit {0}
EachPart P (one a o e) = P e
EachPart P (two a o e f) = P e × P f
EachPart P (three a o e f g) = P e × P f × P g
EachPart P (many a o es) = EachHas P es
EachPart P (let_in a b e f) = P e × P f
EachPart P (loop a ls e b n x f) = LegsHaveEach P ls × P e × P f
EachPart P (iterate a e b f) = P e × P f
