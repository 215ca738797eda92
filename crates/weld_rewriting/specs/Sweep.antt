-- A sweep over an expression: a rule is tried at each node, once its parts have been swept.
use Rattle.std.specs.Prelude.{◌≡◌, ℕ, zero, suc, Bool, false, ◌||◌, Option, Some, None, is_some}
use Rattle.weld_tree.specs.ExprTree.{ExprTree, leaf, one, two, three, many, let_in, loop, iterate, ExprTrees, no_exprs, more_exprs, LegTree, whole, strided, LegTrees, no_legs, more_legs}
use Rattle.weld_rewriting.specs.Nodes.{EachNode}

-- what takes the place of a node, where the rule matches it
abbrev pub RootRule : Type 0
RootRule = ExprTree → Option ExprTree

abbrev pub or_same : Option ExprTree → ExprTree → ExprTree
or_same None e = e
or_same (Some d) e = d

-- the node after the rule was tried at it
abbrev pub settled : RootRule → ExprTree → ExprTree
settled r e = or_same (r e) e

abbrev mutual
  -- the expression after the rule was tried at each node, the parts of a node before it
  pub swept : RootRule → ExprTree → ExprTree
  swept r (leaf a l) = settled r (leaf a l)
  swept r (one a o e) = settled r (one a o (swept r e))
  swept r (two a o e f) = settled r (two a o (swept r e) (swept r f))
  swept r (three a o c e f) = settled r (three a o (swept r c) (swept r e) (swept r f))
  swept r (many a o es) = settled r (many a o (all_swept r es))
  swept r (let_in a b e f) = settled r (let_in a b (swept r e) (swept r f))
  swept r (loop a ls e b n x f) = settled r (loop a (legs_swept r ls) (swept r e) b n x (swept r f))
  swept r (iterate a e b f) = settled r (iterate a (swept r e) b (swept r f))

  pub all_swept : RootRule → ExprTrees → ExprTrees
  all_swept r no_exprs = no_exprs
  all_swept r (more_exprs e es) = more_exprs (swept r e) (all_swept r es)

  pub leg_swept : RootRule → LegTree → LegTree
  leg_swept r (whole e) = whole (swept r e)
  leg_swept r (strided e f h i) = strided (swept r e) (swept r f) (swept r h) (swept r i)

  pub legs_swept : RootRule → LegTrees → LegTrees
  legs_swept r no_legs = no_legs
  legs_swept r (more_legs l ls) = more_legs (leg_swept r l) (legs_swept r ls)

-- the parts of the node are swept, the node isn't
abbrev pub parts_swept : RootRule → ExprTree → ExprTree
parts_swept r (leaf a l) = leaf a l
parts_swept r (one a o e) = one a o (swept r e)
parts_swept r (two a o e f) = two a o (swept r e) (swept r f)
parts_swept r (three a o c e f) = three a o (swept r c) (swept r e) (swept r f)
parts_swept r (many a o es) = many a o (all_swept r es)
parts_swept r (let_in a b e f) = let_in a b (swept r e) (swept r f)
parts_swept r (loop a ls e b n x f) = loop a (legs_swept r ls) (swept r e) b n x (swept r f)
parts_swept r (iterate a e b f) = iterate a (swept r e) b (swept r f)

-- whether the rule matches a node while its parts are as they are after the sweep
abbrev pub matches : RootRule → ExprTree → Bool
matches r e = is_some (r e)

abbrev mutual
  -- whether the rule matches at some node in the sweep
  pub moves : RootRule → ExprTree → Bool
  moves r (leaf a l) = matches r (leaf a l)
  moves r (one a o e) = moves r e || matches r (one a o (swept r e))
  moves r (two a o e f) = (moves r e || moves r f) || matches r (two a o (swept r e) (swept r f))
  moves r (three a o c e f) = (moves r c || moves r e || moves r f) || matches r (three a o (swept r c) (swept r e) (swept r f))
  moves r (many a o es) = some_move r es || matches r (many a o (all_swept r es))
  moves r (let_in a b e f) = (moves r e || moves r f) || matches r (let_in a b (swept r e) (swept r f))
  moves r (loop a ls e b n x f) =
      (legs_move r ls || moves r e || moves r f) || matches r (loop a (legs_swept r ls) (swept r e) b n x (swept r f))
  moves r (iterate a e b f) = (moves r e || moves r f) || matches r (iterate a (swept r e) b (swept r f))

  pub some_move : RootRule → ExprTrees → Bool
  some_move r no_exprs = false
  some_move r (more_exprs e es) = moves r e || some_move r es

  pub leg_moves : RootRule → LegTree → Bool
  leg_moves r (whole e) = moves r e
  leg_moves r (strided e f h i) = moves r e || moves r f || moves r h || moves r i

  pub legs_move : RootRule → LegTrees → Bool
  legs_move r no_legs = false
  legs_move r (more_legs l ls) = leg_moves r l || legs_move r ls

-- whether it matches in one of the parts
abbrev pub parts_move : RootRule → ExprTree → Bool
parts_move r (leaf a l) = false
parts_move r (one a o e) = moves r e
parts_move r (two a o e f) = moves r e || moves r f
parts_move r (three a o c e f) = moves r c || moves r e || moves r f
parts_move r (many a o es) = some_move r es
parts_move r (let_in a b e f) = moves r e || moves r f
parts_move r (loop a ls e b n x f) = legs_move r ls || moves r e || moves r f
parts_move r (iterate a e b f) = moves r e || moves r f

-- the expression after so many sweeps
abbrev pub swept_times : ℕ → RootRule → ExprTree → ExprTree
swept_times zero r e = e
swept_times (suc n) r e = swept_times n r (swept r e)

-- the rule doesn't match the node
abbrev pub IsNoMatch : RootRule → ExprTree → Type 0
IsNoMatch r e = r e ≡ None

-- the rule matches nowhere in the expression
abbrev pub IsStill : RootRule → ExprTree → Type 0
IsStill r e = EachNode (IsNoMatch r) e
