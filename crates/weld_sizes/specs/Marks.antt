-- One mark for each loop of an expression, in the order in which the loops begin in the text: whether it is of a form.
use Rattle.std.specs.Prelude.{ℕ, ◌+◌, if◌then◌else◌, Bool, List, [], ◌∷◌, ◌++◌}
use Rattle.weld_tree.specs.ExprTree.{ExprTree, leaf, one, two, three, many, let_in, loop, iterate, ExprTrees, no_exprs, more_exprs, LegTree, whole, strided, LegTrees, no_legs, more_legs}

abbrev mutual
  pub marks_by : (ExprTree → Bool) → ExprTree → List Bool
  marks_by form (leaf a l) = []
  marks_by form (one a o e) = marks_by form e
  marks_by form (two a o e f) = marks_by form e ++ marks_by form f
  marks_by form (three a o c e f) = marks_by form c ++ (marks_by form e ++ marks_by form f)
  marks_by form (many a o es) = marks_among form es
  marks_by form (let_in a b e f) = marks_by form e ++ marks_by form f
  marks_by form (loop a ls e b n x f) = form (loop a ls e b n x f) ∷ (marks_in_legs form ls ++ (marks_by form e ++ marks_by form f))
  marks_by form (iterate a e b f) = marks_by form e ++ marks_by form f

  pub marks_among : (ExprTree → Bool) → ExprTrees → List Bool
  marks_among form no_exprs = []
  marks_among form (more_exprs e es) = marks_by form e ++ marks_among form es

  pub marks_in_leg : (ExprTree → Bool) → LegTree → List Bool
  marks_in_leg form (whole e) = marks_by form e
  marks_in_leg form (strided e f g h) = marks_by form e ++ (marks_by form f ++ (marks_by form g ++ marks_by form h))

  pub marks_in_legs : (ExprTree → Bool) → LegTrees → List Bool
  marks_in_legs form no_legs = []
  marks_in_legs form (more_legs l ls) = marks_in_leg form l ++ marks_in_legs form ls

-- how many of the marks are set
abbrev pub set_among : List Bool → ℕ
set_among [] = 0
set_among (b ∷ bs) = (if b then 1 else 0) + set_among bs
