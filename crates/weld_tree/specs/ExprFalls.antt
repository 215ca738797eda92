-- Parts of expressions are smaller than the whole, which the recursions over expressions rest on.
use Rattle.std.specs.Prelude.{ℕ, ◌+◌, ◌*◌, ◌≤◌, List, [], ◌∷◌}
use Rattle.std.proofs.Common.{arith}
use denote.Param.Weighed.{most}
use Rattle.weld_tree.specs.ExprTree.{ExprTree, leaf, one, two, three, many, let_in, loop, iterate, ExprTrees, no_exprs, more_exprs, LegTree, whole, strided, LegTrees, no_legs, more_legs, pack_exprs, pack_legs}

-- how many nodes an expression has
abbrev mutual
  pub expr_nodes : ExprTree → ℕ
  expr_nodes (leaf a l) = 1
  expr_nodes (one a o e) = 1 + expr_nodes e
  expr_nodes (two a t e f) = 1 + (expr_nodes e + expr_nodes f)
  expr_nodes (three a t e f g) = 1 + (expr_nodes e + expr_nodes f + expr_nodes g)
  expr_nodes (many a m es) = 1 + exprs_nodes es
  expr_nodes (let_in a b e f) = 1 + (expr_nodes e + expr_nodes f)
  expr_nodes (loop a ls e b n x f) = 1 + (legs_nodes ls + expr_nodes e + expr_nodes f)
  expr_nodes (iterate a e b f) = 1 + (expr_nodes e + expr_nodes f)

  pub exprs_nodes : ExprTrees → ℕ
  exprs_nodes no_exprs = 0
  exprs_nodes (more_exprs e es) = expr_nodes e + exprs_nodes es

  pub leg_nodes : LegTree → ℕ
  leg_nodes (whole e) = expr_nodes e
  leg_nodes (strided e f g h) = expr_nodes e + expr_nodes f + expr_nodes g + expr_nodes h

  pub legs_nodes : LegTrees → ℕ
  legs_nodes no_legs = 0
  legs_nodes (more_legs l ls) = leg_nodes l + legs_nodes ls

-- twice the nodes, so that a form and the list of its parts differ
abbrev pub expr_size : ExprTree → ℕ
expr_size e = 2 * expr_nodes e

abbrev pub exprs_size : List ExprTree → ℕ
exprs_size es = 2 * exprs_nodes (pack_exprs es) + 1

abbrev pub legs_size : List LegTree → ℕ
legs_size ls = 2 * legs_nodes (pack_legs ls) + 1

pub most-exprs_size : (es : List ExprTree) → most (λ e. expr_size e + 1) es ≤ exprs_size es
most-exprs_size [] = omega arith
most-exprs_size (e ∷ es) = omega (arith, most-exprs_size es)
