-- Free names gathered node by node, under the binders around a node.
use Rattle.std.specs.Prelude.{ℕ, if◌then◌else◌, List, [], ◌∷◌}
use Rattle.weld_tree.specs.ExprTree.{ExprTree, leaf, one, two, three, many, let_in, loop, iterate, ExprTrees, no_exprs, more_exprs, LegTree, whole, strided, LegTrees, no_legs, more_legs, Leaf, int, truth, chars, name, fresh}
use Rattle.weld_substitution.specs.FreeNames.{is_among, noted_once}
use Rattle.weld_substitution.specs.declared.scope.Scope.{Scope, fold-Scope}
use Rattle.weld_substitution.specs.declared.scope.Scope.TheOpen.{Scope-F}

-- the numbers that are bound in a scope, the newest first
abbrev pub scope_step : Scope-F (List ℕ) → List ℕ
scope_step Scope-F.Outside = []
scope_step (Scope-F.Body s rest) = s.0 ∷ rest.now
scope_step (Scope-F.Lambda x n b rest) = x.0 ∷ n.0 ∷ b.0 ∷ rest.now

abbrev pub bound_in_scope : Scope → List ℕ
bound_in_scope = fold-Scope (List ℕ) scope_step

abbrev pub name_gathered : ℕ → List ℕ → List ℕ → List ℕ
name_gathered s bound there = if is_among bound s then there else noted_once there s

abbrev pub leaf_gathered : Leaf → List ℕ → List ℕ → List ℕ
leaf_gathered (int k x) bound there = there
leaf_gathered (truth b) bound there = there
leaf_gathered (chars bs) bound there = there
leaf_gathered (name s) bound there = name_gathered s bound there
leaf_gathered (fresh b) bound there = there

abbrev mutual
  -- what is there already, and behind it the free names of the expression that aren't there yet and aren't bound around it
  pub gathered : ExprTree → List ℕ → List ℕ → List ℕ
  gathered (leaf a l) bound there = leaf_gathered l bound there
  gathered (one a o e) bound there = gathered e bound there
  gathered (two a o e f) bound there = gathered f bound (gathered e bound there)
  gathered (three a o c e f) bound there = gathered f bound (gathered e bound (gathered c bound there))
  gathered (many a o es) bound there = all_gathered es bound there
  gathered (let_in a b e f) bound there = gathered f (b.sym.0 ∷ bound) (gathered e bound there)
  gathered (loop a ls e b n x f) bound there =
      gathered f (x.sym.0 ∷ n.sym.0 ∷ b.sym.0 ∷ bound) (gathered e bound (legs_gathered ls bound there))
  gathered (iterate a e b f) bound there = gathered f (b.sym.0 ∷ bound) (gathered e bound there)

  pub all_gathered : ExprTrees → List ℕ → List ℕ → List ℕ
  all_gathered no_exprs bound there = there
  all_gathered (more_exprs e es) bound there = all_gathered es bound (gathered e bound there)

  pub leg_gathered : LegTree → List ℕ → List ℕ → List ℕ
  leg_gathered (whole e) bound there = gathered e bound there
  leg_gathered (strided e f h i) bound there = gathered i bound (gathered h bound (gathered f bound (gathered e bound there)))

  pub legs_gathered : LegTrees → List ℕ → List ℕ → List ℕ
  legs_gathered no_legs bound there = there
  legs_gathered (more_legs l ls) bound there = legs_gathered ls bound (leg_gathered l bound there)
