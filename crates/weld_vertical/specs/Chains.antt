-- Chains of loops, each over the list that the one before it makes, and the one loop that takes a chain's place.
use Rattle.std.specs.Prelude.{◌≡◌, ℕ, zero, suc, ◌==◌, Bool, true, false}
use Rattle.weld_tree.specs.ExprTree.{ExprTree, leaf, one, two, three, many, let_in, loop, iterate, LegTree, whole, strided, LegTrees, no_legs, more_legs}
use Rattle.weld_substitution.specs.Uses.{uses}
use Rattle.weld_rewriting.specs.Sweep.{settled}
use Rattle.weld_vertical.specs.Sinking.{is_finish, is_consumer}
use Rattle.weld_vertical.specs.Fusing.{loops_rule}

-- ---- chains

-- a loop whose body doesn't use its row number
abbrev pub is_unnumbered : ExprTree → Bool
is_unnumbered (leaf a l) = false
is_unnumbered (one a o e) = false
is_unnumbered (two a o e f) = false
is_unnumbered (three a o e f g) = false
is_unnumbered (many a o es) = false
is_unnumbered (let_in a b e f) = false
is_unnumbered (loop a ls e b n x f) = uses f n.sym.0 == 0
is_unnumbered (iterate a e b f) = false

-- the loop before a consumer, which makes the list of its only leg; what is no consumer stays
abbrev pub loop_before : ExprTree → ExprTree
loop_before (loop a (more_legs (whole (one m o p)) no_legs) e b n x f) = p
loop_before e = e

-- a loop with so many before it: no body of theirs uses its row number, and each but the first has as its only leg,
-- whole, the `result` of the one before it, which starts with an empty `vecbuilder` and merges once in a row or not at
-- all, at one end of lets and ifs
abbrev pub IsChain : ℕ → ExprTree → Type 0
IsChain zero e = is_unnumbered e ≡ true
IsChain (suc k) e = (is_unnumbered e ≡ true) × (is_consumer e ≡ true) × IsChain k (loop_before e)

-- the `result` of such a loop, as the body of a program
abbrev pub IsChainProgram : ℕ → ExprTree → Type 0
IsChainProgram k (leaf a l) = ⊥
IsChainProgram k (one a o e) = (is_finish o ≡ true) × IsChain k e
IsChainProgram k (two a o e f) = ⊥
IsChainProgram k (three a o e f g) = ⊥
IsChainProgram k (many a o es) = ⊥
IsChainProgram k (let_in a b e f) = ⊥
IsChainProgram k (loop a ls e b n x f) = ⊥
IsChainProgram k (iterate a e b f) = ⊥

-- ---- the one loop

abbrev mutual
  -- the expression with the rule tried at each loop that is reached from its top through results and legs, once those before
  -- that loop have been fused
  pub chain_fused : ExprTree → ExprTree
  chain_fused (leaf a l) = leaf a l
  chain_fused (one a o e) = one a o (chain_fused e)
  chain_fused (two a o e f) = two a o e f
  chain_fused (three a o e f g) = three a o e f g
  chain_fused (many a o es) = many a o es
  chain_fused (let_in a b e f) = let_in a b e f
  chain_fused (loop a ls e b n x f) = settled loops_rule (loop a (legs_fused ls) e b n x f)
  chain_fused (iterate a e b f) = iterate a e b f

  pub leg_fused : LegTree → LegTree
  leg_fused (whole e) = whole (chain_fused e)
  leg_fused (strided e f g h) = strided e f g h

  pub legs_fused : LegTrees → LegTrees
  legs_fused no_legs = no_legs
  legs_fused (more_legs l ls) = more_legs (leg_fused l) (legs_fused ls)

-- what is below the top is fused, the top isn't
abbrev pub below_fused : ExprTree → ExprTree
below_fused (leaf a l) = leaf a l
below_fused (one a o e) = one a o (chain_fused e)
below_fused (two a o e f) = two a o e f
below_fused (three a o e f g) = three a o e f g
below_fused (many a o es) = many a o es
below_fused (let_in a b e f) = let_in a b e f
below_fused (loop a ls e b n x f) = loop a (legs_fused ls) e b n x f
below_fused (iterate a e b f) = iterate a e b f
