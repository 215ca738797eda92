-- Where a loop's body merges into its own list: how often, and whether in every row.
use Rattle.std.specs.Prelude.{ℕ, ◌+◌, Bool, false, ◌&&◌, if◌then◌else◌, ◌∷◌}
use Rattle.weld_tree.specs.ExprTree.{ExprTree, leaf, one, two, three, many, let_in, loop, iterate, ExprTrees, no_exprs, more_exprs, LegTree, whole, strided, LegTrees, no_legs, more_legs}
use Rattle.weld_meaning.specs.Environment.{Named}
use Rattle.weld_meaning.specs.Origin.{Origin, origin}
use Rattle.weld_vertical.specs.Sinking.{is_merge}
use Rattle.weld_handing.specs.Handing.{is_held}

abbrev mutual
  -- at how many merges the builder is the list's; in the bodies of lambdas it is at none
  pub list_merges : Named Origin → ExprTree → ℕ
  list_merges q (leaf a l) = 0
  list_merges q (one a o e) = list_merges q e
  list_merges q (two a o e v) = (if is_merge o && is_held (origin e q) then 1 else 0) + (list_merges q e + list_merges q v)
  list_merges q (three a o d e g) = list_merges q d + (list_merges q e + list_merges q g)
  list_merges q (many a o es) = all_list_merges q es
  list_merges q (let_in a z v g) = list_merges q v + list_merges ((z.sym.0, origin v q) ∷ q) g
  list_merges q (loop a ls e b m y g) = legs_list_merges q ls + list_merges q e
  list_merges q (iterate a e b g) = list_merges q e

  pub all_list_merges : Named Origin → ExprTrees → ℕ
  all_list_merges q no_exprs = 0
  all_list_merges q (more_exprs e es) = list_merges q e + all_list_merges q es

  pub leg_list_merges : Named Origin → LegTree → ℕ
  leg_list_merges q (whole e) = list_merges q e
  leg_list_merges q (strided e g h j) = list_merges q e + (list_merges q g + (list_merges q h + list_merges q j))

  pub legs_list_merges : Named Origin → LegTrees → ℕ
  legs_list_merges q no_legs = 0
  legs_list_merges q (more_legs l ls) = leg_list_merges q l + legs_list_merges q ls

-- it merges into the list in every row: lets, perhaps none, that end in such a merge
abbrev pub always_merges : Named Origin → ExprTree → Bool
always_merges q (leaf a l) = false
always_merges q (one a o e) = false
always_merges q (two a o e v) = is_merge o && is_held (origin e q)
always_merges q (three a o d e g) = false
always_merges q (many a o es) = false
always_merges q (let_in a z v g) = always_merges ((z.sym.0, origin v q) ∷ q) g
always_merges q (loop a ls e b m y g) = false
always_merges q (iterate a e b g) = false
