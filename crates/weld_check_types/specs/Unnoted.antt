-- A program without the types that are noted at its nodes. All else stays, its places among it.
use Rattle.std.specs.Prelude.{◌≡◌}
use Rattle.weld_tree.specs.declared.known.Known.TheVariants.{Blank}
use Rattle.weld_tree.specs.ExprTree.{At, ExprTree, leaf, one, two, three, many, let_in, loop, iterate, ExprTrees, no_exprs, more_exprs, LegTree, whole, strided, LegTrees, no_legs, more_legs}
use Rattle.weld_tree.specs.Program.{ProgramTree}

-- the place alone
abbrev pub placed : At → At
placed a = record { place = a.place; ty = Blank }

abbrev mutual
  pub unnoted : ExprTree → ExprTree
  unnoted (leaf a l) = leaf (placed a) l
  unnoted (one a o e) = one (placed a) o (unnoted e)
  unnoted (two a o e f) = two (placed a) o (unnoted e) (unnoted f)
  unnoted (three a o c e f) = three (placed a) o (unnoted c) (unnoted e) (unnoted f)
  unnoted (many a o es) = many (placed a) o (all_unnoted es)
  unnoted (let_in a b e f) = let_in (placed a) b (unnoted e) (unnoted f)
  unnoted (loop a ls e b n x f) = loop (placed a) (legs_unnoted ls) (unnoted e) b n x (unnoted f)
  unnoted (iterate a e b f) = iterate (placed a) (unnoted e) b (unnoted f)

  pub all_unnoted : ExprTrees → ExprTrees
  all_unnoted no_exprs = no_exprs
  all_unnoted (more_exprs e es) = more_exprs (unnoted e) (all_unnoted es)

  pub leg_unnoted : LegTree → LegTree
  leg_unnoted (whole e) = whole (unnoted e)
  leg_unnoted (strided e f g h) = strided (unnoted e) (unnoted f) (unnoted g) (unnoted h)

  pub legs_unnoted : LegTrees → LegTrees
  legs_unnoted no_legs = no_legs
  legs_unnoted (more_legs l ls) = more_legs (leg_unnoted l) (legs_unnoted ls)

abbrev pub program_unnoted : ProgramTree → ProgramTree
program_unnoted p = record { params = p.params; body = unnoted p.body }

-- the same program but for the types that are noted at its nodes
abbrev pub IsSameButNotes : ProgramTree → ProgramTree → Type 0
IsSameButNotes p q = program_unnoted p ≡ program_unnoted q
