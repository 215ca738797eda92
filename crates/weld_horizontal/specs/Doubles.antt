-- Legs that stand twice in one loop, and fields of structs that are made there: the rules, and what the answer has none of.
use Rattle.std.specs.Prelude.{◌≡◌, ◌^◌, nat_lt, Bool, false, ◌&&◌, Option, Some, None, is_some, option_map}
use Rattle.weld_tree.specs.declared.binder.Binder.{Binder}
use Rattle.weld_tree.specs.ExprTree.{At, ExprTree, leaf, one, two, three, many, let_in, loop, iterate, LegTrees}
use Rattle.weld_rewriting.specs.Nodes.{EachNode}
use Rattle.weld_rewriting.specs.Sweep.{RootRule, swept}
use Rattle.weld_rewriting.specs.Tested.{tested}
use Rattle.weld_horizontal.specs.Picked.{is_pick, picked}
use Rattle.weld_horizontal.specs.Twice.{Places, twice, items, count, once}
use Rattle.weld_horizontal.specs.declared.places.LegPlaces.{LegPlaces}

-- ---- fields of structs that are made there

-- the rule: a field of a struct that is made there of plain expressions is the expression of that field
abbrev pub picks_rule : RootRule
picks_rule = tested is_pick picked

-- ---- legs that stand twice

-- there are so few legs that each field of a row can be spelled
abbrev pub are_few : LegTrees → Bool
are_few ls = nat_lt (count (items ls)) (10 ^ 9)

-- a loop in which a whole leg is a name that stands again
abbrev pub is_double : ExprTree → Bool
is_double (leaf a l) = false
is_double (one a o e) = false
is_double (two a o e f) = false
is_double (three a o c e f) = false
is_double (many a o es) = false
is_double (let_in a b e f) = false
is_double (loop a ls e b n x f) = is_some (twice ls) && are_few ls
is_double (iterate a e b f) = false

abbrev pub once_by : At → LegTrees → ExprTree → Binder → Binder → Binder → ExprTree → Option Places → ExprTree
once_by a ls e b n x f None = loop a ls e b n x f
once_by a ls e b n x f (Some p) = once a ls e b n x f p

-- the loop without the second of both legs, the row rebuilt for each use of the row; what is no such loop stays
abbrev pub without_double : ExprTree → ExprTree
without_double (leaf a l) = leaf a l
without_double (one a o e) = one a o e
without_double (two a o e f) = two a o e f
without_double (three a o c e f) = three a o c e f
without_double (many a o es) = many a o es
without_double (let_in a b e f) = let_in a b e f
without_double (loop a ls e b n x f) = once_by a ls e b n x f (twice ls)
without_double (iterate a e b f) = iterate a e b f

-- and the fields of the rebuilt row picked, so that no struct is made for one field of it
abbrev pub single : ExprTree → ExprTree
single e = swept picks_rule (without_double e)

-- the rule: in a loop with a leg that stands twice, it stands once
abbrev pub doubles_rule : RootRule
doubles_rule = tested is_double single

-- no loop of the expression has a leg that is a name which stands twice
abbrev pub HasNoDouble : ExprTree → Type 0
HasNoDouble e = EachNode (λ node. is_double node ≡ false) e

-- ---- two places as the code has them

abbrev pub of_places : LegPlaces → Places
of_places p = record { first = p.first; second = p.second }

abbrev pub as_places : Option LegPlaces → Option Places
as_places o = option_map of_places o
