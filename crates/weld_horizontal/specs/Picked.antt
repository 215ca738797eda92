-- A field of a struct that is made there is what was put in, where all that was put in is plain.
use Rattle.std.specs.Prelude.{ℕ, zero, suc, Bool, true, false, ◌&&◌, Option, Some, None}
use Rattle.weld_tree.specs.ExprTree.{ExprTree, leaf, one, two, three, many, let_in, loop, iterate, ExprTrees, no_exprs, more_exprs, One, neg, not, cast, len, field, finish, started, Many, make_vec, make_struct}
use Rattle.weld_substitution.specs.Redex.{is_plain}

abbrev pub field_number : One → Option ℕ
field_number neg = None
field_number not = None
field_number (cast k) = None
field_number len = None
field_number (field n) = Some n
field_number finish = None
field_number (started b) = None

abbrev pub parts_of : Many → ExprTrees → Option ExprTrees
parts_of make_vec es = None
parts_of make_struct es = Some es

-- what a struct is made of
abbrev pub made_of : ExprTree → Option ExprTrees
made_of (leaf a l) = None
made_of (one a o e) = None
made_of (two a o e f) = None
made_of (three a o c e f) = None
made_of (many a o es) = parts_of o es
made_of (let_in a b e f) = None
made_of (loop a ls e b n x f) = None
made_of (iterate a e b f) = None

abbrev pub all_plain : ExprTrees → Bool
all_plain no_exprs = true
all_plain (more_exprs e es) = is_plain e && all_plain es

-- there is one of that number, from 0
abbrev pub has_nth : ℕ → ExprTrees → Bool
has_nth n no_exprs = false
has_nth zero (more_exprs e es) = true
has_nth (suc n) (more_exprs e es) = has_nth n es

-- the one of that number, or the given expression where there is none
abbrev pub nth_or : ExprTree → ℕ → ExprTrees → ExprTree
nth_or d n no_exprs = d
nth_or d zero (more_exprs e es) = e
nth_or d (suc n) (more_exprs e es) = nth_or d n es

abbrev pub is_pick_from : Option ℕ → Option ExprTrees → Bool
is_pick_from None es = false
is_pick_from (Some n) None = false
is_pick_from (Some n) (Some es) = has_nth n es && all_plain es

abbrev pub is_pick : ExprTree → Bool
is_pick (leaf a l) = false
is_pick (one a o e) = is_pick_from (field_number o) (made_of e)
is_pick (two a o e f) = false
is_pick (three a o c e f) = false
is_pick (many a o es) = false
is_pick (let_in a b e f) = false
is_pick (loop a ls e b n x f) = false
is_pick (iterate a e b f) = false

abbrev pub picked_from : ExprTree → Option ℕ → Option ExprTrees → ExprTree
picked_from d None es = d
picked_from d (Some n) None = d
picked_from d (Some n) (Some es) = nth_or d n es

-- the item of that field; any other node is as it was
abbrev pub picked : ExprTree → ExprTree
picked (leaf a l) = leaf a l
picked (one a o e) = picked_from (one a o e) (field_number o) (made_of e)
picked (two a o e f) = two a o e f
picked (three a o c e f) = three a o c e f
picked (many a o es) = many a o es
picked (let_in a b e f) = let_in a b e f
picked (loop a ls e b n x f) = loop a ls e b n x f
picked (iterate a e b f) = iterate a e b f
