-- Loops that append to one list once a row, so that the list has as many items as there are rows.
use Rattle.std.specs.Prelude.{ℕ, ◌==◌, Bool, true, false, ◌&&◌, List}
use Rattle.weld_tree.specs.TypeTree.{BuildTree, list, total, keyed, cells, groups}
use Rattle.weld_tree.specs.ExprTree.{ExprTree, leaf, one, two, three, many, let_in, loop, iterate, Leaf, int, truth, chars, name, fresh, Two, binary, and, or, look_up, key_exists, merge, Three, if_else, select, slice}
use Rattle.weld_sizes.specs.Marks.{marks_by}

-- ---- one list

abbrev pub is_list : BuildTree → Bool
is_list (list t) = true
is_list (total t op) = false
is_list (keyed k v op) = false
is_list (cells t op) = false
is_list (groups k v) = false

abbrev pub is_list_leaf : Leaf → Bool
is_list_leaf (int k x) = false
is_list_leaf (truth b) = false
is_list_leaf (chars bs) = false
is_list_leaf (name s) = false
is_list_leaf (fresh b) = is_list b

-- the expression is one `vecbuilder`, not a name of one and no struct
abbrev pub is_new_list : ExprTree → Bool
is_new_list (leaf a l) = is_list_leaf l
is_new_list (one a o e) = false
is_new_list (two a o e f) = false
is_new_list (three a o c e f) = false
is_new_list (many a o es) = false
is_new_list (let_in a b e f) = false
is_new_list (loop a ls e b n x f) = false
is_new_list (iterate a e b f) = false

-- ---- one merge

abbrev pub is_name_leaf : Leaf → ℕ → Bool
is_name_leaf (int k x) s = false
is_name_leaf (truth b) s = false
is_name_leaf (chars bs) s = false
is_name_leaf (name t) s = s == t
is_name_leaf (fresh b) s = false

-- the expression is the name
abbrev pub is_that_name : ExprTree → ℕ → Bool
is_that_name (leaf a l) s = is_name_leaf l s
is_that_name (one a o e) s = false
is_that_name (two a o e f) s = false
is_that_name (three a o c e f) s = false
is_that_name (many a o es) s = false
is_that_name (let_in a b e f) s = false
is_that_name (loop a ls e b n x f) s = false
is_that_name (iterate a e b f) s = false

abbrev pub is_merge : Two → Bool
is_merge (binary op) = false
is_merge and = false
is_merge or = false
is_merge look_up = false
is_merge key_exists = false
is_merge merge = true

abbrev pub is_if : Three → Bool
is_if if_else = true
is_if select = false
is_if slice = false

-- the expression merges once into the name: it is `merge` of the name and a value; or a `let` whose body merges once; or an
-- `if` both of whose arms merge once
abbrev pub merges_once : ExprTree → ℕ → Bool
merges_once (leaf a l) s = false
merges_once (one a o e) s = false
merges_once (two a o e f) s = is_merge o && is_that_name e s
merges_once (three a o c e f) s = is_if o && (merges_once e s && merges_once f s)
merges_once (many a o es) s = false
merges_once (let_in a b e f) s = merges_once f s
merges_once (loop a ls e b n x f) s = false
merges_once (iterate a e b f) s = false

-- ---- the marks

-- a loop is of the sized form: its builder is one `vecbuilder`, and its body merges once into the loop's builder
abbrev pub has_sized_form : ExprTree → Bool
has_sized_form (leaf a l) = false
has_sized_form (one a o e) = false
has_sized_form (two a o e f) = false
has_sized_form (three a o c e f) = false
has_sized_form (many a o es) = false
has_sized_form (let_in a b e f) = false
has_sized_form (loop a ls e b n x f) = is_new_list e && merges_once f b.sym.0
has_sized_form (iterate a e b f) = false

-- one mark for each loop of the expression, in the order in which they begin in the text: whether it is of the sized form
abbrev pub sized_marks : ExprTree → List Bool
sized_marks e = marks_by has_sized_form e
