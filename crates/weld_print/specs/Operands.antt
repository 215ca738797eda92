-- Which operands stand in parentheses.
use Rattle.std.specs.Prelude.{Bool, true, false, not, ◌||◌, pos, int_lt}
use Rattle.weld_tree.specs.ExprTree.{ExprTree, leaf, one, two, three, many, let_in, loop, iterate, Leaf, int, truth, chars, name, fresh, One, neg, not as bang, cast, len, field, finish, started, Two, binary, and, or, look_up, key_exists, merge}

-- a number literal that is negative
abbrev pub is_negative : Leaf → Bool
is_negative (int k x) = int_lt x (pos 0)
is_negative (truth b) = false
is_negative (chars bs) = false
is_negative (name s) = false
is_negative (fresh b) = false

-- a number literal that isn't
abbrev pub is_natural : Leaf → Bool
is_natural (int k x) = not (int_lt x (pos 0))
is_natural (truth b) = false
is_natural (chars bs) = false
is_natural (name s) = false
is_natural (fresh b) = false

-- a number, a truth value or a string
abbrev pub is_literal : Leaf → Bool
is_literal (int k x) = true
is_literal (truth b) = true
is_literal (chars bs) = true
is_literal (name s) = false
is_literal (fresh b) = false

-- a negation or a `!`
abbrev pub is_sign : One → Bool
is_sign neg = true
is_sign bang = true
is_sign (cast k) = false
is_sign len = false
is_sign (field n) = false
is_sign finish = false
is_sign (started b) = false

-- a binary node: an operator, `&&` or `||`
abbrev pub is_binary : Two → Bool
is_binary (binary op) = true
is_binary and = true
is_binary or = true
is_binary look_up = false
is_binary key_exists = false
is_binary merge = false

-- an operand of a binary operator, of `!`, of `-` or of `.` stands in parentheses where it is a binary node, a
-- negation, a `!` node, a `let` or a negative literal
abbrev pub in_parens : ExprTree → Bool
in_parens (leaf a l) = is_negative l
in_parens (one a o e) = is_sign o
in_parens (two a t e f) = is_binary t
in_parens (three a t e f g) = false
in_parens (many a m es) = false
in_parens (let_in a b e f) = true
in_parens (loop a ls e b n x f) = false
in_parens (iterate a e b f) = false

-- a number literal that isn't negative, or field accesses on one
abbrev pub is_natural_or_field : ExprTree → Bool
is_natural_or_field (leaf a l) = is_natural l
is_natural_or_field (one a neg e) = false
is_natural_or_field (one a bang e) = false
is_natural_or_field (one a (cast k) e) = false
is_natural_or_field (one a len e) = false
is_natural_or_field (one a (field n) e) = is_natural_or_field e
is_natural_or_field (one a finish e) = false
is_natural_or_field (one a (started b) e) = false
is_natural_or_field (two a t e f) = false
is_natural_or_field (three a t e f g) = false
is_natural_or_field (many a m es) = false
is_natural_or_field (let_in a b e f) = false
is_natural_or_field (loop a ls e b n x f) = false
is_natural_or_field (iterate a e b f) = false

-- the operand of a `-` also where it is a literal, or field accesses on a number literal that isn't negative
abbrev pub in_parens_behind_minus : ExprTree → Bool
in_parens_behind_minus (leaf a l) = is_literal l
in_parens_behind_minus (one a o e) = is_sign o || is_natural_or_field (one a o e)
in_parens_behind_minus (two a t e f) = is_binary t
in_parens_behind_minus (three a t e f g) = false
in_parens_behind_minus (many a m es) = false
in_parens_behind_minus (let_in a b e f) = true
in_parens_behind_minus (loop a ls e b n x f) = false
in_parens_behind_minus (iterate a e b f) = false

-- the part of a form of one part stands in parentheses of its own
abbrev pub part_in_parens : One → ExprTree → Bool
part_in_parens neg e = in_parens_behind_minus e
part_in_parens bang e = in_parens e
part_in_parens (cast k) e = false
part_in_parens len e = false
part_in_parens (field n) e = in_parens e
part_in_parens finish e = false
part_in_parens (started b) e = false

-- a part of a form of two parts does
abbrev pub side_in_parens : Two → ExprTree → Bool
side_in_parens (binary op) e = in_parens e
side_in_parens and e = in_parens e
side_in_parens or e = in_parens e
side_in_parens look_up e = false
side_in_parens key_exists e = false
side_in_parens merge e = false

-- the value of a `let` does: where it is a `let`
abbrev pub value_in_parens : ExprTree → Bool
value_in_parens (leaf a l) = false
value_in_parens (one a o e) = false
value_in_parens (two a t e f) = false
value_in_parens (three a t e f g) = false
value_in_parens (many a m es) = false
value_in_parens (let_in a b e f) = true
value_in_parens (loop a ls e b n x f) = false
value_in_parens (iterate a e b f) = false
