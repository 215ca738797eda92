-- Lets between two others: results of a name with field accesses, which may stand behind any `let` that doesn't use them.
use Rattle.std.specs.Prelude.{ℕ, ◌==◌, if◌then◌else◌, Bool, true, false, ◌&&◌}
use Rattle.weld_tree.specs.ExprTree.{ExprTree, one, let_in, finish}
use Rattle.weld_substitution.specs.Redex.{is_chain}
use Rattle.weld_substitution.specs.Uses.{uses}

-- the result of a name, or of a name followed by field accesses
abbrev pub is_named_result : ExprTree → Bool
is_named_result (one a finish e) = is_chain e
is_named_result e = false

-- of lets one in another's body the first that binds no such result: what is left without it
abbrev pub left_over : ExprTree → ExprTree
left_over (let_in a x v f) = if is_named_result v then let_in a x v (left_over f) else f
left_over e = e

-- that `let`, with another body
abbrev pub taken_out : ExprTree → ExprTree → ExprTree
taken_out (let_in a x v f) d = if is_named_result v then taken_out f d else let_in a x v d
taken_out e d = d

-- that `let` before the others, which keep their order
abbrev pub brought_up : ExprTree → ExprTree
brought_up e = taken_out e (left_over e)

-- it is there, and its value doesn't use the name
abbrev pub is_unused_next : ℕ → ExprTree → Bool
is_unused_next s (let_in a x v f) = if is_named_result v then is_unused_next s f else (uses v s == 0)
is_unused_next s e = false

-- it is there, and its value uses none of the names that the lets before it bind
abbrev pub may_come_up : ExprTree → Bool
may_come_up (let_in a x v f) = if is_named_result v then is_unused_next x.sym.0 f && may_come_up f else true
may_come_up e = false
