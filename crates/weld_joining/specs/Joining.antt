-- Two lets, each of a loop over one name or of the result of one, as one loop, where between them stand none but lets of results of
-- names with field accesses: the rule of the pass, and what its answer has none of.
use Rattle.std.specs.Prelude.{◌≡◌, ℕ, ◌==◌, if◌then◌else◌, Bool, true, false, ◌&&◌, Option, Some, None, is_some}
use Rattle.weld_tree.specs.declared.binder.Binder.{Binder}
use Rattle.weld_tree.specs.declared.known.Known.{Known}
use Rattle.weld_tree.specs.declared.known.Known.TheVariants.{Is, Blank}
use Rattle.weld_tree.specs.TypeTree.{TypeTree, vec, struct, no_types}
use Rattle.weld_tree.specs.Types.{pair_of}
use Rattle.weld_tree.specs.ExprTree.{At, ExprTree, leaf, one, let_in, loop, LegTree, whole, LegTrees, no_legs, more_legs, Leaf, name, finish}
use Rattle.weld_substitution.specs.Redex.{noted}
use Rattle.weld_types.specs.Tests.{is_within_limits}
use Rattle.weld_rewriting.specs.Nodes.{EachNode}
use Rattle.weld_rewriting.specs.Sweep.{RootRule}
use Rattle.weld_rewriting.specs.Tested.{tested}
use Rattle.weld_substitution.specs.Uses.{uses}
use Rattle.weld_joining.specs.Beside.{side_by_side}
use Rattle.weld_joining.specs.Between.{is_named_result, brought_up, may_come_up}

-- ---- a loop over one name, and its result

-- the name, where the node is noted to be a vector
abbrev pub name_in : Known → Leaf → Option ℕ
name_in (Is (vec t)) (name s) = Some s
name_in k l = None

abbrev pub name_of : ExprTree → Option ℕ
name_of (leaf a l) = name_in a.ty l
name_of e = None

abbrev pub leg_name : LegTree → Option ℕ
leg_name (whole e) = name_of e
leg_name l = None

-- the name that is the only leg
abbrev pub only_name : LegTrees → Option ℕ
only_name (more_legs l no_legs) = leg_name l
only_name ls = None

-- the type is noted
abbrev pub is_known : Known → Bool
is_known (Is t) = true
is_known Blank = false

abbrev pub loop_over : ExprTree → Option ℕ
loop_over (loop a ls e b n x f) = if is_known (noted e) then only_name ls else None
loop_over e = None

-- the name over which the loop runs that the expression is, or whose result it is
abbrev pub over : ExprTree → Option ℕ
over (one a finish e) = loop_over e
over e = loop_over e

-- ---- the pattern

abbrev pub same_name : Option ℕ → Option ℕ → Bool
same_name (Some s) (Some t) = s == t
same_name o p = false

-- both are loops over one name or results of such, and the second doesn't use what the first `let` binds
abbrev pub are_beside : Binder → ExprTree → ExprTree → Bool
are_beside x v w = same_name (over v) (over w) && (uses w x.sym.0 == 0)

-- the first `let` from there on that binds no result of a name with field accesses is such a second one
abbrev pub is_followed : Binder → ExprTree → ExprTree → Bool
is_followed x v (let_in m y w f) = if is_named_result w then is_followed x v f else are_beside x v w
is_followed x v e = false

-- two lets of such values, and between them, perhaps, results of names with field accesses, none of which the second value uses
abbrev pub is_pair : ExprTree → Bool
is_pair (let_in a x v f) = is_some (over v) && (is_followed x v f && may_come_up f)
is_pair e = false

-- ---- the limits on types

-- as it is noted
abbrev pub known_type : Known → TypeTree
known_type (Is t) = t
known_type Blank = struct no_types

-- the type of that from which a loop starts
abbrev pub loop_type : ExprTree → TypeTree
loop_type (loop a ls e b n x f) = known_type (noted e)
loop_type e = struct no_types

-- of the loop that the expression is, or whose result it is
abbrev pub start_type : ExprTree → TypeTree
start_type (one a o e) = loop_type e
start_type e = loop_type e

abbrev pub types_after : ExprTree → ExprTree → TypeTree
types_after v (let_in m y w f) = if is_named_result w then types_after v f else pair_of (start_type v) (start_type w)
types_after v e = struct no_types

-- the struct of what both start from
abbrev pub both_types : ExprTree → TypeTree
both_types (let_in a x v f) = types_after v f
both_types e = struct no_types

-- two such lets, the struct of what both start from being within the limits on types
abbrev pub may_be_one : ExprTree → Bool
may_be_one e = is_pair e && is_within_limits (both_types e)

-- ---- the rule

-- the type of a vector's items, as noted
abbrev pub item_of : Known → TypeTree
item_of (Is (vec t)) = t
item_of k = struct no_types

-- what is noted at the result, if the expression is one
abbrev pub result_of : ExprTree → Option At
result_of (one p finish e) = Some p
result_of e = None

-- the loop that it is, or whose result it is
abbrev pub loop_in : ExprTree → ExprTree
loop_in (one p finish e) = e
loop_in e = e

-- the one loop in place of two over one name, of which these are results or not
abbrev pub joined_loops : At → At → Binder → Option At → ExprTree → Binder → Option At → ExprTree → ExprTree → ExprTree
joined_loops a m x p (loop q (more_legs (whole (leaf l (name s))) no_legs) d c i r f) y u (loop w (more_legs (whole (leaf j (name t))) no_legs) e g n z h) rest =
    side_by_side a m s (item_of l.ty)
    (record { bound = x; result_at = p; loop_at = q; leg_at = l; start = d; starts = known_type (noted d); builder = c; number = i; row = r; body = f })
    (record { bound = y; result_at = u; loop_at = w; leg_at = j; start = e; starts = known_type (noted e); builder = g; number = n; row = z; body = h }) rest
joined_loops a m x p v y u w rest = rest

-- of two neighbouring lets: the one loop, and its fields or their results
abbrev pub joined_neighbours : ExprTree → ExprTree
joined_neighbours (let_in a x v (let_in m y w rest)) = joined_loops a m x (result_of v) (loop_in v) y (result_of w) (loop_in w) rest
joined_neighbours e = e

-- the second `let` before those that stand between
abbrev pub as_neighbours : ExprTree → ExprTree
as_neighbours (let_in a x v f) = let_in a x v (brought_up f)
as_neighbours e = e

-- the one loop, its fields or their results, and then the lets that stood between
abbrev pub joined_pair : ExprTree → ExprTree
joined_pair e = joined_neighbours (as_neighbours e)

-- the rule: two such lets become one loop and lets of its fields or their results
abbrev pub beside_rule : RootRule
beside_rule = tested may_be_one joined_pair

-- no two lets of the expression are such
abbrev pub HasNoPair : ExprTree → Type 0
HasNoPair e = EachNode (λ node. may_be_one node ≡ false) e
