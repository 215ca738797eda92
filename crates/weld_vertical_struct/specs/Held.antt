-- A loop over what another loop makes that holds its builder in pairs, as one loop: the pairs of the other's body are taken apart
-- first.
use Rattle.std.specs.Prelude.{◌≡◌, ℕ, Bool, false, ◌||◌, Option, Some, None}
use Rattle.weld_tree.specs.ExprTree.{ExprTree, leaf, one, two, three, many, let_in, loop, iterate, LegTree, whole, strided, LegTrees, no_legs, more_legs}
use Rattle.weld_rewriting.specs.Nodes.{EachNode}
use Rattle.weld_rewriting.specs.Sweep.{RootRule}
use Rattle.weld_vertical.specs.Sinking.{is_consumer, fused}
use Rattle.weld_vertical.specs.Fusing.{loops_rule}
use Rattle.weld_vertical_struct.specs.Parting.{opened, has_pair}

-- so many lets and ifs behind one another are looked through: no program that a text spells has more lets
abbrev pub depth : ℕ
depth = 1024

-- ---- a producer with its pairs taken apart, where the number `z` stands nowhere

abbrev pub opened_loop : ℕ → ExprTree → ExprTree
opened_loop z (leaf a l) = leaf a l
opened_loop z (one a o e) = one a o e
opened_loop z (two a o e f) = two a o e f
opened_loop z (three a o c e f) = three a o c e f
opened_loop z (many a o es) = many a o es
opened_loop z (let_in a b e f) = let_in a b e f
opened_loop z (loop a ls e b n x f) = loop a ls e b n x (opened b.sym.0 z depth f)
opened_loop z (iterate a e b f) = iterate a e b f

abbrev pub opened_result : ℕ → ExprTree → ExprTree
opened_result z (leaf a l) = leaf a l
opened_result z (one a o e) = one a o (opened_loop z e)
opened_result z (two a o e f) = two a o e f
opened_result z (three a o c e f) = three a o c e f
opened_result z (many a o es) = many a o es
opened_result z (let_in a b e f) = let_in a b e f
opened_result z (loop a ls e b n x f) = loop a ls e b n x f
opened_result z (iterate a e b f) = iterate a e b f

abbrev pub opened_leg : ℕ → LegTree → LegTree
opened_leg z (whole e) = whole (opened_result z e)
opened_leg z (strided e f g h) = strided e f g h

abbrev pub opened_legs : ℕ → LegTrees → LegTrees
opened_legs z no_legs = no_legs
opened_legs z (more_legs l ls) = more_legs (opened_leg z l) (opened_legs z ls)

-- a loop with the pairs taken apart in the bodies of the loops that make its legs, where the number of its own row stands nowhere; any
-- other node as it is
abbrev pub opened_producer : ExprTree → ExprTree
opened_producer (leaf a l) = leaf a l
opened_producer (one a o e) = one a o e
opened_producer (two a o e f) = two a o e f
opened_producer (three a o c e f) = three a o c e f
opened_producer (many a o es) = many a o es
opened_producer (let_in a b e f) = let_in a b e f
opened_producer (loop a ls e b n x f) = loop a (opened_legs x.sym.0 ls) e b n x f
opened_producer (iterate a e b f) = iterate a e b f

-- ---- in code

-- the numbers of a loop's builder and of its row
abbrev pub builder_of : ExprTree → Option ℕ
builder_of (leaf a l) = None
builder_of (one a o e) = None
builder_of (two a o e f) = None
builder_of (three a o c e f) = None
builder_of (many a o es) = None
builder_of (let_in a b e f) = None
builder_of (loop a ls e b n x f) = Some b.sym.0
builder_of (iterate a e b f) = None

abbrev pub row_of : ExprTree → Option ℕ
row_of (leaf a l) = None
row_of (one a o e) = None
row_of (two a o e f) = None
row_of (three a o c e f) = None
row_of (many a o es) = None
row_of (let_in a b e f) = None
row_of (loop a ls e b n x f) = Some x.sym.0
row_of (iterate a e b f) = None

-- the pairs of a loop's body in which this builder stands taken apart, and those in the bodies of the loops that make its legs
abbrev pub opened_in_body : ℕ → ℕ → ExprTree → ExprTree
opened_in_body d z (leaf a l) = leaf a l
opened_in_body d z (one a o e) = one a o e
opened_in_body d z (two a o e f) = two a o e f
opened_in_body d z (three a o c e f) = three a o c e f
opened_in_body d z (many a o es) = many a o es
opened_in_body d z (let_in a b e f) = let_in a b e f
opened_in_body d z (loop a ls e b n x f) = loop a ls e b n x (opened d z depth f)
opened_in_body d z (iterate a e b f) = iterate a e b f

abbrev pub opened_in_legs : ℕ → ExprTree → ExprTree
opened_in_legs z (leaf a l) = leaf a l
opened_in_legs z (one a o e) = one a o e
opened_in_legs z (two a o e f) = two a o e f
opened_in_legs z (three a o c e f) = three a o c e f
opened_in_legs z (many a o es) = many a o es
opened_in_legs z (let_in a b e f) = let_in a b e f
opened_in_legs z (loop a ls e b n x f) = loop a (opened_legs z ls) e b n x f
opened_in_legs z (iterate a e b f) = iterate a e b f

abbrev pub loop_has_pair : ExprTree → Bool
loop_has_pair (leaf a l) = false
loop_has_pair (one a o e) = false
loop_has_pair (two a o e f) = false
loop_has_pair (three a o c e f) = false
loop_has_pair (many a o es) = false
loop_has_pair (let_in a b e f) = false
loop_has_pair (loop a ls e b n x f) = has_pair f
loop_has_pair (iterate a e b f) = false

abbrev pub result_has_pair : ExprTree → Bool
result_has_pair (leaf a l) = false
result_has_pair (one a o e) = loop_has_pair e
result_has_pair (two a o e f) = false
result_has_pair (three a o c e f) = false
result_has_pair (many a o es) = false
result_has_pair (let_in a b e f) = false
result_has_pair (loop a ls e b n x f) = false
result_has_pair (iterate a e b f) = false

abbrev pub leg_has_pair : LegTree → Bool
leg_has_pair (whole e) = result_has_pair e
leg_has_pair (strided e f g h) = false

abbrev pub legs_have_pair : LegTrees → Bool
legs_have_pair no_legs = false
legs_have_pair (more_legs l ls) = leg_has_pair l || legs_have_pair ls

-- whether there is a `let` of a pair in the body of a loop that makes a leg
abbrev pub producer_has_pair : ExprTree → Bool
producer_has_pair (leaf a l) = false
producer_has_pair (one a o e) = false
producer_has_pair (two a o e f) = false
producer_has_pair (three a o c e f) = false
producer_has_pair (many a o es) = false
producer_has_pair (let_in a b e f) = false
producer_has_pair (loop a ls e b n x f) = legs_have_pair ls
producer_has_pair (iterate a e b f) = false

-- ---- rules

-- the rule tried once the pairs are taken apart; where it doesn't match then, nothing changes
abbrev pub opened_rule : RootRule → RootRule
opened_rule r e = r (opened_producer e)

-- once the pairs are taken apart, the loop is over what another makes, which merges once a row, or once or not at all
abbrev pub is_held : ExprTree → Bool
is_held e = is_consumer (opened_producer e)

abbrev pub held_fused : ExprTree → ExprTree
held_fused e = fused (opened_producer e)

abbrev pub held_rule : RootRule
held_rule = opened_rule loops_rule

-- no node of the expression is such a loop
abbrev pub HasNoHeldLoop : ExprTree → Type 0
HasNoHeldLoop e = EachNode (λ node. is_held node ≡ false) e
