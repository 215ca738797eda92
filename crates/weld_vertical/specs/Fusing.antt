-- Loops over what other loops make, as one loop: the rule of the pass, and what its answer has none of.
use Rattle.std.specs.Prelude.{◌≡◌, ℕ, Bool, false}
use Rattle.weld_tree.specs.declared.binder.Binder.{Binder}
use Rattle.weld_tree.specs.declared.known.Known.{Known}
use Rattle.weld_tree.specs.ExprTree.{At, ExprTree, leaf, one, two, three, many, let_in, loop, iterate, LegTree, whole, strided, LegTrees, no_legs, more_legs, finish}
use Rattle.weld_rewriting.specs.Nodes.{EachNode}
use Rattle.weld_rewriting.specs.Sweep.{RootRule}
use Rattle.weld_rewriting.specs.Tested.{tested}
use Rattle.weld_vertical.specs.Sinking.{is_finish, merges, is_consumer, sunk, fused}

-- the rule: a loop over what another loop makes runs over that one's legs
abbrev pub loops_rule : RootRule
loops_rule = tested is_consumer fused

-- no node of the expression is such a loop
abbrev pub HasNoSuchLoop : ExprTree → Type 0
HasNoSuchLoop e = EachNode (λ node. is_consumer node ≡ false) e

-- ---- its parts in code

-- the `result` of something
abbrev pub is_result : ExprTree → Bool
is_result (leaf a l) = false
is_result (one a o e) = is_finish o
is_result (two a o e f) = false
is_result (three a o e f g) = false
is_result (many a o es) = false
is_result (let_in a b e f) = false
is_result (loop a ls e b n x f) = false
is_result (iterate a e b f) = false

abbrev pub is_result_leg : LegTree → Bool
is_result_leg (whole e) = is_result e
is_result_leg (strided e f g h) = false

abbrev pub is_only_result : LegTrees → Bool
is_only_result no_legs = false
is_only_result (more_legs l no_legs) = is_result_leg l
is_only_result (more_legs l (more_legs m ls)) = false

-- the leg is the result of that
abbrev pub IsMadeBy : LegTree → ExprTree → Type 0
IsMadeBy l p = (m : At) × (l ≡ whole (one m finish p))

-- it is the only leg
abbrev pub IsOnlyBy : LegTrees → ExprTree → Type 0
IsOnlyBy ls p = (m : At) × (ls ≡ more_legs (whole (one m finish p)) no_legs)

-- how many merges stand at the ends of a loop's body
abbrev pub body_merges : ExprTree → ℕ
body_merges (leaf a l) = 0
body_merges (one a o e) = 0
body_merges (two a o e f) = 0
body_merges (three a o e f g) = 0
body_merges (many a o es) = 0
body_merges (let_in a b e f) = 0
body_merges (loop a ls e b n x f) = merges f
body_merges (iterate a e b f) = 0

-- the first is the second, where nothing is merged, with any consumer of the type and builder sunk into it
abbrev pub IsPassedOn : Known → ℕ → ExprTree → ExprTree → Type 0
IsPassedOn ty c d e = (i : ℕ) (n x : Binder) (f : ExprTree) → d ≡ sunk ty c i n x f e

-- the loop that takes the place of a consumer and of the producer, the last; what isn't a loop stays
abbrev pub joined : At → ExprTree → Binder → Binder → Binder → ExprTree → ExprTree → ExprTree
joined a e b n x f (leaf p l) = leaf p l
joined a e b n x f (one p o q) = one p o q
joined a e b n x f (two p o q g) = two p o q g
joined a e b n x f (three p o c q g) = three p o c q g
joined a e b n x f (many p o es) = many p o es
joined a e b n x f (let_in p z v g) = let_in p z v g
joined a e b n x f (loop p ks s d i r g) = loop a ks e b i r (sunk a.ty b.sym.0 i.sym.0 n x f g)
joined a e b n x f (iterate p q d g) = iterate p q d g
