-- Lets put in their place: the rule of the pass, and what its answer has none of.
use Rattle.std.specs.Prelude.{◌≡◌, false}
use Rattle.weld_tree.specs.ExprTree.{ExprTree, leaf, one, two, three, many, let_in, loop, iterate}
use Rattle.weld_meaning.specs.Names.{put}
use Rattle.weld_rewriting.specs.Nodes.{EachNode}
use Rattle.weld_rewriting.specs.Sweep.{RootRule}
use Rattle.weld_rewriting.specs.Tested.{tested}
use Rattle.weld_substitution.specs.Redex.{is_redex}

-- the body of a `let` with the value for each use of the name; what isn't a `let` stays
abbrev pub opened : ExprTree → ExprTree
opened (leaf a l) = leaf a l
opened (one a o e) = one a o e
opened (two a o e f) = two a o e f
opened (three a o c e f) = three a o c e f
opened (many a o es) = many a o es
opened (let_in a b v f) = put b.sym.0 v f
opened (loop a ls e b n x f) = loop a ls e b n x f
opened (iterate a e b f) = iterate a e b f

-- the rule: a `let` of a plain value, or one whose name is used once where the value may stand, is opened
abbrev pub lets_rule : RootRule
lets_rule = tested is_redex opened

-- no node of the expression is such a `let`
abbrev pub HasNoSuchLet : ExprTree → Type 0
HasNoSuchLet e = EachNode (λ node. is_redex node ≡ false) e
