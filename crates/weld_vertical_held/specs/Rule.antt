-- A loop over what another loop makes that holds its builder wherever it likes, and the one loop that takes the place of both.
use Rattle.std.specs.Prelude.{◌≡◌, ℕ, ◌==◌, Bool, false, ◌&&◌, ◌||◌}
use Rattle.weld_tree.specs.ExprTree.{ExprTree, leaf, one, two, three, many, let_in, loop, iterate, LegTree, whole, strided, LegTrees, no_legs, more_legs}
use Rattle.weld_meaning.specs.Environment.{Named}
use Rattle.weld_meaning.specs.Origin.{Origin}
use Rattle.weld_substitution.specs.Uses.{uses}
use Rattle.weld_rewriting.specs.Nodes.{EachNode}
use Rattle.weld_rewriting.specs.Sweep.{RootRule}
use Rattle.weld_rewriting.specs.Tested.{tested}
use Rattle.weld_vertical.specs.Sinking.{starts_list, is_finish}
use Rattle.weld_handing.specs.Handing.{unnoted, starts_none, own_names, handed_by, is_noted}
use Rattle.weld_handing.specs.Merging.{list_merges, always_merges}

-- it merges into the list at one place; no loop within starts with the list's builder; and it does so in every row, or the loop with
-- that row number and body doesn't use its row number
abbrev pub merges_once : ℕ → ExprTree → Named Origin → ExprTree → Bool
merges_once n f q g = (list_merges q g == 1) && (starts_none q g && (always_merges q g || (uses f n == 0)))

-- a loop that starts with an empty `vecbuilder` and has such a body
abbrev pub makes_list : ℕ → ExprTree → ExprTree → Bool
makes_list n f (leaf a l) = false
makes_list n f (one a o e) = false
makes_list n f (two a o e g) = false
makes_list n f (three a o e g k) = false
makes_list n f (many a o es) = false
makes_list n f (let_in a b e g) = false
makes_list n f (loop a ls e d i r g) = starts_list e && merges_once n f (own_names d i r) g
makes_list n f (iterate a e b g) = false

-- the list that it makes
abbrev pub is_its_list : ℕ → ExprTree → ExprTree → Bool
is_its_list n f (leaf a l) = false
is_its_list n f (one a o e) = is_finish o && makes_list n f e
is_its_list n f (two a o e g) = false
is_its_list n f (three a o e g k) = false
is_its_list n f (many a o es) = false
is_its_list n f (let_in a b e g) = false
is_its_list n f (loop a ls e b m x g) = false
is_its_list n f (iterate a e b g) = false

abbrev pub is_its_leg : ℕ → ExprTree → LegTree → Bool
is_its_leg n f (whole e) = is_its_list n f e
is_its_leg n f (strided e g h i) = false

abbrev pub is_its_only_leg : ℕ → ExprTree → LegTrees → Bool
is_its_only_leg n f no_legs = false
is_its_only_leg n f (more_legs l no_legs) = is_its_leg n f l
is_its_only_leg n f (more_legs l (more_legs m ls)) = false

-- a noted loop whose only leg is such a list
abbrev pub is_over_list : ExprTree → Bool
is_over_list (leaf a l) = false
is_over_list (one a o e) = false
is_over_list (two a o e f) = false
is_over_list (three a o e f g) = false
is_over_list (many a o es) = false
is_over_list (let_in a b e f) = false
is_over_list (loop a ls e b n x f) = is_noted a.ty && is_its_only_leg n.sym.0 f ls
is_over_list (iterate a e b f) = false

-- ---- the one loop

-- the loop over the other's legs, with its row number and row; what is none stays
abbrev pub handed_over : ExprTree → ExprTree
handed_over (loop a (more_legs (whole (one m o (loop p ks s d i r g))) no_legs) e c n x f) =
    loop a ks e (unnoted d) i r (handed_by a.ty i.sym.0 c n x f (own_names d i r) g)
handed_over e = e

-- the rule: a loop over such a list runs over the legs of the loop that makes it
abbrev pub handing_rule : RootRule
handing_rule = tested is_over_list handed_over

-- no node of the expression is such a loop
abbrev pub HasNoListHandedOver : ExprTree → Type 0
HasNoListHandedOver e = EachNode (λ node. is_over_list node ≡ false) e
