-- What the code has in its hands of two lets of results of loops, and the one loop made of it.
use Rattle.std.specs.Prelude.{◌≡◌, ℕ, Option, option_map}
use Rattle.weld_data.specs.declared.kind.Kind.TheVariants as kinds
use Rattle.weld_tree.specs.declared.binder.Binder.{Binder}
use Rattle.weld_tree.specs.declared.place.Place.{Place}
use Rattle.weld_tree.specs.TypeTree.{TypeTree, scalar, struct, no_types}
use Rattle.weld_tree.specs.Types.{pair_of}
use Rattle.weld_tree.specs.ExprTree.{At, ExprTree, leaf, many, let_in, loop, no_exprs, more_exprs, LegTree, whole, LegTrees, no_legs, more_legs, pack_legs, name, make_struct}
use Rattle.weld_meaning.specs.Names.{put}
use Rattle.weld_substitution.specs.Redex.{noted}
use Rattle.weld_joining.specs.Beside.{finish_at, node_of, bare, builder_field}
use Rattle.weld_joining.specs.Between.{left_over, taken_out}
use Rattle.weld_joining.specs.Joining.{known_type, item_of}
use Rattle.weld_joining.specs.declared.between.Next.{Next}
use Rattle.weld_joining.specs.declared.both.Both.{Both}
use Rattle.weld_joining.specs.declared.halves.Node.{Node}
use Rattle.weld_joining.specs.declared.halves.Run.{Run}
use Rattle.weld_joining.specs.declared.halves.Half.{Half}

abbrev pub at_of : Node → At
at_of n = record { place = n.place; ty = n.ty }

-- the first `let` that binds no result of a name, and what is left without it
pub record IsNext (e : ExprTree) (n : Next) : Type 0 where
  pub out : (d : ExprTree) → taken_out e d ≡ let_in (at_of n.at) n.binder n.bound.value d
  pub left : left_over e ≡ n.rest.value

-- the same of what has a `let` before it
pub record IsBehind (a : Node) (x : Binder) (v : ExprTree) (n m : Next) : Type 0 where
  pub at : m.at ≡ n.at
  pub binder : m.binder ≡ n.binder
  pub bound : m.bound.value ≡ n.bound.value
  pub rest : m.rest.value ≡ let_in (at_of a) x v n.rest.value

-- the loop with these parts
abbrev pub loop_of : At → Run → ExprTree
loop_of a r = loop a (pack_legs r.legs) r.start.value r.builder r.number r.row r.body.value

-- it is such a loop
abbrev pub IsRun : ExprTree → Run → Type 0
IsRun e r = (a : At) × (e ≡ loop_of a r)

-- what is noted at a result, if there is one
abbrev pub result_at : Option Node → Option At
result_at r = option_map at_of r

-- such a loop, or its result
abbrev pub IsHalf : ExprTree → Half → Type 0
IsHalf e h = (a : At) × (e ≡ finish_at (result_at h.result) (loop_of a h.run))

-- the type of the items of a leg, as noted
abbrev pub leg_item : LegTree → TypeTree
leg_item (whole (leaf a l)) = item_of a.ty
leg_item l = struct no_types

abbrev pub legs_item : LegTrees → TypeTree
legs_item (more_legs l ls) = leg_item l
legs_item no_legs = struct no_types

-- a struct of two expressions
abbrev pub pair_at : Place → TypeTree → ExprTree → ExprTree → ExprTree
pair_at place all d e = many (node_of place all) make_struct (more_exprs d (more_exprs e no_exprs))

-- a body behind a `let` of its builder as the field of both
abbrev pub field_let : Place → TypeTree → ℕ → TypeTree → ℕ → Binder → ExprTree → ExprTree
field_let place all n t c b f = let_in (node_of place t) b (builder_field place all n t c) f

-- the second body, which has this row number and row, with the first loop's
abbrev pub body_of_second : Place → Run → ℕ → ℕ → ExprTree → ExprTree
body_of_second place r n x f =
    put n (leaf (node_of place (scalar kinds.I64)) (name r.number.sym.0))
    (put x (leaf (node_of place (legs_item (pack_legs r.legs))) (name r.row.sym.0)) f)

-- the types of that from which the loops start
pub record IsBoth (r q : Run) (both : Both) : Type 0 where
  pub first : both.first ≡ known_type (noted r.start.value)
  pub second : both.second ≡ known_type (noted q.start.value)
  pub all : both.all ≡ pair_of both.first both.second

-- the one loop, what it starts from having these types
abbrev pub loop_of_both : Both → Place → Run → Run → ExprTree
loop_of_both both place r q =
    loop (node_of place both.all) (pack_legs r.legs) (pair_at place both.all r.start.value q.start.value) (bare q.row) r.number r.row
    (pair_at place both.all (field_let place both.all 0 both.first q.row.sym.0 r.builder r.body.value)
    (field_let place both.all 1 both.second q.row.sym.0 q.builder (body_of_second place r q.number.sym.0 q.row.sym.0 q.body.value)))

-- a `let` of an expression or of its result
abbrev pub result_let : At → Binder → Option At → ExprTree → ExprTree → ExprTree
result_let a b m e f = let_in a b (finish_at m e) f

-- the one loop, and its fields or their results
abbrev pub from_halves : Both → At → At → Binder → Half → Binder → Half → ExprTree → ExprTree
from_halves both a m x h y k rest =
    let_in a (bare k.run.number) (loop_of_both both a.place h.run k.run)
    (result_let a x (result_at h.result) (builder_field a.place both.all 0 both.first k.run.number.sym.0)
    (result_let m y (result_at k.result) (builder_field a.place both.all 1 both.second k.run.number.sym.0) rest))
