-- Two neighbouring lets, each of a loop over one name or of the result of one, and the one loop that takes the place of both.
use Rattle.std.specs.Prelude.{◌≡◌, ℕ, Option, Some, None}
use Rattle.weld_data.specs.declared.kind.Kind.TheVariants as kinds
use Rattle.weld_tree.specs.declared.binder.Binder.{Binder}
use Rattle.weld_tree.specs.declared.known.Known.TheVariants.{Is}
use Rattle.weld_tree.specs.declared.place.Place.{Place}
use Rattle.weld_tree.specs.TypeTree.{TypeTree, scalar, vec, struct, no_types, more_types}
use Rattle.weld_tree.specs.ExprTree.{At, ExprTree, leaf, one, two, three, many, let_in, loop, iterate, no_exprs, more_exprs, whole, no_legs, more_legs, name, field, finish, make_struct}
use Rattle.weld_meaning.specs.Names.{IsFree, put}
use Rattle.weld_substitution.specs.Redex.{noted}

-- ---- the pattern

-- the result of what an expression answers, with what is noted at it, or the expression itself
abbrev pub finish_at : Option At → ExprTree → ExprTree
finish_at None e = e
finish_at (Some a) e = one a finish e

-- a `let` of a loop or of its result: its binder; what is noted at the result, if it is one, at the loop and at the leg; that from
-- which the loop starts, with its type: a builder or a struct of builders; the loop's binders and body
pub record Half : Type 0 where
  pub bound : Binder
  pub result_at : Option At
  pub loop_at : At
  pub leg_at : At
  pub start : ExprTree
  pub starts : TypeTree
  pub builder : Binder
  pub number : Binder
  pub row : Binder
  pub body : ExprTree

-- the loop, which runs over the name
abbrev pub half_loop : ℕ → Half → ExprTree
half_loop s h = loop h.loop_at (more_legs (whole (leaf h.leg_at (name s))) no_legs) h.start h.builder h.number h.row h.body

-- the value of such a `let`
abbrev pub half_value : ℕ → Half → ExprTree
half_value s h = finish_at h.result_at (half_loop s h)

-- two such lets over one name, one in the other's body
abbrev pub two_lets : At → At → ℕ → Half → Half → ExprTree → ExprTree
two_lets a m s h k rest = let_in a h.bound (half_value s h) (let_in m k.bound (half_value s k) rest)

-- what is asked besides: the rows and that from which each loop starts are noted to have their types, and the second loop names what
-- the first `let` binds neither in its start nor in its body
pub record MayJoin (row : TypeTree) (h k : Half) : Type 0 where
  pub row_noted : h.leg_at.ty ≡ Is (vec row)
  pub first_starts : noted h.start ≡ Is h.starts
  pub second_starts : noted k.start ≡ Is k.starts
  pub start_unnamed : IsFree k.start h.bound.sym.0 → ⊥
  pub unnamed : IsFree k.body h.bound.sym.0 → ⊥

-- ---- the one loop

-- a node at the place, with its type
abbrev pub node_of : Place → TypeTree → At
node_of place t = record { place = place; ty = Is t }

-- a binder without a note
abbrev pub bare : Binder → Binder
bare x = record { sym = x.sym; place = x.place; note = None; note_place = x.note_place }

-- the struct of what both start from
abbrev pub both_builders : Half → Half → TypeTree
both_builders h k = struct (more_types h.starts (more_types k.starts no_types))

-- the field of that number and type of a name of both
abbrev pub builder_field : Place → TypeTree → ℕ → TypeTree → ℕ → ExprTree
builder_field place all n t c = one (node_of place t) (field n) (leaf (node_of place all) (name c))

-- the second loop's body, with the first's row number and row for its own
abbrev pub second_body : Place → TypeTree → Half → Half → ExprTree
second_body place row h k =
    put k.number.sym.0 (leaf (node_of place (scalar kinds.I64)) (name h.number.sym.0)) (put k.row.sym.0 (leaf (node_of place row) (name h.row.sym.0)) k.body)

-- one loop from both: its builder has the number of the second row; its body is the struct of both bodies, each with what was its
-- own builder bound to a field
abbrev pub joined : Place → ℕ → Half → Half → ExprTree → ExprTree
joined place s h k second =
    let all = both_builders h k in
    loop (node_of place all) (more_legs (whole (leaf h.leg_at (name s))) no_legs) (many (node_of place all) make_struct (more_exprs h.start (more_exprs k.start no_exprs)))
    (bare k.row) h.number h.row
    (many (node_of place all) make_struct
    (more_exprs (let_in (node_of place h.starts) h.builder (builder_field place all 0 h.starts k.row.sym.0) h.body)
    (more_exprs (let_in (node_of place k.starts) k.builder (builder_field place all 1 k.starts k.row.sym.0) second) no_exprs)))

-- the loop under the number of the second row number, and its fields or their results
abbrev pub with_results : At → At → ℕ → Half → Half → ExprTree → ExprTree → ExprTree
with_results a m s h k second rest =
    let all = both_builders h k in
    let_in a (bare k.number) (joined a.place s h k second)
    (let_in a h.bound (finish_at h.result_at (builder_field a.place all 0 h.starts k.number.sym.0))
    (let_in m k.bound (finish_at k.result_at (builder_field a.place all 1 k.starts k.number.sym.0)) rest))

-- what takes the place of both lets
abbrev pub side_by_side : At → At → ℕ → TypeTree → Half → Half → ExprTree → ExprTree
side_by_side a m s row h k rest = with_results a m s h k (second_body a.place row h k) rest
