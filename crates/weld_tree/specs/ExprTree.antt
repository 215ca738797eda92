-- Expressions of Weld programs as plain data.
use Rattle.std.specs.Prelude.{◌≡◌, ℕ, ℤ, Bool, List, [], ◌∷◌, refl}
use Rattle.std.proofs.Common.{ap}
use Rattle.weld_data.specs.declared.kind.Kind.{Kind}
use Rattle.weld_data.specs.declared.op.BinOp.{BinOp}
use Rattle.weld_tree.specs.TypeTree.{BuildTree}
use Rattle.weld_tree.specs.declared.place.Place.{Place}
use Rattle.weld_tree.specs.declared.binder.Binder.{Binder}
use Rattle.weld_tree.specs.declared.known.Known.{Known}

-- where a node stands in its text, and the type that is noted at it
pub record At : Type 0 where
  pub place : Place
  pub ty : Known

-- the forms without parts: an integer of a kind, a truth value, the bytes of a string, a use of a
-- name, a builder without a starting value
pub data Leaf : Type 0 where
  int : Kind → ℤ → Leaf
  truth : Bool → Leaf
  chars : List ℕ → Leaf
  name : ℕ → Leaf
  fresh : BuildTree → Leaf

-- the forms of one part: `-e`, `!e`, `kind(e)`, `len(e)`, `e.$n`, `result(e)`, a builder from a
-- starting value
pub data One : Type 0 where
  neg : One
  not : One
  cast : Kind → One
  len : One
  field : ℕ → One
  finish : One
  started : BuildTree → One

-- the forms of two parts: an operator between them, `&&`, `||`, `lookup`, `keyexists`, `merge`
pub data Two : Type 0 where
  binary : BinOp → Two
  and : Two
  or : Two
  look_up : Two
  key_exists : Two
  merge : Two

-- the forms of three parts: `if`, `select`, `slice`
pub data Three : Type 0 where
  if_else : Three
  select : Three
  slice : Three

-- the forms of any number of parts: `[..]`, `{..}`
pub data Many : Type 0 where
  make_vec : Many
  make_struct : Many

mutual
  -- an expression: a form of no part or more, or one of the three forms that bind names
  pub data ExprTree : Type 0 where
    leaf : At → Leaf → ExprTree
    one : At → One → ExprTree → ExprTree
    two : At → Two → ExprTree → ExprTree → ExprTree
    three : At → Three → ExprTree → ExprTree → ExprTree → ExprTree
    many : At → Many → ExprTrees → ExprTree
    -- the binder, its value, the body
    let_in : At → Binder → ExprTree → ExprTree → ExprTree
    -- the legs, the builder, the binders of builder, row number and row, the body
    loop : At → LegTrees → ExprTree → Binder → Binder → Binder → ExprTree → ExprTree
    -- the state, its binder, the body
    iterate : At → ExprTree → Binder → ExprTree → ExprTree

  -- expressions in order
  pub data ExprTrees : Type 0 where
    no_exprs : ExprTrees
    more_exprs : ExprTree → ExprTrees → ExprTrees

  -- a leg of a loop: a whole vector, or the elements of one from a start below an end by a stride
  pub data LegTree : Type 0 where
    whole : ExprTree → LegTree
    strided : ExprTree → ExprTree → ExprTree → ExprTree → LegTree

  -- legs in order
  pub data LegTrees : Type 0 where
    no_legs : LegTrees
    more_legs : LegTree → LegTrees → LegTrees

-- the expressions of a list, as data
abbrev pub pack_exprs : List ExprTree → ExprTrees
pack_exprs [] = no_exprs
pack_exprs (e ∷ es) = more_exprs e (pack_exprs es)

-- the expressions, as a list
abbrev pub unpack_exprs : ExprTrees → List ExprTree
unpack_exprs no_exprs = []
unpack_exprs (more_exprs e es) = e ∷ unpack_exprs es

-- the legs of a list, as data
abbrev pub pack_legs : List LegTree → LegTrees
pack_legs [] = no_legs
pack_legs (l ∷ ls) = more_legs l (pack_legs ls)

-- the legs, as a list
abbrev pub unpack_legs : LegTrees → List LegTree
unpack_legs no_legs = []
unpack_legs (more_legs l ls) = l ∷ unpack_legs ls

pub unpack-pack_exprs : (es : List ExprTree) → unpack_exprs (pack_exprs es) ≡ es
unpack-pack_exprs [] = refl
unpack-pack_exprs (e ∷ es) = ap (λ r. e ∷ r) (unpack-pack_exprs es)

pub unpack-pack_legs : (ls : List LegTree) → unpack_legs (pack_legs ls) ≡ ls
unpack-pack_legs [] = refl
unpack-pack_legs (l ∷ ls) = ap (λ r. l ∷ r) (unpack-pack_legs ls)
