-- Nodes whose parts are handed on: clauses make a node of its parts again, or say of which node they are the parts.
use Rattle.std.specs.Prelude.{◌≡◌, Bool, true, false, List, length}
use Rattle.weld_data.specs.View.{view_val}
use Rattle.weld_data.specs.declared.value.Val.{Val}
use Rattle.weld_tree.specs.declared.binder.Binder.{Binder}
use Rattle.weld_tree.specs.declared.known.Known.TheVariants.{Blank}
use Rattle.weld_tree.specs.ExprTree.{At, ExprTree, LegTrees, many, loop, iterate, Two, binary, and, or, look_up, key_exists, merge, make_struct, pack_exprs}
use Rattle.weld_meaning.specs.Thing.{Thing, plain}

-- where a node stands and what is noted at it count for nothing that it comes to: any serves
abbrev pub anywhere : At
anywhere = record { place = record { line = 0; column = 0 }; ty = Blank }

-- whether a form of two parts evaluates the second one only where it decides
abbrev pub either_form : Two → Bool
either_form (binary op) = false
either_form and = true
either_form or = true
either_form look_up = false
either_form key_exists = false
either_form merge = false

-- the node is a struct of these parts, which are two
pub record IsPairOf (n : ExprTree) (parts : List ExprTree) : Type 0 where
  pub here : At
  pub is : n ≡ many here make_struct (pack_exprs parts)
  pub two : length parts ≡ 2

-- the node is a loop over these legs, which starts from this builder
pub record IsLoopOf (m : ExprTree) (legs : LegTrees) (start : ExprTree) : Type 0 where
  pub here : At
  pub own : Binder
  pub count : Binder
  pub row : Binder
  pub body : ExprTree
  pub is : m ≡ loop here legs start own count row body

-- the same, whatever its legs are
pub record IsLoopFrom (m : ExprTree) (start : ExprTree) : Type 0 where
  pub legs : LegTrees
  pub loop_of : IsLoopOf m legs start

-- the node is an `iterate` that starts with this state
pub record IsIterateOf (n : ExprTree) (state : ExprTree) : Type 0 where
  pub here : At
  pub binder : Binder
  pub body : ExprTree
  pub is : n ≡ iterate here state binder body

-- a value as a thing
abbrev pub value_thing : Val → Thing
value_thing v = plain (view_val v)
