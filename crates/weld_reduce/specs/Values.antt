-- What lies on the stack of a machine that spells a program: tokens, and what the rules behind are reduced to.
use Rattle.std.specs.Prelude.{Option, Some, None, List, [], ◌∷◌}
use Rattle.weld_data.specs.declared.op.MergeOp.{MergeOp}
use Rattle.weld_grammar.specs.declared.terminals.token.Token.{Token}
use Rattle.weld_tree.specs.declared.place.Place.{Place}
use Rattle.weld_tree.specs.TypeTree.{TypeTree}
use Rattle.weld_tree.specs.ExprTree.{ExprTree, LegTree, whole}

-- a token; an expression; two or more of a list; a leg; legs; a type with the place of its first token; two or more of a
-- struct's; an operator of a builder
pub data Value : Type 0 where
  token : Token → Value
  expr : ExprTree → Value
  exprs : List ExprTree → Value
  leg : LegTree → Value
  legs : List LegTree → Value
  ty : Place → TypeTree → Value
  types : List TypeTree → Value
  op : MergeOp → Value

-- what lies on top, where it is of this form, and what lies under it
abbrev pub Top : Type 0 → Type 0
Top A = Option (A × List Value)

abbrev pub top_token : List Value → Top Token
top_token (token t ∷ vs) = Some (t, vs)
top_token _ = None

abbrev pub top_expr : List Value → Top ExprTree
top_expr (expr e ∷ vs) = Some (e, vs)
top_expr _ = None

-- the expressions of a list that isn't closed yet
abbrev pub top_exprs : List Value → Top (List ExprTree)
top_exprs (expr e ∷ vs) = Some (e ∷ [], vs)
top_exprs (exprs es ∷ vs) = Some (es, vs)
top_exprs _ = None

-- a leg, or the vector that is one as a whole
abbrev pub top_leg : List Value → Top LegTree
top_leg (expr e ∷ vs) = Some (whole e, vs)
top_leg (leg l ∷ vs) = Some (l, vs)
top_leg _ = None

abbrev pub top_legs : List Value → Top (List LegTree)
top_legs (legs ls ∷ vs) = Some (ls, vs)
top_legs _ = None

abbrev pub top_type : List Value → Top (Place × TypeTree)
top_type (ty p t ∷ vs) = Some ((p, t), vs)
top_type _ = None

-- the types of a struct that isn't closed yet
abbrev pub top_types : List Value → Top (List TypeTree)
top_types (ty p t ∷ vs) = Some (t ∷ [], vs)
top_types (types ts ∷ vs) = Some (ts, vs)
top_types _ = None

abbrev pub top_op : List Value → Top MergeOp
top_op (op o ∷ vs) = Some (o, vs)
top_op _ = None
