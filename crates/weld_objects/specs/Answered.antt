-- The type of an expression that has one, found by going only where it is decided.
use Rattle.std.specs.Prelude.{ℕ, zero, suc, ◌∷◌, Option, Some, None}
use Rattle.weld_data.specs.declared.kind.Kind.TheVariants as kinds
use Rattle.weld_data.specs.declared.op.BinOp.{BinOp}
use Rattle.weld_data.specs.Operation.{answer_kind}
use Rattle.weld_tree.specs.TypeTree.{TypeTree, TypeTrees, scalar, vec, struct, dict, build, no_types, more_types}
use Rattle.weld_tree.specs.Types.{gives}
use Rattle.weld_tree.specs.ExprTree.{ExprTree, leaf, one, two, three, many, let_in, loop, iterate, ExprTrees, no_exprs, more_exprs, Leaf, int, truth, chars, name, fresh, One, neg, not, cast, len, field, finish, started, Two, binary, and, or, look_up, key_exists, merge, if_else, select, slice, make_vec, make_struct}
use Rattle.weld_meaning.specs.Environment.{look_for}
use Rattle.weld_meaning.specs.Typing.{Types, truth_type, place_type}

-- what is answered where there is no type, which says nothing
abbrev pub no_type : TypeTree
no_type = truth_type

abbrev pub named_type : Option TypeTree → TypeTree
named_type (Some t) = t
named_type None = no_type

abbrev pub leaf_answer : Leaf → Types → TypeTree
leaf_answer (int k x) g = scalar k
leaf_answer (truth b) g = truth_type
leaf_answer (chars bs) g = vec (scalar kinds.I8)
leaf_answer (name s) g = named_type (look_for s g)
leaf_answer (fresh b) g = build b

-- the type of the field of that number, from 0
abbrev pub nth_type : ℕ → TypeTrees → TypeTree
nth_type n no_types = no_type
nth_type zero (more_types t ts) = t
nth_type (suc n) (more_types t ts) = nth_type n ts

abbrev pub field_answer : ℕ → TypeTree → TypeTree
field_answer n (scalar k) = no_type
field_answer n (vec t) = no_type
field_answer n (struct ts) = nth_type n ts
field_answer n (dict k v) = no_type
field_answer n (build b) = no_type

abbrev pub result_answer : TypeTree → TypeTree
result_answer (scalar k) = no_type
result_answer (vec t) = no_type
result_answer (struct ts) = no_type
result_answer (dict k v) = no_type
result_answer (build b) = gives b

abbrev pub one_answer : One → TypeTree → TypeTree
one_answer neg u = u
one_answer not u = truth_type
one_answer (cast k) u = scalar k
one_answer len u = place_type
one_answer (field n) u = field_answer n u
one_answer finish u = result_answer u
one_answer (started b) u = build b

abbrev pub operated_answer : BinOp → TypeTree → TypeTree
operated_answer op (scalar k) = scalar (answer_kind op k)
operated_answer op (vec t) = no_type
operated_answer op (struct ts) = no_type
operated_answer op (dict k v) = no_type
operated_answer op (build b) = no_type

abbrev pub looked_up_answer : TypeTree → TypeTree
looked_up_answer (scalar k) = no_type
looked_up_answer (vec t) = t
looked_up_answer (struct ts) = no_type
looked_up_answer (dict k v) = v
looked_up_answer (build b) = no_type

abbrev pub two_answer : Two → TypeTree → TypeTree
two_answer (binary op) u = operated_answer op u
two_answer and u = truth_type
two_answer or u = truth_type
two_answer look_up u = looked_up_answer u
two_answer key_exists u = truth_type
two_answer merge u = u

abbrev mutual
  -- an operator is decided by its first part, `if` and `select` by their second, a loop by its builder
  pub answered : ExprTree → Types → TypeTree
  answered (leaf a l) g = leaf_answer l g
  answered (one a o e) g = one_answer o (answered e g)
  answered (two a o e f) g = two_answer o (answered e g)
  answered (three a if_else c e f) g = answered e g
  answered (three a select c e f) g = answered e g
  answered (three a slice c e f) g = answered c g
  answered (many a make_vec es) g = vec (first_answered es g)
  answered (many a make_struct es) g = struct (all_answered es g)
  answered (let_in a b e f) g = answered f ((b.sym.0, answered e g) ∷ g)
  answered (loop a ls e b n x f) g = answered e g
  answered (iterate a e b f) g = answered e g

  pub first_answered : ExprTrees → Types → TypeTree
  first_answered no_exprs g = no_type
  first_answered (more_exprs e es) g = answered e g

  pub all_answered : ExprTrees → Types → TypeTrees
  all_answered no_exprs g = no_types
  all_answered (more_exprs e es) g = more_types (answered e g) (all_answered es g)
