-- The type of a program, or the first refusal of the typing rules, in the order of the walk over it.
use Rattle.std.specs.Prelude.{ℕ, zero, suc, Bool, true, false, ◌&&◌, ◌||◌, List, [], ◌∷◌, Option, Some, None}
use Rattle.weld_data.specs.declared.kind.Kind.TheVariants as kinds
use Rattle.weld_data.specs.declared.op.BinOp.{BinOp}
use Rattle.weld_data.specs.declared.op.BinOp.TheVariants.{Add, Sub, Mul, Div, Rem, Eq, Ne, Lt, Le, Gt, Ge}
use Rattle.weld_data.specs.Operation.{answer_kind}
use Rattle.weld_tree.specs.declared.binder.Binder.{Binder}
use Rattle.weld_tree.specs.declared.code.Code.{Code}
use Rattle.weld_tree.specs.declared.code.Code.TheVariants.{N1, Y1, Y2, Y3, Y4, Y5, Y6, Y7, Y8, Y9, Y10, Y11, Y12, Y13, Y14, Y15, Y16, Y17, Y18, Y19, Y20, Y21, Y22, Y23, Y24, Y25, Y26, Y27, Y28, Y29, Y30}
use Rattle.weld_tree.specs.declared.place.Place.{Place}
use Rattle.weld_tree.specs.TypeTree.{TypeTree, BuildTree, TypeTrees, scalar, vec, struct, dict, build, list, total, keyed, cells, groups, no_types, more_types}
use Rattle.weld_tree.specs.Types.{pair_of, takes, gives}
use Rattle.weld_tree.specs.ExprTree.{ExprTree, leaf, one, two, three, many, let_in, loop, iterate, ExprTrees, no_exprs, more_exprs, whole, strided, LegTrees, no_legs, more_legs, Leaf, int, truth, chars, name, fresh, One, neg, not, cast, len, field, finish, started, Two, binary, and, or, look_up, key_exists, merge, Three, if_else, select, slice, Many, make_vec, make_struct}
use Rattle.weld_tree.specs.Program.{ProgramTree}
use Rattle.weld_meaning.specs.Environment.{look_for}
use Rattle.weld_meaning.specs.Typing.{Types, truth_type, place_type, body_types, param_types}
use Rattle.weld_types.specs.Tests.{same_type, are_all, is_scalar, is_integer, is_builder_free, are_builder_free, is_builder, are_builders, is_well_formed, is_well_formed_build, is_within_limits, takes_type}

-- what a rule says of a node: what it finds, or that it refuses
pub data Judged (A : Type 0) : Type 0 where
  fits : A → Judged A
  breaks : Code → Judged A

-- what the walk says: what it finds, or what is refused first and where
pub data Found (A : Type 0) : Type 0 where
  found : A → Found A
  refused : Code → Place → Found A

-- a rule demands this
abbrev pub demand : {A : Type 0} → Bool → Code → Judged A → Judged A
demand true c later = later
demand false c later = breaks c

abbrev pub demand_at : {A : Type 0} → Bool → Code → Place → Found A → Found A
demand_at true c p later = later
demand_at false c p later = refused c p

-- go on with what was found
abbrev pub go_on : {A B : Type 0} → Found A → (A → Found B) → Found B
go_on (found x) f = f x
go_on (refused c p) f = refused c p

-- the rules of a node, and last the rule on the size of its type
abbrev pub at_node : Place → Judged TypeTree → Found TypeTree
at_node p (fits t) = demand_at (is_within_limits t) Y14 p (found t)
at_node p (breaks c) = refused c p

-- ---- the rules of nodes, by the number of parts

abbrev pub known : Option TypeTree → Judged TypeTree
known (Some t) = fits t
known None = breaks N1

-- in a program each name is bound
abbrev pub leaf_type : Leaf → Types → Judged TypeTree
leaf_type (int k x) g = fits (scalar k)
leaf_type (truth b) g = fits truth_type
leaf_type (chars bs) g = fits (vec (scalar kinds.I8))
leaf_type (name s) g = known (look_for s g)
leaf_type (fresh b) g = demand (is_well_formed_build b) Y1 (fits (build b))

-- the starting value of a builder may have the type
abbrev pub may_start : BuildTree → TypeTree → Bool
may_start (list t) u = false
may_start (total t op) u = same_type u t
may_start (keyed k v op) u = false
may_start (cells t op) u = same_type u (vec t)
may_start (groups k v) u = false

abbrev pub len_type : TypeTree → Judged TypeTree
len_type (vec t) = fits place_type
len_type _ = breaks Y18

-- the type of the field of that number, from 0
abbrev pub field_type : ℕ → TypeTrees → Judged TypeTree
field_type n no_types = breaks Y20
field_type zero (more_types t ts) = fits t
field_type (suc n) (more_types t ts) = field_type n ts

abbrev pub field_of_type : ℕ → TypeTree → Judged TypeTree
field_of_type n (struct ts) = field_type n ts
field_of_type n _ = breaks Y20

abbrev pub result_type : TypeTree → Judged TypeTree
result_type (build b) = fits (gives b)
result_type _ = breaks Y30

abbrev pub one_type : One → TypeTree → Judged TypeTree
one_type neg u = demand (is_integer u) Y5 (fits u)
one_type not u = demand (same_type u truth_type) Y6 (fits truth_type)
one_type (cast k) u = demand (is_scalar u) Y11 (fits (scalar k))
one_type len u = len_type u
one_type (field n) u = field_of_type n u
one_type finish u = result_type u
one_type (started b) u = demand (is_well_formed_build b) Y1 (demand (may_start b u) Y28 (fits (build b)))

-- the rule of an operator
abbrev pub rule_of : BinOp → Code
rule_of Add = Y7
rule_of Sub = Y7
rule_of Mul = Y7
rule_of Div = Y7
rule_of Rem = Y7
rule_of Eq = Y8
rule_of Ne = Y8
rule_of Lt = Y9
rule_of Le = Y9
rule_of Gt = Y9
rule_of Ge = Y9

-- the type of an operator's answer
abbrev pub answer_type : BinOp → TypeTree → TypeTree
answer_type op (scalar k) = scalar (answer_kind op k)
answer_type op t = t

abbrev pub look_up_type : TypeTree → TypeTree → Judged TypeTree
look_up_type (vec t) v = demand (same_type v place_type) Y16 (fits t)
look_up_type (dict k w) v = demand (same_type v k) Y16 (fits w)
look_up_type _ v = breaks Y16

abbrev pub key_exists_type : TypeTree → TypeTree → Judged TypeTree
key_exists_type (dict k w) v = demand (same_type v k) Y17 (fits truth_type)
key_exists_type _ v = breaks Y17

abbrev pub merge_type : TypeTree → TypeTree → Judged TypeTree
merge_type (build b) v = demand (same_type v (takes b)) Y29 (fits (build b))
merge_type _ v = breaks Y29

abbrev pub two_type : Two → TypeTree → TypeTree → Judged TypeTree
two_type (binary op) u v = demand (takes_type op u && same_type v u) (rule_of op) (fits (answer_type op u))
two_type and u v = demand (same_type u truth_type && same_type v truth_type) Y10 (fits truth_type)
two_type or u v = demand (same_type u truth_type && same_type v truth_type) Y10 (fits truth_type)
two_type look_up u v = look_up_type u v
two_type key_exists u v = key_exists_type u v
two_type merge u v = merge_type u v

abbrev pub slice_type : TypeTree → TypeTree → TypeTree → Judged TypeTree
slice_type (vec t) v w = demand (same_type v place_type && same_type w place_type) Y19 (fits (vec t))
slice_type _ v w = breaks Y19

abbrev pub three_type : Three → TypeTree → TypeTree → TypeTree → Judged TypeTree
three_type if_else u v w = demand (same_type u truth_type) Y12 (demand (same_type w v) Y13 (fits v))
three_type select u v w = demand (same_type u truth_type) Y12 (demand (same_type w v && is_builder_free v) Y15 (fits v))
three_type slice u v w = slice_type u v w

abbrev pub vec_type : TypeTrees → Judged TypeTree
vec_type no_types = breaks Y21
vec_type (more_types u us) = demand (are_all us u && is_builder_free u) Y21 (fits (vec u))

abbrev pub struct_type : TypeTrees → Judged TypeTree
struct_type no_types = breaks Y22
struct_type (more_types u us) =
    demand (are_builder_free (more_types u us) || are_builders (more_types u us)) Y22 (fits (struct (more_types u us)))

abbrev pub many_type : Many → TypeTrees → Judged TypeTree
many_type make_vec us = vec_type us
many_type make_struct us = struct_type us

-- ---- loops

-- the types of the vectors of legs, and of the bounds of all legs, in order
pub record Strips : Type 0 where
  pub vectors : TypeTrees
  pub bounds : TypeTrees

-- of each leg its vector is a vec, of such elements
abbrev pub with_element : TypeTree → Judged TypeTrees → Judged TypeTrees
with_element (vec t) (fits ts) = fits (more_types t ts)
with_element (vec t) (breaks c) = breaks c
with_element _ later = breaks Y23

abbrev pub elements : TypeTrees → Judged TypeTrees
elements no_types = fits no_types
elements (more_types u us) = with_element u (elements us)

-- a row is the element of the one leg, or the struct of the elements of more
abbrev pub row_of : TypeTrees → Judged TypeTree
row_of no_types = breaks Y23
row_of (more_types t no_types) = fits t
row_of (more_types t (more_types u us)) = fits (struct (more_types t (more_types u us)))

-- the type of the rows, where the rules on the legs and on the type of the builder are kept
abbrev pub row_by : Judged TypeTrees → TypeTrees → TypeTree → Judged TypeTree
row_by (fits ts) bounds b = demand (are_all bounds place_type) Y24 (demand (is_builder b) Y25 (row_of ts))
row_by (breaks c) bounds b = breaks c

-- ---- the walk

-- where the type that is noted at a binder stands
abbrev pub note_place : Binder → Place
note_place b = b.note_place

-- the note of a binder is well formed, and equals the type found
abbrev pub noted : {A : Type 0} → Option TypeTree → Binder → TypeTree → Found A → Found A
noted None b t later = later
noted (Some note) b t later = demand_at (is_well_formed note) Y1 (note_place b) (demand_at (same_type note t) Y4 b.place later)

-- the children in order, then the node; the types of the three forms that bind names are those of parts, where the size was tried
abbrev mutual
  pub type_of : ExprTree → Types → Found TypeTree
  type_of (leaf a l) g = at_node a.place (leaf_type l g)
  type_of (one a o e) g = go_on (type_of e g) (λ u. at_node a.place (one_type o u))
  type_of (two a o e f) g = go_on (type_of e g) (λ u. go_on (type_of f g) (λ v. at_node a.place (two_type o u v)))
  type_of (three a o e f h) g =
      go_on (type_of e g) (λ u. go_on (type_of f g) (λ v. go_on (type_of h g) (λ w. at_node a.place (three_type o u v w))))
  type_of (many a o es) g = go_on (types_of es g) (λ us. at_node a.place (many_type o us))
  -- the value; the binder's note; the body
  type_of (let_in a b e f) g = go_on (type_of e g) (λ u. noted b.note b u (type_of f ((b.sym.0, u) ∷ g)))
  -- the legs; the builder; the rules on both, and the size of the row's type; the binders' notes; the body and its rule
  type_of (loop a ls e b n x f) g =
      go_on (strips_of ls g) (λ s. go_on (type_of e g) (λ t. go_on (at_node a.place (row_by (elements s.vectors) s.bounds t)) (λ r.
      noted b.note b t (noted n.note n place_type (noted x.note x r
      (go_on (type_of f (body_types b n x t r g)) (λ u. demand_at (same_type u t) Y26 a.place (found t))))))))
  -- the state and its rule; the binder's note; the body and its rule
  type_of (iterate a e b f) g =
      go_on (type_of e g) (λ s. demand_at (is_builder_free s) Y27 a.place (noted b.note b s
      (go_on (type_of f ((b.sym.0, s) ∷ g)) (λ u. demand_at (same_type u (pair_of s truth_type)) Y27 a.place (found s)))))

  pub types_of : ExprTrees → Types → Found TypeTrees
  types_of no_exprs g = found no_types
  types_of (more_exprs e es) g = go_on (type_of e g) (λ u. go_on (types_of es g) (λ us. found (more_types u us)))

  pub strips_of : LegTrees → Types → Found Strips
  strips_of no_legs g = found (record { vectors = no_types; bounds = no_types })
  strips_of (more_legs (whole e) ls) g =
      go_on (type_of e g) (λ u. go_on (strips_of ls g) (λ s. found (record { vectors = more_types u s.vectors; bounds = s.bounds })))
  strips_of (more_legs (strided e f h i) ls) g =
      go_on (type_of e g) (λ u. go_on (type_of f g) (λ x. go_on (type_of h g) (λ y. go_on (type_of i g) (λ z.
      go_on (strips_of ls g) (λ s. found (record { vectors = more_types u s.vectors; bounds = more_types x (more_types y (more_types z s.bounds)) }))))))

-- ---- programs

-- a parameter has a type, which is well formed and builder-free
abbrev pub param_type : {A : Type 0} → Option TypeTree → Binder → Found A → Found A
param_type None b later = refused Y1 (note_place b)
param_type (Some t) b later = demand_at (is_well_formed t) Y1 (note_place b) (demand_at (is_builder_free t) Y2 (note_place b) later)

abbrev pub param_types_fit : {A : Type 0} → List Binder → Found A → Found A
param_types_fit [] later = later
param_types_fit (b ∷ bs) later = param_type b.note b (param_types_fit bs later)

abbrev pub place_of : ExprTree → Place
place_of (leaf a l) = a.place
place_of (one a o e) = a.place
place_of (two a o e f) = a.place
place_of (three a o e f h) = a.place
place_of (many a o es) = a.place
place_of (let_in a b e f) = a.place
place_of (loop a ls e b n x f) = a.place
place_of (iterate a e b f) = a.place

-- the parameters; the nodes of the body; last the body's type is builder-free
abbrev pub program_type : ProgramTree → Found TypeTree
program_type p =
    param_types_fit p.params (go_on (type_of p.body (param_types p.params)) (λ t. demand_at (is_builder_free t) Y3 (place_of p.body) (found t)))

-- what is refused first, if anything is
abbrev pub refusal_of : {A : Type 0} → Found A → Option (Code × Place)
refusal_of (found x) = None
refusal_of (refused c p) = Some (c, p)

abbrev pub typing_refusal : ProgramTree → Option (Code × Place)
typing_refusal p = refusal_of (program_type p)
