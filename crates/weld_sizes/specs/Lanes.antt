-- Loops whose rows are worked out side by side: plain arithmetic on numbers of one kind.
use Rattle.std.specs.Prelude.{ℕ, ◌==◌, if◌then◌else◌, Bool, true, false, ◌&&◌, ◌||◌, List, [], ◌∷◌}
use Rattle.weld_data.specs.declared.kind.Kind.{Kind}
use Rattle.weld_data.specs.declared.kind.Kind.TheVariants as kinds
use Rattle.weld_data.specs.declared.op.BinOp.{BinOp}
use Rattle.weld_data.specs.declared.op.BinOp.TheVariants as ops
use Rattle.weld_data.specs.Lookup.{same_kind}
use Rattle.weld_tree.specs.declared.known.Known.{Known}
use Rattle.weld_tree.specs.declared.known.Known.TheVariants.{Is, Blank}
use Rattle.weld_tree.specs.TypeTree.{TypeTree, scalar, vec, struct, dict, build, BuildTree, list, total, keyed, cells, groups}
use Rattle.weld_tree.specs.ExprTree.{ExprTree, leaf, one, two, three, many, let_in, loop, iterate, LegTree, whole, strided, LegTrees, no_legs, more_legs, Leaf, int, truth, chars, name, fresh, One, neg, not, cast, len, field, finish, started, Two, binary, and, or, look_up, key_exists, merge, Three, if_else, select, slice}
use Rattle.weld_sizes.specs.Marks.{marks_by}
use Rattle.weld_sizes.specs.Sized.{is_that_name, is_merge}

-- ---- kinds and types

-- numbers of the kind go side by side
abbrev pub is_lane_kind : Kind → Bool
is_lane_kind kinds.Bool = false
is_lane_kind kinds.I8 = false
is_lane_kind kinds.I16 = false
is_lane_kind kinds.I32 = true
is_lane_kind kinds.I64 = true
is_lane_kind kinds.U8 = true
is_lane_kind kinds.U16 = false
is_lane_kind kinds.U32 = true
is_lane_kind kinds.U64 = true

-- the type is that of numbers of the kind
abbrev pub is_number_type : Kind → TypeTree → Bool
is_number_type k (scalar m) = same_kind k m
is_number_type k (vec t) = false
is_number_type k (struct ts) = false
is_number_type k (dict t u) = false
is_number_type k (build b) = false

-- it is noted so
abbrev pub is_noted_number : Kind → Known → Bool
is_noted_number k Blank = false
is_noted_number k (Is t) = is_number_type k t

-- what is noted at the node
abbrev pub noted_of : ExprTree → Known
noted_of (leaf a l) = a.ty
noted_of (one a o e) = a.ty
noted_of (two a o e f) = a.ty
noted_of (three a o c e f) = a.ty
noted_of (many a o es) = a.ty
noted_of (let_in a b e f) = a.ty
noted_of (loop a ls e b n x f) = a.ty
noted_of (iterate a e b f) = a.ty

-- ---- the legs

-- of what kind the elements of the leg are, if it is a whole vector of numbers; else that of truth values
abbrev pub element_kind : TypeTree → Kind
element_kind (scalar m) = m
element_kind (vec t) = kinds.Bool
element_kind (struct ts) = kinds.Bool
element_kind (dict t u) = kinds.Bool
element_kind (build b) = kinds.Bool

abbrev pub vector_kind : TypeTree → Kind
vector_kind (scalar m) = kinds.Bool
vector_kind (vec t) = element_kind t
vector_kind (struct ts) = kinds.Bool
vector_kind (dict t u) = kinds.Bool
vector_kind (build b) = kinds.Bool

abbrev pub noted_kind : Known → Kind
noted_kind Blank = kinds.Bool
noted_kind (Is t) = vector_kind t

abbrev pub leg_kind : LegTree → Kind
leg_kind (whole e) = noted_kind (noted_of e)
leg_kind (strided e f g h) = kinds.Bool

-- the kind of one leg, or of two that are of one kind; else that of truth values
abbrev pub legs_kind : LegTrees → Kind
legs_kind no_legs = kinds.Bool
legs_kind (more_legs l no_legs) = leg_kind l
legs_kind (more_legs l (more_legs m no_legs)) = if same_kind (leg_kind l) (leg_kind m) then leg_kind l else kinds.Bool
legs_kind (more_legs l (more_legs m (more_legs k ls))) = kinds.Bool

abbrev pub are_two : LegTrees → Bool
are_two no_legs = false
are_two (more_legs l no_legs) = false
are_two (more_legs l (more_legs m ls)) = true

-- ---- the builder

-- one number or a list of numbers of the kind
abbrev pub is_lane_build : Kind → BuildTree → Bool
is_lane_build k (list t) = is_number_type k t
is_lane_build k (total t op) = is_number_type k t
is_lane_build k (keyed u v op) = false
is_lane_build k (cells t op) = false
is_lane_build k (groups u v) = false

abbrev pub is_lane_start : Kind → Leaf → Bool
is_lane_start k (int m x) = false
is_lane_start k (truth b) = false
is_lane_start k (chars bs) = false
is_lane_start k (name s) = false
is_lane_start k (fresh b) = is_lane_build k b

-- one such builder that is new, without a starting value
abbrev pub is_lane_builder : Kind → ExprTree → Bool
is_lane_builder k (leaf a l) = is_lane_start k l
is_lane_builder k (one a o e) = false
is_lane_builder k (two a o e f) = false
is_lane_builder k (three a o c e f) = false
is_lane_builder k (many a o es) = false
is_lane_builder k (let_in a b e f) = false
is_lane_builder k (loop a ls e b n x f) = false
is_lane_builder k (iterate a e b f) = false

-- ---- what is merged

-- of a loop: the kind of its numbers, whether its rows are structs of two, the names of a row's number and of the row
pub record LaneLoop : Type 0 where
  pub kind : Kind
  pub is_pair : Bool
  pub number : ℕ
  pub row : ℕ

abbrev pub is_among : List ℕ → ℕ → Bool
is_among [] s = false
is_among (t ∷ ts) s = (s == t) || is_among ts s

-- a name that may be used: a number of the kind but the row's number; a truth value that a `let` of the body names
abbrev pub is_lane_name : LaneLoop → List ℕ → Known → ℕ → Bool
is_lane_name l ls t s = (is_noted_number l.kind t && (if s == l.number then false else true)) || (is_noted_number kinds.Bool t && is_among ls s)

abbrev pub is_lane_leaf : LaneLoop → List ℕ → Known → Leaf → Bool
is_lane_leaf l ls t (int m x) = same_kind l.kind m
is_lane_leaf l ls t (truth b) = true
is_lane_leaf l ls t (chars bs) = false
is_lane_leaf l ls t (name s) = is_lane_name l ls t s
is_lane_leaf l ls t (fresh b) = false

abbrev pub is_int_leaf : Leaf → Bool
is_int_leaf (int m x) = true
is_int_leaf (truth b) = false
is_int_leaf (chars bs) = false
is_int_leaf (name s) = false
is_int_leaf (fresh b) = false

-- a number literal
abbrev pub is_int : ExprTree → Bool
is_int (leaf a l) = is_int_leaf l
is_int (one a o e) = false
is_int (two a o e f) = false
is_int (three a o c e f) = false
is_int (many a o es) = false
is_int (let_in a b e f) = false
is_int (loop a ls e b n x f) = false
is_int (iterate a e b f) = false

abbrev pub is_not : One → Bool
is_not neg = false
is_not not = true
is_not (cast k) = false
is_not len = false
is_not (field n) = false
is_not finish = false
is_not (started b) = false

-- a literal that is cast to the kind, or one of the two fields of the row
abbrev pub is_lane_one : LaneLoop → One → ExprTree → Bool
is_lane_one l neg e = false
is_lane_one l not e = false
is_lane_one l (cast k) e = same_kind l.kind k && is_int e
is_lane_one l len e = false
is_lane_one l (field n) e = l.is_pair && is_that_name e l.row
is_lane_one l finish e = false
is_lane_one l (started b) e = false

abbrev pub is_lane_op : BinOp → Bool
is_lane_op ops.Add = true
is_lane_op ops.Sub = true
is_lane_op ops.Mul = true
is_lane_op ops.Div = false
is_lane_op ops.Rem = false
is_lane_op ops.Eq = true
is_lane_op ops.Ne = true
is_lane_op ops.Lt = true
is_lane_op ops.Le = true
is_lane_op ops.Gt = true
is_lane_op ops.Ge = true

-- an operator on numbers of the kind but `/` and `%`, or one on truth values; of the first part this is noted
abbrev pub is_lane_two : Kind → Two → Known → Bool
is_lane_two k (binary op) t = is_lane_op op && is_noted_number k t
is_lane_two k and t = true
is_lane_two k or t = true
is_lane_two k look_up t = false
is_lane_two k key_exists t = false
is_lane_two k merge t = false

abbrev pub is_select : Three → Bool
is_select if_else = false
is_select select = true
is_select slice = false

-- a value that is worked out for all rows side by side, where these lets of the body are named
abbrev pub is_lane : LaneLoop → List ℕ → ExprTree → Bool
is_lane l ls (leaf a f) = is_lane_leaf l ls a.ty f
is_lane l ls (one a o e) = is_lane_one l o e || (is_not o && is_lane l ls e)
is_lane l ls (two a o e f) = is_lane_two l.kind o (noted_of e) && (is_lane l ls e && is_lane l ls f)
is_lane l ls (three a o c e f) = is_select o && (is_lane l ls c && (is_lane l ls e && is_lane l ls f))
is_lane l ls (many a o es) = false
is_lane l ls (let_in a b e f) = false
is_lane l ls (loop a ks e b n x f) = false
is_lane l ls (iterate a e b f) = false

-- lets of such values, perhaps none, that end in a merge of one into the name
abbrev pub is_lane_body : LaneLoop → ℕ → List ℕ → ExprTree → Bool
is_lane_body l s ls (leaf a f) = false
is_lane_body l s ls (one a o e) = false
is_lane_body l s ls (two a o e f) = is_merge o && (is_that_name e s && is_lane l ls f)
is_lane_body l s ls (three a o c e f) = false
is_lane_body l s ls (many a o es) = false
is_lane_body l s ls (let_in a b e f) = is_lane l ls e && is_lane_body l s (b.sym.0 ∷ ls) f
is_lane_body l s ls (loop a ks e b n x f) = false
is_lane_body l s ls (iterate a e b f) = false

-- ---- the form

-- a loop is of the lane form: it runs over one vector of numbers or two of one kind, whole; its builder is one number or one
-- list of that kind; and its body is lets of plain arithmetic on such numbers that end in a merge
abbrev pub has_lane_form : ExprTree → Bool
has_lane_form (leaf a l) = false
has_lane_form (one a o e) = false
has_lane_form (two a o e f) = false
has_lane_form (three a o c e f) = false
has_lane_form (many a o es) = false
has_lane_form (let_in a b e f) = false
has_lane_form (loop a ls e b n x f) =
    is_lane_kind (legs_kind ls) && (is_lane_builder (legs_kind ls) e && is_lane_body (record { kind = legs_kind ls; is_pair = are_two ls; number = n.sym.0; row = x.sym.0 }) b.sym.0 [] f)
has_lane_form (iterate a e b f) = false

-- one mark for each loop of the expression, in the order in which they begin in the text: whether it is of the lane form
abbrev pub lane_marks : ExprTree → List Bool
lane_marks e = marks_by has_lane_form e
