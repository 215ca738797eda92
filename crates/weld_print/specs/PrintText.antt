-- The one printed spelling of a program.
use Rattle.std.specs.Prelude.{◌≡◌, ℕ, Bool, if◌then◌else◌, Option, Some, None, List, [], ◌∷◌, ◌++◌, codes}
use Rattle.std.specs.Fmt.{decimal, signed_decimal}
use Rattle.weld_data.specs.declared.kind.Kind.{Kind}
use Rattle.weld_data.specs.declared.kind.Kind.TheVariants.{Bool as BoolKind, I8, I16, I32, I64, U8, U16, U32, U64}
use Rattle.weld_data.specs.declared.op.BinOp.{BinOp}
use Rattle.weld_data.specs.declared.op.BinOp.TheVariants.{Add, Sub, Mul, Div, Rem, Eq, Ne, Lt, Le, Gt, Ge}
use Rattle.weld_tree.specs.declared.binder.Binder.{Binder}
use Rattle.weld_tree.specs.TypeTree.{TypeTree}
use Rattle.weld_tree.specs.ExprTree.{ExprTree, leaf, one, two, three, many, let_in, loop, iterate, ExprTrees, no_exprs, more_exprs, LegTree, whole, strided, LegTrees, no_legs, more_legs, Leaf, int, truth, chars, name, fresh, One, neg, not, cast, len, field, finish, started, Two, binary, and, or, look_up, key_exists, merge, Three, if_else, select, slice, Many, make_vec, make_struct}
use Rattle.weld_tree.specs.Program.{ProgramTree, syms_of, bound}
use Rattle.weld_tree.specs.Blank.{distance}
use Rattle.weld_write_value.specs.Showing.{shown_byte}
use Rattle.weld_print.specs.TypeText.{kind_text, type_text, build_text}
use Rattle.weld_print.specs.Operands.{part_in_parens, side_in_parens, value_in_parens}

-- the name of a binder: `x` and how many binders stand before its own in the text, where these are all of them in
-- their order
abbrev pub name_text : List ℕ → ℕ → List ℕ
name_text names s = codes "x" ++ decimal (distance names s)

-- a note, where there is one
abbrev pub note_text : Option TypeTree → List ℕ
note_text None = []
note_text (Some t) = codes ": " ++ type_text t

-- a name where it is bound
abbrev pub binder_text : List ℕ → Binder → List ℕ
binder_text names b = name_text names b.sym.0 ++ note_text b.note

-- literals of kind i64 end with `L`
abbrev pub kind_end : Kind → List ℕ
kind_end BoolKind = []
kind_end I8 = []
kind_end I16 = []
kind_end I32 = []
kind_end I64 = codes "L"
kind_end U8 = []
kind_end U16 = []
kind_end U32 = []
kind_end U64 = []

-- the bytes of a string, with the escapes of value text
abbrev pub items_text : List ℕ → List ℕ
items_text [] = []
items_text (b ∷ bs) = shown_byte b ++ items_text bs

-- the forms without parts
abbrev pub leaf_text : List ℕ → Leaf → List ℕ
leaf_text names (int k x) = signed_decimal x ++ kind_end k
leaf_text names (truth b) = if b then codes "true" else codes "false"
leaf_text names (chars bs) = codes "\"" ++ items_text bs ++ codes "\""
leaf_text names (name s) = name_text names s
leaf_text names (fresh b) = build_text b

-- in parentheses, where it is said so
abbrev pub parens : Bool → List ℕ → List ℕ
parens b text = if b then codes "(" ++ text ++ codes ")" else text

-- what stands before the part of a form of one part, and behind it
abbrev pub one_front : One → List ℕ
one_front neg = codes "-"
one_front not = codes "!"
one_front (cast k) = kind_text k ++ codes "("
one_front len = codes "len("
one_front (field n) = []
one_front finish = codes "result("
one_front (started b) = build_text b ++ codes "("

abbrev pub one_back : One → List ℕ
one_back neg = []
one_back not = []
one_back (cast k) = codes ")"
one_back len = codes ")"
one_back (field n) = codes ".$" ++ decimal n
one_back finish = codes ")"
one_back (started b) = codes ")"

-- an operator between spaces
abbrev pub op_between : BinOp → List ℕ
op_between Add = codes " + "
op_between Sub = codes " - "
op_between Mul = codes " * "
op_between Div = codes " / "
op_between Rem = codes " % "
op_between Eq = codes " == "
op_between Ne = codes " != "
op_between Lt = codes " < "
op_between Le = codes " <= "
op_between Gt = codes " > "
op_between Ge = codes " >= "

-- what stands before, between and behind the parts of a form of two parts
abbrev pub two_front : Two → List ℕ
two_front (binary op) = []
two_front and = []
two_front or = []
two_front look_up = codes "lookup("
two_front key_exists = codes "keyexists("
two_front merge = codes "merge("

abbrev pub two_between : Two → List ℕ
two_between (binary op) = op_between op
two_between and = codes " && "
two_between or = codes " || "
two_between look_up = codes ", "
two_between key_exists = codes ", "
two_between merge = codes ", "

abbrev pub two_back : Two → List ℕ
two_back (binary op) = []
two_back and = []
two_back or = []
two_back look_up = codes ")"
two_back key_exists = codes ")"
two_back merge = codes ")"

-- what stands before the parts of a form of three parts
abbrev pub three_front : Three → List ℕ
three_front if_else = codes "if("
three_front select = codes "select("
three_front slice = codes "slice("

-- what stands before the parts of a vector or a struct, and behind them
abbrev pub many_front : Many → List ℕ
many_front make_vec = codes "["
many_front make_struct = codes "{"

abbrev pub many_back : Many → List ℕ
many_back make_vec = codes "]"
many_back make_struct = codes "}"

-- the first leg and the texts of those that follow: by itself where none follows, else in a `zip`
abbrev pub zipped : LegTrees → List ℕ → List ℕ → List ℕ
zipped no_legs first further = first
zipped (more_legs l ls) first further = codes "zip(" ++ first ++ further ++ codes ")"

abbrev mutual
  -- an expression
  pub expr_text : List ℕ → ExprTree → List ℕ
  expr_text names (leaf a l) = leaf_text names l
  expr_text names (one a o e) = one_front o ++ parens (part_in_parens o e) (expr_text names e) ++ one_back o
  expr_text names (two a t e f) = two_front t ++ parens (side_in_parens t e) (expr_text names e) ++ two_between t ++ parens (side_in_parens t f) (expr_text names f) ++ two_back t
  expr_text names (three a t e f g) = three_front t ++ expr_text names e ++ codes ", " ++ expr_text names f ++ codes ", " ++ expr_text names g ++ codes ")"
  expr_text names (many a m es) = exprs_text names (many_front m) es ++ many_back m
  expr_text names (let_in a b e f) = codes "let " ++ binder_text names b ++ codes " = " ++ parens (value_in_parens e) (expr_text names e) ++ codes "; " ++ expr_text names f
  expr_text names (loop a ls e b n x f) = codes "for(" ++ rows_text names ls ++ codes ", " ++ expr_text names e ++ codes ", |" ++ binder_text names b ++ codes ", " ++ binder_text names n ++ codes ", " ++ binder_text names x ++ codes "| " ++ expr_text names f ++ codes ")"
  expr_text names (iterate a e b f) = codes "iterate(" ++ expr_text names e ++ codes ", |" ++ binder_text names b ++ codes "| " ++ expr_text names f ++ codes ")"

  -- expressions, with this before the first and a comma and a space before each further one
  pub exprs_text : List ℕ → List ℕ → ExprTrees → List ℕ
  exprs_text names lead no_exprs = []
  exprs_text names lead (more_exprs e es) = lead ++ expr_text names e ++ exprs_text names (codes ", ") es

  -- the legs of a loop: one by itself, more in a `zip`
  pub rows_text : List ℕ → LegTrees → List ℕ
  rows_text names no_legs = []
  rows_text names (more_legs l ls) = zipped ls (leg_text names l) (legs_text names ls)

  -- each further leg behind a comma and a space
  pub legs_text : List ℕ → LegTrees → List ℕ
  legs_text names no_legs = []
  legs_text names (more_legs l ls) = codes ", " ++ leg_text names l ++ legs_text names ls

  pub leg_text : List ℕ → LegTree → List ℕ
  leg_text names (whole e) = expr_text names e
  leg_text names (strided e f g h) = codes "iter(" ++ expr_text names e ++ codes ", " ++ expr_text names f ++ codes ", " ++ expr_text names g ++ codes ", " ++ expr_text names h ++ codes ")"

-- binders, with this before the first and a comma and a space before each further one
abbrev pub binders_text : List ℕ → List ℕ → List Binder → List ℕ
binders_text names lead [] = []
binders_text names lead (b ∷ bs) = lead ++ binder_text names b ++ binders_text names (codes ", ") bs

-- the parameters of a program, where it has some
abbrev pub params_text : List ℕ → List Binder → List ℕ
params_text names [] = []
params_text names (b ∷ bs) = binders_text names (codes "|") (b ∷ bs) ++ codes "| "

-- the numbers of all binders, in the order of the text
abbrev pub names_of : ProgramTree → List ℕ
names_of p = syms_of p.params ++ bound p.body

-- the printed spelling of a program
abbrev pub program_text : ProgramTree → List ℕ
program_text p = params_text (names_of p) p.params ++ expr_text (names_of p) p.body

-- the text is the printed spelling of the program
abbrev pub Print : ProgramTree → List ℕ → Type 0
Print p text = text ≡ program_text p
