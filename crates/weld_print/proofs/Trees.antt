-- Trees in short, of which the cases are made. Their places and noted types are all the same: no text depends on them.
use Rattle.std.proofs.Common.{ℕ, pos, negsuc, true, false, List, [], ◌∷◌, Some, None}
use Rattle.weld_data.specs.declared.kind.Kind.TheVariants.{Bool, I32, I64}
use Rattle.weld_data.specs.declared.op.BinOp.{BinOp}
use Rattle.weld_tree.specs.declared.binder.Binder.{Binder}
use Rattle.weld_tree.specs.declared.known.Known.TheVariants.{Blank}
use Rattle.weld_tree.specs.declared.place.Place.{Place}
use Rattle.weld_tree.specs.TypeTree.{TypeTree, BuildTree, scalar, struct, list, pack}
use Rattle.weld_tree.specs.ExprTree.{At, ExprTree, leaf, one, two, three, many, let_in, loop, iterate, LegTree, pack_exprs, pack_legs, int, truth, chars, name, fresh, neg, not as bang, field, finish, binary, merge, if_else, make_vec, make_struct}
use Rattle.weld_print.specs.PrintText.{Print}

-- ---- types

abbrev pub bool : TypeTree
bool = scalar Bool

abbrev pub i32 : TypeTree
i32 = scalar I32

abbrev pub i64 : TypeTree
i64 = scalar I64

abbrev pub pair : TypeTree → TypeTree → TypeTree
pair s t = struct (pack (s ∷ t ∷ []))

abbrev pub items : BuildTree
items = list i32

-- ---- binders

abbrev pub somewhere : Place
somewhere = record { line = 1; column = 1 }

abbrev pub here : At
here = record { place = somewhere; ty = Blank }

abbrev pub noted : ℕ → TypeTree → Binder
noted s t = record { sym = record { 0 = s }; place = somewhere; note = Some t; note_place = somewhere }

abbrev pub plain : ℕ → Binder
plain s = record { sym = record { 0 = s }; place = somewhere; note = None; note_place = somewhere }

-- ---- expressions

abbrev pub num : ℕ → ExprTree
num n = leaf here (int I32 (pos n))

abbrev pub long : ℕ → ExprTree
long n = leaf here (int I64 (pos n))

-- -1
abbrev pub below : ExprTree
below = leaf here (int I32 (negsuc 0))

abbrev pub yes : ExprTree
yes = leaf here (truth true)

abbrev pub no : ExprTree
no = leaf here (truth false)

abbrev pub string : List ℕ → ExprTree
string bs = leaf here (chars bs)

abbrev pub var : ℕ → ExprTree
var s = leaf here (name s)

abbrev pub builder : BuildTree → ExprTree
builder b = leaf here (fresh b)

abbrev pub minus : ExprTree → ExprTree
minus e = one here neg e

abbrev pub opposite : ExprTree → ExprTree
opposite e = one here bang e

abbrev pub part : ℕ → ExprTree → ExprTree
part n e = one here (field n) e

abbrev pub result : ExprTree → ExprTree
result e = one here finish e

abbrev pub op : BinOp → ExprTree → ExprTree → ExprTree
op o e f = two here (binary o) e f

abbrev pub into : ExprTree → ExprTree → ExprTree
into e f = two here merge e f

abbrev pub choice : ExprTree → ExprTree → ExprTree → ExprTree
choice e f g = three here if_else e f g

abbrev pub vector : List ExprTree → ExprTree
vector es = many here make_vec (pack_exprs es)

abbrev pub tuple : List ExprTree → ExprTree
tuple es = many here make_struct (pack_exprs es)

abbrev pub bind : Binder → ExprTree → ExprTree → ExprTree
bind b e f = let_in here b e f

-- 1 under a name of this number
abbrev pub named_one : ℕ → ExprTree
named_one s = let_in here (plain s) (num 1) (var s)

abbrev pub over : List LegTree → ExprTree → Binder → Binder → Binder → ExprTree → ExprTree
over ls e b n x f = loop here (pack_legs ls) e b n x f

abbrev pub turns : ExprTree → Binder → ExprTree → ExprTree
turns e b f = iterate here e b f

-- ---- programs

-- the program of this body without parameters has the text
abbrev pub Prints : ExprTree → List ℕ → Type 0
Prints e text = Print (record { params = []; body = e }) text

-- the program of these parameters and this body does
abbrev pub PrintsOf : List Binder → ExprTree → List ℕ → Type 0
PrintsOf params e text = Print (record { params = params; body = e }) text
