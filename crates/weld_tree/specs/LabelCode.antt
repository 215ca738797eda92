-- Codes for what stands at the nodes of expressions, from which it can be read back.
use Rattle.std.specs.Prelude.{◌≡◌, ℕ, zero, suc, ℤ, Bool, true, false, Option, Some, None, List, [], ◌∷◌, refl}
use Rattle.std.proofs.Common.{ap, pos, negsuc}
use Rattle.std.specs.Coded.{Coded, code_by}
use base.Stored.{Gv, gnil, gnum, gcons, num}
use denote.Struct.Codes.{itself}
use Rattle.weld_data.specs.declared.op.BinOp.{BinOp}
use Rattle.weld_data.specs.declared.op.BinOp.TheVariants.{Add, Sub, Mul, Div, Rem, Eq, Ne, Lt, Le, Gt, Ge}
use Rattle.weld_tree.specs.declared.place.Place.{Place}
use Rattle.weld_tree.specs.declared.binder.Binder.{Binder}
use Rattle.weld_tree.specs.declared.known.Known.{Known}
use Rattle.weld_tree.specs.declared.known.Known.TheVariants.{Blank, Is}
use Rattle.weld_tree.specs.TypeTree.{TypeTree}
use Rattle.weld_tree.specs.TypeCode.{tail, kind_number, kind_at, kind_at-kind_number, code_type, code_build, back, back-code_type, back-code_build}
use Rattle.weld_tree.specs.ExprTree.{At, Leaf, int, truth, chars, name, fresh, One, neg, not, cast, len, field, finish, started, Two, binary, and, or, look_up, key_exists, merge, Three, if_else, select, slice, Many, make_vec, make_struct}

-- the first of a list
abbrev pub first : Gv → Gv
first gnil = gnil
first (gnum n) = gnil
first (gcons a b) = a

abbrev pub bit : Bool → ℕ
bit false = 0
bit true = 1

abbrev pub truth_at : ℕ → Bool
truth_at zero = false
truth_at (suc n) = true

pub truth_at-bit : (b : Bool) → truth_at (bit b) ≡ b
truth_at-bit false = refl
truth_at-bit true = refl

abbrev pub code_int : ℤ → Gv
code_int (pos n) = gcons (gnum 0) (gnum n)
code_int (negsuc n) = gcons (gnum 1) (gnum n)

abbrev int_by : ℕ → ℕ → ℤ
int_by zero n = pos n
int_by (suc k) n = negsuc n

abbrev pub int_at : Gv → ℤ
int_at g = int_by (num (first g)) (num (tail g))

pub int_at-code_int : (x : ℤ) → int_at (code_int x) ≡ x
int_at-code_int (pos n) = refl
int_at-code_int (negsuc n) = refl

abbrev pub code_bytes : List ℕ → Gv
code_bytes [] = gnil
code_bytes (b ∷ bs) = gcons (gnum b) (code_bytes bs)

abbrev pub bytes_at : Gv → List ℕ
bytes_at gnil = []
bytes_at (gnum n) = []
bytes_at (gcons a b) = num a ∷ bytes_at b

pub bytes_at-code_bytes : (bs : List ℕ) → bytes_at (code_bytes bs) ≡ bs
bytes_at-code_bytes [] = refl
bytes_at-code_bytes (b ∷ bs) = ap (λ r. b ∷ r) (bytes_at-code_bytes bs)

abbrev pub binary_number : BinOp → ℕ
binary_number Add = 0
binary_number Sub = 1
binary_number Mul = 2
binary_number Div = 3
binary_number Rem = 4
binary_number Eq = 5
binary_number Ne = 6
binary_number Lt = 7
binary_number Le = 8
binary_number Gt = 9
binary_number Ge = 10

abbrev pub binary_at : ℕ → BinOp
binary_at zero = Add
binary_at (suc zero) = Sub
binary_at (suc (suc zero)) = Mul
binary_at (suc (suc (suc zero))) = Div
binary_at (suc (suc (suc (suc zero)))) = Rem
binary_at (suc (suc (suc (suc (suc zero))))) = Eq
binary_at (suc (suc (suc (suc (suc (suc zero)))))) = Ne
binary_at (suc (suc (suc (suc (suc (suc (suc zero))))))) = Lt
binary_at (suc (suc (suc (suc (suc (suc (suc (suc zero)))))))) = Le
binary_at (suc (suc (suc (suc (suc (suc (suc (suc (suc zero))))))))) = Gt
binary_at (suc (suc (suc (suc (suc (suc (suc (suc (suc (suc n)))))))))) = Ge

pub binary_at-binary_number : (op : BinOp) → binary_at (binary_number op) ≡ op
binary_at-binary_number Add = refl
binary_at-binary_number Sub = refl
binary_at-binary_number Mul = refl
binary_at-binary_number Div = refl
binary_at-binary_number Rem = refl
binary_at-binary_number Eq = refl
binary_at-binary_number Ne = refl
binary_at-binary_number Lt = refl
binary_at-binary_number Le = refl
binary_at-binary_number Gt = refl
binary_at-binary_number Ge = refl

abbrev pub code_place : Place → Gv
code_place p = gcons (gnum p.line) (gnum p.column)

abbrev pub place_at : Gv → Place
place_at g = record { line = num (first g); column = num (tail g) }

abbrev pub code_note : Option TypeTree → Gv
code_note None = gnil
code_note (Some t) = gcons gnil (code_type t)

abbrev pub note_at : Gv → Option TypeTree
note_at gnil = None
note_at (gnum n) = None
note_at (gcons a b) = Some (back b).0

pub note_at-code_note : (o : Option TypeTree) → note_at (code_note o) ≡ o
note_at-code_note None = refl
note_at-code_note (Some t) = ap Some (back-code_type t)

abbrev pub code_known : Known → Gv
code_known Blank = gnil
code_known (Is t) = gcons gnil (code_type t)

abbrev pub known_at : Gv → Known
known_at gnil = Blank
known_at (gnum n) = Blank
known_at (gcons a b) = Is (back b).0

pub known_at-code_known : (k : Known) → known_at (code_known k) ≡ k
known_at-code_known Blank = refl
known_at-code_known (Is t) = ap Is (back-code_type t)

abbrev pub code_binder : Binder → Gv
code_binder b = gcons (gnum b.sym.0) (gcons (gcons (code_place b.place) (code_place b.note_place)) (code_note b.note))

abbrev pub binder_at : Gv → Binder
binder_at g = record { sym = record { 0 = num (first g) }; place = place_at (first (first (tail g))); note = note_at (tail (tail g)); note_place = place_at (tail (first (tail g))) }

pub binder_at-code_binder : (b : Binder) → binder_at (code_binder b) ≡ b
binder_at-code_binder b = λ i. record { sym = b.sym; place = b.place; note = note_at-code_note b.note i; note_place = b.note_place }

abbrev pub code_at : At → Gv
code_at a = gcons (code_place a.place) (code_known a.ty)

abbrev pub at_of : Gv → At
at_of g = record { place = place_at (first g); ty = known_at (tail g) }

pub at_of-code_at : (a : At) → at_of (code_at a) ≡ a
at_of-code_at a = λ i. record { place = a.place; ty = known_at-code_known a.ty i }

abbrev pub code_leaf : Leaf → Gv
code_leaf (int k x) = gcons (gnum 0) (gcons (gnum (kind_number k)) (code_int x))
code_leaf (truth b) = gcons (gnum 1) (gnum (bit b))
code_leaf (chars bs) = gcons (gnum 2) (code_bytes bs)
code_leaf (name s) = gcons (gnum 3) (gnum s)
code_leaf (fresh b) = gcons (gnum 4) (code_build b)

abbrev leaf_by : ℕ → Gv → Leaf
leaf_by zero g = int (kind_at (num (first g))) (int_at (tail g))
leaf_by (suc zero) g = truth (truth_at (num g))
leaf_by (suc (suc zero)) g = chars (bytes_at g)
leaf_by (suc (suc (suc zero))) g = name (num g)
leaf_by (suc (suc (suc (suc n)))) g = fresh (back g).1

abbrev pub leaf_at : Gv → Leaf
leaf_at g = leaf_by (num (first g)) (tail g)

pub leaf_at-code_leaf : (l : Leaf) → leaf_at (code_leaf l) ≡ l
leaf_at-code_leaf (int k x) = λ i. int (kind_at-kind_number k i) (int_at-code_int x i)
leaf_at-code_leaf (truth b) = λ i. truth (truth_at-bit b i)
leaf_at-code_leaf (chars bs) = λ i. chars (bytes_at-code_bytes bs i)
leaf_at-code_leaf (name s) = refl
leaf_at-code_leaf (fresh b) = λ i. fresh (back-code_build b i)

abbrev pub code_one : One → Gv
code_one neg = gcons (gnum 0) gnil
code_one not = gcons (gnum 1) gnil
code_one (cast k) = gcons (gnum 2) (gnum (kind_number k))
code_one len = gcons (gnum 3) gnil
code_one (field n) = gcons (gnum 4) (gnum n)
code_one finish = gcons (gnum 5) gnil
code_one (started b) = gcons (gnum 6) (code_build b)

abbrev one_by : ℕ → Gv → One
one_by zero g = neg
one_by (suc zero) g = not
one_by (suc (suc zero)) g = cast (kind_at (num g))
one_by (suc (suc (suc zero))) g = len
one_by (suc (suc (suc (suc zero)))) g = field (num g)
one_by (suc (suc (suc (suc (suc zero))))) g = finish
one_by (suc (suc (suc (suc (suc (suc n)))))) g = started (back g).1

abbrev pub one_at : Gv → One
one_at g = one_by (num (first g)) (tail g)

pub one_at-code_one : (o : One) → one_at (code_one o) ≡ o
one_at-code_one neg = refl
one_at-code_one not = refl
one_at-code_one (cast k) = λ i. cast (kind_at-kind_number k i)
one_at-code_one len = refl
one_at-code_one (field n) = refl
one_at-code_one finish = refl
one_at-code_one (started b) = λ i. started (back-code_build b i)

abbrev pub code_two : Two → Gv
code_two (binary op) = gcons (gnum 0) (gnum (binary_number op))
code_two and = gcons (gnum 1) gnil
code_two or = gcons (gnum 2) gnil
code_two look_up = gcons (gnum 3) gnil
code_two key_exists = gcons (gnum 4) gnil
code_two merge = gcons (gnum 5) gnil

abbrev two_by : ℕ → Gv → Two
two_by zero g = binary (binary_at (num g))
two_by (suc zero) g = and
two_by (suc (suc zero)) g = or
two_by (suc (suc (suc zero))) g = look_up
two_by (suc (suc (suc (suc zero)))) g = key_exists
two_by (suc (suc (suc (suc (suc n))))) g = merge

abbrev pub two_at : Gv → Two
two_at g = two_by (num (first g)) (tail g)

pub two_at-code_two : (t : Two) → two_at (code_two t) ≡ t
two_at-code_two (binary op) = λ i. binary (binary_at-binary_number op i)
two_at-code_two and = refl
two_at-code_two or = refl
two_at-code_two look_up = refl
two_at-code_two key_exists = refl
two_at-code_two merge = refl

abbrev pub three_number : Three → ℕ
three_number if_else = 0
three_number select = 1
three_number slice = 2

abbrev pub three_at : ℕ → Three
three_at zero = if_else
three_at (suc zero) = select
three_at (suc (suc n)) = slice

pub three_at-three_number : (t : Three) → three_at (three_number t) ≡ t
three_at-three_number if_else = refl
three_at-three_number select = refl
three_at-three_number slice = refl

abbrev pub many_number : Many → ℕ
many_number make_vec = 0
many_number make_struct = 1

abbrev pub many_at : ℕ → Many
many_at zero = make_vec
many_at (suc n) = make_struct

pub many_at-many_number : (m : Many) → many_at (many_number m) ≡ m
many_at-many_number make_vec = refl
many_at-many_number make_struct = refl

abbrev pub coded_binder : Coded Binder
coded_binder = code_by Gv itself code_binder binder_at binder_at-code_binder
