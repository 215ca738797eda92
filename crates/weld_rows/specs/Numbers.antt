-- Numbers that expressions come to, in 64 bits.
use Rattle.weld_tree.specs.declared.sym.Sym.{Sym}
use Rattle.std.specs.Prelude.{◌≡◌, ℕ, ℤ, Bool, true, false, Result, Ok, Err, Option, Some, None}
use Rattle.weld_data.specs.declared.stop.Stop.{Stop}
use Rattle.weld_data.specs.declared.stop.Stop.TheVariants.{Fault, Memory}
use Rattle.weld_data.specs.declared.kind.Kind.{Kind}
use Rattle.weld_data.specs.Kind.{InRange}
use Rattle.weld_data.specs.Value.{number}
use Rattle.weld_built.specs.Pair.{pair}
use Rattle.weld_builders.specs.Outcome.{Outcome, done, fault}
use Rattle.weld_tree.specs.ExprTree.{ExprTree, leaf, one, two, three, many, let_in, loop, iterate, Leaf, int, truth, chars, name, fresh, One, neg, not as not_of, cast, len, field, finish, started, Two, binary, and, or, look_up, key_exists, merge, if_else, select, slice}
use Rattle.weld_data.specs.Order.{IsNumber}
use Rattle.weld_meaning.specs.Thing.{Thing, plain, building, several}
use Rattle.weld_eval.specs.ShortView.{view_short}
use Rattle.weld_eval.specs.ThingView.{held_of}
use Rattle.weld_eval.specs.declared.thing.Held.{Held}
use Rattle.weld_eval.specs.Word.{of_word}
use Rattle.weld_eval.specs.declared.short.Short.{Short}

-- the number as a thing
abbrev pub number_thing : Short → Thing
number_thing n = plain (view_short n)

-- where a number was read, it is what the expression comes to
abbrev pub ReadsNumber : Option Short → Outcome Thing → Type 0
ReadsNumber (Some n) o = o ≡ done (plain (view_short n))
ReadsNumber None o = Unit {0}

-- where a thing was lent, it is what the expression comes to
abbrev pub IsLentAs : Option Held → Outcome Thing → Type 0
IsLentAs (Some x) o = o ≡ done (held_of x)
IsLentAs None o = Unit {0}

-- where two numbers were read, the expression comes to their struct
abbrev pub ReadsPair : Option (Short × Short) → Outcome Thing → Type 0
ReadsPair (Some p) o = o ≡ done (plain (pair (view_short p.0) (view_short p.1)))
ReadsPair None o = Unit {0}

-- the number, of which the kind is answered and the word is left in its place
abbrev pub AnswersKind : Result Kind Stop → ℤ → Outcome Thing → Type 0
AnswersKind (Ok k) x o = InRange k (of_word k x) × (o ≡ done (plain (number k (of_word k x))))
AnswersKind (Err Fault) x o = o ≡ fault
AnswersKind (Err Memory) x o = Unit {0}

-- the same as of one number, or what stopped it
abbrev pub TriesNumber : Result (Option Short) Stop → Outcome Thing → Type 0
TriesNumber (Ok n) o = ReadsNumber n o
TriesNumber (Err Fault) o = o ≡ fault
TriesNumber (Err Memory) o = Unit {0}

-- ---- forms that are numbers by their looks

abbrev pub numeric_leaf : Leaf → Bool
numeric_leaf (int k x) = true
numeric_leaf (truth b) = true
numeric_leaf (chars bs) = false
numeric_leaf (name s) = false
numeric_leaf (fresh b) = false

abbrev pub numeric_one : One → Bool
numeric_one neg = true
numeric_one not_of = true
numeric_one (cast k) = true
numeric_one len = true
numeric_one (field n) = false
numeric_one finish = false
numeric_one (started b) = false

abbrev pub numeric_two : Two → Bool
numeric_two (binary op) = true
numeric_two and = true
numeric_two or = true
numeric_two look_up = false
numeric_two key_exists = true
numeric_two merge = false

-- whether the form alone says that the expression is a number
abbrev pub numeric : ExprTree → Bool
numeric (leaf a l) = numeric_leaf l
numeric (one a o e) = numeric_one o
numeric (two a o e f) = numeric_two o
numeric (three a if_else c e f) = numeric e
numeric (three a select c e f) = numeric e
numeric (three a slice c e f) = false
numeric (many a o es) = false
numeric (let_in a b e f) = numeric f
numeric (loop a ls e b n x f) = false
numeric (iterate a e b f) = false

-- ---- things

-- the thing is a number
abbrev pub IsNumberThing : Thing → Type 0
IsNumberThing (plain v) = IsNumber v
IsNumberThing (building p) = ⊥
IsNumberThing (several ts) = ⊥

-- ---- fields and names

-- the form asks for the field of the number
abbrev pub IsFieldForm : Option ℕ → One → Type 0
IsFieldForm (Some n) o = o ≡ field n
IsFieldForm None o = Unit {0}

-- the expression is a use of the name
abbrev pub IsName : ExprTree → ℕ → Type 0
IsName (leaf a l) s = l ≡ name s
IsName _ s = ⊥

abbrev pub IsNameOf : Option Sym → ExprTree → Type 0
IsNameOf (Some s) e = IsName e s.0
IsNameOf None e = Unit {0}
