-- The lets that are put in their place: those of a plain value, and those whose name is used once, in
-- a place where the value is evaluated at most once and wherever the `let` would be.
use Rattle.std.specs.Prelude.{ℕ, ◌==◌, if◌then◌else◌, Bool, true, false, not, ◌&&◌, ◌||◌, Option, Some, None}
use Rattle.weld_tree.specs.declared.known.Known.{Known}
use Rattle.weld_tree.specs.declared.known.Known.TheVariants.{Blank, Is}
use Rattle.weld_tree.specs.ExprTree.{ExprTree, leaf, one, two, three, many, let_in, loop, iterate, ExprTrees, no_exprs, more_exprs, LegTree, whole, strided, LegTrees, no_legs, more_legs, Leaf, int, truth, chars, name, fresh, One, neg, not as not_of, cast, len, field, finish, started, Two, binary, and, or, look_up, key_exists, merge, Three, if_else, select, slice}
use Rattle.weld_types.specs.Tests.{is_builder_free}
use Rattle.weld_substitution.specs.Uses.{is_name, uses}
use Rattle.weld_substitution.specs.declared.put_anywhere.spot.Spot.{Spot}
use Rattle.weld_substitution.specs.declared.put_anywhere.spot.Spot.TheVariants.{Leg, Finish, Field, Other}

-- ---- plain values

abbrev pub is_name_leaf : Leaf → Bool
is_name_leaf (int k x) = false
is_name_leaf (truth b) = false
is_name_leaf (chars bs) = false
is_name_leaf (name s) = true
is_name_leaf (fresh b) = false

abbrev pub is_field : One → Bool
is_field neg = false
is_field not_of = false
is_field (cast k) = false
is_field len = false
is_field (field n) = true
is_field finish = false
is_field (started b) = false

-- a name, or a name followed by field accesses
abbrev pub is_chain : ExprTree → Bool
is_chain (leaf a l) = is_name_leaf l
is_chain (one a o e) = is_field o && is_chain e
is_chain (two a o e f) = false
is_chain (three a o e f g) = false
is_chain (many a o es) = false
is_chain (let_in a b e f) = false
is_chain (loop a ls e b n x f) = false
is_chain (iterate a e b f) = false

abbrev pub is_plain_leaf : Leaf → Bool
is_plain_leaf (int k x) = true
is_plain_leaf (truth b) = true
is_plain_leaf (chars bs) = false
is_plain_leaf (name s) = true
is_plain_leaf (fresh b) = false

-- a name, a name followed by field accesses, or a number or truth literal
abbrev pub is_plain : ExprTree → Bool
is_plain (leaf a l) = is_plain_leaf l
is_plain (one a o e) = is_field o && is_chain e
is_plain (two a o e f) = false
is_plain (three a o e f g) = false
is_plain (many a o es) = false
is_plain (let_in a b e f) = false
is_plain (loop a ls e b n x f) = false
is_plain (iterate a e b f) = false

-- ---- the way to a use

-- where the part of a node of one part stands
abbrev pub spot_below : One → Spot
spot_below neg = Other
spot_below not_of = Other
spot_below (cast k) = Other
spot_below len = Other
spot_below (field n) = Field
spot_below finish = Finish
spot_below (started b) = Other

-- whether the second part is evaluated whenever the first gives something: not the right side of `&&` and `||`
abbrev pub takes_both : Two → Bool
takes_both (binary op) = true
takes_both and = false
takes_both or = false
takes_both look_up = true
takes_both key_exists = true
takes_both merge = true

-- whether all three are: not the arms of an `if`
abbrev pub takes_all : Three → Bool
takes_all if_else = false
takes_all select = true
takes_all slice = true

abbrev pub or_else : Option Spot → Option Spot → Option Spot
or_else (Some p) o = Some p
or_else None o = o

abbrev pub only_where : Bool → Option Spot → Option Spot
only_where c o = if c then o else None

abbrev mutual
  -- where the first use of the name stands, if the way to it passes no lambda, no arm of an `if` and no right side of `&&` or
  -- `||`; the expression itself stands at the first spot
  pub spot_of : ℕ → Spot → ExprTree → Option Spot
  spot_of s here (leaf a l) = if is_name l s then Some here else None
  spot_of s here (one a o e) = spot_of s (spot_below o) e
  spot_of s here (two a o e f) = or_else (spot_of s Other e) (only_where (takes_both o) (spot_of s Other f))
  spot_of s here (three a o c e f) = or_else (spot_of s Other c) (only_where (takes_all o) (or_else (spot_of s Other e) (spot_of s Other f)))
  spot_of s here (many a o es) = spot_among s es
  spot_of s here (let_in a b e f) = or_else (spot_of s Other e) (spot_of s Other f)
  spot_of s here (loop a ls e b n x f) = or_else (spot_in_legs s ls) (spot_of s Other e)
  spot_of s here (iterate a e b f) = spot_of s Other e

  pub spot_among : ℕ → ExprTrees → Option Spot
  spot_among s no_exprs = None
  spot_among s (more_exprs e es) = or_else (spot_of s Other e) (spot_among s es)

  -- a whole leg stands there as one, the parts of a strided one don't
  pub spot_in_leg : ℕ → LegTree → Option Spot
  spot_in_leg s (whole e) = spot_of s Leg e
  spot_in_leg s (strided e f g h) = or_else (spot_of s Other e) (or_else (spot_of s Other f) (or_else (spot_of s Other g) (spot_of s Other h)))

  pub spot_in_legs : ℕ → LegTrees → Option Spot
  spot_in_legs s no_legs = None
  spot_in_legs s (more_legs l ls) = or_else (spot_in_leg s l) (spot_in_legs s ls)

-- ---- values that may stand there

abbrev mutual
  -- whether a `for` or an `iterate` stands in the expression
  pub has_loop : ExprTree → Bool
  has_loop (leaf a l) = false
  has_loop (one a o e) = has_loop e
  has_loop (two a o e f) = has_loop e || has_loop f
  has_loop (three a o e f g) = has_loop e || (has_loop f || has_loop g)
  has_loop (many a o es) = some_has_loop es
  has_loop (let_in a b e f) = has_loop e || has_loop f
  has_loop (loop a ls e b n x f) = true
  has_loop (iterate a e b f) = true

  pub some_has_loop : ExprTrees → Bool
  some_has_loop no_exprs = false
  some_has_loop (more_exprs e es) = has_loop e || some_has_loop es

-- what is noted of the expression's type
abbrev pub noted : ExprTree → Known
noted (leaf a l) = a.ty
noted (one a o e) = a.ty
noted (two a o e f) = a.ty
noted (three a o e f g) = a.ty
noted (many a o es) = a.ty
noted (let_in a b e f) = a.ty
noted (loop a ls e b n x f) = a.ty
noted (iterate a e b f) = a.ty

-- the type is known, and it is no builder's
abbrev pub is_known_value : Known → Bool
is_known_value Blank = false
is_known_value (Is t) = is_builder_free t

-- whether the value may stand at such a spot: one with a loop only as a leg or under `result`, a builder not under a field
abbrev pub may_stand : ExprTree → Spot → Bool
may_stand v Leg = true
may_stand v Finish = true
may_stand v Field = not (has_loop v) && is_known_value (noted v)
may_stand v Other = not (has_loop v)

abbrev pub stands : ExprTree → Option Spot → Bool
stands v (Some p) = may_stand v p
stands v None = false

-- ---- the lets

-- a name that is used once, on the way, where its value may stand
abbrev pub is_used_well : ℕ → ExprTree → ExprTree → Bool
is_used_well s v f = (uses f s == 1) && stands v (spot_of s Other f)

abbrev pub is_redex : ExprTree → Bool
is_redex (leaf a l) = false
is_redex (one a o e) = false
is_redex (two a o e f) = false
is_redex (three a o e f g) = false
is_redex (many a o es) = false
is_redex (let_in a b e f) = is_plain e || is_used_well b.sym.0 e f
is_redex (loop a ls e b n x f) = false
is_redex (iterate a e b f) = false
