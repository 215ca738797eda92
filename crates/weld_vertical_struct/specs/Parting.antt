-- A `let` of a pair, in one part of which a builder stands, without the pair: `let s = {merge(b, v), e}; f` becomes `let s = e; f`, with
-- `merge(b, v)` for `s.$0` and `s` for `s.$1`.
use Rattle.std.specs.Prelude.{◌≡◌, ℕ, zero, suc, ◌==◌, if◌then◌else◌, Bool, true, false, not, ◌&&◌, ◌||◌, Option, Some, None, is_some}
use Rattle.weld_tree.specs.declared.binder.Binder.{Binder}
use Rattle.weld_tree.specs.ExprTree.{At, ExprTree, leaf, one, two, three, many, let_in, loop, iterate, ExprTrees, no_exprs, more_exprs, LegTree, whole, strided, LegTrees, no_legs, more_legs, name, One, neg, not as not_of, cast, len, field, finish, started, Many, make_vec, make_struct}
use Rattle.weld_tree.specs.Program.{bound}
use Rattle.weld_meaning.specs.Names.{IsFree}
use Rattle.weld_rewriting.specs.Sweep.{RootRule, settled}
use Rattle.weld_rewriting.specs.Within.{times}
use Rattle.weld_substitution.specs.Uses.{is_name, uses, is_use}
use Rattle.weld_substitution.specs.Redex.{is_field, has_loop}
use Rattle.weld_inline.specs.Inlining.{lets_rule}

-- ---- the parts of a pair

-- the number of the field, where it is a field of the name
abbrev pub field_taken : ℕ → One → ExprTree → Option ℕ
field_taken s neg e = None
field_taken s not_of e = None
field_taken s (cast k) e = None
field_taken s len e = None
field_taken s (field n) e = if is_use e s then Some n else None
field_taken s finish e = None
field_taken s (started b) e = None

-- the name that stands for the part of that number: `x` for number `i`, `s` for the other
abbrev pub part_name : ℕ → ℕ → ℕ → ℕ → ℕ
part_name s x i n = if n == i then x else s

-- a field of the pair becomes the name of the part, another node stays
abbrev pub parted_one : ℕ → ℕ → ℕ → At → Option ℕ → ExprTree → ExprTree
parted_one s x i a (Some n) e = leaf a (name (part_name s x i n))
parted_one s x i a None e = e

abbrev pub part_of_field : ℕ → ℕ → ℕ → At → Option ℕ → Option ExprTree
part_of_field s x i a None = None
part_of_field s x i a (Some n) = Some (leaf a (name (part_name s x i n)))

abbrev mutual
  -- the expression with `x` for the pair's part of number `i` and `s` for the other, where `s` was the pair; what lambdas do stays
  pub parted : ℕ → ℕ → ℕ → ExprTree → ExprTree
  parted s x i (leaf a l) = leaf a l
  parted s x i (one a o e) = parted_one s x i a (field_taken s o e) (one a o (parted s x i e))
  parted s x i (two a o e f) = two a o (parted s x i e) (parted s x i f)
  parted s x i (three a o c e f) = three a o (parted s x i c) (parted s x i e) (parted s x i f)
  parted s x i (many a o es) = many a o (all_parted s x i es)
  parted s x i (let_in a b e f) = let_in a b (parted s x i e) (parted s x i f)
  parted s x i (loop a ls e b n y f) = loop a (legs_parted s x i ls) (parted s x i e) b n y f
  parted s x i (iterate a e b f) = iterate a (parted s x i e) b f

  pub all_parted : ℕ → ℕ → ℕ → ExprTrees → ExprTrees
  all_parted s x i no_exprs = no_exprs
  all_parted s x i (more_exprs e es) = more_exprs (parted s x i e) (all_parted s x i es)

  pub leg_parted : ℕ → ℕ → ℕ → LegTree → LegTree
  leg_parted s x i (whole e) = whole (parted s x i e)
  leg_parted s x i (strided e f g h) = strided (parted s x i e) (parted s x i f) (parted s x i g) (parted s x i h)

  pub legs_parted : ℕ → ℕ → ℕ → LegTrees → LegTrees
  legs_parted s x i no_legs = no_legs
  legs_parted s x i (more_legs l ls) = more_legs (leg_parted s x i l) (legs_parted s x i ls)

-- ---- where the pair is used by its parts alone

-- a field of the name
abbrev pub is_part : ℕ → ExprTree → Bool
is_part s (leaf a l) = false
is_part s (one a o e) = is_some (field_taken s o e)
is_part s (two a o e f) = false
is_part s (three a o c e f) = false
is_part s (many a o es) = false
is_part s (let_in a b e f) = false
is_part s (loop a ls e b n y f) = false
is_part s (iterate a e b f) = false

abbrev pub one_apart : Option ℕ → Bool → Bool
one_apart (Some n) other = (n == 0) || (n == 1)
one_apart None other = other

-- neither name is used in a lambda's body
abbrev pub is_unnamed : ℕ → ℕ → ExprTree → Bool
is_unnamed s x e = (uses e s == 0) && (uses e x == 0)

abbrev mutual
  -- whether `s` is used by its first two fields alone, of which no field is taken, and `x` not at all; and neither in a lambda
  pub is_apart : ℕ → ℕ → ExprTree → Bool
  is_apart s x (leaf a l) = not (is_name l s) && not (is_name l x)
  is_apart s x (one a o e) = one_apart (field_taken s o e) (not (is_field o && is_part s e) && is_apart s x e)
  is_apart s x (two a o e f) = is_apart s x e && is_apart s x f
  is_apart s x (three a o c e f) = is_apart s x c && (is_apart s x e && is_apart s x f)
  is_apart s x (many a o es) = are_apart s x es
  is_apart s x (let_in a b e f) = is_apart s x e && is_apart s x f
  is_apart s x (loop a ls e b n y f) = legs_are_apart s x ls && (is_apart s x e && is_unnamed s x f)
  is_apart s x (iterate a e b f) = is_apart s x e && is_unnamed s x f

  pub are_apart : ℕ → ℕ → ExprTrees → Bool
  are_apart s x no_exprs = true
  are_apart s x (more_exprs e es) = is_apart s x e && are_apart s x es

  pub leg_is_apart : ℕ → ℕ → LegTree → Bool
  leg_is_apart s x (whole e) = is_apart s x e
  leg_is_apart s x (strided e f g h) = is_apart s x e && (is_apart s x f && (is_apart s x g && is_apart s x h))

  pub legs_are_apart : ℕ → ℕ → LegTrees → Bool
  legs_are_apart s x no_legs = true
  legs_are_apart s x (more_legs l ls) = leg_is_apart s x l && legs_are_apart s x ls

-- ---- a `let` of a pair

abbrev pub two_of : ExprTrees → Option (ExprTree × ExprTree)
two_of no_exprs = None
two_of (more_exprs e no_exprs) = None
two_of (more_exprs e (more_exprs f no_exprs)) = Some (e, f)
two_of (more_exprs e (more_exprs f (more_exprs g es))) = None

abbrev pub parts_of : Many → ExprTrees → Option (ExprTree × ExprTree)
parts_of make_vec es = None
parts_of make_struct es = two_of es

-- the parts of a pair that is made there
abbrev pub pair_of : ExprTree → Option (ExprTree × ExprTree)
pair_of (leaf a l) = None
pair_of (one a o e) = None
pair_of (two a o e f) = None
pair_of (three a o c e f) = None
pair_of (many a o es) = parts_of o es
pair_of (let_in a b e f) = None
pair_of (loop a ls e b n y f) = None
pair_of (iterate a e b f) = None

-- the binder without its note: it binds a thing of another type
abbrev pub unnoted : Binder → Binder
unnoted b = record { sym = b.sym; place = b.place; note = None; note_place = b.note_place }

-- the binder of a part, under a number of its own
abbrev pub part_binder : ℕ → Binder → Binder
part_binder z b = record { sym = record { 0 = z }; place = b.place; note = None; note_place = b.note_place }

-- the `let` of a pair with its part of number `i` bound to the number `z`, and the other part bound to the pair's
abbrev pub both_bound : ℕ → At → Binder → ℕ → ExprTree → ExprTree → ExprTree → ExprTree
both_bound z a b i e f g = let_in a (part_binder z b) e (let_in a (unnoted b) f (parted b.sym.0 z i g))

-- where the body uses the pair by its parts and no loop stands in the part
abbrev pub part_bound : ℕ → At → Binder → ℕ → ExprTree → ExprTree → ExprTree → Option ExprTree
part_bound z a b i e f g = if is_apart b.sym.0 z g && not (has_loop e) then Some (both_bound z a b i e f g) else None

-- the part is the first in which the builder `d` is used
abbrev pub pair_bound : ℕ → ℕ → At → Binder → Option (ExprTree × ExprTree) → ExprTree → Option ExprTree
pair_bound d z a b None g = None
pair_bound d z a b (Some p) g = if uses p.0 d == 0 then (if uses p.1 d == 0 then None else part_bound z a b 1 p.1 p.0 g) else part_bound z a b 0 p.0 p.1 g

abbrev pub bound_at : ℕ → ℕ → ExprTree → Option ExprTree
bound_at d z (leaf a l) = None
bound_at d z (one a o e) = None
bound_at d z (two a o e f) = None
bound_at d z (three a o c e f) = None
bound_at d z (many a o es) = None
bound_at d z (let_in a b v g) = pair_bound d z a b (pair_of v) g
bound_at d z (loop a ls e b n y f) = None
bound_at d z (iterate a e b f) = None

-- the answer of a rule at an expression, if there is one
abbrev pub answer_at : RootRule → Option ExprTree → Option ExprTree
answer_at r None = None
answer_at r (Some e) = r e

-- the rule: a `let` of a pair, in a part of which the builder is used, is one of the other part, where the first is put in its place
-- as the value of a `let` of its own is
abbrev pub pairs_rule : ℕ → ℕ → RootRule
pairs_rule d z e = answer_at lets_rule (bound_at d z e)

-- the number is neither bound nor free there
abbrev pub IsAbsent : ℕ → ExprTree → Type 0
IsAbsent z e = (times (bound e) z ≡ 0) × (IsFree e z → ⊥)

-- ---- down a body

-- the body of a `let` and the arms of an `if` with something done to them, any other node as it is
abbrev pub within_body : (ExprTree → ExprTree) → ExprTree → ExprTree
within_body k (leaf a l) = leaf a l
within_body k (one a o e) = one a o e
within_body k (two a o e f) = two a o e f
within_body k (three a o c e f) = three a o c (k e) (k f)
within_body k (many a o es) = many a o es
within_body k (let_in a b v g) = let_in a b v (k g)
within_body k (loop a ls e b m y f) = loop a ls e b m y f
within_body k (iterate a e b f) = iterate a e b f

-- the body after the rule was tried at each node that is reached from its top through so many bodies of lets and arms of ifs, a
-- node before those behind it
abbrev pub opened : ℕ → ℕ → ℕ → ExprTree → ExprTree
opened d z zero e = e
opened d z (suc n) e = within_body (opened d z n) (settled (pairs_rule d z) e)

-- ---- in code

abbrev pub one_part_is_apart : ℕ → ℕ → One → ExprTree → Bool
one_part_is_apart s x o e = one_apart (field_taken s o e) (not (is_field o && is_part s e) && is_apart s x e)

abbrev pub name_at : ℕ → ℕ → ℕ → Option ℕ → Option ℕ
name_at s x i None = None
name_at s x i (Some n) = Some (part_name s x i n)

-- the name of the part that the expression takes of the pair
abbrev pub name_of_field : ℕ → ℕ → ℕ → ExprTree → Option ℕ
name_of_field s x i (leaf a l) = None
name_of_field s x i (one a o e) = name_at s x i (field_taken s o e)
name_of_field s x i (two a o e f) = None
name_of_field s x i (three a o c e f) = None
name_of_field s x i (many a o es) = None
name_of_field s x i (let_in a b e f) = None
name_of_field s x i (loop a ls e b n y f) = None
name_of_field s x i (iterate a e b f) = None

-- a field of the pair becomes the name of the part
abbrev pub fields_rule : ℕ → ℕ → ℕ → RootRule
fields_rule s x i (leaf a l) = None
fields_rule s x i (one a o e) = part_of_field s x i a (field_taken s o e)
fields_rule s x i (two a o e f) = None
fields_rule s x i (three a o c e f) = None
fields_rule s x i (many a o es) = None
fields_rule s x i (let_in a b e f) = None
fields_rule s x i (loop a ls e b n y f) = None
fields_rule s x i (iterate a e b f) = None

-- the `let` with the pair's part of that number bound, by its parts
abbrev pub part_bound_at : ℕ → ℕ → ExprTree → ExprTree → ExprTree → Option ExprTree
part_bound_at z i e f (leaf a l) = None
part_bound_at z i e f (one a o g) = None
part_bound_at z i e f (two a o g h) = None
part_bound_at z i e f (three a o c g h) = None
part_bound_at z i e f (many a o es) = None
part_bound_at z i e f (let_in a b v g) = part_bound z a b i e f g
part_bound_at z i e f (loop a ls h b n y g) = None
part_bound_at z i e f (iterate a h b g) = None

abbrev pub either_bound_at : ℕ → ℕ → ExprTree → ExprTree → ExprTree → Option ExprTree
either_bound_at d z e f (leaf a l) = None
either_bound_at d z e f (one a o g) = None
either_bound_at d z e f (two a o g h) = None
either_bound_at d z e f (three a o c g h) = None
either_bound_at d z e f (many a o es) = None
either_bound_at d z e f (let_in a b v g) = pair_bound d z a b (Some (e, f)) g
either_bound_at d z e f (loop a ls h b n y g) = None
either_bound_at d z e f (iterate a h b g) = None

abbrev pub is_pair : ExprTree → Bool
is_pair e = is_some (pair_of e)

-- whether a `let` of a pair is reached from the body's top through bodies of lets and arms of ifs
abbrev pub has_pair : ExprTree → Bool
has_pair (leaf a l) = false
has_pair (one a o e) = false
has_pair (two a o e f) = false
has_pair (three a o c e f) = has_pair e || has_pair f
has_pair (many a o es) = false
has_pair (let_in a b v g) = is_pair v || has_pair g
has_pair (loop a ls e b n y f) = false
has_pair (iterate a e b f) = false
