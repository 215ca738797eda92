-- Where the builders that an expression answers come from.
use Rattle.std.specs.Prelude.{ℕ, zero, suc, Bool, true, false, ◌&&◌, if◌then◌else◌, List, [], ◌∷◌, map, Option, Some, None}
use Rattle.weld_tree.specs.declared.binder.Binder.{Binder}
use Rattle.weld_tree.specs.ExprTree.{ExprTree, leaf, one, two, three, many, let_in, loop, iterate, ExprTrees, no_exprs, more_exprs, Leaf, int, truth, chars, name, fresh, One, neg, not, cast, len, field, finish, started, Two, binary, and, or, look_up, key_exists, merge, Three, if_else, select, slice, Many, make_vec, make_struct}
use Rattle.weld_meaning.specs.Environment.{Named, look_for}

-- a path into a struct of builders: the numbers of the fields that lead to a builder, the innermost first
abbrev pub Path : Type 0
Path = List ℕ

mutual
  -- where a thing comes from: it is a value; a builder that was made by a builder node; a path of the innermost lambda's
  -- own builder; a builder of outside that lambda; a path of a name; or a struct by its fields
  pub data Origin : Type 0 where
    value : Origin
    made : Origin
    own : Path → Origin
    outer : Origin
    named : ℕ → Path → Origin
    struct : Origins → Origin

  -- origins, one after another
  pub data Origins : Type 0 where
    no_origins : Origins
    more_origins : Origin → Origins → Origins

-- the origin of that number, from 0
abbrev pub origin_at : ℕ → Origins → Origin
origin_at n no_origins = value
origin_at zero (more_origins o os) = o
origin_at (suc n) (more_origins o os) = origin_at n os

-- the origin of a field, from 0
abbrev pub field_origin : ℕ → Origin → Origin
field_origin n value = value
field_origin n made = made
field_origin n (own p) = own (n ∷ p)
field_origin n outer = outer
field_origin n (named s p) = named s (n ∷ p)
field_origin n (struct os) = origin_at n os

abbrev pub is_value : Origin → Bool
is_value value = true
is_value made = false
is_value (own p) = false
is_value outer = false
is_value (named s p) = false
is_value (struct os) = false

abbrev pub are_values : Origins → Bool
are_values no_origins = true
are_values (more_origins o os) = is_value o && are_values os

-- the struct of such fields: a value where all of them are
abbrev pub struct_origin : Origins → Origin
struct_origin os = if are_values os then value else struct os

-- a name that isn't there is taken for a value
abbrev pub known_origin : Option Origin → Origin
known_origin (Some o) = o
known_origin None = value

abbrev pub origin_of_name : ℕ → Named Origin → Origin
origin_of_name s g = known_origin (look_for s g)

abbrev pub leaf_origin : Leaf → Named Origin → Origin
leaf_origin (int k x) g = value
leaf_origin (truth b) g = value
leaf_origin (chars bs) g = value
leaf_origin (name s) g = origin_of_name s g
leaf_origin (fresh b) g = made

abbrev pub one_origin : One → Origin → Origin
one_origin neg o = value
one_origin not o = value
one_origin (cast k) o = value
one_origin len o = value
one_origin (field n) o = field_origin n o
one_origin finish o = value
one_origin (started b) o = made

-- a merge has the origin of its builder
abbrev pub two_origin : Two → Origin → Origin
two_origin (binary op) o = value
two_origin and o = value
two_origin or o = value
two_origin look_up o = value
two_origin key_exists o = value
two_origin merge o = o

-- an `if` has the origin of its arms
abbrev pub three_origin : Three → Origin → Origin
three_origin if_else o = o
three_origin select o = value
three_origin slice o = value

abbrev pub many_origin : Many → Origins → Origin
many_origin make_vec os = value
many_origin make_struct os = struct_origin os

abbrev mutual
  -- where what the expression answers comes from, by the origins of names; a loop has those of its builder
  pub origin : ExprTree → Named Origin → Origin
  origin (leaf a l) g = leaf_origin l g
  origin (one a o e) g = one_origin o (origin e g)
  origin (two a o e f) g = two_origin o (origin e g)
  origin (three a o c e f) g = three_origin o (origin e g)
  origin (many a o es) g = many_origin o (origins es g)
  origin (let_in a b e f) g = origin f ((b.sym.0, origin e g) ∷ g)
  origin (loop a ls e b n x f) g = origin e g
  origin (iterate a e b f) g = value

  pub origins : ExprTrees → Named Origin → Origins
  origins no_exprs g = no_origins
  origins (more_exprs e es) g = more_origins (origin e g) (origins es g)

-- ---- lambdas

abbrev mutual
  -- the paths below one of a lambda's own builder, which has the form of that with which the loop starts
  pub own_below : Path → Origin → Origin
  own_below p value = value
  own_below p made = own p
  own_below p (own q) = own p
  own_below p outer = own p
  own_below p (named s q) = own p
  own_below p (struct os) = struct (own_fields zero p os)

  pub own_fields : ℕ → Path → Origins → Origins
  own_fields n p no_origins = no_origins
  own_fields n p (more_origins o os) = more_origins (own_below (n ∷ p) o) (own_fields (suc n) p os)

-- the paths of a lambda's own builder
abbrev pub own_paths : Origin → Origin
own_paths o = own_below [] o

abbrev mutual
  -- as it is seen from within a lambda
  pub from_within : Origin → Origin
  from_within value = value
  from_within made = outer
  from_within (own p) = outer
  from_within outer = outer
  from_within (named s p) = outer
  from_within (struct os) = struct (all_from_within os)

  pub all_from_within : Origins → Origins
  all_from_within no_origins = no_origins
  all_from_within (more_origins o os) = more_origins (from_within o) (all_from_within os)

abbrev pub outside : Named Origin → Named Origin
outside g = map (λ (e : ℕ × Origin). (e.0, from_within e.1)) g

-- the origins of names in the body of a loop whose builder has this origin
abbrev pub in_body : Binder → Binder → Binder → Origin → Named Origin → Named Origin
in_body b n x o g = (x.sym.0, value) ∷ (n.sym.0, value) ∷ (b.sym.0, own_paths o) ∷ outside g

-- and in the body of an `iterate`
abbrev pub in_turn : Binder → Named Origin → Named Origin
in_turn b g = (b.sym.0, value) ∷ outside g

-- ---- what stands there before

abbrev mutual
  -- the paths below one of a name that has this origin
  pub named_below : ℕ → Path → Origin → Origin
  named_below s p value = value
  named_below s p made = named s p
  named_below s p (own q) = named s p
  named_below s p outer = outer
  named_below s p (named t q) = named s p
  named_below s p (struct os) = struct (named_fields s zero p os)

  pub named_fields : ℕ → ℕ → Path → Origins → Origins
  named_fields s n p no_origins = no_origins
  named_fields s n p (more_origins o os) = more_origins (named_below s (n ∷ p) o) (named_fields s (suc n) p os)

-- each name as its own origin: so an expression's builders are traced to what stood there before it
abbrev pub by_name : Named Origin → Named Origin
by_name g = map (λ (e : ℕ × Origin). (e.0, named_below e.0 [] e.1)) g
