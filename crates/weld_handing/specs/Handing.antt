-- The body of a loop that makes a list, wherever it holds its builder, with another loop's builder in the place of its own: at
-- the merge into the list the other loop's body stands, and each name, field and struct that held the list's builder holds the
-- other's.
use Rattle.std.specs.Prelude.{ℕ, Bool, true, false, not, ◌&&◌, ◌||◌, [], ◌∷◌, None}
use Rattle.weld_tree.specs.declared.binder.Binder.{Binder}
use Rattle.weld_tree.specs.declared.known.Known.{Known}
use Rattle.weld_tree.specs.declared.known.Known.TheVariants.{Blank, Is}
use Rattle.weld_tree.specs.TypeTree.{TypeTree, TypeTrees, scalar, vec, struct as tuple, dict, build, no_types, more_types}
use Rattle.weld_tree.specs.ExprTree.{At, ExprTree, leaf, one, two, three, many, let_in, loop, iterate, ExprTrees, no_exprs, more_exprs, LegTree, whole, strided, LegTrees, no_legs, more_legs, name, Two}
use Rattle.weld_meaning.specs.Environment.{Named}
use Rattle.weld_meaning.specs.Typing.{place_type}
use Rattle.weld_meaning.specs.Origin.{Origin, value, made, own, outer, named, struct, Origins, no_origins, more_origins, leaf_origin, one_origin, two_origin, three_origin, many_origin, origin, origins}
use Rattle.weld_vertical.specs.Sinking.{is_merge, at_of}

-- ---- where the list's builder is

-- the names that a body has of its loop, whose own builder is the list's; all others are values or aren't used there
abbrev pub own_names : Binder → Binder → Binder → Named Origin
own_names d i r = (r.sym.0, value) ∷ (i.sym.0, value) ∷ (d.sym.0, own []) ∷ []

-- the list's builder is the loop's own: it is this
abbrev pub is_held : Origin → Bool
is_held value = false
is_held made = false
is_held (own p) = true
is_held outer = false
is_held (named s p) = false
is_held (struct os) = false

abbrev mutual
  -- it stands in this
  pub holds : Origin → Bool
  holds value = false
  holds made = false
  holds (own p) = true
  holds outer = false
  holds (named s p) = false
  holds (struct os) = some_hold os

  pub some_hold : Origins → Bool
  some_hold no_origins = false
  some_hold (more_origins o os) = holds o || some_hold os

-- ---- types and notes

abbrev mutual
  -- the type of what comes from there, with a builder of type t in the place of the list's
  pub handed_type : TypeTree → Origin → TypeTree → TypeTree
  handed_type t value u = u
  handed_type t made u = u
  handed_type t (own p) u = t
  handed_type t outer u = u
  handed_type t (named s p) u = u
  handed_type t (struct os) (scalar k) = scalar k
  handed_type t (struct os) (vec u) = vec u
  handed_type t (struct os) (tuple us) = tuple (handed_types t os us)
  handed_type t (struct os) (dict k v) = dict k v
  handed_type t (struct os) (build b) = build b

  pub handed_types : TypeTree → Origins → TypeTrees → TypeTrees
  handed_types t no_origins us = us
  handed_types t (more_origins o os) no_types = no_types
  handed_types t (more_origins o os) (more_types u us) = more_types (handed_type t o u) (handed_types t os us)

abbrev pub handed_note : TypeTree → Origin → Known → Known
handed_note t o Blank = Blank
handed_note t o (Is u) = Is (handed_type t o u)

-- a type is noted
abbrev pub is_noted : Known → Bool
is_noted Blank = false
is_noted (Is t) = true

-- the node of what comes from there
abbrev pub handed_at : TypeTree → Origin → At → At
handed_at t o a = at_of a (handed_note t o a.ty)

-- a binder without a written type
abbrev pub unnoted : Binder → Binder
unnoted b = record { sym = b.sym; place = b.place; note = None; note_place = b.note_place }

-- ---- the body

-- a node of two parts; where it is the merge into the list, the other loop's builder, row number and row are its builder, the
-- row number of this loop and its item, and then the other's body
abbrev pub handed_two : Bool → TypeTree → ℕ → Binder → Binder → Binder → ExprTree → Origin → At → Two → ExprTree → ExprTree → ExprTree
handed_two true t i c n x f p a o e v =
    let_in (at_of a (Is t)) c e (let_in (at_of a (Is t)) n (leaf (at_of a (Is place_type)) (name i)) (let_in (at_of a (Is t)) x v f))
handed_two false t i c n x f p a o e v = two (handed_at t (two_origin o p) a) o e v

abbrev mutual
  -- the other loop has builders of type t, binds its builder, row number and row as c, n and x, and has the body f; this one's
  -- row number is i; and names come from there
  pub handed : TypeTree → ℕ → Binder → Binder → Binder → ExprTree → Named Origin → ExprTree → ExprTree
  handed t i c n x f q (leaf a l) = leaf (handed_at t (leaf_origin l q) a) l
  handed t i c n x f q (one a o e) = one (handed_at t (one_origin o (origin e q)) a) o (handed t i c n x f q e)
  handed t i c n x f q (two a o e v) =
      handed_two (is_merge o && is_held (origin e q)) t i c n x f (origin e q) a o (handed t i c n x f q e) (handed t i c n x f q v)
  handed t i c n x f q (three a o d e g) =
      three (handed_at t (three_origin o (origin e q)) a) o (handed t i c n x f q d) (handed t i c n x f q e) (handed t i c n x f q g)
  handed t i c n x f q (many a o es) = many (handed_at t (many_origin o (origins es q)) a) o (all_handed t i c n x f q es)
  handed t i c n x f q (let_in a z v g) =
      let_in (handed_at t (origin g ((z.sym.0, origin v q) ∷ q)) a) (unnoted z) (handed t i c n x f q v) (handed t i c n x f ((z.sym.0, origin v q) ∷ q) g)
  -- in the body of a lambda nothing holds it
  handed t i c n x f q (loop a ls e b m y g) = loop a (legs_handed t i c n x f q ls) (handed t i c n x f q e) b m y g
  handed t i c n x f q (iterate a e b g) = iterate a (handed t i c n x f q e) b g

  pub all_handed : TypeTree → ℕ → Binder → Binder → Binder → ExprTree → Named Origin → ExprTrees → ExprTrees
  all_handed t i c n x f q no_exprs = no_exprs
  all_handed t i c n x f q (more_exprs e es) = more_exprs (handed t i c n x f q e) (all_handed t i c n x f q es)

  pub leg_handed : TypeTree → ℕ → Binder → Binder → Binder → ExprTree → Named Origin → LegTree → LegTree
  leg_handed t i c n x f q (whole e) = whole (handed t i c n x f q e)
  leg_handed t i c n x f q (strided e g h j) =
      strided (handed t i c n x f q e) (handed t i c n x f q g) (handed t i c n x f q h) (handed t i c n x f q j)

  pub legs_handed : TypeTree → ℕ → Binder → Binder → Binder → ExprTree → Named Origin → LegTrees → LegTrees
  legs_handed t i c n x f q no_legs = no_legs
  legs_handed t i c n x f q (more_legs l ls) = more_legs (leg_handed t i c n x f q l) (legs_handed t i c n x f q ls)

-- the body with the other loop's builder, of the type that is noted at the other; where none is, it stays
abbrev pub handed_by : Known → ℕ → Binder → Binder → Binder → ExprTree → Named Origin → ExprTree → ExprTree
handed_by Blank i c n x f q g = g
handed_by (Is t) i c n x f q g = handed t i c n x f q g

-- ---- what is asked of the body

abbrev mutual
  -- no loop within starts with the list's builder
  pub starts_none : Named Origin → ExprTree → Bool
  starts_none q (leaf a l) = true
  starts_none q (one a o e) = starts_none q e
  starts_none q (two a o e v) = starts_none q e && starts_none q v
  starts_none q (three a o d e g) = starts_none q d && (starts_none q e && starts_none q g)
  starts_none q (many a o es) = all_start_none q es
  starts_none q (let_in a z v g) = starts_none q v && starts_none ((z.sym.0, origin v q) ∷ q) g
  starts_none q (loop a ls e b m y g) = not (holds (origin e q)) && (legs_start_none q ls && starts_none q e)
  starts_none q (iterate a e b g) = starts_none q e

  pub all_start_none : Named Origin → ExprTrees → Bool
  all_start_none q no_exprs = true
  all_start_none q (more_exprs e es) = starts_none q e && all_start_none q es

  pub leg_starts_none : Named Origin → LegTree → Bool
  leg_starts_none q (whole e) = starts_none q e
  leg_starts_none q (strided e g h j) = starts_none q e && (starts_none q g && (starts_none q h && starts_none q j))

  pub legs_start_none : Named Origin → LegTrees → Bool
  legs_start_none q no_legs = true
  legs_start_none q (more_legs l ls) = leg_starts_none q l && legs_start_none q ls
