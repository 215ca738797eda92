-- The types that expressions have are well formed, where those of their names are.
use Rattle.std.proofs.Common.{◌≡◌, ℕ, zero, suc, sym, subst, Bool, true, false, if◌then◌else◌, Option, Some, ◌∷◌, inl, inr, ◌==◌}
use Rattle.weld_tree.specs.declared.binder.Binder.{Binder}
use Rattle.weld_tree.specs.TypeTree.{TypeTree, BuildTree, TypeTrees, scalar, vec, struct, dict, build, list, total, keyed, cells, groups, no_types, more_types}
use Rattle.weld_tree.specs.Types.{IsBuilderFree, AreBuilderFree, HasTypes, IsScalarType, IsIntegerType, AreIntegerTypes, IsMergerType, IsKeyField, AreKeyFields, IsKey, IsWellFormed, IsWellFormedBuild, AreWellFormed, takes, gives}
use Rattle.weld_tree.specs.ExprTree.{ExprTree, leaf, one, two, three, many, let_in, loop, iterate, ExprTrees, no_exprs, more_exprs, LegTree, whole, strided, LegTrees, no_legs, more_legs, Leaf, int, truth, chars, name, fresh, One, neg, not, cast, len, field, finish, started, Two, binary, and, or, look_up, key_exists, merge, Three, if_else, select, slice, Many, make_vec, make_struct}
use Rattle.weld_meaning.specs.Environment.{look_for}
use Rattle.weld_meaning.specs.Typing.{Types, IsField, AreAll, LeafHas, OneHas, TwoHas, ThreeHas, ManyHas, RowHas, AreFormed, HasType, HaveTypes, LegHas, LegsHave, body_types}

-- ---- parts of types

pub integer_free : (t : TypeTree) → IsIntegerType t → IsBuilderFree t
integer_free (scalar k) h = tt
integer_free (vec t) h = absurd h
integer_free (struct ts) h = absurd h
integer_free (dict k v) h = absurd h
integer_free (build b) h = absurd h

integer_well_formed : (t : TypeTree) → IsIntegerType t → IsWellFormed t
integer_well_formed (scalar k) h = tt
integer_well_formed (vec t) h = absurd h
integer_well_formed (struct ts) h = absurd h
integer_well_formed (dict k v) h = absurd h
integer_well_formed (build b) h = absurd h

integers_free : (ts : TypeTrees) → AreIntegerTypes ts → AreBuilderFree ts
integers_free no_types h = tt
integers_free (more_types t ts) h = (integer_free t h.0, integers_free ts h.1)

integers_well_formed : (ts : TypeTrees) → AreIntegerTypes ts → AreWellFormed ts
integers_well_formed no_types h = tt
integers_well_formed (more_types t ts) h = (integer_well_formed t h.0, integers_well_formed ts h.1)

pub merger_free : (t : TypeTree) → IsMergerType t → IsBuilderFree t
merger_free (scalar k) h = tt
merger_free (vec t) h = absurd h
merger_free (struct ts) h = integers_free ts h.1
merger_free (dict k v) h = absurd h
merger_free (build b) h = absurd h

merger_well_formed : (t : TypeTree) → IsMergerType t → IsWellFormed t
merger_well_formed (scalar k) h = tt
merger_well_formed (vec t) h = absurd h
merger_well_formed (struct ts) h = (h.0, integers_well_formed ts h.1, inl (integers_free ts h.1))
merger_well_formed (dict k v) h = absurd h
merger_well_formed (build b) h = absurd h

scalar_free : (t : TypeTree) → IsScalarType t → IsBuilderFree t
scalar_free (scalar k) h = tt
scalar_free (vec t) h = absurd h
scalar_free (struct ts) h = absurd h
scalar_free (dict k v) h = absurd h
scalar_free (build b) h = absurd h

field_free : (t : TypeTree) → IsKeyField t → IsBuilderFree t
field_free (scalar k) h = tt
field_free (vec t) h = scalar_free t h
field_free (struct ts) h = absurd h
field_free (dict k v) h = absurd h
field_free (build b) h = absurd h

fields_free : (ts : TypeTrees) → AreKeyFields ts → AreBuilderFree ts
fields_free no_types h = tt
fields_free (more_types t ts) h = (field_free t h.0, fields_free ts h.1)

pub key_free : (t : TypeTree) → IsKey t → IsBuilderFree t
key_free (scalar k) h = tt
key_free (vec t) h = scalar_free t h
key_free (struct ts) h = fields_free ts h.1
key_free (dict k v) h = absurd h
key_free (build b) h = absurd h

-- what is merged into a builder is a value
pub takes_free : (b : BuildTree) → IsWellFormedBuild b → IsBuilderFree (takes b)
takes_free (list t) h = h.1
takes_free (total t op) h = merger_free t h
takes_free (keyed k v op) h = (key_free k h.0, (integer_free v h.1, tt))
takes_free (cells t op) h = (tt, (integer_free t h, tt))
takes_free (groups k v) h = (key_free k h.0, (h.2, tt))

pub gives_well_formed : (b : BuildTree) → IsWellFormedBuild b → IsWellFormed (gives b)
gives_well_formed (list t) h = h
gives_well_formed (total t op) h = merger_well_formed t h
gives_well_formed (keyed k v op) h = (h.0, integer_well_formed v h.1, integer_free v h.1)
gives_well_formed (cells t op) h = (integer_well_formed t h, integer_free t h)
gives_well_formed (groups k v) h = (h.0, (h.1, h.2), h.2)

field_well_formed : (n : ℕ) (us : TypeTrees) (t : TypeTree) → IsField n us t → AreWellFormed us → IsWellFormed t
field_well_formed zero no_types t f h = absurd f
field_well_formed (suc n) no_types t f h = absurd f
field_well_formed zero (more_types u us) t f h = subst IsWellFormed (sym f) h.0
field_well_formed (suc n) (more_types u us) t f h = field_well_formed n us t f h.1

all_well_formed : (us : TypeTrees) (u : TypeTree) → HasTypes us → AreAll us u → AreWellFormed us → IsWellFormed u
all_well_formed no_types u some a h = absurd some
all_well_formed (more_types v us) u some a h = subst IsWellFormed a.0 h.0

-- ---- names

pub formed_bind : (g : Types) (s : ℕ) (u : TypeTree) → IsWellFormed u → AreFormed g → AreFormed ((s, u) ∷ g)
formed_bind g s u w h = record { formed = λ x t e. by (x == s) t (look_for x g) (h.formed x t) e }
  where
    by : (b : Bool) (t : TypeTree) (m : Option TypeTree) → (m ≡ Some t → IsWellFormed t) → (if b then Some u else m) ≡ Some t → IsWellFormed t
    by true t m k e = let same : u ≡ t = cc in subst IsWellFormed same w
    by false t m k e = k e

pub formed_body : (b n x : Binder) (t r : TypeTree) (g : Types) → IsWellFormed t → IsWellFormed r → AreFormed g → AreFormed (body_types b n x t r g)
formed_body b n x t r g p q h = formed_bind _ _ r q (formed_bind _ _ _ tt (formed_bind g _ t p h))

-- ---- the rules

leaf_formed : (l : Leaf) (g : Types) (t : TypeTree) → LeafHas l g t → AreFormed g → IsWellFormed t
leaf_formed (int k x) g t h w = subst IsWellFormed (sym h.2) tt
leaf_formed (truth b) g t h w = subst IsWellFormed (sym h) tt
leaf_formed (chars bs) g t h w = subst IsWellFormed (sym h) (tt, tt)
leaf_formed (name s) g t h w = w.formed s t h
leaf_formed (fresh b) g t h w = subst IsWellFormed (sym h.2) h.1

one_formed : (o : One) (u t : TypeTree) → OneHas o u t → IsWellFormed u → IsWellFormed t
one_formed neg u t h w = subst IsWellFormed (sym h.3) tt
one_formed not u t h w = subst IsWellFormed (sym h.1) tt
one_formed (cast k) u t h w = subst IsWellFormed (sym h.3) tt
one_formed len u t h w = subst IsWellFormed (sym h.2) tt
one_formed (field n) u t h w = let p : IsWellFormed (struct h.0) = subst IsWellFormed h.1 w in field_well_formed n h.0 t h.2 p.1
one_formed finish u t h w = let p : IsWellFormed (build h.0) = subst IsWellFormed h.1 w in subst IsWellFormed (sym h.2) (gives_well_formed h.0 p)
one_formed (started b) u t h w = subst IsWellFormed (sym h.2) h.0

two_formed : (o : Two) (u v t : TypeTree) → TwoHas o u v t → IsWellFormed u → IsWellFormed t
two_formed (binary op) u v t h w = subst IsWellFormed (sym h.4) tt
two_formed and u v t h w = subst IsWellFormed (sym h.2) tt
two_formed or u v t h w = subst IsWellFormed (sym h.2) tt
two_formed look_up u v t (inl h) w = let p : IsWellFormed (vec t) = subst IsWellFormed h.0 w in p.0
two_formed look_up u v t (inr h) w = let p : IsWellFormed (dict v t) = subst IsWellFormed h w in p.1
two_formed key_exists u v t h w = subst IsWellFormed (sym h.2) tt
two_formed merge u v t h w = subst IsWellFormed (sym h.3) w

three_formed : (o : Three) (u v w t : TypeTree) → ThreeHas o u v w t → IsWellFormed u → IsWellFormed v → IsWellFormed t
three_formed if_else u v w t h p q = subst IsWellFormed h.1 q
three_formed select u v w t h p q = subst IsWellFormed h.1 q
three_formed slice u v w t h p q = subst IsWellFormed (sym h.4) p

many_formed : (o : Many) (us : TypeTrees) (t : TypeTree) → ManyHas o us t → AreWellFormed us → IsWellFormed t
many_formed make_vec us t h w = subst IsWellFormed (sym h.4) (all_well_formed us h.0 h.1 h.2 w, h.3)
many_formed make_struct us t h w = subst IsWellFormed (sym h.2) (h.0, w, h.1)

-- the elements of a leg are values
leg_types_formed : (us : TypeTrees) → AreWellFormed us → AreBuilderFree us → (r : TypeTree) → RowHas us r → IsWellFormed r
leg_types_formed no_types w f r h = absurd h
leg_types_formed (more_types u no_types) w f r h = subst IsWellFormed (sym h) w.0
leg_types_formed (more_types u (more_types v us)) w f r h = subst IsWellFormed (sym h) (tt, w, inl f)

mutual
  pub type_formed : (e : ExprTree) (g : Types) (t : TypeTree) → HasType e g t → AreFormed g → IsWellFormed t
  type_formed (leaf a l) g t h w = leaf_formed l g t h w
  type_formed (one a o e) g t h w = one_formed o h.0 t h.2 (type_formed e g h.0 h.1 w)
  type_formed (two a o e f) g t h w = two_formed o h.0 h.1 t h.4 (type_formed e g h.0 h.2 w)
  type_formed (three a o e f k) g t h w = three_formed o h.0 h.1 h.2 t h.6 (type_formed e g h.0 h.3 w) (type_formed f g h.1 h.4 w)
  type_formed (many a o es) g t h w = many_formed o h.0 t h.2 (types_formed es g h.0 h.1 w)
  type_formed (let_in a b e f) g t h w = type_formed f _ t h.3 (formed_bind g b.sym.0 h.0 (type_formed e g h.0 h.1 w) w)
  type_formed (loop a ls e b n x f) g t h w = type_formed e g t h.4 w
  type_formed (iterate a e b f) g t h w = type_formed e g t h.0 w

  pub types_formed : (es : ExprTrees) (g : Types) (us : TypeTrees) → HaveTypes es g us → AreFormed g → AreWellFormed us
  types_formed no_exprs g no_types h w = tt
  types_formed no_exprs g (more_types u us) h w = absurd h
  types_formed (more_exprs e es) g no_types h w = absurd h
  types_formed (more_exprs e es) g (more_types u us) h w = (type_formed e g u h.0 w, types_formed es g us h.1 w)

pub leg_formed : (l : LegTree) (g : Types) (u : TypeTree) → LegHas l g u → AreFormed g → IsWellFormed u × IsBuilderFree u
leg_formed (whole e) g u h w = type_formed e g (vec u) h w
leg_formed (strided e f k i) g u h w = type_formed e g (vec u) h.0 w

pub legs_formed : (ls : LegTrees) (g : Types) (us : TypeTrees) → LegsHave ls g us → AreFormed g → AreWellFormed us × AreBuilderFree us
legs_formed no_legs g no_types h w = (tt, tt)
legs_formed no_legs g (more_types u us) h w = absurd h
legs_formed (more_legs l ls) g no_types h w = absurd h
legs_formed (more_legs l ls) g (more_types u us) h w =
    let p = leg_formed l g u h.0 w in let q = legs_formed ls g us h.1 w in ((p.0, q.0), (p.1, q.1))

pub row_formed : (ls : LegTrees) (g : Types) (us : TypeTrees) (r : TypeTree) → LegsHave ls g us → RowHas us r → AreFormed g → IsWellFormed r
row_formed ls g us r h k w = let p = legs_formed ls g us h w in leg_types_formed us p.0 p.1 r k
