-- Which types expressions have. The tables read like the rules.
use Rattle.std.specs.Prelude.{◌≡◌, ◌⊎◌, ℕ, zero, suc, List, [], ◌∷◌, Option, Some, None}
use Rattle.weld_data.specs.declared.kind.Kind.{Kind}
use Rattle.weld_data.specs.declared.kind.Kind.TheVariants as kinds
use Rattle.weld_data.specs.Kind.{IsInteger, InRange}
use Rattle.weld_data.specs.Operation.{TakesKind, answer_kind}
use Rattle.weld_tree.specs.declared.binder.Binder.{Binder}
use Rattle.weld_tree.specs.TypeTree.{TypeTree, BuildTree, TypeTrees, scalar, vec, struct, dict, build, list, total, keyed, cells, groups, no_types, more_types}
use Rattle.weld_tree.specs.Types.{IsBuilderFree, AreBuilderFree, IsBuilder, AreBuilders, HasTypes, IsWellFormed, IsWellFormedBuild, pair_of, takes, gives}
use Rattle.weld_tree.specs.ExprTree.{ExprTree, leaf, one, two, three, many, let_in, loop, iterate, ExprTrees, no_exprs, more_exprs, LegTree, whole, strided, LegTrees, no_legs, more_legs, Leaf, int, truth, chars, name, fresh, One, neg, not, cast, len, field, finish, started, Two, binary, and, or, look_up, key_exists, merge, Three, if_else, select, slice, Many, make_vec, make_struct}
use Rattle.weld_tree.specs.Program.{ProgramTree, MayBeFresh}
use Rattle.weld_meaning.specs.Environment.{Named, look_for}

-- the types of names
abbrev pub Types : Type 0
Types = Named TypeTree

-- each name has a well-formed type
pub record AreFormed (g : Types) : Type 0 where
  pub formed : (s : ℕ) (t : TypeTree) → look_for s g ≡ Some t → IsWellFormed t

abbrev pub truth_type : TypeTree
truth_type = scalar kinds.Bool

-- the type of row numbers, of lengths and of places in vectors
abbrev pub place_type : TypeTree
place_type = scalar kinds.I64

-- a note is well formed and equals the type found
abbrev pub NoteFits : Option TypeTree → TypeTree → Type 0
NoteFits None t = Unit {0}
NoteFits (Some note) t = IsWellFormed note × (note ≡ t)

-- the type is the field of that number, from 0
abbrev pub IsField : ℕ → TypeTrees → TypeTree → Type 0
IsField n no_types t = ⊥
IsField zero (more_types u us) t = t ≡ u
IsField (suc n) (more_types u us) t = IsField n us t

-- each of these types is that one
abbrev pub AreAll : TypeTrees → TypeTree → Type 0
AreAll no_types t = Unit {0}
AreAll (more_types u us) t = (u ≡ t) × AreAll us t

-- ---- the rules, by the number of parts

abbrev pub LeafHas : Leaf → Types → TypeTree → Type 0
LeafHas (int k x) g t = IsInteger k × InRange k x × (t ≡ scalar k)
LeafHas (truth b) g t = t ≡ truth_type
LeafHas (chars bs) g t = t ≡ vec (scalar kinds.I8)
LeafHas (name s) g t = look_for s g ≡ Some t
LeafHas (fresh b) g t = MayBeFresh b × IsWellFormedBuild b × (t ≡ build b)

-- the starting value of a builder has the type
abbrev pub StartHas : BuildTree → TypeTree → Type 0
StartHas (list t) u = ⊥
StartHas (total t op) u = u ≡ t
StartHas (keyed k v op) u = ⊥
StartHas (cells t op) u = u ≡ vec t
StartHas (groups k v) u = ⊥

-- by the type u of its part, the node has the type t
abbrev pub OneHas : One → TypeTree → TypeTree → Type 0
OneHas neg u t = (k : Kind) × IsInteger k × (u ≡ scalar k) × (t ≡ scalar k)
OneHas not u t = (u ≡ truth_type) × (t ≡ truth_type)
OneHas (cast k) u t = (m : Kind) × IsInteger k × (u ≡ scalar m) × (t ≡ scalar k)
OneHas len u t = (v : TypeTree) × (u ≡ vec v) × (t ≡ place_type)
OneHas (field n) u t = (us : TypeTrees) × (u ≡ struct us) × IsField n us t
OneHas finish u t = (b : BuildTree) × (u ≡ build b) × (t ≡ gives b)
OneHas (started b) u t = IsWellFormedBuild b × StartHas b u × (t ≡ build b)

-- by the types u and v of its parts; numbers of one kind are taken as the operator does: only equality takes truth values
abbrev pub TwoHas : Two → TypeTree → TypeTree → TypeTree → Type 0
TwoHas (binary op) u v t = (k : Kind) × TakesKind op k × (u ≡ scalar k) × (v ≡ scalar k) × (t ≡ scalar (answer_kind op k))
TwoHas and u v t = (u ≡ truth_type) × (v ≡ truth_type) × (t ≡ truth_type)
TwoHas or u v t = (u ≡ truth_type) × (v ≡ truth_type) × (t ≡ truth_type)
TwoHas look_up u v t = ((u ≡ vec t) × (v ≡ place_type)) ⊎ (u ≡ dict v t)
TwoHas key_exists u v t = (w : TypeTree) × (u ≡ dict v w) × (t ≡ truth_type)
TwoHas merge u v t = (b : BuildTree) × (u ≡ build b) × (v ≡ takes b) × (t ≡ u)

-- by the types u, v and w of its parts
abbrev pub ThreeHas : Three → TypeTree → TypeTree → TypeTree → TypeTree → Type 0
ThreeHas if_else u v w t = (u ≡ truth_type) × (v ≡ t) × (w ≡ t)
ThreeHas select u v w t = (u ≡ truth_type) × (v ≡ t) × (w ≡ t) × IsBuilderFree t
ThreeHas slice u v w t = (e : TypeTree) × (u ≡ vec e) × (v ≡ place_type) × (w ≡ place_type) × (t ≡ u)

-- by the types of its parts, of which there is one at least
abbrev pub ManyHas : Many → TypeTrees → TypeTree → Type 0
ManyHas make_vec us t = (u : TypeTree) × HasTypes us × AreAll us u × IsBuilderFree u × (t ≡ vec u)
ManyHas make_struct us t = HasTypes us × (AreBuilderFree us ⊎ AreBuilders us) × (t ≡ struct us)

-- a row is the element of the one leg, or the struct of the elements of more
abbrev pub RowHas : TypeTrees → TypeTree → Type 0
RowHas no_types t = ⊥
RowHas (more_types u no_types) t = t ≡ u
RowHas (more_types u (more_types v us)) t = t ≡ struct (more_types u (more_types v us))

-- the types of the names in the body of a loop over such rows
abbrev pub body_types : Binder → Binder → Binder → TypeTree → TypeTree → Types → Types
body_types b n x builder row g = (x.sym.0, row) ∷ (n.sym.0, place_type) ∷ (b.sym.0, builder) ∷ g

abbrev mutual
  -- the expression has the type, by the types of names
  pub HasType : ExprTree → Types → TypeTree → Type 0
  HasType (leaf a l) g t = LeafHas l g t
  HasType (one a o e) g t = (u : TypeTree) × HasType e g u × OneHas o u t
  HasType (two a o e f) g t = (u : TypeTree) × (v : TypeTree) × HasType e g u × HasType f g v × TwoHas o u v t
  HasType (three a o e f h) g t =
      (u : TypeTree) × (v : TypeTree) × (w : TypeTree) × HasType e g u × HasType f g v × HasType h g w × ThreeHas o u v w t
  HasType (many a o es) g t = (us : TypeTrees) × HaveTypes es g us × ManyHas o us t
  HasType (let_in a b e f) g t = (u : TypeTree) × HasType e g u × NoteFits b.note u × HasType f ((b.sym.0, u) ∷ g) t
  HasType (loop a ls e b n x f) g t =
      (us : TypeTrees) × (r : TypeTree) × LegsHave ls g us × RowHas us r × HasType e g t × IsBuilder t
      × NoteFits b.note t × NoteFits n.note place_type × NoteFits x.note r × HasType f (body_types b n x t r g) t
  HasType (iterate a e b f) g t =
      HasType e g t × IsBuilderFree t × NoteFits b.note t × HasType f ((b.sym.0, t) ∷ g) (pair_of t truth_type)

  pub HaveTypes : ExprTrees → Types → TypeTrees → Type 0
  HaveTypes no_exprs g no_types = Unit {0}
  HaveTypes no_exprs g (more_types u us) = ⊥
  HaveTypes (more_exprs e es) g no_types = ⊥
  HaveTypes (more_exprs e es) g (more_types u us) = HasType e g u × HaveTypes es g us

  -- the elements of the leg have the type
  pub LegHas : LegTree → Types → TypeTree → Type 0
  LegHas (whole e) g u = HasType e g (vec u)
  LegHas (strided e f h i) g u = HasType e g (vec u) × HasType f g place_type × HasType h g place_type × HasType i g place_type

  pub LegsHave : LegTrees → Types → TypeTrees → Type 0
  LegsHave no_legs g no_types = Unit {0}
  LegsHave no_legs g (more_types u us) = ⊥
  LegsHave (more_legs l ls) g no_types = ⊥
  LegsHave (more_legs l ls) g (more_types u us) = LegHas l g u × LegsHave ls g us

-- ---- programs

-- a parameter's type is well formed and builder-free
abbrev pub ParamFits : Option TypeTree → Type 0
ParamFits None = ⊥
ParamFits (Some t) = IsWellFormed t × IsBuilderFree t

abbrev pub ParamsFit : List Binder → Type 0
ParamsFit [] = Unit {0}
ParamsFit (b ∷ bs) = ParamFits b.note × ParamsFit bs

-- the type of a parameter, which is its note
abbrev pub noted_type : Option TypeTree → TypeTree
noted_type (Some t) = t
noted_type None = struct no_types

-- the types of the parameters before those of further names
abbrev pub param_types : List Binder → Types
param_types [] = []
param_types (b ∷ bs) = (b.sym.0, noted_type b.note) ∷ param_types bs

-- the program has the type, which is builder-free
pub record ProgramHas (p : ProgramTree) (t : TypeTree) : Type 0 where
  pub params : ParamsFit p.params
  pub body : HasType p.body (param_types p.params) t
  pub builder_free : IsBuilderFree t
