-- What a text can spell.
use Rattle.std.specs.Prelude.{ℕ, ◌<◌, ◌^◌, Option, Some, None, List, [], ◌∷◌}
use Rattle.std.specs.List.{AllByRecursion}
use Rattle.weld_data.specs.declared.kind.Kind.{Kind}
use Rattle.weld_data.specs.declared.kind.Kind.TheVariants.{Bool, I8, I16, I32, I64, U8, U16, U32, U64}
use Rattle.weld_tree.specs.ExprTree.{ExprTree, leaf, one, two, three, many, let_in, loop, iterate, ExprTrees, no_exprs, more_exprs, LegTree, whole, strided, LegTrees, no_legs, more_legs, Leaf, int, truth, chars, name, fresh, One, neg, not, cast, len, field, finish, started}
use Rattle.weld_tree.specs.Program.{ProgramTree}
use Rattle.weld_tree.specs.TypeTree.{TypeTree, BuildTree, TypeTrees, scalar, vec, struct, dict, build, list, total, keyed, cells, groups, no_types, more_types}
use Rattle.weld_tree.specs.Types.{HasTypes}

-- no struct in the type is empty
abbrev mutual
  pub HasNoEmptyStruct : TypeTree → Type 0
  HasNoEmptyStruct (scalar k) = Unit {0}
  HasNoEmptyStruct (vec t) = HasNoEmptyStruct t
  HasNoEmptyStruct (struct ts) = HasTypes ts × HaveNoEmptyStruct ts
  HasNoEmptyStruct (dict k v) = HasNoEmptyStruct k × HasNoEmptyStruct v
  HasNoEmptyStruct (build b) = BuildHasNoEmptyStruct b

  pub BuildHasNoEmptyStruct : BuildTree → Type 0
  BuildHasNoEmptyStruct (list t) = HasNoEmptyStruct t
  BuildHasNoEmptyStruct (total t op) = HasNoEmptyStruct t
  BuildHasNoEmptyStruct (keyed k v op) = HasNoEmptyStruct k × HasNoEmptyStruct v
  BuildHasNoEmptyStruct (cells t op) = HasNoEmptyStruct t
  BuildHasNoEmptyStruct (groups k v) = HasNoEmptyStruct k × HasNoEmptyStruct v

  pub HaveNoEmptyStruct : TypeTrees → Type 0
  HaveNoEmptyStruct no_types = Unit {0}
  HaveNoEmptyStruct (more_types t ts) = HasNoEmptyStruct t × HaveNoEmptyStruct ts

-- bytes
abbrev pub AreBytes : List ℕ → Type 0
AreBytes [] = Unit {0}
AreBytes (b ∷ bs) = (b < 256) × AreBytes bs

-- numbers are of kind i32 or i64, strings of bytes, and types have no empty structs
abbrev pub IsWritten : Kind → Type 0
IsWritten Bool = ⊥
IsWritten I8 = ⊥
IsWritten I16 = ⊥
IsWritten I32 = Unit {0}
IsWritten I64 = Unit {0}
IsWritten U8 = ⊥
IsWritten U16 = ⊥
IsWritten U32 = ⊥
IsWritten U64 = ⊥

abbrev pub LeafIsSpellable : Leaf → Type 0
LeafIsSpellable (int k x) = IsWritten k
LeafIsSpellable (truth b) = Unit {0}
LeafIsSpellable (chars bs) = AreBytes bs
LeafIsSpellable (name s) = Unit {0}
LeafIsSpellable (fresh b) = BuildHasNoEmptyStruct b

-- a field's number has nine digits at most
abbrev pub OneIsSpellable : One → Type 0
OneIsSpellable neg = Unit {0}
OneIsSpellable not = Unit {0}
OneIsSpellable (cast k) = Unit {0}
OneIsSpellable len = Unit {0}
OneIsSpellable (field n) = n < 10 ^ 9
OneIsSpellable finish = Unit {0}
OneIsSpellable (started b) = BuildHasNoEmptyStruct b

-- a binder's note has no empty struct
abbrev pub NoteIsSpellable : Option TypeTree → Type 0
NoteIsSpellable None = Unit {0}
NoteIsSpellable (Some t) = HasNoEmptyStruct t

-- a text can spell every part of it, where each node is well made and each name is bound
abbrev mutual
  pub IsSpellable : ExprTree → Type 0
  IsSpellable (leaf a l) = LeafIsSpellable l
  IsSpellable (one a o e) = OneIsSpellable o × IsSpellable e
  IsSpellable (two a t e f) = IsSpellable e × IsSpellable f
  IsSpellable (three a t e f g) = IsSpellable e × IsSpellable f × IsSpellable g
  IsSpellable (many a m es) = AreSpellable es
  IsSpellable (let_in a b e f) = NoteIsSpellable b.note × IsSpellable e × IsSpellable f
  IsSpellable (loop a ls e b n x f) = LegsAreSpellable ls × IsSpellable e × NoteIsSpellable b.note × NoteIsSpellable n.note × NoteIsSpellable x.note × IsSpellable f
  IsSpellable (iterate a e b f) = IsSpellable e × NoteIsSpellable b.note × IsSpellable f

  pub AreSpellable : ExprTrees → Type 0
  AreSpellable no_exprs = Unit {0}
  AreSpellable (more_exprs e es) = IsSpellable e × AreSpellable es

  pub LegIsSpellable : LegTree → Type 0
  LegIsSpellable (whole e) = IsSpellable e
  LegIsSpellable (strided e f g h) = IsSpellable e × IsSpellable f × IsSpellable g × IsSpellable h

  pub LegsAreSpellable : LegTrees → Type 0
  LegsAreSpellable no_legs = Unit {0}
  LegsAreSpellable (more_legs l ls) = LegIsSpellable l × LegsAreSpellable ls

-- the same of a program
pub record IsSpellableProgram (p : ProgramTree) : Type 0 where
  pub params : AllByRecursion (λ b. NoteIsSpellable b.note) p.params
  pub body : IsSpellable p.body
