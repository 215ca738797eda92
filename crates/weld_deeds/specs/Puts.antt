-- Items that are merged in place.
use Rattle.std.specs.Prelude.{◌≡◌}
use Rattle.weld_data.specs.Value.{Value}
use Rattle.weld_tree.specs.ExprTree.{ExprTree, two, three, many, ExprTrees, no_exprs, more_exprs}
use Rattle.weld_builders.specs.Outcome.{done}
use Rattle.weld_builders.specs.Part.{Part}
use Rattle.weld_meaning.specs.Thing.{Thing, plain, building, several}
use Rattle.weld_meaning.specs.Evaluation.{Env, eval}
use Rattle.weld_built.specs.Logged.{IsItemOf}
use Rattle.weld_blocks.specs.Structs.{IsStructForm}

-- the value is an item of the builder that the thing is
abbrev pub IsPut : Thing → Value → Type 0
IsPut (plain w) v = ⊥
IsPut (building p) v = IsItemOf p v
IsPut (several ts) v = ⊥

-- the thing is a value, and an item of the builder
abbrev pub PutsThing : Thing → Thing → Type 0
PutsThing s (plain v) = IsPut s v
PutsThing s (building p) = ⊥
PutsThing s (several ts) = ⊥

-- what the expression comes to is an item of the builder
pub record PutFits (e : ExprTree) (env : Env) (s : Thing) : Type 0 where
  pub part : Part
  pub is_part : s ≡ building part
  pub puts : (y : Thing) → eval e env ≡ done y → PutsThing s y

-- ---- forms

abbrev pub AreTwo : ExprTrees → Type 0
AreTwo no_exprs = ⊥
AreTwo (more_exprs e no_exprs) = ⊥
AreTwo (more_exprs e (more_exprs f no_exprs)) = Unit {0}
AreTwo (more_exprs e (more_exprs f (more_exprs g es))) = ⊥

abbrev pub IsWrittenPair : ExprTree → Type 0
IsWrittenPair (many a o es) = IsStructForm o × AreTwo es
IsWrittenPair _ = ⊥

abbrev pub IsTwo : ExprTree → Type 0
IsTwo (two a o e f) = Unit {0}
IsTwo _ = ⊥

abbrev pub IsTriple : ExprTree → Type 0
IsTriple (three a o c e f) = Unit {0}
IsTriple _ = ⊥
