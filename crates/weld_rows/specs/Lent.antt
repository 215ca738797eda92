-- What loops run over and start from without a value being made.
use Rattle.std.specs.Prelude.{◌≡◌, ◌∷◌, [], List, Option, Some, None}
use Rattle.std.specs.Borrow.{Bor}
use Rattle.weld_data.specs.declared.op.MergeOp.{MergeOp}
use Rattle.weld_data.specs.declared.value.Column.{Column}
use Rattle.weld_data.specs.Value.{Value, list, values}
use Rattle.weld_data.specs.View.{view_column}
use Rattle.weld_tree.specs.TypeTree.{TypeTree, total}
use Rattle.weld_builders.specs.Outcome.{Outcome, done}
use Rattle.weld_builders.specs.Part.{Part}
use Rattle.weld_meaning.specs.Evaluation.{started_builder}
use Rattle.weld_meaning.specs.Thing.{Thing, plain, building}

-- where a vector was lent, it is what the expression comes to
abbrev pub LendsVector : Option (Bor Column) → Outcome Thing → Type 0
LendsVector (Some c) o = o ≡ done (plain (list (values (view_column c.now))))
LendsVector None o = Unit {0}

-- where a vector was lent, it is the loop's only one
abbrev pub LendsLeg : Option (Bor Column) → Outcome (List (List Value)) → Type 0
LendsLeg (Some c) o = o ≡ done (view_column c.now ∷ [])
LendsLeg None o = Unit {0}

-- where a builder was made, it is what the expression comes to
abbrev pub StartsBuilder : Option Part → Outcome Thing → Type 0
StartsBuilder (Some b) o = o ≡ done (building b)
StartsBuilder None o = Unit {0}

-- the same of a `merger` without a starting value
abbrev pub StartsTotal : Option Part → TypeTree → MergeOp → Type 0
StartsTotal r t op = StartsBuilder r (started_builder (total t op) None)
