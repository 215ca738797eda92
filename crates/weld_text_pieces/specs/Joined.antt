-- What pieces of a text are read as.
use Rattle.std.specs.Prelude.{◌≡◌, ◌++◌, ℕ, List, [], ◌∷◌, All}
use Rattle.weld_data.specs.Value.{Value}
use Rattle.weld_tree.specs.TypeTree.{TypeTree}
use Rattle.weld_tree.specs.HasValue.{HasValue}
use Rattle.weld_values.specs.Grammar.{At}
use Rattle.weld_values.specs.Pieces.{Separated}

-- the text is these values of the type, with a comma between each two
abbrev pub AreValues : TypeTree → List ℕ → List Value → Type 0
AreValues t text vs = Separated (At t) vs text × All (HasValue t) vs

-- each piece is some of the values, in their order
abbrev pub ArePieces : TypeTree → List (List ℕ) → List Value → Type 0
ArePieces t [] vs = vs ≡ []
ArePieces t (piece ∷ pieces) vs = (us : List Value) × (ws : List Value) × (vs ≡ us ++ ws) × AreValues t piece us × ArePieces t pieces ws
