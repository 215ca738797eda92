-- Pieces of a text, read into the places of a list.
use Rattle.std.specs.Prelude.{ℕ, List, map}
use Rattle.std.specs.Borrow.{Bor}
use Rattle.weld_data.specs.Value.{Value}
use Rattle.weld_tree.specs.TypeTree.{TypeTree}
use Rattle.weld_text_pieces.specs.Joined.{ArePieces}

-- the pieces are the values that the places have, in their order
abbrev pub ArePlaced : {A : Type 0} → TypeTree → (A → Value) → List (Bor (List ℕ)) → List A → Type 0
ArePlaced t value pieces places = ArePieces t (map (λ p. p.now) pieces) (map value places)
