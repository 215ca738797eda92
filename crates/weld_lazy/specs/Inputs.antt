-- The values that a graph gives up for the inputs of a program.
use Rattle.std.specs.Prelude.{ℕ, suc, ◌==◌, if◌then◌else◌, List, [], ◌∷◌}
use Rattle.weld_data.specs.Value.{Value}
use Rattle.weld_objects.specs.Objects.{Object, given, call}

-- the values of these ids, which rise, among the objects from that id on
abbrev pub picked : ℕ → List Object → List ℕ → List Value
picked id [] ids = []
picked id (given t v ∷ os) [] = picked (suc id) os []
picked id (given t v ∷ os) (k ∷ ks) = if k == id then v ∷ picked (suc id) os ks else picked (suc id) os (k ∷ ks)
picked id (call t ids p ∷ os) ks = picked (suc id) os ks
