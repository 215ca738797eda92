-- What a program is that objects are lowered to.
use Rattle.std.specs.Prelude.{◌≡◌, ℕ, List, map}
use Rattle.weld_data.specs.Value.{Value, struct, values}
use Rattle.weld_tree.specs.Program.{ProgramTree, loops}
use Rattle.weld_builders.specs.Outcome.{done, fault}
use Rattle.weld_meaning.specs.Typing.{ProgramHas}
use Rattle.weld_meaning.specs.Meaning.{ArgumentsFit, meaning}
use Rattle.weld_objects.specs.Objects.{Object, denote, all_done}
use Rattle.weld_objects.specs.Reached.{IsReached, reached}
use Rattle.weld_objects.specs.Lowered.{lowered, inputs_of, kept_loops, kept_values, shown_answer, shown_type}

-- it has a parameter for each value that is reached and a `let` for each call that is, both in the order of ids, and the struct of
-- what is shown as its body; the inputs are the values' ids, rising; it has as many loops as the programs of the reached calls. On
-- these inputs it means the struct of what the shown objects come to, or a fault exactly where a reached object faults
pub record IsLowered (p : ProgramTree) (ids : List ℕ) (os : List Object) (shown : List ℕ) : Type 0 where
  pub form : p ≡ lowered (reached os shown) os shown
  pub inputs : ids ≡ kept_values (reached os shown) 0 os
  pub typed : ProgramHas p (shown_type os shown)
  pub arguments : ArgumentsFit p.params (inputs_of (reached os shown) 0 os)
  pub loops : loops p.body ≡ kept_loops (reached os shown) 0 os
  pub means : meaning p (inputs_of (reached os shown) 0 os) ≡ shown_answer (reached os shown) os shown
  pub faults : (id : ℕ) → IsReached os shown id → denote os id ≡ fault → meaning p (inputs_of (reached os shown) 0 os) ≡ fault
  pub gives : ((id : ℕ) → IsReached os shown id → (v : Value) × (denote os id ≡ done v)) → (vs : List Value) × (all_done (map (denote os) shown) ≡ done vs) × (meaning p (inputs_of (reached os shown) 0 os) ≡ done (struct (values vs)))
