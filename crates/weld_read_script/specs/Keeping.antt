-- What is always known of the objects and names of a script that is being read.
use Rattle.std.specs.Prelude.{◌≡◌, ◌<◌, ◌≤◌, ◌+◌, ◌*◌, [], length}
use Rattle.std.specs.List.{AllByRecursion}
use Rattle.weld_script.specs.Script.{AreMade, AreBelow, made_types, declared_of, calls_of}
use Rattle.weld_read_script.specs.declared.steps.known.Known.{Known}

-- the objects may be made and have these types, names and shown names are of objects, and there aren't too many
pub record IsKnown (k : Known) : Type 0 where
  pub objects : AreMade [] k.made
  pub types : k.types ≡ made_types k.made
  pub declared : length (declared_of k.made) ≡ k.declarations
  pub called : length (calls_of k.made) ≡ k.calls
  pub declarations : k.declarations ≤ 64
  pub calls : k.calls ≤ 200
  pub few : length k.made ≤ k.declarations + 4 * k.calls
  pub most : length k.shown ≤ 64
  pub there : AreBelow (length k.made) k.shown
  pub names : AllByRecursion (λ b. b.object < length k.made) k.bound
