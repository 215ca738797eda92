-- When an expression may take the place of another, wherever that stands.
use Rattle.std.specs.Prelude.{◌≡◌, ℕ, Some}
use Rattle.weld_tree.specs.TypeTree.{TypeTree}
use Rattle.weld_tree.specs.ExprTree.{ExprTree}
use Rattle.weld_meaning.specs.Environment.{Named}
use Rattle.weld_meaning.specs.Typing.{Types}
use Rattle.weld_meaning.specs.ThingType.{EnvFits}
use Rattle.weld_meaning.specs.Evaluation.{Env, eval}
use Rattle.weld_meaning.specs.Origin.{Path, Origin, origin}
use Rattle.weld_meaning.specs.Available.{chain_of, takes}
use Rattle.weld_rewriting.specs.Placed.{IsPlaced}

-- the first may take the place of the second: what it answers comes from where it came from, whatever its names are; a name
-- with field accesses stays that; and in each place where the second can stand the first can too, takes the same builders
-- and comes to the same, a fault included
pub record MayReplace (d e : ExprTree) : Type 0 where
  pub same_origin : (g : Named Origin) → origin d g ≡ origin e g
  pub same_chain : (c : ℕ × Path) → chain_of e ≡ Some c → chain_of d ≡ Some c
  pub placed : (types : Types) (g : Named Origin) (t : TypeTree) → IsPlaced e types g t → IsPlaced d types g t
  pub taken : (types : Types) (g : Named Origin) (t : TypeTree) → IsPlaced e types g t → takes d g ≡ takes e g
  pub means : (types : Types) (g : Named Origin) (t : TypeTree) (env : Env) → IsPlaced e types g t → EnvFits types env → eval d env ≡ eval e env
