use Rattle.std.proofs.Common.{drop}
use Rattle.weld_script.specs.Script.{declared_of}
use Rattle.weld_script.specs.Script.{AreDeclared}
use Rattle.weld_inputs.specs.Claims.{IsOfDeclared}
use Rattle.weld_inputs.proofs.Owners.{ClaimedSoFar}
use Rattle.weld_inputs.proofs.inputs.claim_blocks.Given as goal

abbrev pub invariant-loop-object : goal.invariant-loop-object
invariant-loop-object l =
    ClaimedSoFar IsOfDeclared (declared_of l.fn.made) (declared_of (drop l.object-index l.fn.made)) l.fn.job.blocks l.claims.items
    × AreDeclared (declared_of (drop l.object-index l.fn.made))
