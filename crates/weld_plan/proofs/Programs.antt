-- The steps of an accepted program lead to what it means.
use Rattle.std.proofs.Common.{List, [], subst, append-nil}
use Rattle.weld_data.specs.Value.{Value}
use Rattle.weld_tree.specs.Program.{ProgramTree}
use Rattle.weld_meaning.specs.Accepted.{IsAccepted}
use Rattle.weld_meaning.specs.Thing.{no_things}
use Rattle.weld_meaning.specs.Evaluation.{eval}
use Rattle.weld_meaning.specs.Meaning.{ArgumentsFit, with_arguments}
use Rattle.weld_eval_plain.proofs.Programs.{program_fits, program_gives}
use Rattle.weld_plan.specs.StepTree.{StepTree, steps_of}
use Rattle.weld_plan.specs.Leads.{Leads}
use Rattle.weld_plan.proofs.Leading.{steps_lead}

pub program_leads : (p : ProgramTree) (vs : List Value) → IsAccepted p → ArgumentsFit p.params vs
    → Leads (steps_of p.body 0) 0 (with_arguments p.params vs) [] no_things (eval p.body (with_arguments p.params vs))
program_leads p vs h fit =
    subst (λ (steps : List StepTree). Leads steps 0 (with_arguments p.params vs) [] no_things (eval p.body (with_arguments p.params vs))) (append-nil (steps_of p.body 0))
    (steps_lead p.body 0 [] (with_arguments p.params vs) [] no_things (eval p.body (with_arguments p.params vs)) (program_fits p vs h fit) (λ t q. (program_gives p vs t h fit q, q)) (λ q. q))
