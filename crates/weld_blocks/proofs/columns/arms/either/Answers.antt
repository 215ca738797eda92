use Rattle.std.proofs.Common.{◌≡◌, true, subst}
use Rattle.weld_data.specs.Value.{Value}
use Rattle.weld_meaning.specs.Evaluation.{truth_value}
use Rattle.weld_blocks.specs.Numbers.{AreGiven}
use Rattle.weld_blocks.proofs.ColumnLemmas.{either_given}
use Rattle.weld_blocks.proofs.columns.arms.either.Goals as goal

pub returns-in-Some : goal.returns-in-Some
returns-in-Some c =
    let given : AreGiven (λ j v. v ≡ truth_value true) c.in-Some.then c.args.count = subst (λ (w : Value). AreGiven (λ j v. v ≡ w) c.in-Some.then c.args.count) c.of_truth.ensures c.in-Some.ensures in
    either_given c.chosen.result c.args.condition.now c.args.otherwise.now c.in-Some.then (truth_value true) c.args.count given c.chosen.ensures
