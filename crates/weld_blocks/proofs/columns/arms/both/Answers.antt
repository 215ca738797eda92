use Rattle.std.proofs.Common.{◌≡◌, false, subst}
use Rattle.weld_data.specs.Value.{Value}
use Rattle.weld_meaning.specs.Evaluation.{truth_value}
use Rattle.weld_blocks.specs.Numbers.{AreGiven}
use Rattle.weld_blocks.proofs.ColumnLemmas.{both_given}
use Rattle.weld_blocks.proofs.columns.arms.both.Goals as goal

pub returns-in-Some : goal.returns-in-Some
returns-in-Some c =
    let given : AreGiven (λ j v. v ≡ truth_value false) c.in-Some.otherwise c.args.count = subst (λ (w : Value). AreGiven (λ j v. v ≡ w) c.in-Some.otherwise c.args.count) c.of_truth.ensures c.in-Some.ensures in
    both_given c.chosen.result c.args.condition.now c.args.then.now c.in-Some.otherwise (truth_value false) c.args.count given c.chosen.ensures
