use Rattle.std.proofs.Common.{w64, refl, ◌∙◌}
use Rattle.std.proofs.lemmas.Int.{to_z-of_z}
use Rattle.weld_turns.specs.StepView.{words_of}
use Rattle.weld_turns.proofs.OnRows.{ends_some}
use Rattle.weld_turns.proofs.on_rows.end_of_turns.Goals as goal

pub returns-in-Ok : goal.returns-in-Ok
returns-in-Ok c =
    ends_some c.two_words.result c.args.step.now c.args.shape c.args.row.now (words_of c.put_two.new.words) (words_of c.run_all.new.words) _ _ (c.if-not-is_two.ensures refl)
    (c.if-not-put_two.ensures.first refl ∙ to_z-of_z w64 c.args.x c.ranges.x) (c.if-not-put_two.ensures.second refl ∙ to_z-of_z w64 c.args.y c.ranges.y) c.two_words.ensures.first c.two_words.ensures.second c.in-Ok.ensures
