use Rattle.std.proofs.Common.{ℤ, w64, to_z, of_z, ap, ◌∙◌}
use Rattle.std.proofs.lemmas.Int.{to_z-of_z}
use Rattle.weld_turns.specs.StepView.{step_value, with_word}
use Rattle.weld_turns.proofs.lower_code.put_word.Goals as goal

pub returns-in-Ok : goal.returns-in-Ok
returns-in-Ok c =
    λ shape w. ap (λ s. step_value s shape (with_word w c.args.to (to_z w64 (of_z w64 c.args.x)))) c.in-Ok.ensures ∙ ap (λ (z : ℤ). step_value c.args.rest shape (with_word w c.args.to z)) (to_z-of_z w64 c.args.x c.ranges.x)
