use Rattle.std.proofs.Common.{ℤ, w64, ap}
use Rattle.std.proofs.lemmas.Int.{to_z-of_z}
use Rattle.weld_data.specs.Value.{number}
use Rattle.weld_eval.specs.Word.{of_word}
use Rattle.weld_turns.proofs.SlotLemmas.{put_there}
use Rattle.weld_turns.proofs.slots.put_in.Goals as goal

pub returns-then-to-slots : goal.returns-then-to-slots
returns-then-to-slots c =
    λ e. put_there c.args.slots.now c.args.to _ _ c.if-to-slots.true (ap (λ (z : ℤ). number c.args.kind (of_word c.args.kind z)) (to_z-of_z w64 c.args.word c.ranges.word))
