use Rattle.std.proofs.Common.{pos, w64, ◌∙◌}
use Rattle.std.proofs.lemmas.Int.{to_z-of_z}
use Rattle.weld_built.proofs.RowLemmas.{two_more}
use Rattle.weld_built.proofs.rows.side_by_side.Goals as goal

pub rows-preserved : goal.rows-preserved
rows-preserved c =
    let key = to_z-of_z w64 _ (record { sfits = c.word_at.type_inv }) ∙ c.word_at.ensures in
    let number = to_z-of_z w64 _ (record { sfits = c.word_at-in-rows.type_inv }) ∙ c.word_at-in-rows.ensures in
    two_more c.args.keys.now c.args.numbers.now c.rows.i (pos 0) (pos 0) _ _ c.rows.words.items c.push.new.self.items c.push-in-rows.new.self.items _ c.rows-test.true c.requires key number c.in_ok-push.ensures.items c.in_ok-push-2.ensures.items c.rows.invariant
