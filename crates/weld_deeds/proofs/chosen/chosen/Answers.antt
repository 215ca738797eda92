use Rattle.std.proofs.Common.{◌<◌, ℤ, pos, List, length, get_or, ap, ◌∙◌, arith, w64, of_z, to_z}
use Rattle.std.proofs.lemmas.Int.{to_z-of_z}
use Rattle.weld_deeds.proofs.ChosenLemmas.{chosen_step}
use Rattle.weld_deeds.proofs.chosen.chosen.Goals as goal

pub loop-place-preserved : goal.loop-place-preserved
loop-place-preserved c =
    let l : c.loop-place.place < length c.args.truths.now.items.items = omega (arith, c.requires.truths) in
    let m : c.loop-place.place < length c.args.column.now.items.items = omega (arith, c.requires.column) in
    chosen_step c.args.truths.now.items.items c.args.column.now.items.items c.loop-place.words.items c.push_if.new.words.items c.loop-place.place (to_z w64 (of_z w64 c.word_at-truth.result)) (to_z w64 (of_z w64 c.word_at-word.result)) l m
    (to_z-of_z w64 c.word_at-truth.result (record { sfits = c.word_at-truth.type_inv }) ∙ c.word_at-truth.ensures ∙ ap (λ (xs : List ℤ). get_or xs c.loop-place.place (pos 0)) c.deref.ensures.value)
    (to_z-of_z w64 c.word_at-word.result (record { sfits = c.word_at-word.type_inv }) ∙ c.word_at-word.ensures ∙ ap (λ (xs : List ℤ). get_or xs c.loop-place.place (pos 0)) c.deref-in-loop-place.ensures.value)
    c.in_ok-push_if.ensures c.loop-place.invariant
