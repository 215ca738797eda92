use Rattle.std.proofs.Common.{◌≡◌, ◌<◌, w64, of_z, to_z, pos, length, length-set, get_or, Some, sym, ◌∙◌, subst, arith}
use Rattle.std.proofs.lemmas.Int.{to_z-of_z}
use Rattle.weld_data.specs.Kind.{InRange}
use Rattle.weld_data.specs.Operation.{operation, answer_kind}
use Rattle.weld_eval.specs.Word.{of_word}
use Rattle.weld_blocks.proofs.Gathering.{set_each}
use Rattle.weld_blocks.proofs.works.work_all.Goals as goal

pub loop-place-preserved : goal.loop-place-preserved
loop-place-preserved g c =
    let op = g.W.Works.op c.args.work.now in
    let kind = g.W.Works.kind c.args.work.now in
    let made = answer_kind op kind in
    let n = c.of.result in
    let place = c.loop-place.place in
    let bits : to_z w64 (of_z w64 n) ≡ n = to_z-of_z w64 n (record { sfits = c.of.type_inv }) in
    let x = get_or c.args.left.now place (pos 0) in
    let y = get_or c.args.right.now place (pos 0) in
    let left : to_z w64 (of_z w64 c.word_at.result) ≡ x = to_z-of_z w64 _ (record { sfits = c.word_at.type_inv }) ∙ c.word_at.ensures in
    let right : to_z w64 (of_z w64 c.word_at-in-loop-place.result) ≡ y = to_z-of_z w64 _ (record { sfits = c.word_at-in-loop-place.type_inv }) ∙ c.word_at-in-loop-place.ensures in
    let is : Some (of_word made n) ≡ operation op kind (of_word kind x) (of_word kind y) =
    subst (λ v. Some (of_word made n) ≡ operation op kind (of_word kind x) (of_word kind v)) right
    (subst (λ u. Some (of_word made n) ≡ operation op kind (of_word kind u) (of_word kind (to_z w64 (of_z w64 c.word_at-in-loop-place.result)))) left c.of.ensures.value) in
    let less : place < length c.loop-place.items = omega arith in
    record {
      long = length-set _ _ _ ∙ c.loop-place.invariant.long;
      each = set_each (λ j x. Some (of_word made x) ≡ operation op kind (of_word kind (get_or c.args.left.now j (pos 0))) (of_word kind (get_or c.args.right.now j (pos 0)))) c.loop-place.items place _ less
          (subst (λ z. Some (of_word made z) ≡ operation op kind (of_word kind x) (of_word kind y)) (sym bits) is) c.loop-place.invariant.each;
      in_range = set_each (λ j x. InRange made (of_word made x)) c.loop-place.items place _ less (subst (λ z. InRange made (of_word made z)) (sym bits) c.of.ensures.in_range) c.loop-place.invariant.in_range;
    }
