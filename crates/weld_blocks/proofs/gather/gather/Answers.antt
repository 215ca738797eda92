use Rattle.std.proofs.Common.{◌≡◌, ◌<◌, w64, of_z, to_z, true, length, length-set, sym, ◌∙◌, subst, arith}
use Rattle.std.proofs.lemmas.Int.{to_z-of_z}
use Rattle.weld_data.specs.Kind.{InRange}
use Rattle.weld_data.specs.declared.kind.Kind.{Kind}
use Rattle.weld_data.specs.Value.{number}
use Rattle.weld_eval.specs.Word.{of_word}
use Rattle.weld_blocks.proofs.Gathering.{set_each, set_all}
use Rattle.weld_blocks.proofs.gather.gather.Goals as goal

pub loop-place-preserved : goal.loop-place-preserved
loop-place-preserved g c =
    let k = c.in-Some.first.kind in
    let n = c.in-Some-at.n in
    let told : c.is_same.result ≡ true = cc in
    let same : n.kind ≡ k = c.is_same.ensures told in
    let w = to_z w64 (of_z w64 c.word_of.result) in
    let bits : n.word ≡ w = sym (to_z-of_z w64 _ (record { sfits = c.word_of.type_inv }) ∙ c.word_of.ensures) in
    let range : InRange k (of_word k w) = subst (λ z. InRange k (of_word k z)) bits (subst (λ (m : Kind). InRange m (of_word m n.word)) same n.in_range) in
    let less : c.loop-place.place < length c.loop-place.items.items = omega arith in
    let gives : g.T.Gives.gives c.args.of.now c.loop-place.place (number k (of_word k w)) =
    subst (λ z. g.T.Gives.gives c.args.of.now c.loop-place.place (number k (of_word k z))) bits (subst (λ (m : Kind). g.T.Gives.gives c.args.of.now c.loop-place.place (number m (of_word m n.word))) same c.in-Some-at.ensures) in
    record {
      long = length-set _ _ _ ∙ c.loop-place.invariant.long;
      in_range = set_all (λ z. InRange k (of_word k z)) c.loop-place.items.items c.loop-place.place _ less range c.loop-place.invariant.in_range;
      given = set_each (λ j z. g.T.Gives.gives c.args.of.now j (number k (of_word k z))) c.loop-place.items.items c.loop-place.place _ less gives c.loop-place.invariant.given;
    }
