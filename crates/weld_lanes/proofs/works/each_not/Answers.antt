use Rattle.std.proofs.Common.{◌≡◌, ◌<◌, ℕ, ℤ, Bool, not, ap, ◌∙◌, length, length-set, map, arith}
use Rattle.weld_data.specs.Operation.{truth}
use Rattle.weld_lanes.specs.Answers.{at, is_true}
use Rattle.weld_lanes.proofs.Places.{read, written}
use Rattle.weld_lanes.proofs.works.each_not.Goals as goal

pub loop-place-preserved : goal.loop-place-preserved
loop-place-preserved g c =
    let f = g.L.Lane.number in
    let place = c.loop-place.place in
    let less : place < length c.loop-place.out = omega arith in
    let x_less : place < length c.args.x.now = omega arith in
    let x = read f c.args.x.now place c.index-x-place.result x_less c.index-x-place.is in
    record {
      long = length-set _ _ _ ∙ c.loop-place.invariant.long;
      each = written f (λ (j : ℕ) (z : ℤ). z ≡ truth (not (is_true (at (map f c.args.x.now) j)))) c.loop-place.out place c.of_truth.result less
          (c.of_truth.ensures ∙ ap (λ (b : Bool). truth (not b)) c.is_true.ensures ∙ ap (λ (n : ℤ). truth (not (is_true n))) x) c.loop-place.invariant.each;
    }
