use Rattle.std.proofs.Common.{◌≡◌, ◌<◌, ℕ, ℤ, if◌then◌else◌, ap, ◌∙◌, length, length-set, map, arith}
use Rattle.weld_lanes.specs.Answers.{at, is_true}
use Rattle.weld_lanes.proofs.Places.{read, written}
use Rattle.weld_lanes.proofs.works.each_choice.Goals as goal

pub loop-place-preserved : goal.loop-place-preserved
loop-place-preserved g c =
    let f = g.L.Lane.number in
    let place = c.loop-place.place in
    let less : place < length c.loop-place.out = omega arith in
    let t_less : place < length c.args.truths.now = omega arith in
    let x_less : place < length c.args.x.now = omega arith in
    let y_less : place < length c.args.y.now = omega arith in
    let t = read f c.args.truths.now place c.index-truths-place.result t_less c.index-truths-place.is in
    let x = read f c.args.x.now place c.index-x-place.result x_less c.index-x-place.is in
    let y = read f c.args.y.now place c.index-y-place.result y_less c.index-y-place.is in
    record {
      long = length-set _ _ _ ∙ c.loop-place.invariant.long;
      each = written f (λ (j : ℕ) (z : ℤ). z ≡ (if is_true (at (map f c.args.truths.now) j) then at (map f c.args.x.now) j else at (map f c.args.y.now) j)) c.loop-place.out place c.chosen.result less
          (c.chosen.ensures
          ∙ ap (λ (n : ℤ). if is_true n then f c.index-x-place.result else f c.index-y-place.result) t
          ∙ ap (λ (n : ℤ). if is_true (at (map f c.args.truths.now) place) then n else f c.index-y-place.result) x
          ∙ ap (λ (n : ℤ). if is_true (at (map f c.args.truths.now) place) then at (map f c.args.x.now) place else n) y) c.loop-place.invariant.each;
    }
