use Rattle.std.proofs.Common.{◌≡◌, ◌<◌, ℕ, ℤ, ap, ◌∙◌, length, length-set, map, arith}
use Rattle.weld_lanes.specs.Answers.{at}
use Rattle.weld_lanes.proofs.Places.{read, written}
use Rattle.weld_lanes.proofs.works.each_two.Goals as goal

pub loop-place-preserved : goal.loop-place-preserved
loop-place-preserved g c =
    let f = g.L.Lane.number in
    let op = g.W.Work.gives in
    let place = c.loop-place.place in
    let less : place < length c.loop-place.out = omega arith in
    let x_less : place < length c.args.x.now = omega arith in
    let y_less : place < length c.args.y.now = omega arith in
    let x = read f c.args.x.now place c.index-x-place.result x_less c.index-x-place.is in
    let y = read f c.args.y.now place c.index-y-place.result y_less c.index-y-place.is in
    record {
      long = length-set _ _ _ ∙ c.loop-place.invariant.long;
      each = written f (λ (j : ℕ) (z : ℤ). z ≡ op (at (map f c.args.x.now) j) (at (map f c.args.y.now) j)) c.loop-place.out place c.of.result less
          (c.of.ensures ∙ ap (λ (n : ℤ). op n (f c.index-y-place.result)) x ∙ ap (op (at (map f c.args.x.now) place)) y) c.loop-place.invariant.each;
    }
