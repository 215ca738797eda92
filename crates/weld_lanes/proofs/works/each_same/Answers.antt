use Rattle.std.proofs.Common.{◌≡◌, ◌<◌, ℕ, ℤ, refl, ◌∙◌, length, length-set, arith}
use Rattle.weld_lanes.proofs.Places.{written}
use Rattle.weld_lanes.proofs.works.each_same.Goals as goal

pub loop-place-preserved : goal.loop-place-preserved
loop-place-preserved g c =
    let f = g.L.Lane.number in
    let less : c.loop-place.place < length c.loop-place.out = omega arith in
    record {
      long = length-set _ _ _ ∙ c.loop-place.invariant.long;
      each = written f (λ (j : ℕ) (z : ℤ). z ≡ f c.args.x) c.loop-place.out c.loop-place.place c.args.x less refl c.loop-place.invariant.each;
    }
