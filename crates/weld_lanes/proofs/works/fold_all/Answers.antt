use Rattle.std.proofs.Common.{◌≡◌, ◌<◌, ℤ, pos, ap, sym, ◌∙◌, length, map, arith}
use Rattle.std.proofs.lemmas.List.{length-map}
use Rattle.std.proofs.lemmas.List.Sums.{fold_more}
use Rattle.weld_lanes.proofs.Places.{read}
use Rattle.weld_lanes.proofs.works.fold_all.Goals as goal

pub loop-place-preserved : goal.loop-place-preserved
loop-place-preserved g c =
    let f = g.L.Lane.number in
    let op = g.W.Work.gives in
    let place = c.loop-place.place in
    let xs = c.args.x.now in
    let x = read f xs place c.index-x-place.result c.loop-place-test.true c.index-x-place.is in
    let long : length (map f xs) ≡ length xs = length-map xs f in
    let less : place < length (map f xs) = omega arith in
    record {
      come = c.of-total.ensures
          ∙ ap (λ (n : ℤ). op n (f c.index-x-place.result)) c.loop-place.invariant.come
          ∙ ap (op _) x
          ∙ sym (fold_more op (f c.args.start) (map f xs) place (pos 0) less);
    }
