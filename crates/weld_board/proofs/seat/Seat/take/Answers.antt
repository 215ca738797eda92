use Rattle.std.proofs.Common.{◌≡◌, ◌+◌, ◌%◌, ◌<◌, ◌∙◌, ℕ, refl, sym, ap, subst, arith}
use Rattle.std.proofs.Math.Nat.{mod-lt}
use Rattle.weld_board.specs.declared.dealt.Dealt.{Dealt}
use Rattle.weld_board.specs.Sitting.{hand_after}
use Rattle.weld_board.proofs.Taking.{sits_early, sits_late, taken_late, draws_late, takes_early, emptied}
use Rattle.weld_board.proofs.seat.Seat.take.Goals as goal

hand_low : (number passed w v : ℕ) → w ≡ v → 0 < v → (number + passed) % w < v
hand_low number passed w v e some = subst (λ (m : ℕ). (number + passed) % m < v) (sym e) (mod-lt (number + passed) some)

pub returns-in-Some-clause-sits : goal.returns-in-Some-clause-sits
returns-in-Some-clause-sits c =
    let inv = c.draws.invariant in
    let some = c.args.board.now.some_worker in
    let more : c.draws.self.passed < c.args.board.now.dealt.workers = subst (λ (d : Dealt). c.draws.self.passed < d.workers) inv.sits.dealt c.draws-test.true in
    let low : hand_after c.draws.self c.draws.self.passed < c.args.board.now.dealt.workers = hand_low c.draws.self.number c.draws.self.passed c.draws.self.dealt.workers c.args.board.now.dealt.workers (ap (λ (d : Dealt). d.workers) inv.sits.dealt) (omega arith) in
    sits_early c.args.board.now c.draws.self c.draw-place.new.place (hand_after c.draws.self c.draws.self.passed) c.draw-place.result inv.sits more refl low c.draw-place.ensures.table c.draw-place.ensures.draw c.draw-place.ensures.bounded c.in-Some.ensures.0

pub returns-in-Some-clause-tile : goal.returns-in-Some-clause-tile
returns-in-Some-clause-tile c =
    let inv = c.draws.invariant in
    let some = c.args.board.now.some_worker in
    let more : c.draws.self.passed < c.args.board.now.dealt.workers = subst (λ (d : Dealt). c.draws.self.passed < d.workers) inv.sits.dealt c.draws-test.true in
    let low : hand_after c.draws.self c.draws.self.passed < c.args.board.now.dealt.workers = hand_low c.draws.self.number c.draws.self.passed c.draws.self.dealt.workers c.args.board.now.dealt.workers (ap (λ (d : Dealt). d.workers) inv.sits.dealt) (omega arith) in
    takes_early c.args.board.now c.draws.self c.draw-place.new.place (hand_after c.draws.self c.draws.self.passed) c.draw-place.result inv.sits more refl low c.draw-place.ensures.table c.draw-place.ensures.draw c.draw-place.ensures.bounded c.args.self.now c.in-Some.tile inv.earlier inv.same c.in-Some.ensures.0 c.in-Some.ensures.1

pub draws-preserved : goal.draws-preserved
draws-preserved c =
    let inv = c.draws.invariant in
    let some = c.args.board.now.some_worker in
    let more : c.draws.self.passed < c.args.board.now.dealt.workers = subst (λ (d : Dealt). c.draws.self.passed < d.workers) inv.sits.dealt c.draws-test.true in
    let low : hand_after c.draws.self c.draws.self.passed < c.args.board.now.dealt.workers = hand_low c.draws.self.number c.draws.self.passed c.draws.self.dealt.workers c.args.board.now.dealt.workers (ap (λ (d : Dealt). d.workers) inv.sits.dealt) (omega arith) in
    record {
      sits = sits_late c.args.board.now c.draws.self c.draw-place.new.place (hand_after c.draws.self c.draws.self.passed) c.draw-place.result inv.sits more refl low c.draw-place.ensures.table c.draw-place.ensures.draw c.draw-place.ensures.bounded c.in-None.ensures;
      number = inv.number;
      earlier = draws_late c.args.board.now c.draws.self c.draw-place.new.place (hand_after c.draws.self c.draws.self.passed) c.draw-place.result inv.sits more refl low c.draw-place.ensures.table c.draw-place.ensures.draw c.draw-place.ensures.bounded c.args.self.now inv.earlier;
      same = taken_late c.args.board.now c.draws.self c.draw-place.new.place (hand_after c.draws.self c.draws.self.passed) c.draw-place.result inv.sits more refl low c.draw-place.ensures.table c.draw-place.ensures.draw c.draw-place.ensures.bounded c.in-None.ensures ∙ inv.same;
    }

pub returns-clause-tile : goal.returns-clause-tile
returns-clause-tile c = (emptied c.args.board.now c.draws.self c.draws.invariant.sits c.draws-test.false, c.draws.invariant.same)
