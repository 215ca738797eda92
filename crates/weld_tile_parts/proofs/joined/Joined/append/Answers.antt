use Rattle.std.proofs.Common.{◌≤◌, ◌<◌, ◌≡◌, ◌+◌, ℕ, sym, subst, arith}
use Rattle.weld_acts.specs.Ranges.{IsSoFar}
use Rattle.weld_eval.specs.ThingView.{thing_of}
use Rattle.weld_tile_parts.specs.Kept.{HasCome}
use Rattle.weld_tile_parts.proofs.Entering.{enters_joins, enters_comes}
use Rattle.weld_tile_parts.proofs.joined.Joined.append.Goals as goal

more_rows : (next end number hi : ℕ) → next ≤ end → number ≡ next → end < hi → number + 1 ≤ hi
more_rows next end number hi low is high = omega arith

pub join_thing-requires : goal.join_thing-requires
join_thing-requires c =
    let ev = c.args.self.now.of.evaluation in
    let here = subst (λ h. HasCome h ev c.args.self.now.end) (sym c.in-Some.ensures.value) c.args.self.now.has_come in
    let at = subst (λ n. IsSoFar ev n (thing_of c.in-Some.held)) (sym c.requires.follows.1) here in
    enters_joins ev c.args.tile.lo c.args.tile.hi (thing_of c.in-Some.held) (thing_of c.args.thing) c.requires.tile at c.requires.action

pub invariant_of-self-in-Some : goal.invariant_of-self-in-Some
invariant_of-self-in-Some c =
    let ev = c.args.self.now.of.evaluation in
    let here = subst (λ h. HasCome h ev c.args.self.now.end) (sym c.in-Some.ensures.value) c.args.self.now.has_come in
    let at = subst (λ n. IsSoFar ev n (thing_of c.in-Some.held)) (sym c.requires.follows.1) here in
    let comes = enters_comes ev c.args.tile.lo c.args.tile.hi (thing_of c.in-Some.held) (thing_of c.args.thing) c.requires.tile at c.requires.action in
    record {
      counted = more_rows c.args.self.now.next c.args.self.now.end c.args.tile.number c.args.tile.hi c.args.self.now.counted c.requires.follows.0 c.requires.follows.2;
      has_come = subst (IsSoFar ev c.args.tile.hi) (sym c.in-Ok.ensures) comes;
    }
