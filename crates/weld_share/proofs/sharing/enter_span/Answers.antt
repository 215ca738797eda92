use Rattle.std.proofs.Common.{◌≡◌, ◌<◌, ◌≤◌, ◌-◌, ℕ, length, ap, sym, subst, ◌∙◌, refl, arith}
use Rattle.weld_acts.specs.Ranges.{IsAction}
use Rattle.weld_eval.specs.ThingView.{thing_of}
use Rattle.weld_tiles.specs.declared.tile.Tile.{Tile}
use Rattle.weld_exec.specs.Run.{evaluation_of, rows_at}
use Rattle.weld_share.specs.Shared.{row_of}
use Rattle.weld_share.proofs.Spanning.{no_stretch, stretch_of, last_end, within}
use Rattle.weld_share.proofs.sharing.enter_span.Goals as goal

pub part_of-part-requires-clause-ordered : goal.part_of-part-requires-clause-ordered
part_of-part-requires-clause-ordered g c =
    let low = c.requires.made.0 in
    let high = c.requires.made.1.within in
    let end = last_end (rows_at c.args.run.now.env.now) c.args.batch.now c.requires.stretches (omega arith) c.args.span.first c.args.span.next no_stretch low high in
    let a = end.0 in
    let b = end.1 in
    let d = c.requires.begins in
    omega arith

pub part_of-part-requires-clause-within : goal.part_of-part-requires-clause-within
part_of-part-requires-clause-within g c =
    let low = c.requires.made.0 in
    let high = c.requires.made.1.within in
    let end = last_end (rows_at c.args.run.now.env.now) c.args.batch.now c.requires.stretches (omega arith) c.args.span.first c.args.span.next no_stretch low high in
    let a = end.0 in
    let b = within (rows_at c.args.run.now.env.now) c.args.batch.now c.requires.stretches (omega arith) c.args.span.next in
    omega arith

pub part_of-part-requires-clause-action : goal.part_of-part-requires-clause-action
part_of-part-requires-clause-action g c =
    let low = c.requires.made.0 in
    let high = c.requires.made.1.within in
    let end = last_end (rows_at c.args.run.now.env.now) c.args.batch.now c.requires.stretches (omega arith) c.args.span.first c.args.span.next no_stretch low high in
    subst (λ lo. IsAction (evaluation_of c.args.run.now.plan.now c.args.run.now.env.now) lo (stretch_of c.args.batch.now (c.args.span.next - 1)).whole.hi (thing_of c.args.span.part)) (sym c.requires.begins)
    (subst (λ hi. IsAction (evaluation_of c.args.run.now.plan.now c.args.run.now.env.now) (row_of c.args.batch.now c.args.span.first) hi (thing_of c.args.span.part)) (sym end.0) c.requires.made.1.action)

pub enter-requires-clause-follows : goal.enter-requires-clause-follows
enter-requires-clause-follows g c =
    let low = c.requires.made.0 in
    let high = c.requires.made.1.within in
    let end = last_end (rows_at c.args.run.now.env.now) c.args.batch.now c.requires.stretches (omega arith) c.args.span.first c.args.span.next no_stretch low high in
    let a = end.0 in
    let b = end.1 in
    let d = c.requires.begins in
    let is = c.seal.ensures.tile ∙ c.part_of-part.ensures.tile in
    let strict : c.args.into.now.end < (stretch_of c.args.batch.now (c.args.span.next - 1)).whole.hi = omega arith in
    (ap (λ (t : Tile). t.number) is, ap (λ (t : Tile). t.lo) is, subst (λ (t : Tile). c.args.into.now.end < t.hi) (sym is) strict)

pub returns-in-Ok-clause-ends : goal.returns-in-Ok-clause-ends
returns-in-Ok-clause-ends g c =
    let low = c.requires.made.0 in
    let high = c.requires.made.1.within in
    let end = last_end (rows_at c.args.run.now.env.now) c.args.batch.now c.requires.stretches (omega arith) c.args.span.first c.args.span.next no_stretch low high in
    c.in-Ok.ensures.end ∙ ap (λ (t : Tile). t.hi) (c.seal.ensures.tile ∙ c.part_of-part.ensures.tile) ∙ end.0
