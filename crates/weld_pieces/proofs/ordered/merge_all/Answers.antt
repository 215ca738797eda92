use Rattle.std.proofs.Common.{◌∙◌}
use Rattle.weld_builders.specs.Part.{combined}
use Rattle.weld_pieces.specs.Keyed.{entries_with}
use Rattle.weld_pieces.proofs.MapLemmas.{joined_small, joined_all, on_ok}
use Rattle.weld_pieces.proofs.ordered.merge_all.Goals as goal

pub returns-then-len-clause-ok : goal.returns-then-len-clause-ok
returns-then-len-clause-ok g c =
    let f = combined c.args.op c.args.kind in
    on_ok c.merge_each.result c.merge_each.ensures.ok
    (λ e. joined_small c.args.op c.args.kind g.K.PartialEq.eq c.args.map.now.entries c.args.later.entries c.merge_each.new.map.entries c.len.ensures.unique
    (e ∙ (λ i. entries_with g.K.PartialEq.eq f (c.replace-earlier.ensures.after i).entries (c.replace-earlier.ensures.value i).entries)))

pub returns-clause-ok : goal.returns-clause-ok
returns-clause-ok g c =
    on_ok c.merge_each-2.result c.merge_each-2.ensures.ok
    (joined_all (combined c.args.op c.args.kind) g.K.PartialEq.eq c.args.map.now.entries c.args.later.entries c.merge_each-2.new.map.entries c.len-2.ensures.unique)
