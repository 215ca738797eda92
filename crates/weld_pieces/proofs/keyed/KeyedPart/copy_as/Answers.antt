use Rattle.std.proofs.Common.{ap, ◌∙◌}
use Rattle.weld_builders.specs.Part.{combined, join_maps}
use Rattle.weld_builders.proofs.Maps.{combined-IsMerging, empty-join_maps}
use Rattle.weld_pieces.specs.Keyed.{Keyed}
use Rattle.weld_pieces.specs.KeyedView.{numbers_in}
use Rattle.weld_pieces.proofs.keyed.KeyedPart.copy_as.Goals as goal

pub returns-in-Ok-clause-numbers : goal.returns-in-Ok-clause-numbers
returns-in-Ok-clause-numbers c =
    let op = c.empty-copy.result.op in
    let kind = c.empty-copy.result.kind in
    c.in-Ok.ensures.ok
    ∙ ap (λ m. join_maps (combined op kind) m (numbers_in c.self.inside.map)) c.empty-copy.ensures.numbers
    ∙ empty-join_maps (combined-IsMerging op kind) (numbers_in c.self.inside.map)
    ∙ ap (λ (k : Keyed). k.numbers) c.self.view_is
