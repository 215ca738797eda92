use Rattle.std.proofs.Common.{◌∙◌, ap, map, not, rules}
use Rattle.std.proofs.lemmas.Fn.{filter_same}
use Rattle.weld_meaning.specs.LinearWalk.{after_taking}
use Rattle.weld_linear.specs.AvailableView.{view_builder, stands_below}
use Rattle.weld_linear.proofs.Lists.{kept}
use Rattle.weld_linear.proofs.available.Available.take.Goals as goal

pub returns : goal.returns
returns c =
    ap (map view_builder) (filter_same _ (λ b. not (stands_below c.args.name.0 c.args.path.now c.args.source.now (view_builder b))) _ (λ x b f k. search rules) _ _ c.retain.ensures.filtered)
    ∙ kept c.args.name.0 c.args.path.now c.args.source.now _
    ∙ ap (after_taking (λ t q. stands_below c.args.name.0 c.args.path.now c.args.source.now (t, q))) c.self.view_is
