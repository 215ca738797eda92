use Rattle.std.proofs.Common.{◌<◌, length, ap, subst, ◌∙◌}
use Rattle.weld_data.specs.Value.{list_of_values-values}
use Rattle.weld_data.specs.View.{view_val}
use Rattle.weld_meaning.specs.Thing.{value_field}
use Rattle.weld_eval.specs.Fits.{HasField}
use Rattle.weld_eval.proofs.VectorLemmas.{field_there}
use Rattle.weld_eval.proofs.values.element.field_of.Goals as goal

pub at-requires : goal.at-requires
at-requires c =
    subst (λ l. c.args.field < length l) (list_of_values-values c.in-Struct.fields) (subst (λ w. HasField c.args.field (view_val w)) c.in-Struct.is c.requires)

pub returns : goal.returns
returns c =
    ap (λ w. value_field c.args.field (view_val w)) c.in-Struct.is
    ∙ field_there c.args.field c.in-Struct.fields (view_val c.at.result.now) c.at.ensures
