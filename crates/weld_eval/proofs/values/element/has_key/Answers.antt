use Rattle.std.proofs.Common.{is_some, ap, sym, subst, ◌∙◌}
use Rattle.weld_data.specs.Lookup.{value_of_key}
use Rattle.weld_data.specs.Order.{IsKeyFor}
use Rattle.weld_data.specs.Value.{list_of_entries-entries}
use Rattle.weld_data.specs.View.{view_val}
use Rattle.weld_builders.specs.Outcome.{done}
use Rattle.weld_meaning.specs.Evaluation.{has_key, truth_value}
use Rattle.weld_eval.specs.Fits.{IsKeyLookUp}
use Rattle.weld_eval.proofs.values.element.has_key.Goals as goal

pub contains_key-requires : goal.contains_key-requires
contains_key-requires c =
    subst (λ l. IsKeyFor l (view_val c.args.w.now)) (list_of_entries-entries c.in-Dict.pairs)
    (subst (λ u. IsKeyLookUp (view_val u) (view_val c.args.w.now)) c.in-Dict.is c.requires)

pub returns : goal.returns
returns c =
    ap (λ u. has_key (view_val u) (view_val c.args.w.now)) c.in-Dict.is
    ∙ ap (λ l. done (truth_value (is_some (value_of_key l (view_val c.args.w.now))))) (list_of_entries-entries c.in-Dict.pairs)
    ∙ ap (λ b. done (truth_value b)) (sym c.contains_key.ensures)
