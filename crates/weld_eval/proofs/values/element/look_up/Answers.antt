use Rattle.std.proofs.Common.{ap, sym, subst, ◌∙◌}
use Rattle.weld_data.specs.Lookup.{value_of_key}
use Rattle.weld_data.specs.Order.{IsKeyFor}
use Rattle.weld_data.specs.Value.{list_of_entries-entries}
use Rattle.weld_data.specs.View.{view_val}
use Rattle.weld_builders.specs.Outcome.{or_fault}
use Rattle.weld_meaning.specs.Evaluation.{looked_up}
use Rattle.weld_eval.specs.Fits.{IsLookUp}
use Rattle.weld_eval.proofs.values.element.look_up.Goals as goal

pub get-requires : goal.get-requires
get-requires c =
    subst (λ l. IsKeyFor l (view_val c.args.w.now)) (list_of_entries-entries c.in-Dict.pairs)
    (subst (λ u. IsLookUp (view_val u) (view_val c.args.w.now)) c.in-Dict.is c.requires)

pub returns-in-Some-clause-value : goal.returns-in-Some-clause-value
returns-in-Some-clause-value c =
    ap (λ u. looked_up (view_val u) (view_val c.args.w.now)) c.in-Dict.is
    ∙ ap (λ l. or_fault (value_of_key l (view_val c.args.w.now))) (list_of_entries-entries c.in-Dict.pairs)
    ∙ ap or_fault (sym c.in-Some.ensures)

pub returns-in-None-clause-value : goal.returns-in-None-clause-value
returns-in-None-clause-value c =
    ap (λ u. looked_up (view_val u) (view_val c.args.w.now)) c.in-Dict.is
    ∙ ap (λ l. or_fault (value_of_key l (view_val c.args.w.now))) (list_of_entries-entries c.in-Dict.pairs)
    ∙ ap or_fault (sym c.in-None.ensures)
