use Rattle.std.proofs.Common.{◌≡◌, [], ap, refl, ◌∙◌}
use Rattle.weld_lazy.specs.View.{view_ids}
use Rattle.weld_script.specs.Script.{PlainScript}
use Rattle.weld_session.specs.Gathering.{objects_from}
use Rattle.weld_session.proofs.Gathering.{gathered, names_below, shown_there}
use Rattle.weld_session.proofs.whole.gather.Goals as goal

pub lower_shown-requires-clause-few : goal.lower_shown-requires-clause-few
lower_shown-requires-clause-few c =
    let made : c.script.inside.made ≡ c.args.script.now.made = (let v = ap (λ (s : PlainScript). s.made) c.script.view_is in cc) in
    let same : c.in_ok-graph.graph ≡ objects_from [] c.args.inputs c.args.script.now.made = c.in_ok-graph.ensures ∙ ap (objects_from [] c.args.inputs) (c.as_slice.ensures ∙ made) in
    names_below c.rows_are_short.ensures c.args.script.now.made c.args.script.now.shown c.args.inputs c.in_ok-graph.graph same c.keeps_its_rules.ensures

pub lower_shown-requires-clause-there : goal.lower_shown-requires-clause-there
lower_shown-requires-clause-there c =
    let made : c.script.inside.made ≡ c.args.script.now.made = (let v = ap (λ (s : PlainScript). s.made) c.script.view_is in cc) in
    let same : c.in_ok-graph.graph ≡ objects_from [] c.args.inputs c.args.script.now.made = c.in_ok-graph.ensures ∙ ap (objects_from [] c.args.inputs) (c.as_slice.ensures ∙ made) in
    let shown : c.script.inside.shown ≡ c.args.script.now.shown = (let v = ap (λ (s : PlainScript). s.shown) c.script.view_is in cc) in
    let seen : view_ids c.as_slice-2.result.now ≡ c.args.script.now.shown = ap view_ids c.as_slice-2.ensures.value ∙ c.in_ok-shown.ensures ∙ shown in
    shown_there c.args.script.now.made c.args.script.now.shown c.args.inputs c.in_ok-graph.graph (view_ids c.as_slice-2.result.now) same seen c.keeps_its_rules.ensures

pub type_of_shown-requires : goal.type_of_shown-requires
type_of_shown-requires c =
    let made : c.script.inside.made ≡ c.args.script.now.made = (let v = ap (λ (s : PlainScript). s.made) c.script.view_is in cc) in
    let same : c.in_ok-graph.graph ≡ objects_from [] c.args.inputs c.args.script.now.made = c.in_ok-graph.ensures ∙ ap (objects_from [] c.args.inputs) (c.as_slice.ensures ∙ made) in
    let shown : c.script.inside.shown ≡ c.args.script.now.shown = (let v = ap (λ (s : PlainScript). s.shown) c.script.view_is in cc) in
    let seen : view_ids c.as_slice-3.result.now ≡ c.args.script.now.shown = ap view_ids c.as_slice-3.ensures.value ∙ c.in_ok-shown.ensures ∙ shown in
    shown_there c.args.script.now.made c.args.script.now.shown c.args.inputs c.in_ok-graph.graph (view_ids c.as_slice-3.result.now) same seen c.keeps_its_rules.ensures

pub returns : goal.returns
returns c =
    let made : c.script.inside.made ≡ c.args.script.now.made = (let v = ap (λ (s : PlainScript). s.made) c.script.view_is in cc) in
    let same : c.in_ok-graph.graph ≡ objects_from [] c.args.inputs c.args.script.now.made = c.in_ok-graph.ensures ∙ ap (objects_from [] c.args.inputs) (c.as_slice.ensures ∙ made) in
    let shown : c.script.inside.shown ≡ c.args.script.now.shown = (let v = ap (λ (s : PlainScript). s.shown) c.script.view_is in cc) in
    let seen : view_ids c.as_slice-2.result.now ≡ c.args.script.now.shown = ap view_ids c.as_slice-2.ensures.value ∙ c.in_ok-shown.ensures ∙ shown in
    let also : view_ids c.as_slice-3.result.now ≡ c.args.script.now.shown = ap view_ids c.as_slice-3.ensures.value ∙ c.in_ok-shown.ensures ∙ shown in
    gathered c.args.script.now.made c.args.script.now.shown c.args.inputs c.in_ok-graph.graph c.in_ok-program.field-0.program c.in_ok-program.field-0.inputs c.in_ok-program.field-0.inputs
    (view_ids c.as_slice-2.result.now) (view_ids c.as_slice-3.result.now) c.in_ok-inputs.inputs c.in_ok-ty.ty same
    (λ id t ids call types operator fits e. c.library_objects_mean_their_lists.ensures c.in_ok-graph.graph id t ids call types c.keeps_its_rules-2.ensures operator fits e)
    c.fragments_are_small.ensures.loops c.inputs_are_given_up.ensures c.keeps_its_rules.ensures c.requires seen also refl
    c.in_ok-program.ensures c.in_ok-inputs.ensures c.in_ok-ty.ensures
