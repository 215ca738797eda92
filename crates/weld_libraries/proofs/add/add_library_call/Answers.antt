use Rattle.std.proofs.Common.{sym, ap, subst, ◌∙◌}
use Rattle.weld_meaning.specs.Accepted.{IsAccepted}
use Rattle.weld_calls.specs.CallTypes.{FitsCall, AreValueTypes}
use Rattle.weld_calls.specs.CallPrograms.{fragment}
use Rattle.weld_lazy.specs.View.{view_ids}
use Rattle.weld_libraries.proofs.Adding.{found_args, few_types, fits_call, values_are, memory_alone, call_added}
use Rattle.weld_libraries.proofs.add.add_library_call.Goals as goal

pub check_fit-requires : goal.check_fit-requires
check_fit-requires c =
    few_types c.args.graph.now c.args.call c.args.ids.now c.in-Ok.types c.as_slice.result.now c.rows_are_short.ensures c.in-Ok.ensures c.as_slice.ensures.value c.requires.count

pub fragment-requires-clause-fits : goal.fragment-requires-clause-fits
fragment-requires-clause-fits c =
    let f = found_args c.args.graph.now c.args.call c.args.ids.now c.in-Ok.types c.as_slice.result.now c.in-Ok.ensures c.as_slice.ensures.value c.in-Ok-check_fit.ensures c.requires.count in
    subst (FitsCall c.args.call) (sym c.as_slice-2.ensures.value) (fits_call c.args.graph.now c.args.call (view_ids c.args.ids.now) c.in-Ok.types f)

pub fragment-requires-clause-values : goal.fragment-requires-clause-values
fragment-requires-clause-values c =
    let f = found_args c.args.graph.now c.args.call c.args.ids.now c.in-Ok.types c.as_slice.result.now c.in-Ok.ensures c.as_slice.ensures.value c.in-Ok-check_fit.ensures c.requires.count in
    subst AreValueTypes (sym c.as_slice-2.ensures.value)
    (values_are c.types_are_well_formed.ensures.program c.args.graph.now c.args.call (view_ids c.args.ids.now) c.in-Ok.types c.keeps_its_rules.ensures f)

pub returns-in-Ok-add_call : goal.returns-in-Ok-add_call
returns-in-Ok-add_call c =
    let ids = view_ids c.args.ids.now in
    let f = found_args c.args.graph.now c.args.call c.args.ids.now c.in-Ok.types c.as_slice.result.now c.in-Ok.ensures c.as_slice.ensures.value c.in-Ok-check_fit.ensures c.requires.count in
    let fit = fits_call c.args.graph.now c.args.call ids c.in-Ok.types f in
    let values = values_are c.types_are_well_formed.ensures.program c.args.graph.now c.args.call ids c.in-Ok.types c.keeps_its_rules.ensures f in
    let made = c.in-Ok-fragment.ensures ∙ ap (fragment c.args.call) c.as_slice-2.ensures.value in
    let added = c.in-Ok-add_call.ensures.added in
    call_added c.types_are_unique.ensures c.args.graph.now c.add_call.new.self c.args.call ids c.in-Ok.types c.in-Ok-fragment.program added.0 c.in-Ok-add_call.id.0 f made
    (c.fragments_are_accepted.ensures.typed c.args.call c.in-Ok.types c.requires.operator fit values) added.1 c.in-Ok-add_call.ensures.id added.2

pub only_memory-requires : goal.only_memory-requires
only_memory-requires c =
    let ids = view_ids c.args.ids.now in
    let f = found_args c.args.graph.now c.args.call c.args.ids.now c.in-Ok.types c.as_slice.result.now c.in-Ok.ensures c.as_slice.ensures.value c.in-Ok-check_fit.ensures c.requires.count in
    let fit = fits_call c.args.graph.now c.args.call ids c.in-Ok.types f in
    let values = values_are c.types_are_well_formed.ensures.program c.args.graph.now c.args.call ids c.in-Ok.types c.keeps_its_rules.ensures f in
    let made = c.in-Ok-fragment.ensures ∙ ap (fragment c.args.call) c.as_slice-2.ensures.value in
    memory_alone c.a_call_has_one_answer.ensures.added c.in-Err-add_call.fault c.args.graph.now c.args.call ids c.in-Ok.types c.in-Ok-fragment.program
    (subst IsAccepted (sym made) (c.fragments_are_accepted.ensures.accepted c.args.call c.in-Ok.types c.requires.operator fit values)) made f c.in-Err-add_call.ensures.refused
