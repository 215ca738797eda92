use Rattle.std.proofs.Common.{◌≡◌, ap, ◌∙◌}
use Rattle.weld_lazy.specs.View.{view_ids}
use Rattle.weld_session.proofs.Adding.{call_added, memory_alone}
use Rattle.weld_session.proofs.add.add_call.Goals as goal

pub returns-in-Ok : goal.returns-in-Ok
returns-in-Ok c =
    let same : view_ids c.as_slice.result.now ≡ c.args.ids.now = ap view_ids c.as_slice.ensures.value ∙ c.in_ok-ids.ensures in
    call_added c.args.graph.now c.add_library_call.new.graph c.args.call c.args.ids.now (view_ids c.as_slice.result.now) c.in-Ok.field-0.0 same c.requires.may c.in-Ok.ensures

pub only_memory-requires : goal.only_memory-requires
only_memory-requires c =
    let same : view_ids c.as_slice.result.now ≡ c.args.ids.now = ap view_ids c.as_slice.ensures.value ∙ c.in_ok-ids.ensures in
    memory_alone c.in-Err.fault c.args.graph.now c.add_library_call.new.graph c.args.call c.args.ids.now (view_ids c.as_slice.result.now) same c.requires.may c.in-Err.ensures
