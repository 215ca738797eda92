use Rattle.std.proofs.Common.{Some, sym, ap, ◌∙◌}
use Rattle.weld_read_script.specs.Names.{all_resolved}
use Rattle.weld_read_script.specs.Steps.{is_bound}
use Rattle.weld_read_script.proofs.Calling.{resolved_step}
use Rattle.weld_read_script.proofs.steps.known.Known.call.Goals as goal

pub returns-in-Some : goal.returns-in-Some
returns-in-Some c =
    let k = c.args.self.now in
    resolved_step k c.call_resolved.new.self c.args.name c.args.library.now c.args.call.now c.args.arguments.now c.as_slice-in-Some.result.now c.call_resolved.result
    (ap (λ n. is_bound n k) (sym c.as_slice.ensures) ∙ sym c.is_bound.ensures ∙ c.if-is_bound.false)
    (ap (λ bs. all_resolved bs c.args.arguments.now) (sym c.as_slice-2.ensures) ∙ sym c.in_ok-resolve.ensures ∙ c.in-Some.is ∙ ap Some (sym c.as_slice-in-Some.ensures))
    c.call_resolved.ensures
