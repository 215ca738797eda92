use Rattle.std.proofs.Common.{◌≡◌, sym, ◌∙◌}
use Rattle.weld_objects.specs.Numbering.{number_in}
use Rattle.weld_lazy.proofs.Placing.{placed_from}
use Rattle.weld_lazy.proofs.calls.place_body.Goals as goal

pub returns : goal.returns
returns c =
    placed_from (λ b. b.value) c.args.base c.args.deps.now (number_in c.args.numbers.now) c.args.program.now (record { params = c.program.inside.params; body = c.program.inside.body.value }) c.as_slice.result.now c.deref.result.now c.args.binders.now c.in_ok-renaming.renaming c.number_params.new.renaming c.renamed_copy.result
    (sym c.program-program.ensures.same ∙ sym c.program.view_is) c.as_slice.ensures c.deref.ensures c.program.invariant c.requires.count c.requires.binders c.in_ok-renaming.ensures c.in_ok-number_params.ensures c.renamed_copy.ensures
