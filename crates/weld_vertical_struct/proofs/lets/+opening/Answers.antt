use Rattle.std.proofs.Common.{◌-◌, ap, sym, ◌∙◌}
use Rattle.weld_rewriting.proofs.Lists.{and_so}
use Rattle.weld_vertical_struct.specs.Parting.{within_body, opened}
use Rattle.weld_vertical_struct.proofs.Depth.{opened_more}
use Rattle.weld_vertical_struct.proofs.lets.+opening.Goals as goal

pub open-returns : goal.open-returns
open-returns t c =
    and_so c.open_below.result
    (λ h. h (record { place = c.e.inside.place; ty = c.e.inside.ty }) ∙ ap (within_body (opened c.args.names.builder.0 c.args.names.part.0 (c.args.depth - 1))) (c.e.view_is ∙ c.in_ok-take_apart.ensures)
    ∙ sym (opened_more c.args.names.builder.0 c.args.names.part.0 c.args.depth c.args.e.now c.if-depth-eq0.false))
    c.open_below.ensures
