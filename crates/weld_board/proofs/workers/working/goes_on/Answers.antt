use Rattle.std.proofs.Common.{◌≡◌, ap, sym, ◌∙◌}
use Rattle.std.proofs.lemmas.Bool.{eqb-true}
use Rattle.weld_board.specs.declared.workers.span.Span.{Span}
use Rattle.weld_board.proofs.Ending.{split_last, last_is}
use Rattle.weld_board.proofs.workers.working.goes_on.Goals as goal

pub returns-in-Some : goal.returns-in-Some
returns-in-Some g c t =
    let item = c.in-Some.ensures.item in
    let parts = split_last c.args.spans.now item.3.0 in
    let same : c.in-Some.span.now ≡ parts.1 = last_is c.args.spans.now parts.0 parts.1 c.in-Some.span.now c.in-Some.span.now parts.2 item.1 in
    (parts.0, parts.1, parts.2, ap (λ (s : Span g.row.P.Denot). s.next) (sym same) ∙ eqb-true c.in-Some.span.now.next c.args.job t)
