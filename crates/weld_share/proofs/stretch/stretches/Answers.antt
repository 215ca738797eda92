use Rattle.std.proofs.Common.{◌≡◌, length, refl, sym, subst, arith}
use Rattle.weld_share.specs.declared.stretch.Stretch.{Stretch}
use Rattle.weld_share.proofs.Cutting.{HasCut, cut_on, parted}
use Rattle.weld_share.proofs.stretch.stretches.Goals as goal

pub cut-preserved : goal.cut-preserved
cut-preserved c =
    let more : Stretch = record { whole = record { number = c.len-number.result; lo = c.cut.lo; hi = c.end_of-hi.result }; tiles = c.split_at.result.0 } in
    let number : c.len-number.result ≡ length c.cut.list.items = grind arith in
    subst (λ l. HasCut c.args.rows l c.end_of-hi.result c.split_at.result.1.now) (sym c.in_ok-push.ensures.items)
    (cut_on c.args.rows c.cut.list.items c.cut.lo c.cut.left.now c.split_at.result.0.now c.split_at.result.1.now more c.cut.invariant
    (parted c.min.result c.cut.left.now c.split_at.result.0.now c.split_at.result.1.now c.split_at.ensures.front c.split_at.ensures.back) number refl refl c.end_of-hi.ensures)
