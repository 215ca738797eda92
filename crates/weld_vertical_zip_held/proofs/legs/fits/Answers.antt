use Rattle.std.proofs.Common.{List, IsTrue, ◌+◌, ◌↔◌, map, ap, subst, ◌∙◌}
use Rattle.weld_tree.specs.TypeTree.{TypeTree, pack}
use Rattle.weld_tree.specs.Types.{IsWithinLimits}
use Rattle.weld_tree.specs.ExprTree.{pack_legs}
use Rattle.weld_tree.specs.ExprView.{view_leg}
use Rattle.weld_tree.specs.declared.expr.Leg.{Leg}
use Rattle.weld_horizontal.specs.Twice.{items}
use Rattle.weld_vertical_zip.proofs.Finding.{rest_all}
use Rattle.weld_vertical_zip_held.proofs.Cutting.{fits_is}
use Rattle.weld_vertical_zip_held.proofs.legs.fits.Goals as goal

pub returns : goal.returns
returns c =
    fits_is c.args.legs.now c.args.place c.index-legs-place.result (pack c.in_ok-before.before) (pack c.in_ok-within.within) (pack c.in_ok-after.after) (pack c.in_ok-all.all) c.is_within_limits-2.result
    c.requires.within c.index-legs-place.is c.requires.first c.in_ok-before.ensures.value c.in_ok-within.ensures (c.in_ok-after.ensures.value ∙ ap (λ (ls : List Leg). items (pack_legs (map view_leg ls))) (rest_all c.args.legs.now (c.args.place + 1))) c.in_ok-all.ensures.value
    (subst (λ (t : TypeTree). IsTrue c.is_within_limits-2.result ↔ IsWithinLimits t) c.struct_of.ensures c.is_within_limits-2.ensures)
