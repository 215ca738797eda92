use Rattle.std.proofs.Common.{◌≡◌, true, ap, sym, subst, ◌∙◌}
use Rattle.weld_tree.specs.ExprTree.{pack_legs}
use Rattle.weld_tree.specs.ExprView.{view_form}
use Rattle.weld_meaning.specs.Names.{put}
use Rattle.weld_handing.specs.Merging.{list_merges}
use Rattle.weld_handing.specs.Walking.{names_within}
use Rattle.weld_vertical_zip.specs.Zipping.{own_row}
use Rattle.weld_vertical_zip.specs.Zips.{of_sides}
use Rattle.weld_vertical_zip_held.specs.Rule.{makes_each}
use Rattle.weld_vertical_zip_held.proofs.Cutting.{one_merge}
use Rattle.weld_vertical_zip_held.proofs.rule.hand_within.Goals as goal

pub hand_rebuilt-requires-clause-once : goal.hand_rebuilt-requires-clause-once
hand_rebuilt-requires-clause-once c =
    (λ j. list_merges (names_within (c.deref.ensures j).sym.0 (c.deref-2.ensures j).sym.0 (c.deref-3.ensures j).sym.0) (put (c.deref-3.ensures j).sym.0 (own_row c.args.place (c.deref-3.ensures j).sym.0 (of_sides c.args.sides.now)) (c.deref_mut.ensures.value j)))
    ∙ one_merge (record { place = c.producer.inside.place; ty = c.producer.inside.ty }) (pack_legs c.in-For.field-0) _ c.in-For.own.value c.in-For.count.value c.in-For.item.value c.in-For.inside.value c.args.place (of_sides c.args.sides.now) (subst (λ e. makes_each e ≡ true) (sym c.producer.view_is ∙ ap (λ form. view_form form (record { place = c.producer.inside.place; ty = c.producer.inside.ty })) c.in-For.is) c.requires.made)
