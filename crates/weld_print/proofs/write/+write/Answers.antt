use Rattle.std.proofs.Common.{sym, ◌∙◌, ◌+◌, ◌*◌, ◌<◌, ◌≤◌, length, map, arith, rules, codes}
use Rattle.weld_tree.specs.ExprTree.{pack_legs}
use Rattle.weld_tree.specs.ExprView.{view_leg}
use Rattle.weld_tree.specs.ExprFalls.{leg_nodes, legs_nodes}
use Rattle.weld_print.specs.PrintText.{leg_text, legs_text, rows_text}
use Rattle.weld_print.proofs.Steps.{leg_fits, zip_text, four_written}
use Rattle.weld_print.proofs.write.+write.Goals as goal

pub write_further-write_leg-requires : goal.write_further-write_leg-requires
write_further-write_leg-requires t c =
    let within : c.legs.leg-index < length c.args.legs.now = search rules in
    let fits : leg_nodes (view_leg c.leg-item.result) ≤ legs_nodes (pack_legs (map view_leg c.args.legs.now)) = leg_fits c.args.legs.now c.legs.leg-index c.leg-item.result within c.leg-item.is in
    let falls : 8 * leg_nodes (view_leg c.leg-item.result) + 2 < t = omega (arith, c.decreases) in
    (falls, tt)

pub write_legs-returns : goal.write_legs-returns
write_legs-returns t c =
    four_written c.push.result c.args.out.now (codes "zip(") (leg_text c.args.names.now (view_leg c.in-Some.first.now)) (legs_text c.args.names.now (pack_legs (map view_leg c.in-Some.further.now))) (codes ")") c.push_all.new.self c.write_leg-2.new.out c.write_further.new.out c.push.new.self (rows_text c.args.names.now (pack_legs (map view_leg c.args.legs.now))) c.in_ok-push_all.ensures.ok c.in_ok-write_leg.ensures c.in_ok-write_further.ensures c.push.ensures.ok
    (zip_text c.args.names.now c.args.legs.now c.in-Some.first.now c.in-Some.further.now c.in-Some.ensures.cases.0 (sym c.is_empty.ensures ∙ c.if-is_empty.false))
