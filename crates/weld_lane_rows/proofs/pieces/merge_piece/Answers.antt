use Rattle.std.proofs.Common.{map, ap}
use Rattle.weld_eval.specs.ThingView.{thing_of}
use Rattle.weld_lane_rows.proofs.Merges.{part_taken, not_another, never_faults, merged_so}
use Rattle.weld_lane_rows.proofs.pieces.merge_piece.Goals as goal

pub merge_numbers-requires-clause-items : goal.merge_numbers-requires-clause-items
merge_numbers-requires-clause-items g c = part_taken (thing_of c.args.builder.now) g.L.Lane.kind c.in-Built.built c.requires.takes (ap thing_of c.in-Built.is)

pub unreachable-requires : goal.unreachable-requires
unreachable-requires g c =
    never_faults c.merge_numbers.result c.in-Err-Fault.field-0 c.in-Built.built c.merge_numbers.new.built g.L.Lane.kind (map g.L.Lane.number c.args.numbers.now)
    (part_taken (thing_of c.args.builder.now) g.L.Lane.kind c.in-Built.built c.requires.takes (ap thing_of c.in-Built.is)) c.merge_numbers.ensures c.in-Err-Fault.is c.in-Err-Fault.field-0-is

pub unreachable-requires-in_default : goal.unreachable-requires-in_default
unreachable-requires-in_default g c = not_another c.args.builder.now g.L.Lane.kind c.requires.takes c.in_default.not-Built

pub returns-in-Ok : goal.returns-in-Ok
returns-in-Ok g c =
    merged_so c.merge_numbers.result c.in-Ok.field-0 (thing_of c.args.builder.now) c.in-Built.built c.merge_numbers.new.built g.L.Lane.kind (map g.L.Lane.number c.args.numbers.now)
    c.in-Ok.is (ap thing_of c.in-Built.is) c.merge_numbers.ensures
