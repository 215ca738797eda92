use Rattle.std.proofs.Common.{◌≡◌, map}
use Rattle.std.specs.declared.alloc.AllocError.{AllocError}
use Rattle.weld_data.specs.Value.{number}
use Rattle.weld_builders.specs.Outcome.{done}
use Rattle.weld_built.specs.Merges.{merge_all}
use Rattle.weld_lane_rows.proofs.Merges.{merged_as_words, all_appended}
use Rattle.weld_lane_rows.proofs.words.merge_numbers.Goals as goal

pub returns-in-Ok-true : goal.returns-in-Ok-true
returns-in-Ok-true g c =
    merged_as_words g.L.Lane.number g.L.Lane.kind c.args.built.now c.append.new.built c.args.numbers.now
    (all_appended AllocError c.in-Ok-true.field-0 c.args.built.now c.append.new.built (λ all. merge_all c.args.built.now (map (λ x. number g.L.Lane.kind (g.L.Lane.number x)) c.args.numbers.now) ≡ done all)
    c.in-Ok-true.field-0-test c.in-Ok-true.ensures)
