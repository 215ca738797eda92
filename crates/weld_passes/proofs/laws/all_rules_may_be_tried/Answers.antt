use Rattle.weld_inline.specs.Inlining.{lets_rule}
use Rattle.weld_predicate.specs.Predicating.{guards_rule}
use Rattle.weld_vertical.specs.Fusing.{loops_rule}
use Rattle.weld_vertical_struct.specs.Held.{held_rule, opened_producer}
use Rattle.weld_vertical_held.specs.Rule.{handing_rule}
use Rattle.weld_vertical_zip.specs.Zips.{zips_rule, spliced}
use Rattle.weld_vertical_zip.specs.Zipping.{is_zipped}
use Rattle.weld_vertical_zip_held.specs.Rule.{zip_handing_rule}
use Rattle.weld_horizontal.specs.Doubles.{doubles_rule}
use Rattle.weld_joining.specs.Joining.{beside_rule}
use Rattle.weld_rewriting.specs.Sweep.{RootRule}
use Rattle.weld_rewriting.specs.Either.{either}
use Rattle.weld_passes.specs.Normal.{spare_legs_rule, held_legs_rule}
use Rattle.weld_passes.proofs.laws.all_rules_may_be_tried.Goals as goal

abbrev handed_or_beside : RootRule
handed_or_beside = either zip_handing_rule beside_rule

abbrev held_or_beside : RootRule
held_or_beside = either held_legs_rule handed_or_beside

abbrev over_one : RootRule
over_one = either spare_legs_rule held_or_beside

abbrev of_legs : RootRule
of_legs = either doubles_rule over_one

abbrev of_handing : RootRule
of_handing = either handing_rule of_legs

abbrev of_held : RootRule
of_held = either held_rule of_handing

abbrev of_loops : RootRule
of_loops = either loops_rule of_held

abbrev others : RootRule
others = either guards_rule of_loops

pub returns-clause-falls : goal.returns-clause-falls
returns-clause-falls c =
    let joined = c.rules_may_be_joined.ensures in
    joined.falls lets_rule others c.lets_may_be_rewritten.ensures.falls
    (joined.falls guards_rule of_loops c.guards_may_be_rewritten.ensures.falls
    (joined.falls loops_rule of_held c.loops_may_be_fused.ensures.falls
    (joined.falls held_rule of_handing c.held_loops_may_be_fused.ensures.falls
    (joined.falls handing_rule of_legs c.lists_may_be_handed_over.ensures.falls
    (joined.falls doubles_rule over_one c.legs_may_stand_once.ensures.falls
    (joined.falls spare_legs_rule held_or_beside
    (c.rules_may_follow.ensures.falls 16 zips_rule doubles_rule c.made_legs_may_be_spliced.ensures.falls c.legs_may_stand_once.ensures.falls)
    (joined.falls held_legs_rule handed_or_beside (c.rules_may_be_tried_on_parts.ensures.falls zips_rule c.made_legs_may_be_spliced.ensures.falls)
    (joined.falls zip_handing_rule beside_rule c.zip_lists_may_be_handed_over.ensures.falls c.loops_may_be_joined.ensures.falls))))))))

pub returns-clause-sound : goal.returns-clause-sound
returns-clause-sound c =
    let joined = c.rules_may_be_joined.ensures in
    joined.sound lets_rule others c.lets_may_be_rewritten.ensures.sound
    (joined.sound guards_rule of_loops c.guards_may_be_rewritten.ensures.sound
    (joined.sound loops_rule of_held c.loops_may_be_fused.ensures.sound
    (joined.sound held_rule of_handing c.held_loops_may_be_fused.ensures.sound
    (joined.sound handing_rule of_legs c.lists_may_be_handed_over.ensures.sound
    (joined.sound doubles_rule over_one c.legs_may_stand_once.ensures.sound
    (joined.sound spare_legs_rule held_or_beside
    (c.rules_may_follow.ensures.sound 16 zips_rule doubles_rule c.made_legs_may_be_spliced.ensures.sound c.legs_may_stand_once.ensures.sound)
    (joined.sound held_legs_rule handed_or_beside (c.rules_may_be_tried_on_parts.ensures.sound zips_rule c.made_legs_may_be_spliced.ensures.sound)
    (joined.sound zip_handing_rule beside_rule c.zip_lists_may_be_handed_over.ensures.sound c.loops_may_be_joined.ensures.sound))))))))

pub returns-clause-normal : goal.returns-clause-normal
returns-clause-normal c = λ p still.
    let joined = c.rules_may_be_joined.ensures in
    let but_lets = joined.second lets_rule others p.body still in
    let but_guards = joined.second guards_rule of_loops p.body but_lets in
    let but_loops = joined.second loops_rule of_held p.body but_guards in
    let but_held = joined.second held_rule of_handing p.body but_loops in
    let but_handed = joined.second handing_rule of_legs p.body but_held in
    let but_doubles = joined.second doubles_rule over_one p.body but_handed in
    let but_spliced = joined.second spare_legs_rule held_or_beside p.body but_doubles in
    let but_paired = joined.second held_legs_rule handed_or_beside p.body but_spliced in
    record {
      no_let = c.lets_may_be_rewritten.ensures.still p.body (joined.first lets_rule others p.body still);
      no_guard = c.guards_may_be_rewritten.ensures.still p.body (joined.first guards_rule of_loops p.body but_lets);
      no_loop_over_a_loop = c.loops_may_be_fused.ensures.still p.body (joined.first loops_rule of_held p.body but_guards);
      no_held_loop = c.held_loops_may_be_fused.ensures.still p.body (joined.first held_rule of_handing p.body but_loops);
      no_list_handed_over = c.lists_may_be_handed_over.ensures.still p.body (joined.first handing_rule of_legs p.body but_held);
      no_made_leg = c.made_legs_may_be_spliced.ensures.still p.body
          (c.rules_may_follow.ensures.still 16 zips_rule doubles_rule p.body (joined.first spare_legs_rule held_or_beside p.body but_doubles));
      no_held_leg = c.rules_are_tests.ensures.still (λ e. is_zipped (opened_producer e)) (λ e. spliced (opened_producer e)) p.body (joined.first held_legs_rule handed_or_beside p.body but_spliced);
      no_zip_handed_over = c.zip_lists_may_be_handed_over.ensures.still p.body (joined.first zip_handing_rule beside_rule p.body but_paired);
      no_leg_twice = c.legs_may_stand_once.ensures.still p.body (joined.first doubles_rule over_one p.body but_handed);
      no_loops_side_by_side = c.loops_may_be_joined.ensures.still p.body (joined.second zip_handing_rule beside_rule p.body but_paired);
    }
