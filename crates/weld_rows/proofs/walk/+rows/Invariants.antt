use Rattle.std.proofs.Common.{◌≡◌, ◌+◌, ◌-◌, ◌*◌, ◌++◌, drop, length, map}
use Rattle.weld_data.specs.View.{view_val}
use Rattle.weld_tree.specs.ExprFalls.{expr_nodes, exprs_nodes, leg_nodes, legs_nodes}
use Rattle.weld_tree.specs.ExprTree.{pack_exprs, pack_legs}
use Rattle.weld_tree.specs.ExprView.{view_leg}
use Rattle.weld_builders.specs.Outcome.{map_out}
use Rattle.weld_meaning.specs.Evaluation.{eval_all, eval_legs, turn_limit}
use Rattle.weld_eval.specs.FrameView.{env_of}
use Rattle.weld_eval.specs.LegsView.{lists_of}
use Rattle.weld_eval.specs.ThingView.{thing_of}
use Rattle.weld_eval_forms.specs.FormTakes.{all_of, before_things}
use Rattle.weld_eval_plain.specs.Turns.{HoldsState, turns_from}
use Rattle.weld_rows.specs.RangeOn.{RangeOn}
use Rattle.weld_eval_forms.specs.Legs.{leg_lists, AreVectors}
use Rattle.weld_rows.specs.Runs.{AllRun, LegsRun}
use Rattle.weld_rows.specs.RowActs.{body_nodes}
use Rattle.weld_rows.proofs.walk.+rows.Given as goal

-- the measure: the nodes that are left to go over, 64 for each, so that a node and its steps differ; of a loop whose legs are
-- evaluated those of its body

abbrev pub decreases-numbers::number : goal.decreases-numbers::number
decreases-numbers::number l = 64 * expr_nodes l.e.now + 14

abbrev pub decreases-numbers::compound : goal.decreases-numbers::compound
decreases-numbers::compound l = 64 * expr_nodes l.e.now + 12

abbrev pub decreases-numbers::binary : goal.decreases-numbers::binary
decreases-numbers::binary l = 64 * (1 + (expr_nodes l.first.now + expr_nodes l.second.now)) + 9

abbrev pub decreases-numbers::either : goal.decreases-numbers::either
decreases-numbers::either l = 64 * (1 + (expr_nodes l.first.now + expr_nodes l.second.now)) + 5

abbrev pub decreases-numbers::choice : goal.decreases-numbers::choice
decreases-numbers::choice l = 64 * (1 + (expr_nodes l.condition.now + expr_nodes l.then.now + expr_nodes l.otherwise.now)) + 9

abbrev pub decreases-numbers::opposite : goal.decreases-numbers::opposite
decreases-numbers::opposite l = 64 * (1 + expr_nodes l.part.now) + 9

abbrev pub decreases-numbers::other_truth : goal.decreases-numbers::other_truth
decreases-numbers::other_truth l = 64 * (1 + expr_nodes l.part.now) + 9

abbrev pub decreases-numbers::converted : goal.decreases-numbers::converted
decreases-numbers::converted l = 64 * (1 + expr_nodes l.part.now) + 9

abbrev pub decreases-numbers::in_value : goal.decreases-numbers::in_value
decreases-numbers::in_value l = 64 * expr_nodes l.e.now + 10

abbrev pub decreases-values::value : goal.decreases-values::value
decreases-values::value l = 64 * expr_nodes l.e.now + 15

abbrev pub decreases-values::numeral : goal.decreases-values::numeral
decreases-values::numeral l = 64 * expr_nodes l.e.now + 14

abbrev pub decreases-values::other : goal.decreases-values::other
decreases-values::other l = 64 * expr_nodes l.e.now + 8

abbrev pub decreases-values::value_of_one : goal.decreases-values::value_of_one
decreases-values::value_of_one l = 64 * (1 + expr_nodes l.part.now) + 7

abbrev pub decreases-values::value_of_two : goal.decreases-values::value_of_two
decreases-values::value_of_two l = 64 * (1 + (expr_nodes l.first.now + expr_nodes l.second.now)) + 7

abbrev pub decreases-values::value_of_either : goal.decreases-values::value_of_either
decreases-values::value_of_either l = 64 * (1 + (expr_nodes l.first.now + expr_nodes l.second.now)) + 6

abbrev pub decreases-values::value_of_if : goal.decreases-values::value_of_if
decreases-values::value_of_if l = 64 * (1 + (expr_nodes l.condition.now + expr_nodes l.then.now + expr_nodes l.otherwise.now)) + 6

abbrev pub decreases-values::value_of_let : goal.decreases-values::value_of_let
decreases-values::value_of_let l = 64 * (1 + (expr_nodes l.first.now + expr_nodes l.body.now)) + 7

abbrev pub decreases-values::value_of_loop : goal.decreases-values::value_of_loop
decreases-values::value_of_loop l = 64 * expr_nodes l.e.now + 7

abbrev pub decreases-values::value_of_legs : goal.decreases-values::value_of_legs
decreases-values::value_of_legs l = 64 * expr_nodes l.e.now + 6

abbrev pub decreases-values::part_value : goal.decreases-values::part_value
decreases-values::part_value l = 64 * expr_nodes l.e.now + 16

abbrev pub decreases-lent::value_on : goal.decreases-lent::value_on
decreases-lent::value_on l = 64 * expr_nodes l.e.now + 6

abbrev pub decreases-lent::started : goal.decreases-lent::started
decreases-lent::started l = 64 * expr_nodes l.e.now + 16

abbrev pub decreases-lent::fill_on : goal.decreases-lent::fill_on
decreases-lent::fill_on l = 64 * body_nodes l.e.now + 41

abbrev pub decreases-lent::total : goal.decreases-lent::total
decreases-lent::total l = 64 * expr_nodes l.e.now + 8

abbrev pub decreases-lent::total_of_part : goal.decreases-lent::total_of_part
decreases-lent::total_of_part l = 64 * expr_nodes l.e.now + 8

abbrev pub decreases-lent::total_of_loop : goal.decreases-lent::total_of_loop
decreases-lent::total_of_loop l = 64 * expr_nodes l.e.now + 7

abbrev pub decreases-lent::act_on : goal.decreases-lent::act_on
decreases-lent::act_on l = 64 * expr_nodes l.e.now + 29

abbrev pub decreases-lent::hand_on : goal.decreases-lent::hand_on
decreases-lent::hand_on l = 64 * body_nodes l.e.now + 40

abbrev pub decreases-acts::act_legs : goal.decreases-acts::act_legs
decreases-acts::act_legs l = 64 * expr_nodes l.e.now + 29

abbrev pub decreases-numbers::in_other : goal.decreases-numbers::in_other
decreases-numbers::in_other l = 64 * expr_nodes l.e.now + 9

abbrev pub decreases-values::value_over : goal.decreases-values::value_over
decreases-values::value_over l = 64 * expr_nodes l.e.now + 5

abbrev pub decreases-acts::tried : goal.decreases-acts::tried
decreases-acts::tried l = 64 * expr_nodes l.e.now + 16

abbrev pub decreases-acts::act : goal.decreases-acts::act
decreases-acts::act l = 64 * expr_nodes l.e.now + 31

abbrev pub decreases-acts::act_merge : goal.decreases-acts::act_merge
decreases-acts::act_merge l = 64 * (1 + (expr_nodes l.first.now + expr_nodes l.item.now)) + 30

abbrev pub decreases-acts::act_if : goal.decreases-acts::act_if
decreases-acts::act_if l = 64 * (1 + (expr_nodes l.condition.now + expr_nodes l.then.now + expr_nodes l.otherwise.now)) + 30

abbrev pub decreases-acts::act_let : goal.decreases-acts::act_let
decreases-acts::act_let l = 64 * (1 + (expr_nodes l.first.now + expr_nodes l.body.now)) + 30

abbrev pub decreases-acts::act_let_value : goal.decreases-acts::act_let_value
decreases-acts::act_let_value l = 64 * (1 + (expr_nodes l.first.now + expr_nodes l.body.now)) + 29

abbrev pub decreases-acts::act_loop : goal.decreases-acts::act_loop
decreases-acts::act_loop l = 64 * expr_nodes l.e.now + 30

abbrev pub decreases-acts::act_over : goal.decreases-acts::act_over
decreases-acts::act_over l = 64 * expr_nodes l.e.now + 28

abbrev pub decreases-acts::act_struct : goal.decreases-acts::act_struct
decreases-acts::act_struct l = 64 * (1 + exprs_nodes (pack_exprs l.parts.now)) + 30

abbrev pub decreases-acts::put : goal.decreases-acts::put
decreases-acts::put l = 64 * expr_nodes l.item.now + 21

abbrev pub decreases-acts::put_other : goal.decreases-acts::put_other
decreases-acts::put_other l = 64 * expr_nodes l.item.now + 20

abbrev pub decreases-acts::put_made : goal.decreases-acts::put_made
decreases-acts::put_made l = 64 * expr_nodes l.item.now + 17

abbrev pub decreases-acts::put_written : goal.decreases-acts::put_written
decreases-acts::put_written l = 64 * expr_nodes l.item.now + 18

abbrev pub decreases-numbers::chosen : goal.decreases-numbers::chosen
decreases-numbers::chosen l = 64 * expr_nodes l.e.now + 11

abbrev pub decreases-numbers::unread : goal.decreases-numbers::unread
decreases-numbers::unread l = 64 * expr_nodes l.e.now + 13

abbrev pub decreases-acts::act_first : goal.decreases-acts::act_first
decreases-acts::act_first l = 64 * expr_nodes l.e.now + 32

abbrev pub decreases-acts::put_compound : goal.decreases-acts::put_compound
decreases-acts::put_compound l = 64 * expr_nodes l.item.now + 19

abbrev pub decreases-values::fill : goal.decreases-values::fill
decreases-values::fill l = 64 * body_nodes l.e.now + 41 + length l.vectors.now

abbrev pub decreases-values::reach : goal.decreases-values::reach
decreases-values::reach l = 64 * body_nodes l.e.now + 40 + l.left

abbrev pub decreases-rows::hand_through : goal.decreases-rows::hand_through
decreases-rows::hand_through l = 64 * body_nodes l.e.now + 39

abbrev pub decreases-rows::run_rows : goal.decreases-rows::run_rows
decreases-rows::run_rows l = 64 * body_nodes l.e.now + 38

abbrev pub decreases-rows::run_blocks : goal.decreases-rows::run_blocks
decreases-rows::run_blocks l = 64 * body_nodes l.e.now + 37

abbrev pub decreases-rows::run_block : goal.decreases-rows::run_block
decreases-rows::run_block l = 64 * body_nodes l.e.now + 36

abbrev pub decreases-rows::try_block : goal.decreases-rows::try_block
decreases-rows::try_block l = 64 * body_nodes l.e.now + 35

abbrev pub decreases-rows::walk_block : goal.decreases-rows::walk_block
decreases-rows::walk_block l = 64 * body_nodes l.e.now + 34

abbrev pub decreases-rows::walk_rows : goal.decreases-rows::walk_rows
decreases-rows::walk_rows l = 64 * body_nodes l.e.now + 33

abbrev pub decreases-rows::run_row : goal.decreases-rows::run_row
decreases-rows::run_row l = 64 * body_nodes l.e.now + 32

abbrev pub decreases-acts::act_fields : goal.decreases-acts::act_fields
decreases-acts::act_fields l = 64 * exprs_nodes (pack_exprs (drop l.number l.parts.now)) + 32

abbrev pub decreases-numbers::selection : goal.decreases-numbers::selection
decreases-numbers::selection l = 64 * (1 + (expr_nodes l.condition.now + expr_nodes l.then.now + expr_nodes l.otherwise.now)) + 9

abbrev pub decreases-values::value_of_both : goal.decreases-values::value_of_both
decreases-values::value_of_both l = 64 * (1 + (expr_nodes l.first.now + expr_nodes l.second.now)) + 6

abbrev pub decreases-values::value_of_three : goal.decreases-values::value_of_three
decreases-values::value_of_three l = 64 * (1 + (expr_nodes l.first.now + expr_nodes l.second.now + expr_nodes l.third.now)) + 7

abbrev pub decreases-values::value_of_all : goal.decreases-values::value_of_all
decreases-values::value_of_all l = 64 * (1 + (expr_nodes l.first.now + expr_nodes l.second.now + expr_nodes l.third.now)) + 6

abbrev pub decreases-values::value_of_many : goal.decreases-values::value_of_many
decreases-values::value_of_many l = 64 * (1 + exprs_nodes (pack_exprs l.parts.now)) + 7

abbrev pub decreases-values::things : goal.decreases-values::things
decreases-values::things l = 64 * exprs_nodes (pack_exprs l.parts.now) + 16

abbrev pub decreases-turns::value_of_iterate : goal.decreases-turns::value_of_iterate
decreases-turns::value_of_iterate l = 64 * expr_nodes l.e.now + 7

abbrev pub decreases-turns::first_state : goal.decreases-turns::first_state
decreases-turns::first_state l = 64 * expr_nodes l.e.now + 16

abbrev pub decreases-turns::run_turns : goal.decreases-turns::run_turns
decreases-turns::run_turns l = 64 * expr_nodes l.e.now + 6

abbrev pub decreases-turns::run_turn : goal.decreases-turns::run_turn
decreases-turns::run_turn l = 64 * expr_nodes l.e.now + 5

abbrev pub decreases-appended::append_rows : goal.decreases-appended::append_rows
decreases-appended::append_rows l = 64 * body_nodes l.e.now + 38

abbrev pub decreases-appended::append_row : goal.decreases-appended::append_row
decreases-appended::append_row l = 64 * body_nodes l.e.now + 37

abbrev pub decreases-appended::append_body : goal.decreases-appended::append_body
decreases-appended::append_body l = 64 * expr_nodes l.body.now + 36

abbrev pub decreases-legs::eval_legs : goal.decreases-legs::eval_legs
decreases-legs::eval_legs l = 64 * legs_nodes (pack_legs l.legs.now) + 20

abbrev pub decreases-legs::eval_leg : goal.decreases-legs::eval_leg
decreases-legs::eval_leg l = 64 * leg_nodes (view_leg l.leg.now) + 19

abbrev pub decreases-legs::eval_strided : goal.decreases-legs::eval_strided
decreases-legs::eval_strided l = 64 * (expr_nodes l.e.now + expr_nodes l.start.now + expr_nodes l.end.now + expr_nodes l.stride.now) + 18

-- the builder has come so far

abbrev pub invariant-rows::walk_rows-loop-number : goal.invariant-rows::walk_rows-loop-number
invariant-rows::walk_rows-loop-number l = RangeOn l.e (env_of l.frame) (lists_of l.legs) l.from l.to (thing_of l.fn.builder) (thing_of l.own) l.number (thing_of l.builder)

abbrev pub invariant-appended::append_rows-loop-number : goal.invariant-appended::append_rows-loop-number
invariant-appended::append_rows-loop-number l = RangeOn l.e (env_of l.frame) (lists_of l.legs) l.from l.to (thing_of l.fn.builder) (thing_of l.fn.builder) l.number (thing_of l.builder)

abbrev pub invariant-rows::run_blocks-pieces : goal.invariant-rows::run_blocks-pieces
invariant-rows::run_blocks-pieces l = RangeOn l.e (env_of l.frame) (lists_of l.legs) l.from l.to (thing_of l.fn.builder) (thing_of l.own) l.reached (thing_of l.builder)

abbrev pub decreases-rows::run_blocks-pieces : goal.decreases-rows::run_blocks-pieces
decreases-rows::run_blocks-pieces l = l.to - l.reached

-- the turns that are left from the state make the whole

abbrev pub invariant-turns::run_turns-loop-turn : goal.invariant-turns::run_turns-loop-turn
invariant-turns::run_turns-loop-turn l = HoldsState l.e (env_of l.frame) (view_val l.state) × (turns_from l.e (env_of l.frame) turn_limit (view_val l.fn.start) ≡ turns_from l.e (env_of l.frame) (turn_limit - l._turn) (view_val l.state))

-- what was gathered so far and what is left make the whole

abbrev pub invariant-values::things-loop-part : goal.invariant-values::things-loop-part
invariant-values::things-loop-part l =
    AllRun l.in_place (pack_exprs (drop l.part-index l.part-items)) (env_of l.frame)
    × (eval_all (pack_exprs l.part-items) (env_of l.frame) ≡ map_out (before_things (all_of l.things.items)) (eval_all (pack_exprs (drop l.part-index l.part-items)) (env_of l.frame)))

abbrev pub invariant-legs::eval_legs-loop-leg : goal.invariant-legs::eval_legs-loop-leg
invariant-legs::eval_legs-loop-leg l =
    LegsRun l.in_place (pack_legs (map view_leg (drop l.leg-index l.leg-items))) (env_of l.frame)
    × AreVectors l.vectors.items
    × (eval_legs (pack_legs (map view_leg l.leg-items)) (env_of l.frame) ≡ map_out (λ rest. leg_lists l.vectors.items ++ rest) (eval_legs (pack_legs (map view_leg (drop l.leg-index l.leg-items))) (env_of l.frame)))
