use Rattle.std.proofs.Common.{◌≡◌, ◌++◌, true}
use Rattle.weld_eval_forms.specs.FormTakes.{all_of, all_are_values, values_among}
use Rattle.weld_eval_forms.proofs.several.values_of.Given as goal

abbrev pub invariant-loop-x : goal.invariant-loop-x
invariant-loop-x l =
    (goal.iterator-loop-x).can_next l.x-iterator
    × (goal.iterator-loop-x).is_finite l.x-iterator
    × (l.vals ++ values_among (all_of l.x-iterator.rest.items) ≡ values_among (all_of l.fn.things.items))
    × (all_are_values (all_of l.x-iterator.rest.items) ≡ true)
