use Rattle.std.proofs.Common.{◌≡◌, ◌+◌, length}
use Rattle.weld_eval.specs.ThingView.{things_of}
use Rattle.weld_eval_forms.specs.FormTakes.{all_of, before_things, pack_things}
use Rattle.weld_eval_forms.proofs.several.fields_of.Given as goal

abbrev pub invariant-loop : goal.invariant-loop
invariant-loop l =
    (before_things (all_of l.left.items) (things_of l.fields) ≡ pack_things (all_of l.fn.things.items))
    × (length l.left.items + l.counter ≡ length l.fn.things.items)
