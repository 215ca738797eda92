use Rattle.std.proofs.Common.{length, take, ap, sym, subst, ◌∙◌}
use Rattle.weld_builders.specs.Range.{AllInRange}
use Rattle.weld_eval.specs.ThingView.{thing_of}
use Rattle.weld_deeds.proofs.ManyPuts.{all_in_range}
use Rattle.weld_deeds.proofs.ChosenLemmas.{chosen_in_range, as_many, chosen_put}
use Rattle.weld_deeds.proofs.chosen.put_chosen.Goals as goal

pub merge_pairs-requires-clause-keys : goal.merge_pairs-requires-clause-keys
merge_pairs-requires-clause-keys c =
    subst (AllInRange c.args.keys.now.kind) (sym (c.deref.ensures.value ∙ c.in-Ok.ensures))
    (chosen_in_range c.args.keys.now.kind (take c.args.count c.args.truths.now.items.items) _ (all_in_range c.args.keys.now.kind c.args.keys.now.items.items c.args.count c.requires.narrow_key c.args.keys.now.in_range))

pub merge_pairs-requires-clause-numbers : goal.merge_pairs-requires-clause-numbers
merge_pairs-requires-clause-numbers c =
    subst (AllInRange c.args.numbers.now.kind) (sym (c.deref-in-Built.ensures.value ∙ c.in-Ok-chosen.ensures))
    (chosen_in_range c.args.numbers.now.kind (take c.args.count c.args.truths.now.items.items) _ (all_in_range c.args.numbers.now.kind c.args.numbers.now.items.items c.args.count c.requires.narrow c.args.numbers.now.in_range))

pub merge_pairs-requires-clause-count : goal.merge_pairs-requires-clause-count
merge_pairs-requires-clause-count c =
    ap length (c.deref.ensures.value ∙ c.in-Ok.ensures)
    ∙ as_many c.args.count c.args.truths.now.items.items c.args.keys.now.items.items c.args.numbers.now.items.items c.requires.all_keys c.requires.all_numbers
    ∙ sym (ap length (c.deref-in-Built.ensures.value ∙ c.in-Ok-chosen.ensures))

pub returns : goal.returns
returns c =
    chosen_put c.merge_pairs.result c.args.truths.now c.args.keys.now c.args.numbers.now c.args.count (thing_of c.args.builder.now) c.in-Built.built c.merge_pairs.new.self c.deref.result.now c.deref-in-Built.result.now
    c.requires.narrow_key c.requires.narrow c.requires.all_truths c.requires.all_keys c.requires.all_numbers (ap thing_of c.in-Built.is)
    (c.deref.ensures.value ∙ c.in-Ok.ensures) (c.deref-in-Built.ensures.value ∙ c.in-Ok-chosen.ensures) c.requires.fits c.merge_pairs.ensures
