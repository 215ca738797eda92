use Rattle.std.proofs.Common.{subst, ◌∙◌}
use Rattle.weld_blocks.specs.Works.{AreChosen}
use Rattle.weld_blocks.proofs.WorkLemmas.{chosen_into, whole_array}
use Rattle.weld_blocks.proofs.choices.choose.Goals as goal

pub returns : goal.returns
returns c =
    let all : AreChosen c.deref.result.now c.deref-2.result.now c.deref-3.result.now c.choose_all.new.items c.args.count =
    subst (AreChosen c.deref.result.now c.deref-2.result.now c.deref-3.result.now c.choose_all.new.items) (c.deref_mut.ensures.len ∙ c.in-Ok.ensures.len) c.choose_all.ensures in
    chosen_into c.args.condition.now c.args.then.now c.args.otherwise.now c.deref.result.now c.deref-2.result.now c.deref-3.result.now c.choose_all.new.items c.args.count c.requires.truths c.requires.same
    c.deref.ensures.value c.deref-2.ensures.value c.deref-3.ensures.value all c.numbers_of.result c.numbers_of.ensures.kind
    (c.numbers_of.ensures.items ∙ whole_array c.in-Ok.items.len c.choose_all.new.items _ (c.choose_all.ensures.long ∙ c.deref_mut.ensures.len))
