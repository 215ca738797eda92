use Rattle.weld_eval_forms.proofs.Rows.{field_within}
use Rattle.weld_eval_forms.proofs.legs.fields_at.Goals as goal

pub element_in-requires-clause-within : goal.element_in-requires-clause-within
element_in-requires-clause-within c = field_within c.args.legs.now c.args.number c.loop-place.place c.index-legs-place.result c.requires.reach c.loop-place-test.true c.index-legs-place.is
