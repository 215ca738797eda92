use Rattle.weld_eval_forms.proofs.Rows.{legs_reach}
use Rattle.weld_eval_forms.proofs.legs.row_at.Goals as goal

pub fields_at-requires-clause-reach : goal.fields_at-requires-clause-reach
fields_at-requires-clause-reach c = legs_reach c.args.legs.now c.args.number c.requires.there
