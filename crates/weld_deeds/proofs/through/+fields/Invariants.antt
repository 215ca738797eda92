use Rattle.weld_deeds.proofs.FieldLemmas.{fields_count, fields_within}
use Rattle.weld_deeds.proofs.through.+fields.Given as goal

abbrev pub decreases-do_fields : goal.decreases-do_fields
decreases-do_fields l = fields_count l.deeds.now

abbrev pub decreases-do_calm : goal.decreases-do_calm
decreases-do_calm l = fields_within l.deed.now
