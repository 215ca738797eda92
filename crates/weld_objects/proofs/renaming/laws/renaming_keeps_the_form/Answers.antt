use Rattle.weld_objects.proofs.Trees.{loops_stay, bound_move, scoped_after, made_after}
use Rattle.weld_objects.proofs.renaming.laws.renaming_keeps_the_form.Goals as goal

pub returns : goal.returns
returns c = record { loops = loops_stay; binders = bound_move; scoped = scoped_after; well_made = made_after }
