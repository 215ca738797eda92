use Rattle.weld_meaning.proofs.Putting.{put_law}
use Rattle.weld_meaning.proofs.laws.what_is_put_in_stands_for_the_name.Goals as goal

pub returns : goal.returns
returns c = put_law
