use Rattle.weld_acts.proofs.InPlace.{in_place}
use Rattle.weld_acts.proofs.RowActs.{acts_of_row}
use Rattle.weld_acts.proofs.laws.in_place_is_the_meaning.Goals as goal

pub returns : goal.returns
returns c = record {
  expression = λ e b p names t env before s formed fits typed builder has acts stands agree. in_place e b p env before s names t acts stands agree (record { formed = formed; fits = fits }) typed builder has;
  row = acts_of_row;
}
