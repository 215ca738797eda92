use Rattle.weld_rewriting.proofs.Falling.{never_heavier, lighter, same}
use Rattle.weld_rewriting.proofs.rounds.laws.sweeps_fall.Goals as goal

pub returns : goal.returns
returns c = record { never_heavier = never_heavier; lighter = lighter; same = λ r e h. (same r e h).0; still = λ r e h. (same r e h).1 }
