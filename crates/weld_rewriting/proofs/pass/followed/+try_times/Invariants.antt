use Rattle.weld_rewriting.proofs.pass.followed.+try_times.Given as goal

-- the measure: how often it may still be tried
abbrev pub decreases-try_times : goal.decreases-try_times
decreases-try_times g l = l.times
