use Rattle.weld_inputs.proofs.Claims.{both_read, gave, stopped, first_stops, later_stops}
use Rattle.weld_inputs.proofs.sharing.both.Goals as goal

pub returns-in-Ok-back : goal.returns-in-Ok-back
returns-in-Ok-back c = λ cs ds first second e f b.
    both_read cs ds c.in-Ok.values c.in-Ok-back.more first c.append.result
    (gave cs first c.args.front c.in-Ok.values c.in-Ok.is f) (gave ds second c.args.back c.in-Ok-back.more c.in-Ok-back.is b)
    c.append.ensures.values c.append.ensures.memory

pub returns-in-Err-back : goal.returns-in-Err-back
returns-in-Err-back c = λ cs ds first second e f b. (
  tt,
  later_stops cs ds c.in-Ok.values first second c.in-Err-back.stop e (gave cs first c.args.front c.in-Ok.values c.in-Ok.is f)
      (stopped ds second c.args.back c.in-Err-back.stop c.in-Err-back.is b),
)

pub returns-in-Err : goal.returns-in-Err
returns-in-Err c = λ cs ds first second e f b. (tt, first_stops cs ds first c.in-Err.stop (stopped cs first c.args.front c.in-Err.stop c.in-Err.is f))
