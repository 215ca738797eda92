use Rattle.weld_front.proofs.laws.one_task.Goals as goal

pub returns : goal.returns
returns c = λ words o p h g. c.one_reading.ensures words o p h g
