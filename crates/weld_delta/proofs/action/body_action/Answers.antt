use Rattle.weld_delta.proofs.action.body_action.Goals as goal

pub returns-clause-found : goal.returns-clause-found
returns-clause-found c = c.loops_join_in_order.ensures.found c.args.p.now c.args.at.0 c.program-program.ensures.accepted c.requires

pub returns-clause-law : goal.returns-clause-law
returns-clause-law c = λ l h. c.loops_join_in_order.ensures.law c.args.p.now c.args.at.0 l c.program-program.ensures.accepted h
