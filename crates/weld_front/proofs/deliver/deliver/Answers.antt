use Rattle.weld_front.proofs.Sinks.{appends_keeps, appends_all}
use Rattle.weld_front.proofs.deliver.deliver.Goals as goal

pub returns-clause-front : goal.returns-clause-front
returns-clause-front g c =
    let held = g.K.Sink.held in
    appends_all (held c.args.output.now) (held c.flush.new.self) c.args.text.now c.flush.result
    (appends_keeps (held c.args.output.now) (held c.write_whole.new.output) (held c.flush.new.self) c.args.text.now c.in_ok-write_whole.ensures.ok c.flush.ensures.held_stays)
