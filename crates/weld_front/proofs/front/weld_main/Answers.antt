use Rattle.std.proofs.Common.{◌≡◌, ◌∙◌, ℕ, List, sym, subst}
use Rattle.std.specs.Io.KnownBytes.{Appends}
use Rattle.weld_front.specs.Answer.{AppendsFront, job_bytes}
use Rattle.weld_front.specs.declared.status.Status.TheVariants.{Done, Fault, Write}
use Rattle.weld_front.proofs.FrontLemmas.{asks_of, completed, delivered, delivered_front, no_write, status_of}
use Rattle.weld_front.proofs.front.weld_main.Goals as goal

pub returns-in-Ok-clause-done : goal.returns-in-Ok-clause-done
returns-in-Ok-clause-done g c = λ e.
    let o = c.in-Ok-Some.asked.options in
    let is : c.in-Ok.answer.status ≡ Done = status_of c.conclude-in-Ok.result c.in-Ok.answer.status Done c.conclude-in-Ok.ensures.status e (λ x. cc) in
    let wrote = (c.conclude-in-Ok.ensures.written (λ w. let no : Done ≡ Write = sym e ∙ w in cc)).0 in (
      o,
      asks_of _ c.in-Ok-Some.field-0 c.in-Ok-Some.asked c.in-Ok-Some.field-0-is c.in-Ok-Some.ensures.found,
      delivered o (job_bytes o (g.S.Source.left c.args.input.now)) (g.K.Sink.held c.args.output.now) (g.K.Sink.held c.conclude-in-Ok.new.output) c.in-Ok.answer.status Done c.in-Ok.answer.text is c.in-Ok.ensures.ok
          (subst (λ (x : List ℕ). Appends (g.K.Sink.held c.args.output.now) (g.K.Sink.held c.conclude-in-Ok.new.output) x) c.as_slice.ensures wrote),
    )

pub returns-in-Ok-clause-fault : goal.returns-in-Ok-clause-fault
returns-in-Ok-clause-fault g c = λ e.
    let o = c.in-Ok-Some.asked.options in
    let is : c.in-Ok.answer.status ≡ Fault = status_of c.conclude-in-Ok.result c.in-Ok.answer.status Fault c.conclude-in-Ok.ensures.status e (λ x. cc) in
    let wrote = (c.conclude-in-Ok.ensures.written (λ w. let no : Fault ≡ Write = sym e ∙ w in cc)).0 in (
      o,
      asks_of _ c.in-Ok-Some.field-0 c.in-Ok-Some.asked c.in-Ok-Some.field-0-is c.in-Ok-Some.ensures.found,
      delivered o (job_bytes o (g.S.Source.left c.args.input.now)) (g.K.Sink.held c.args.output.now) (g.K.Sink.held c.conclude-in-Ok.new.output) c.in-Ok.answer.status Fault c.in-Ok.answer.text is c.in-Ok.ensures.ok
          (subst (λ (x : List ℕ). Appends (g.K.Sink.held c.args.output.now) (g.K.Sink.held c.conclude-in-Ok.new.output) x) c.as_slice.ensures wrote),
    )

pub returns-in-Ok-clause-complete : goal.returns-in-Ok-clause-complete
returns-in-Ok-clause-complete g c = λ served reads writes.
    let o = c.in-Ok-Some.asked.options in (
      o,
      asks_of _ c.in-Ok-Some.field-0 c.in-Ok-Some.asked c.in-Ok-Some.field-0-is c.in-Ok-Some.ensures.found,
      completed o (job_bytes o (g.S.Source.left c.args.input.now)) c.conclude-in-Ok.result c.in-Ok.answer.status c.in-Ok.answer.text c.conclude-in-Ok.ensures.status
          (λ w. writes (c.conclude-in-Ok.ensures.write (no_write c.in-Ok.answer.status c.in-Ok.ensures.status) w).0) c.in-Ok.ensures.ok,
    )

pub returns-in-Ok-clause-write_front : goal.returns-in-Ok-clause-write_front
returns-in-Ok-clause-write_front g c = λ w served.
    let o = c.in-Ok-Some.asked.options in
    let front = (c.conclude-in-Ok.ensures.write (no_write c.in-Ok.answer.status c.in-Ok.ensures.status) w).1 in (
      o,
      asks_of _ c.in-Ok-Some.field-0 c.in-Ok-Some.asked c.in-Ok-Some.field-0-is c.in-Ok-Some.ensures.found,
      delivered_front o (job_bytes o (g.S.Source.left c.args.input.now)) (g.K.Sink.held c.args.output.now) (g.K.Sink.held c.conclude-in-Ok.new.output) c.in-Ok.answer.status c.in-Ok.answer.text c.in-Ok.ensures.ok
          (subst (λ (x : List ℕ). AppendsFront (g.K.Sink.held c.args.output.now) (g.K.Sink.held c.conclude-in-Ok.new.output) x) c.as_slice.ensures front),
    )
