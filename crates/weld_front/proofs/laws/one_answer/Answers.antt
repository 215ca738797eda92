use Rattle.weld_front.proofs.OneAnswer.{answers_one}
use Rattle.weld_front.proofs.laws.one_answer.Goals as goal

pub returns-clause-status : goal.returns-clause-status
returns-clause-status c = λ o job s t x y h g.
    (answers_one
    (record {
      one_program = c.one_answer.ensures.program;
      not_both = c.one_answer.ensures.not_both;
      one_refusal = c.one_answer.ensures.refusal;
    })
    (record {
      one_list = c.one_answer-2.ensures.arguments;
      not_both = c.one_answer-2.ensures.fits;
      one_code = c.one_answer-2.ensures.unfit;
    })
    (record {
      one_script = c.one_script.ensures.script;
      one_fault = c.one_script.ensures.fault;
      script_or_fault = c.one_script.ensures.not_both;
      one_list = c.one_answer-3.ensures.inputs;
      not_both = c.one_answer-3.ensures.fits;
      one_code = c.one_answer-3.ensures.unfit;
    }) o job s t x y h g).0

pub returns-clause-text : goal.returns-clause-text
returns-clause-text c = λ o job s t x y one h g.
    (answers_one
    (record {
      one_program = c.one_answer.ensures.program;
      not_both = c.one_answer.ensures.not_both;
      one_refusal = c.one_answer.ensures.refusal;
    })
    (record {
      one_list = c.one_answer-2.ensures.arguments;
      not_both = c.one_answer-2.ensures.fits;
      one_code = c.one_answer-2.ensures.unfit;
    })
    (record {
      one_script = c.one_script.ensures.script;
      one_fault = c.one_script.ensures.fault;
      script_or_fault = c.one_script.ensures.not_both;
      one_list = c.one_answer-3.ensures.inputs;
      not_both = c.one_answer-3.ensures.fits;
      one_code = c.one_answer-3.ensures.unfit;
    }) o job s t x y h g).1 one
