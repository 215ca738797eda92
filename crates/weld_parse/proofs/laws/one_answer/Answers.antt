use Rattle.weld_parse.proofs.OneAnswer.{one_parse, one_refusal, never_both}
use Rattle.weld_parse.proofs.laws.one_answer.Goals as goal

pub returns-clause-program : goal.returns-clause-program
returns-clause-program c =
    λ text. one_parse text (record {
      one_list = c.one_reading.ensures.tokens text;
      one_wrong = c.one_reading.ensures.wrong text;
      not_both = c.one_reading.ensures.not_both text;
      unbroken = c.one_break.ensures.derived;
      one_break = c.one_break.ensures.once;
      one_tree = c.one_tree_of_tokens.ensures;
      one_program = c.one_program.ensures;
      are_derived = c.programs_are_derived.ensures.derived;
    })

pub returns-clause-refusal : goal.returns-clause-refusal
returns-clause-refusal c =
    λ text. one_refusal text (record {
      one_list = c.one_reading.ensures.tokens text;
      one_wrong = c.one_reading.ensures.wrong text;
      not_both = c.one_reading.ensures.not_both text;
      unbroken = c.one_break.ensures.derived;
      one_break = c.one_break.ensures.once;
      one_tree = c.one_tree_of_tokens.ensures;
      one_program = c.one_program.ensures;
      are_derived = c.programs_are_derived.ensures.derived;
    })

pub returns-clause-not_both : goal.returns-clause-not_both
returns-clause-not_both c =
    λ text. never_both text (record {
      one_list = c.one_reading.ensures.tokens text;
      one_wrong = c.one_reading.ensures.wrong text;
      not_both = c.one_reading.ensures.not_both text;
      unbroken = c.one_break.ensures.derived;
      one_break = c.one_break.ensures.once;
      one_tree = c.one_tree_of_tokens.ensures;
      one_program = c.one_program.ensures;
      are_derived = c.programs_are_derived.ensures.derived;
    })
