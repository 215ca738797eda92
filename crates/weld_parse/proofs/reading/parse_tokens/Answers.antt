use Rattle.std.proofs.Common.{sym, ◌∙◌, ap, arith}
use Rattle.weld_parse.specs.Findings.{place_at}
use Rattle.weld_parse.proofs.Order.{few_tokens}
use Rattle.weld_parse.proofs.Answering.{by_size, by_break, by_tree, ok_program, err_judged, ranged_refused, unread_broken, unread_range}
use Rattle.weld_parse.proofs.reading.parse_tokens.Goals as goal

pub returns-then-has_too_many_tokens-clause-refused : goal.returns-then-has_too_many_tokens-clause-refused
returns-then-has_too_many_tokens-clause-refused c =
    λ _. by_size c.derived_or_broken.ensures c.programs_are_derived.ensures.spelled c.args.text.now c.args.tokens.now c.requires.fits c.requires.tokens_of (sym c.has_too_many_tokens.ensures ∙ c.if-has_too_many_tokens.true)

pub returns-in-Ok-clause-program : goal.returns-in-Ok-clause-program
returns-in-Ok-clause-program c = ok_program c.judge.result c.args.text.now c.args.tokens.now c.requires.fits c.requires.tokens_of c.judge.ensures.program

pub returns-in-Ok-clause-refused : goal.returns-in-Ok-clause-refused
returns-in-Ok-clause-refused c = err_judged c.judge.result c.args.text.now c.args.tokens.now c.requires.fits c.requires.tokens_of c.judge.ensures.refused

pub returns-in-Err-Broken-clause-refused : goal.returns-in-Err-Broken-clause-refused
returns-in-Err-Broken-clause-refused c =
    λ _. by_break c.args.text.now c.args.tokens.now c.in-Err-Broken.number c.place_at.result c.requires.fits c.requires.tokens_of (sym c.has_too_many_tokens.ensures ∙ c.if-has_too_many_tokens.false)
    (unread_broken _ _ _ c.in-Err-Broken.field-0-is c.in-Err-Broken.ensures.unread)
    (c.place_at.ensures ∙ ap (place_at c.args.tokens.now c.in-Err-Broken.number) c.end_of.ensures)

pub returns-in-Err-OutOfRange-clause-refused : goal.returns-in-Err-OutOfRange-clause-refused
returns-in-Err-OutOfRange-clause-refused c =
    let both = unread_range _ _ _ c.in-Err-OutOfRange.field-0-is c.in-Err-OutOfRange.ensures.unread in
    λ _. by_tree c.args.text.now c.args.tokens.now _ c.requires.fits c.requires.tokens_of
    (ranged_refused c.numbers_by_the_tree.ensures c.programs_are_derived.ensures.spelled c.args.tokens.now c.in-Err-OutOfRange.place (sym c.has_too_many_tokens.ensures ∙ c.if-has_too_many_tokens.false) both.0 both.1)

pub read_program-requires : goal.read_program-requires
read_program-requires c = record {
  classes = c.classes_of_tokens.ensures c.args.text.now c.args.tokens.now c.requires.tokens_of;
  few = omega (arith, few_tokens c.args.tokens.now (sym c.has_too_many_tokens.ensures ∙ c.if-has_too_many_tokens.false));
}
