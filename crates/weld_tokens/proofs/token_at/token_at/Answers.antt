use Rattle.std.proofs.Common.{sym, ap, ◌∙◌, arith}
use Rattle.std.proofs.lemmas.Grind.{common_steps}
use Rattle.weld_tokens.specs.Tokens.{longest_token}
use Rattle.weld_tokens.specs.Words.{word_class}
use Rattle.weld_tokens.proofs.Longest.{longest-nil, longest-word-of, longest-number-of}
use Rattle.weld_tokens.proofs.token_at.token_at.Goals as goal

pub returns-in_default-clause-none : goal.returns-in_default-clause-none
returns-in_default-clause-none c = ap longest_token c.in_default.ensures.none ∙ longest-nil

pub returns-then-is_letter-clause-some : goal.returns-then-is_letter-clause-some
returns-then-is_letter-clause-some c =
    longest-word-of c.args.text.now c.in-Some.first c.in-Some.rest.now c.word_len-count.result c.word_class.result
    c.in-Some.ensures.some (sym c.is_letter.ensures ∙ c.if-is_letter.true) c.word_len-count.ensures.value
    (c.word_class.ensures ∙ ap word_class (grind (arith, common_steps)))

pub returns-then-is_digit-clause-some : goal.returns-then-is_digit-clause-some
returns-then-is_digit-clause-some c =
    longest-number-of c.args.text.now c.in-Some.first c.in-Some.rest.now c.number_end-count.result
    c.in-Some.ensures.some (sym c.is_letter.ensures ∙ c.if-is_letter.false) (sym c.is_digit.ensures ∙ c.if-is_digit.true) c.number_end-count.ensures.value
