use Rattle.std.proofs.Common.{◌≡◌, ◌+◌, ◌<◌, length, arith, sym, ap, ◌∙◌, Some}
use Rattle.weld_values.specs.Tokens.{value_after, digit_run}
use Rattle.weld_values.proofs.Numbers.{no_digit, numeral_is, digits_count}
use Rattle.weld_values.proofs.tokens.numeral.Goals as goal

pub returns-then-rest-text-clause-none : goal.returns-then-rest-text-clause-none
returns-then-rest-text-clause-none c =
    let count : length c.leading_digits-value.result.1.now + length (digit_run c.args.text.now) ≡ length c.args.text.now = ap (λ t. length t + length (digit_run c.args.text.now)) c.leading_digits-value.ensures.rest ∙ digits_count c.args.text.now in
    no_digit c.args.text.now (omega arith)

pub returns-clause-found : goal.returns-clause-found
returns-clause-found c =
    let count : length c.leading_digits-value.result.1.now + length (digit_run c.args.text.now) ≡ length c.args.text.now = ap (λ t. length t + length (digit_run c.args.text.now)) c.leading_digits-value.ensures.rest ∙ digits_count c.args.text.now in
    let long : 0 < length (digit_run c.args.text.now) = omega arith in
    (value_after 0 (digit_run c.args.text.now), numeral_is c.args.text.now long ∙ ap (λ t. Some (value_after 0 (digit_run c.args.text.now), t)) (sym c.leading_digits-value.ensures.rest), c.leading_digits-value.ensures.value)

pub returns-clause-less : goal.returns-clause-less
returns-clause-less c =
    let count : length c.leading_digits-value.result.1.now + length (digit_run c.args.text.now) ≡ length c.args.text.now = ap (λ t. length t + length (digit_run c.args.text.now)) c.leading_digits-value.ensures.rest ∙ digits_count c.args.text.now in
    omega arith
