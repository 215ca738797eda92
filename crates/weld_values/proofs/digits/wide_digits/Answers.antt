use Rattle.std.proofs.Common.{◌≡◌, ◌∷◌, true, sym, ◌∙◌}
use Rattle.weld_values.specs.Tokens.{value_after, digit_run, is_digit}
use Rattle.weld_values.proofs.Numbers.{capped_step, after_step}
use Rattle.weld_values.proofs.digits.wide_digits.Goals as goal

pub loop-first-preserved : goal.loop-first-preserved
loop-first-preserved c =
    let parts : c.loop-first.rest.now ≡ c.in-Some.first.now ∷ c.in-Some.more.now = c.in-Some.ensures.cases.0 in
    let digit : is_digit c.in-Some.first.now ≡ true = sym c.is_digit.ensures ∙ c.if-not-is_digit.false in
    record {
      value = capped_step c.in-Some.first.now c.loop-first.rest.now c.in-Some.more.now c.loop-first.value c.appended-value.result (value_after c.args.before (digit_run c.args.text.now)) parts digit c.appended-value.ensures.exact c.appended-value.ensures.great c.loop-first.invariant.value;
      small = c.appended-value.ensures.small c.loop-first.invariant.small;
      after = after_step c.in-Some.first.now c.loop-first.rest.now c.in-Some.more.now parts digit ∙ c.loop-first.invariant.after;
    }
