use Rattle.std.proofs.Common.{sym, ◌+◌, ◌*◌, ◌^◌, ◌<◌, take, arith, subst}
use Rattle.weld_values.specs.Tokens.{digit_run}
use Rattle.weld_values.proofs.Eights.{run_digits, written, written_small, run_short}
use Rattle.weld_values.proofs.digits.word_digits.Goals as goal

pub returns-clause-value : goal.returns-clause-value
returns-clause-value c =
    let bytes = take 8 c.args.text.now in
    let word = c.moved_digits-digits.ensures bytes c.first_word.ensures (sym c.count_digits-count.ensures) in
    written (digit_run bytes) c.args.before c.count_digits-count.result c.moved_digits-digits.result c.joined_digits.result (run_digits bytes) (sym c.count_digits-count.ensures) (omega (arith, c.count_digits-count.ensures, run_short c.args.text.now)) word c.joined_digits.ensures

pub returns-clause-small : goal.returns-clause-small
returns-clause-small c =
    let run = digit_run (take 8 c.args.text.now) in
    subst (λ n. n < 10 ^ 8 * (c.args.before + 1)) (sym (returns-clause-value c)) (written_small 8 run c.args.before (run_digits (take 8 c.args.text.now)) (run_short c.args.text.now))

pub overflow_add-result : goal.overflow_add-result
overflow_add-result c =
    let bytes = take 8 c.args.text.now in
    let word = c.moved_digits-digits.ensures bytes c.first_word.ensures (sym c.count_digits-count.ensures) in
    let value = written (digit_run bytes) c.args.before c.count_digits-count.result c.moved_digits-digits.result c.joined_digits.result (run_digits bytes) (sym c.count_digits-count.ensures) (omega (arith, c.count_digits-count.ensures, run_short c.args.text.now)) word c.joined_digits.ensures in
    let few = written_small 8 (digit_run bytes) c.args.before (run_digits bytes) (run_short c.args.text.now) in
    omega (arith, value, few, c.requires.small)
