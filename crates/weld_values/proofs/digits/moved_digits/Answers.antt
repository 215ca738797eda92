use Rattle.std.proofs.Common.{◌∙◌, ap}
use Rattle.weld_values.specs.Tokens.{digit_run, after_digits}
use Rattle.weld_values.specs.Eights.{word_of}
use Rattle.weld_values.proofs.Eights.{run_digits, parts, moved_run}
use Rattle.weld_values.proofs.digits.moved_digits.Goals as goal

pub returns : goal.returns
returns c = λ bytes word count. moved_run (digit_run bytes) (after_digits bytes) c.args.word c.args.count (run_digits bytes) count c.requires (word ∙ ap word_of (parts bytes))
