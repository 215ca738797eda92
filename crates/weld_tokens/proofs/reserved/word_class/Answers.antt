use Rattle.weld_tokens.proofs.Led.{class_led, class_nil}
use Rattle.weld_tokens.proofs.reserved.word_class.Goals as goal

pub returns-in-None : goal.returns-in-None
returns-in-None c = class_nil c.args.word.now c.in-None.ensures.cases

pub returns-in-Some : goal.returns-in-Some
returns-in-Some c = class_led c.args.word.now c.in-Some.first.now c.in-Some.field-0-1.now c.led_by.result.now c.written_so.result c.reserved_or_name.result c.in-Some.ensures.cases.0 c.led_by.ensures c.written_so.ensures c.reserved_or_name.ensures
