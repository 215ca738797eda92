use Rattle.std.proofs.Common.{arith, rules}
use Rattle.std.proofs.lemmas.Fmt.{length-decimal-le}
use Rattle.weld_text_pieces.proofs.writing.cell.put_number.Goals as goal

pub write_digits-digits-requires : goal.write_digits-digits-requires
write_digits-digits-requires c = (omega (arith, length-decimal-le 19 c.unsigned_abs.result (omega arith) (omega arith) (omega arith)), search rules)

pub put_before-minus-requires : goal.put_before-minus-requires
put_before-minus-requires c = record { room = (omega (arith, length-decimal-le 19 c.unsigned_abs.result (omega arith) (omega arith) (omega arith)), omega arith) }

pub put_before-requires : goal.put_before-requires
put_before-requires c = record { room = (omega (arith, length-decimal-le 19 c.unsigned_abs.result (omega arith) (omega arith) (omega arith)), omega arith) }

pub put_before-requires-2 : goal.put_before-requires-2
put_before-requires-2 c = record { room = (omega (arith, length-decimal-le 19 c.unsigned_abs.result (omega arith) (omega arith) (omega arith)), omega arith) }

pub returns-then-number-lt0-clause-begin : goal.returns-then-number-lt0-clause-begin
returns-then-number-lt0-clause-begin c = let short = length-decimal-le 19 c.unsigned_abs.result (omega arith) (omega arith) (omega arith) in (omega arith, omega arith)

pub returns-clause-begin : goal.returns-clause-begin
returns-clause-begin c = let short = length-decimal-le 19 c.unsigned_abs.result (omega arith) (omega arith) (omega arith) in (omega arith, omega arith)
