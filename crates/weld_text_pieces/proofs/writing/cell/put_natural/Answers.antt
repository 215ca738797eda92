use Rattle.std.proofs.Common.{arith, rules}
use Rattle.std.proofs.lemmas.Fmt.{length-decimal-le}
use Rattle.weld_text_pieces.proofs.writing.cell.put_natural.Goals as goal

pub write_digits-digits-requires : goal.write_digits-digits-requires
write_digits-digits-requires c = (omega (arith, length-decimal-le 20 c.args.number (omega arith) (omega arith) (omega arith)), search rules)

pub put_before-requires : goal.put_before-requires
put_before-requires c = record { room = (omega (arith, length-decimal-le 20 c.args.number (omega arith) (omega arith) (omega arith)), omega arith) }

pub returns-clause-begin : goal.returns-clause-begin
returns-clause-begin c = let short = length-decimal-le 20 c.args.number (omega arith) (omega arith) (omega arith) in (omega arith, omega arith)
