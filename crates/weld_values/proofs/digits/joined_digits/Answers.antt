use Rattle.weld_values.proofs.Eights.{joined}
use Rattle.weld_values.proofs.digits.joined_digits.Goals as goal

pub returns : goal.returns
returns c = λ a b d e f g h k small word. joined a b d e f g h k c.args.word small word
