-- No key repeats in a scalar.
use Rattle.std.proofs.Common.{subst}
use Rattle.weld_tree.specs.TypeTree.{scalar}
use Rattle.weld_values.specs.declared.flaw.Flaw.{Flaw}
use Rattle.weld_values.specs.Grammar.{Found, scalar_at}
use Rattle.weld_values.specs.Judging.{IsRead}
use Rattle.weld_values.proofs.Readings.{plain_no_repeat}
use Rattle.weld_values.proofs.whole.judged.Goals as goal

pub returns-in-Repeat-clause-fault : goal.returns-in-Repeat-clause-fault
returns-in-Repeat-clause-fault g c = λ text rest read ends.
    let repeats = subst (λ (f : Flaw). IsRead (Found (scalar_at g.T.Cell.kind)) text f (g.T.Cell.value c.args.value) rest) c.in-Repeat.is read in
    absurd (plain_no_repeat (scalar g.T.Cell.kind) tt repeats.raw text rest repeats.at repeats.judged.1)
