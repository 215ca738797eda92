use Rattle.std.proofs.Common.{refl}
use Rattle.weld_tree.specs.ExprTree.{iterate}
use Rattle.weld_meaning.specs.Thing.{plain}
use Rattle.weld_eval_plain.proofs.Rows.{rows_are_all}
use Rattle.weld_eval_plain.proofs.Turns.{turns_start}
use Rattle.weld_eval_plain.proofs.laws.rows_and_turns_are_the_meaning.Goals as goal

pub returns : goal.returns
returns c = record {
  rows = rows_are_all;
  turns = λ a e b f env v q. turns_start a e b f env (iterate a e b f) (plain v) v refl q refl;
}
