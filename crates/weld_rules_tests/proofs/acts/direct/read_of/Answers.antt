use Rattle.std.proofs.Common.{arith}
use Rattle.weld_rules_tests.proofs.acts.direct.read_of.Goals as goal

pub read_program-requires : goal.read_program-requires
read_program-requires c = record {
  classes = c.classes_of_tokens.ensures c.args.text.now c.args.tokens.now c.requires;
  few = omega (arith, c.if-tokens-gt262144.false);
}
