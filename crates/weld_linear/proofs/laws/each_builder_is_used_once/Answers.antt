use Rattle.std.specs.Prelude.{[]}
use Rattle.weld_linear.proofs.Once.{taken_uses, each_once}
use Rattle.weld_linear.proofs.laws.each_builder_is_used_once.Goals as goal

pub returns : goal.returns
returns c = record {
  expression = taken_uses;
  program = λ p e. let kept = (c.the_walk_is_linear_use.ensures p).0 e in each_once p.body [] kept.0 kept.1;
  accepted = λ p a. each_once p.body [] a.keeps a.splits;
}
