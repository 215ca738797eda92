use Rattle.weld_eval.specs.FrameView.{env_of}
use Rattle.weld_turns.specs.Scopes.{view_scope}
use Rattle.weld_turns.specs.declared.code.Shape.TheVariants.{Fields}
use Rattle.weld_turns.proofs.Fillings.{named_apart, named_ok}
use Rattle.weld_turns.proofs.fill.structs.fill_named.Goals as goal

pub copied-requires : goal.copied-requires
copied-requires c = λ less. named_apart c.args.e.now (Fields c.args.count) (view_scope c.args.scope.now) c.in-Some.from c.args.first c.in-Some.ensures c.requires

pub returns-in-Some : goal.returns-in-Some
returns-in-Some c = named_ok c.copied.result (Fields c.args.count) (view_scope c.args.scope.now) (env_of c.args.frame.now) c.args.e.now c.in-Some.from c.args.first c.in-Some.ensures c.copied.ensures
