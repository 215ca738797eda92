use Rattle.std.proofs.Common.{◌≡◌, ap, arith}
use Rattle.weld_grammar.specs.declared.rule.Rule.TheVariants.{Program}
use Rattle.weld_reduce.specs.States.{State}
use Rattle.weld_reduce.proofs.spelling.spell.Goals as goal

pub run_steps-requires : goal.run_steps-requires
run_steps-requires c =
    let first : c.new-state.result.next ≡ 0 = ap (λ (s : State). s.next) c.new-state.ensures in
    record { room = omega (arith, first, c.requires.few, c.binders_are_few.ensures.few Program c.args.tokens.now c.args.steps.now c.requires.derived) }
