use Rattle.std.proofs.Common.{◌≡◌, ap, arith}
use Rattle.weld_reduce.specs.States.{State}
use Rattle.weld_reduce.proofs.written.spell_type.Goals as goal

pub run_steps-requires : goal.run_steps-requires
run_steps-requires c =
    let first : c.new-state.result.next ≡ 0 = ap (λ (s : State). s.next) c.new-state.ensures in
    record { room = omega (arith, first, c.binders_are_few.ensures.none c.args.tokens.now c.args.steps.now c.requires) }
