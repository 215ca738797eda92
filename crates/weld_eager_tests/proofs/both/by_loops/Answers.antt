use Rattle.std.proofs.Common.{ap, ◌∙◌}
use Rattle.weld_calls.specs.CallPrograms.{fragment}
use Rattle.weld_eager_tests.proofs.Fitting.{of_the_answer}
use Rattle.weld_eager_tests.proofs.both.by_loops.Goals as goal

pub written-requires : goal.written-requires
written-requires c =
    let given = c.args.given.now in
    of_the_answer c.eager-outcome.result c.args.call given.types given.values c.in_ok-program.program c.in_ok-ty.ty c.each_call_means_its_list.ensures c.typed_programs_are_never_stuck.ensures.program
    c.requires.operator c.requires.fits c.requires.fit (c.in_ok-program.ensures ∙ ap (fragment c.args.call) c.as_slice.ensures.value) c.in_ok-ty.ensures c.eager-outcome.ensures
