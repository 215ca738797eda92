use Rattle.std.proofs.Common.{rules, ◌<◌, length, sym, ◌∙◌, arith}
use Rattle.weld_calls.specs.CallTypes.{row}
use Rattle.weld_calls.proofs.Places.{refuse_at, go_on_at}
use Rattle.weld_calls.proofs.misfit.misfit_of_row.Goals as goal

pub returns-then-not-wants : goal.returns-then-not-wants
returns-then-not-wants c =
    let within : c.loop-ty.ty-index < length c.args.types.now = search rules in
    refuse_at c.loop-ty.known c.loop-ty.place c.loop-ty.ty-index c.in-Some.pattern (row c.args.call) c.ty-item.result c.args.types.now _
    within c.ty-item.is (sym c.pattern.ensures ∙ c.in-Some.is) (sym c.wants.ensures ∙ c.if-not-wants.true) c.loop-ty.invariant.left

pub loop-ty-preserved : goal.loop-ty-preserved
loop-ty-preserved c =
    let within : c.loop-ty.ty-index < length c.args.types.now = search rules in
    record {
      count = (let e = c.loop-ty.invariant.count in omega (arith, e));
      left =
          go_on_at c.loop-ty.known c.kind_after-known.result c.loop-ty.place c.loop-ty.ty-index c.in-Some.pattern (row c.args.call) c.ty-item.result c.args.types.now _
          within c.ty-item.is (sym c.pattern.ensures ∙ c.in-Some.is) (sym c.wants.ensures ∙ c.if-not-wants.false) c.kind_after-known.ensures c.loop-ty.invariant.left;
    }
