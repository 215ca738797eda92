use Rattle.std.proofs.Common.{rules, arith, sym, ◌∙◌}
use Rattle.weld_read_script.specs.Names.{resolved}
use Rattle.weld_read_script.proofs.RequestsReading.{behind_nothing, read_more, read_none, read_all}
use Rattle.weld_read_script.proofs.requests.names.resolve.Goals as goal

pub loop-argument-init : goal.loop-argument-init
loop-argument-init c = search (rules, behind_nothing)

pub returns-in_default : goal.returns-in_default
returns-in_default c =
    read_none (resolved c.args.bindings.now) c.args.arguments.now c.loop-argument.argument-index c.argument-item.result c.loop-argument.list (omega arith) c.argument-item.is (sym c.in_default.is ∙ c.in_ok-resolved.ensures) c.loop-argument.invariant

pub loop-argument-preserved : goal.loop-argument-preserved
loop-argument-preserved c =
    read_more (resolved c.args.bindings.now) c.args.arguments.now c.loop-argument.argument-index c.argument-item.result c.in-Some.resolved c.loop-argument.list c.push.new.self (omega arith) c.argument-item.is (sym c.in-Some.is ∙ c.in_ok-resolved.ensures) c.in_ok-push.ensures.ok c.loop-argument.invariant

pub returns : goal.returns
returns c = read_all (resolved c.args.bindings.now) c.args.arguments.now c.loop-argument.argument-index c.loop-argument.list (omega arith) c.loop-argument.invariant
