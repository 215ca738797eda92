use Rattle.std.proofs.Common.{rules, arith, sym, ◌∙◌}
use Rattle.weld_read_script.specs.Requests.{object_in}
use Rattle.weld_read_script.proofs.RequestsReading.{behind_nothing, read_more, read_none, read_all}
use Rattle.weld_read_script.proofs.requests.request.all_objects.Goals as goal

pub loop-argument-init : goal.loop-argument-init
loop-argument-init c = search (rules, behind_nothing)

pub returns-in_default : goal.returns-in_default
returns-in_default c =
    read_none object_in c.args.arguments.now c.loop-argument.argument-index c.argument-item.result c.loop-argument.objects (omega arith) c.argument-item.is (sym c.in_default.is ∙ c.object_in.ensures) c.loop-argument.invariant

pub loop-argument-preserved : goal.loop-argument-preserved
loop-argument-preserved c =
    read_more object_in c.args.arguments.now c.loop-argument.argument-index c.argument-item.result c.in-Some.object c.loop-argument.objects c.push.new.self (omega arith) c.argument-item.is (sym c.in-Some.is ∙ c.object_in.ensures) c.in_ok-push.ensures.ok c.loop-argument.invariant

pub returns : goal.returns
returns c = read_all object_in c.args.arguments.now c.loop-argument.argument-index c.loop-argument.objects (omega arith) c.loop-argument.invariant
