use Rattle.std.proofs.Common.{rules, arith, sym, ◌∙◌}
use Rattle.weld_read_script.specs.Names.{object_of}
use Rattle.weld_read_script.proofs.RequestsReading.{behind_nothing, read_more, read_none, read_all}
use Rattle.weld_read_script.proofs.requests.names.objects_of.Goals as goal

pub loop-name-init : goal.loop-name-init
loop-name-init c = search (rules, behind_nothing)

pub returns-in_default : goal.returns-in_default
returns-in_default c =
    read_none (λ name. object_of name c.args.bindings.now) c.args.names.now c.loop-name.name-index c.name-item.result c.loop-name.objects (omega arith) c.name-item.is (sym c.in_default.is ∙ c.named.ensures) c.loop-name.invariant

pub loop-name-preserved : goal.loop-name-preserved
loop-name-preserved c =
    read_more (λ name. object_of name c.args.bindings.now) c.args.names.now c.loop-name.name-index c.name-item.result c.in-Some.object c.loop-name.objects c.push.new.self (omega arith) c.name-item.is (sym c.in-Some.is ∙ c.named.ensures) c.in_ok-push.ensures.ok c.loop-name.invariant

pub returns : goal.returns
returns c = read_all (λ name. object_of name c.args.bindings.now) c.args.names.now c.loop-name.name-index c.loop-name.objects (omega arith) c.loop-name.invariant
