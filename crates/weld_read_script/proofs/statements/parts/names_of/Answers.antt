use Rattle.std.proofs.Common.{rules, arith, sym, ◌∙◌}
use Rattle.weld_read_script.specs.Parts.{name_of}
use Rattle.weld_read_script.proofs.Reading.{behind_nothing, read_more, read_none, read_all}
use Rattle.weld_read_script.proofs.statements.parts.names_of.Goals as goal

pub loop-part-init : goal.loop-part-init
loop-part-init c = search (rules, behind_nothing)

pub returns-in_default : goal.returns-in_default
returns-in_default c =
    read_none name_of c.args.parts.now c.loop-part.part-index c.part-item.result c.loop-part.names (omega arith) c.part-item.is (sym c.in_default.is ∙ c.in_ok-name.ensures) c.loop-part.invariant

pub loop-part-preserved : goal.loop-part-preserved
loop-part-preserved c =
    read_more name_of c.args.parts.now c.loop-part.part-index c.part-item.result c.in-Some.name c.loop-part.names c.push.new.self (omega arith) c.part-item.is (sym c.in-Some.is ∙ c.in_ok-name.ensures) c.in_ok-push.ensures.ok c.loop-part.invariant

pub returns : goal.returns
returns c = read_all name_of c.args.parts.now c.loop-part.part-index c.loop-part.names (omega arith) c.loop-part.invariant
