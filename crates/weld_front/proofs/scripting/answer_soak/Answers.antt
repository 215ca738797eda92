use Rattle.weld_front.proofs.ScriptLemmas.{soak_concluded}
use Rattle.weld_front.proofs.scripting.answer_soak.Goals as goal

pub returns : goal.returns
returns g c =
    let soak = c.in_ok-script.field-0 in
    soak_concluded c.args.asked.options soak.script soak.inputs c.conclude_script.result c.in_ok-script.ensures.made c.in_ok-script.ensures.shown c.in_ok-script.ensures.table c.conclude_script.ensures
