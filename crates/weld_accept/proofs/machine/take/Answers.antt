use Rattle.std.proofs.Common.{◌≡◌, refl, true, ap, sym, ◌∙◌}
use Rattle.std.proofs.lemmas.Result.{on_ok_weaker}
use Rattle.weld_grammar.specs.declared.item.Item.TheVariants.{One}
use Rattle.weld_grammar.specs.Grammar.{is_of}
use Rattle.weld_grammar.specs.Begins.{begins}
use Rattle.weld_accept.proofs.Made.{opens_one, opens_same}
use Rattle.weld_accept.proofs.machine.take.Goals as goal

pub returns-in-One-clause-opened : goal.returns-in-One-clause-opened
returns-in-One-clause-opened c =
    let x = c.args.class in
    let h : is_of c.in-One.terminal x ≡ true = sym (ap (λ i. begins i x) c.in-One.is) ∙ c.requires in
    on_ok_weaker c.push.result (λ e. opens_same (One c.in-One.terminal) c.args.item x c.args.stack.now c.args.stack.now c.args.steps.now c.args.stack.now c.push.new.self (sym c.in-One.is) refl (opens_one c.in-One.terminal x c.args.stack.now c.args.steps.now c.push.new.self h e)) c.push.ensures
