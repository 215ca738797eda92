use Rattle.std.proofs.Common.{◌≡◌, refl, Some, ◌++◌, reverse, ap, sym, ◌∙◌}
use Rattle.std.proofs.lemmas.Result.{on_ok_weaker}
use Rattle.weld_grammar.specs.declared.item.Item.TheVariants.{Part as OfRule}
use Rattle.weld_grammar.specs.Grammar.{item}
use Rattle.weld_grammar.specs.Pending.{behind, depth}
use Rattle.weld_accept.specs.Machine.{items_of}
use Rattle.weld_accept.specs.Operand.{primary}
use Rattle.weld_accept.proofs.AtOnce.{opens_operand, pending_operand}
use Rattle.weld_accept.proofs.Made.{opens_same}
use Rattle.weld_accept.proofs.Operators.{opens_at, pending_at}
use Rattle.weld_accept.proofs.machine.begin.Goals.{in-Part+in-Some+in_default-primary, in-Part+in_default-operand, in_default}
use Rattle.weld_accept.proofs.machine.begin.Goals as goal

pub returns-in-Some-primary-clause-pending : goal.returns-in-Some-primary-clause-pending
returns-in-Some-primary-clause-pending c =
    let q = c.in-Part.rule in
    let x = c.args.class in
    let s = c.args.stack.now in
    let part = c.in-Some-primary.part in
    let es = reverse c.in-Some.entries.now in
    let h : primary x ≡ Some part = search c.in-Some-primary.ensures in
    on_ok_weaker c.take.result (λ e. e ∙ ap (λ z. behind depth (item part) x (items_of z)) c.in_ok-extend.ensures ∙ pending_operand q x part s es h c.in-Some.ensures ∙ ap (λ i. behind depth (item i) x (items_of s)) (sym c.in-Part.is)) c.take.ensures.pending

pub returns-in-Some-primary-clause-opened : goal.returns-in-Some-primary-clause-opened
returns-in-Some-primary-clause-opened c =
    let q = c.in-Part.rule in
    let x = c.args.class in
    let s = c.args.stack.now in
    let part = c.in-Some-primary.part in
    let es = reverse c.in-Some.entries.now in
    let new = c.take.new in
    let h : primary x ≡ Some part = search c.in-Some-primary.ensures in
    on_ok_weaker c.take.result (λ o. opens_same (OfRule q) c.args.item x s s c.args.steps.now new.stack new.steps (sym c.in-Part.is) refl (opens_operand q x part s es c.args.steps.now new.stack new.steps h c.in-Some.ensures (opens_same part part x c.extend.new.self (es ++ s) c.args.steps.now new.stack new.steps refl c.in_ok-extend.ensures o))) c.take.ensures.opened

pub returns-in-Some-operator-clause-pending : goal.returns-in-Some-operator-clause-pending
returns-in-Some-operator-clause-pending c =
    let same : c.match-item.item ≡ c.args.item = elim c.match-item.branch [ in-Part+in-Some+in_default-primary w ↦ w.item-is ∙ sym w.in-Part.is | in-Part+in_default-operand w ↦ w.item-is ∙ sym w.in-Part.is | in_default w ↦ w.item-is ] in
    on_ok_weaker c.push.result (λ e. pending_at c.args.item c.args.class c.in-Repeated-Symbol.rule c.in-Repeated-Symbol.symbol c.args.stack.now (reverse c.in-Some-operator.entries.now) c.extend-in-Some-operator.new.self (sym same ∙ c.in-Repeated-Symbol.is-0) c.in-Repeated-Symbol.is-1 c.in_ok-extend-2.ensures c.requires c.in-Some-operator.ensures) c.push.ensures

pub returns-in-Some-operator-clause-opened : goal.returns-in-Some-operator-clause-opened
returns-in-Some-operator-clause-opened c =
    let same : c.match-item.item ≡ c.args.item = elim c.match-item.branch [ in-Part+in-Some+in_default-primary w ↦ w.item-is ∙ sym w.in-Part.is | in-Part+in_default-operand w ↦ w.item-is ∙ sym w.in-Part.is | in_default w ↦ w.item-is ] in
    on_ok_weaker c.push.result (λ e. opens_at c.args.item c.args.class c.in-Repeated-Symbol.rule c.in-Repeated-Symbol.symbol c.args.stack.now (reverse c.in-Some-operator.entries.now) c.args.steps.now c.extend-in-Some-operator.new.self c.push.new.self (sym same ∙ c.in-Repeated-Symbol.is-0) c.in-Repeated-Symbol.is-1 c.in_ok-extend-2.ensures c.requires c.in-Some-operator.ensures e) c.push.ensures
