use Rattle.std.proofs.Common.{◌≡◌, ◌∙◌, ◌<◌, sym, ap, ℤ, [], ◌∷◌, ◌++◌, length, rules, w8, FitsSigned}
use Rattle.std.proofs.lemmas.Int.{to_z-of_z}
use Rattle.weld_values.proofs.Strings.{items_more, items_end, items_stuck, number_of}
use Rattle.weld_values.proofs.Shrinks.{item_shorter}
use Rattle.weld_values.proofs.string.read_items.Goals as goal

pub items-smaller : goal.items-smaller
items-smaller c = let less : length c.in-Some-item.after.now < length c.items.rest.now = item_shorter c.items.rest.now c.in-Some-item.byte c.in-Some-item.after.now (sym c.in-Some-item.ensures) in less

pub items-preserved : goal.items-preserved
items-preserved c =
    let z = c.signed.result in
    let fits : FitsSigned w8 z = search rules in
    let pushed : c.push.new.self ≡ c.items.items ++ number_of c.in-Some-item.byte ∷ [] = c.in_ok-push.ensures.ok ∙ ap (λ (x : ℤ). c.items.items ++ x ∷ []) (to_z-of_z w8 z fits ∙ c.signed.ensures) in
    items_more c.args.text.now c.items.rest.now c.items.items c.push.new.self c.in-Some-item.byte c.in-Some-item.after.now c.items.invariant (sym c.in_default.ensures.value) (sym c.in-Some-item.ensures) pushed

pub returns-in-Some-clause-found : goal.returns-in-Some-clause-found
returns-in-Some-clause-found c = items_end c.args.text.now c.items.rest.now c.items.items c.in-Some.end.now c.items.invariant (sym c.in-Some.ensures.value)

pub returns-in_default-item-clause-none : goal.returns-in_default-item-clause-none
returns-in_default-item-clause-none c = items_stuck c.args.text.now c.items.rest.now c.items.items c.items.invariant (sym c.in_default.ensures.value) (sym c.in_default-item.ensures)
