use Rattle.std.proofs.Common.{◌≡◌, refl, ◌<◌, true, ◌∷◌, ◌++◌, ap, sym, ◌∙◌, arith}
use Rattle.std.proofs.lemmas.Result.{on_ok_weaker}
use Rattle.weld_grammar.specs.declared.item.Item.TheVariants.{One, Part as OfRule, Optional, Repeated}
use Rattle.weld_grammar.specs.Grammar.{all_of, body, is_of}
use Rattle.weld_grammar.specs.Begins.{begins, starts}
use Rattle.weld_grammar.specs.Pending.{first_begun}
use Rattle.weld_grammar.specs.Apart.{any_begins}
use Rattle.weld_accept.specs.declared.entry.Entry.TheVariants.{Due, End}
use Rattle.weld_accept.specs.Machine.{due}
use Rattle.weld_accept.proofs.Ranks.{rank, rank_of, choice_below, row_below}
use Rattle.weld_accept.proofs.Begun.{chosen_begun, choice_begun, row_begun}
use Rattle.weld_accept.proofs.Made.{opens_one, opens_optional, opens_repeated, opens_choice, opens_row, opens_same}
use Rattle.weld_accept.proofs.machine.+open.Goals as goal

pub open-requires-in-OneOf : goal.open-requires-in-OneOf
open-requires-in-OneOf t c =
    let a : rank (first_begun c.in-OneOf.choices.now c.args.class) < rank_of c.in-Part.rule = choice_below c.in-Part.rule c.in-OneOf.choices.now c.args.class c.in-OneOf.ensures in
    let e : rank c.first_begun-chosen.result ≡ rank (first_begun c.in-OneOf.choices.now c.args.class) = ap rank c.first_begun-chosen.ensures in
    let k : rank c.args.item ≡ rank_of c.in-Part.rule = ap rank c.in-Part.is in
    let h : starts c.in-Part.rule c.args.class ≡ true = sym (ap (λ i. begins i c.args.class) c.in-Part.is) ∙ c.requires in
    (omega arith, ap (λ i. begins i c.args.class) c.first_begun-chosen.ensures ∙ chosen_begun c.in-OneOf.choices.now c.args.class (choice_begun c.in-Part.rule c.in-OneOf.choices.now c.args.class c.in-OneOf.ensures h))

pub open-requires-in-Some : goal.open-requires-in-Some
open-requires-in-Some t c =
    let row : all_of (c.in-Some.first.now ∷ c.in-Some.rest.now) ≡ body c.in-Part.rule = ap all_of (sym c.in-Some.ensures.cases.0) ∙ c.in-All.ensures in
    let a : rank c.in-Some.first.now < rank_of c.in-Part.rule = row_below c.in-Part.rule c.in-Some.first.now c.in-Some.rest.now row in
    let k : rank c.args.item ≡ rank_of c.in-Part.rule = ap rank c.in-Part.is in
    let h : starts c.in-Part.rule c.args.class ≡ true = sym (ap (λ i. begins i c.args.class) c.in-Part.is) ∙ c.requires in
    (omega arith, row_begun c.in-Part.rule c.in-Some.first.now c.in-Some.rest.now c.args.class row h)

pub returns-in-One-clause-opened : goal.returns-in-One-clause-opened
returns-in-One-clause-opened t c =
    let x = c.args.class in
    let h : is_of c.in-One.terminal x ≡ true = sym (ap (λ i. begins i x) c.in-One.is) ∙ c.requires in
    on_ok_weaker c.push.result (λ e. opens_same (One c.in-One.terminal) c.args.item x c.args.stack.now c.args.stack.now c.args.steps.now c.args.stack.now c.push.new.self (sym c.in-One.is) refl (opens_one c.in-One.terminal x c.args.stack.now c.args.steps.now c.push.new.self h e)) c.push.ensures

pub returns-in-Optional-clause-opened : goal.returns-in-Optional-clause-opened
returns-in-Optional-clause-opened t c =
    let q = c.in-Optional.rule in
    on_ok_weaker c.open.result (λ o. opens_same (Optional q) c.args.item c.args.class c.args.stack.now c.args.stack.now c.args.steps.now c.open.new.stack c.open.new.steps (sym c.in-Optional.is) refl (opens_optional q c.args.class c.args.stack.now c.args.steps.now c.open.new.stack c.open.new.steps o)) c.open.ensures.opened

pub returns-in_ok-push-in-Repeated-clause-opened : goal.returns-in_ok-push-in-Repeated-clause-opened
returns-in_ok-push-in-Repeated-clause-opened t c =
    let q = c.in-Repeated.rule in
    let e : c.push-in-Repeated.new.self ≡ Due (Repeated q) ∷ c.args.stack.now = c.in_ok-push-in-Repeated.ensures in
    on_ok_weaker c.open-in-Repeated.result (λ o. opens_same (Repeated q) c.args.item c.args.class c.args.stack.now c.args.stack.now c.args.steps.now c.open-in-Repeated.new.stack c.open-in-Repeated.new.steps (sym c.in-Repeated.is) refl (opens_repeated q c.args.class c.args.stack.now c.args.steps.now c.open-in-Repeated.new.stack c.open-in-Repeated.new.steps (opens_same (OfRule q) (OfRule q) c.args.class c.push-in-Repeated.new.self (Due (Repeated q) ∷ c.args.stack.now) c.args.steps.now c.open-in-Repeated.new.stack c.open-in-Repeated.new.steps refl e o))) c.open-in-Repeated.ensures.opened

pub returns-in-OneOf-clause-opened : goal.returns-in-OneOf-clause-opened
returns-in-OneOf-clause-opened t c =
    let q = c.in-Part.rule in
    let x = c.args.class in
    let choices = c.in-OneOf.choices.now in
    let new = c.open-in-OneOf.new in
    let h : starts q x ≡ true = sym (ap (λ i. begins i x) c.in-Part.is) ∙ c.requires in
    let b : any_begins choices x ≡ true = choice_begun q choices x c.in-OneOf.ensures h in
    on_ok_weaker c.open-in-OneOf.result (λ o. opens_same (OfRule q) c.args.item x c.args.stack.now c.args.stack.now c.args.steps.now new.stack new.steps (sym c.in-Part.is) refl (opens_choice q choices x c.args.stack.now c.args.steps.now new.stack new.steps c.in-OneOf.ensures b (opens_same c.first_begun-chosen.result (first_begun choices x) x c.push-in-Part.new.self (End q ∷ c.args.stack.now) c.args.steps.now new.stack new.steps c.first_begun-chosen.ensures c.in_ok-push-in-Part.ensures o))) c.open-in-OneOf.ensures.opened

pub returns-in_ok-push_all-in-Some-clause-opened : goal.returns-in_ok-push_all-in-Some-clause-opened
returns-in_ok-push_all-in-Some-clause-opened t c =
    let q = c.in-Part.rule in
    let x = c.args.class in
    let i = c.in-Some.first.now in
    let items = c.in-Some.rest.now in
    let new = c.open-in-Some.new in
    let row : all_of (i ∷ items) ≡ body q = ap all_of (sym c.in-Some.ensures.cases.0) ∙ c.in-All.ensures in
    let e : c.push_all.new.self ≡ due items ++ End q ∷ c.args.stack.now = c.in_ok-push_all-in-Some.ensures ∙ ap (λ z. due items ++ z) c.in_ok-push-in-Part.ensures in
    on_ok_weaker c.open-in-Some.result (λ o. opens_same (OfRule q) c.args.item x c.args.stack.now c.args.stack.now c.args.steps.now new.stack new.steps (sym c.in-Part.is) refl (opens_row q i items x c.args.stack.now c.args.steps.now new.stack new.steps row (opens_same i i x c.push_all.new.self (due items ++ End q ∷ c.args.stack.now) c.args.steps.now new.stack new.steps refl e o))) c.open-in-Some.ensures.opened
